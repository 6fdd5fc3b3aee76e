-- 6: a stop's entries one by one, and the lists of all stops.
use Prim.Native.Nat.{ℕ, zero, suc, ◌+◌, ◌*◌, ◌<◌, ◌≤◌}
use mathlib.Core.Path.{◌≡◌, refl, sym, ap, ◌∙◌}
use mathlib.Core.Logic.{◌≢◌}
use mathlib.Core.Bool.{Bool, true, false, not, ◌&&◌}
use mathlib.Core.List.{List, [], ◌∷◌}
use native.Mathlib.Omega.{arith}
use borrow.Author.Tests.{lt-ltb, ltb-true, ne_eqb, eqb-false, not-true}
use lib.Dec.{ltb, eqb}
use lib.ListN.{length, length-take, length-drop}
use Rattle.rules.specs.Words.{Stop}
use Rattle.rules.specs.Lists.{at, every}
use Rattle.rules.specs.Plan.{list_in}
use Rattle.rules.specs.Numbers.{good_list}
use Rattle.laws.proofs.CellLaws.{row_within}
use Rattle.laws.proofs.ChoiceLaws.{and-true, true-and, both_true, not_so, true_false}
use Rattle.laws.proofs.EntryLaws.{entry_at}
use Rattle.laws.proofs.RisingLaws.{every_rising, rising_every}
use Rattle.refusals.specs.Refusing.{good_entries}

-- a test over a list, element by element
every_at : (p : ℕ → Bool) (l : List ℕ) → every p l ≡ true → (i : ℕ) → i < length l → p (at l i) ≡ true
unfolding every
every_at p [] e i h = absurd (omega arith)
every_at p (x ∷ l) e zero h = (both_true (p x) (every p l) e).0
every_at p (x ∷ l) e (suc i) h = every_at p l (both_true (p x) (every p l) e).1 i (omega arith)

at_every : (p : ℕ → Bool) (l : List ℕ) → ((i : ℕ) → i < length l → p (at l i) ≡ true) → every p l ≡ true
unfolding every
at_every p [] h = refl
at_every p (x ∷ l) h = rw (h 0 (omega arith), every) (at_every p l (λ i g. h (suc i) (omega arith)))

good : ℕ → Stop → Stop → Bool
good n v e = ltb e n && not (eqb e v)

module _ (entries : List Stop) (count n : ℕ) (v : Stop) (cells : length entries ≡ n * count) (below : v < n) where
  pub list_long : length (list_in count entries v) ≡ count
  unfolding list_in
  list_long = simp (length-take, length-drop) (omega (arith, row_within n count v below))

  entry_told : good_entries n v (list_in count entries v) ≡ true → (i : ℕ) → i < count → (at entries (v * count + i) < n) × (at entries (v * count + i) ≢ v)
  unfolding good_entries
  entry_told e i h =
      let w = at (list_in count entries v) i in
      let g = and-true (ltb w n) (not (eqb w v)) (every_at (λ e. ltb e n && not (eqb e v)) (list_in count entries v) e i (omega (arith, list_long))) in
      rw (entry_at entries count v i h) (ltb-true w n g.0, eqb-false w v (not-true (eqb w v) g.1))

  pub entries_pass : ((i : ℕ) → i < count → (at entries (v * count + i) < n) × (at entries (v * count + i) ≢ v)) → true ≡ good_entries n v (list_in count entries v)
  unfolding good_entries
  entries_pass h =
      sym (at_every (λ e. ltb e n && not (eqb e v)) (list_in count entries v) (λ i g.
      let l : i < count = omega (arith, list_long) in
      let w = at (list_in count entries v) i in
      let k : (w < n) × (w ≢ v) = rw (entry_at entries count v i l) at (h i l) in
      true-and (ltb w n) (not (eqb w v)) (lt-ltb w n k.0) (ap not (ne_eqb w v k.1))))

  pub entry_beyond : (i : ℕ) → i < count → n ≤ at entries (v * count + i) → false ≡ good_entries n v (list_in count entries v)
  entry_beyond i h g = sym (not_so (good_entries n v (list_in count entries v)) (λ e. omega (arith, (entry_told e i h).0)))

  pub entry_own : (i : ℕ) → i < count → at entries (v * count + i) ≡ v → false ≡ good_entries n v (list_in count entries v)
  entry_own i h g = sym (not_so (good_entries n v (list_in count entries v)) (λ e. (entry_told e i h).1 g))

module _ (entries : List Stop) (count n : ℕ) where
  pub lists_pass : ((v : Stop) → v < n → good_entries n v (list_in count entries v) ≡ true) → true ≡ good_list n (list_in count entries)
  unfolding good_list good_entries
  lists_pass h = sym (rising_every (λ v. good_entries n v (list_in count entries v)) n 0 (λ v l m. h v (omega arith)))

  pub list_fails : (v : Stop) → v < n → good_entries n v (list_in count entries v) ≡ false → false ≡ good_list n (list_in count entries)
  unfolding good_list good_entries
  list_fails v h e = sym (not_so (good_list n (list_in count entries)) (λ g. true_false (sym (every_rising (λ v. good_entries n v (list_in count entries v)) n 0 g v (omega arith) (omega arith)) ∙ e)))
