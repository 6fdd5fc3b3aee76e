-- The numbers from a on: tests over them, and tables with a word for each.
use Prim.Native.Nat.{◌+◌, ◌-◌, ◌<◌, ◌≤◌, suc, zero, ℕ}
use mathlib.Core.Path.{◌∙◌, ◌≡◌, ap, refl, subst, sym}
use mathlib.Core.Logic.{◌≢◌}
use mathlib.Core.Bool.{Bool, true}
use mathlib.Core.List.{List, [], ◌∷◌, map}
use native.Mathlib.Decide.{ℕ_discrete}
use native.Mathlib.Nat.{zero-add}
use native.Mathlib.Omega.{arith}
use lib.ListN.{length, length-set, set}
use lib.Seq.{ext_get_or, get_or-set_other, get_or-set_same}
use Rattle.rules.specs.Lists.{at, every, one, rising, tally}
use Rattle.laws.proofs.ChoiceLaws.{both_true}
use Rattle.laws.proofs.TallyLaws.{one_other, one_same}

-- of the numbers from a on, `count` of them
pub every_rising : (p : ℕ → Bool) (count a : ℕ) → every p (rising count a) ≡ true → (v : ℕ) → a ≤ v → v < a + count → p v ≡ true
unfolding every rising
every_rising p zero a e v h k = absurd (omega arith)
every_rising p (suc count) a e v h k =
    let g = both_true (p a) (every p (rising count (a + 1))) e in
    elim (ℕ_discrete a v) [ yes q ↦ subst (λ w. p w ≡ true) q g.0 | no q ↦ every_rising p count (a + 1) g.1 v (omega arith) (omega arith) ]

-- and the other way
pub rising_every : (p : ℕ → Bool) (count a : ℕ) → ((v : ℕ) → a ≤ v → v < a + count → p v ≡ true) → every p (rising count a) ≡ true
unfolding every rising
rising_every p zero a h = refl
rising_every p (suc count) a h = rw (h a (omega arith) (omega arith), every) (rising_every p count (a + 1) (λ v l k. h v (omega arith) (omega arith)))

-- there are so many
pub rising_length : (count a : ℕ) → length (rising count a) ≡ count
unfolding rising
rising_length zero a = refl
rising_length (suc count) a = ap suc (rising_length count (a + 1))

-- and rises by one
pub rising_at : (count a i : ℕ) → i < count → at (rising count a) i ≡ a + i
unfolding rising
rising_at zero a i h = absurd (omega arith)
rising_at (suc count) a zero h = omega arith
rising_at (suc count) a (suc i) h = omega (arith, rising_at count (a + 1) i (omega arith))

-- ---- the table of f for 0 to n - 1
pub table_length : (f : ℕ → ℕ) (n : ℕ) → length (map f (rising n 0)) ≡ n
table_length f n = map_length (rising n 0) ∙ rising_length n 0
  where
    map_length : (l : List ℕ) → length (map f l) ≡ length l
    map_length [] = refl
    map_length (x ∷ l) = ap suc (map_length l)

pub table_at : (f : ℕ → ℕ) (n v : ℕ) → v < n → at (map f (rising n 0)) v ≡ f v
table_at f n v h = map_at (rising n 0) v (omega (arith, rising_length n 0)) ∙ ap f (rising_at n 0 v h ∙ zero-add v)
  where
    map_at : (l : List ℕ) (i : ℕ) → i < length l → at (map f l) i ≡ f (at l i)
    map_at [] i h = absurd (omega arith)
    map_at (x ∷ l) zero h = refl
    map_at (x ∷ l) (suc i) h = map_at l i (omega arith)

-- two tables differ at one place alone
pub table_set : (f g : ℕ → ℕ) (n v : ℕ) → v < n → ((u : ℕ) → u ≢ v → g u ≡ f u) → map g (rising n 0) ≡ set (map f (rising n 0)) v (g v)
table_set f g n v hv other =
    let F = map f (rising n 0) in
    ext_get_or 0 (map g (rising n 0)) (set F v (g v)) (table_length g n ∙ sym (length-set F v (g v) ∙ table_length f n)) (λ u h.
    let hu : u < n = omega (arith, table_length g n) in
    elim (ℕ_discrete u v) [
      | yes e ↦ rw (e, table_at g n v hv) (sym (get_or-set_same F v (g v) 0 (omega (arith, table_length f n))))
      | no ne ↦ table_at g n u hu ∙ other u ne ∙ sym (get_or-set_other F v u (g v) 0 ne ∙ table_at f n u hu)
    ])

-- ---- each is there once, and no other
pub rising_none : (count a v : ℕ) → v < a → tally (rising count a) v ≡ 0
unfolding rising tally
rising_none zero a v h = refl
rising_none (suc count) a v h = let ne : a ≢ v = omega arith in omega (arith, one_other ne, rising_none count (a + 1) v (omega arith))

pub rising_one : (count a v : ℕ) → a ≤ v → v < a + count → tally (rising count a) v ≡ 1
unfolding rising tally
rising_one zero a v h k = absurd (omega arith)
rising_one (suc count) a v h k = elim (ℕ_discrete a v) [
  | yes e ↦ omega (arith, one_same e, rising_none count (a + 1) v (omega arith))
  | no ne ↦ omega (arith, one_other ne, rising_one count (a + 1) v (omega arith) (omega arith))
]

pub rising_once : (count a v : ℕ) → tally (rising count a) v ≤ 1
unfolding rising tally
rising_once zero a v = omega arith
rising_once (suc count) a v = elim (ℕ_discrete a v) [
  | yes e ↦ omega (arith, one_same e, rising_none count (a + 1) v (omega arith))
  | no ne ↦ omega (arith, one_other ne, rising_once count (a + 1) v)
]

pub rising_beyond : (count a v : ℕ) → a + count ≤ v → tally (rising count a) v ≡ 0
unfolding rising tally
rising_beyond zero a v h = refl
rising_beyond (suc count) a v h = let ne : a ≢ v = omega arith in omega (arith, one_other ne, rising_beyond count (a + 1) v (omega arith))

-- 0, and the numbers from 1 to n - 1
pub zero_rising : (n v : ℕ) → 1 ≤ n → v < n → one 0 v + tally (rising (n - 1) 1) v ≡ 1
zero_rising n v h hv = elim (ℕ_discrete 0 v) [
  | yes e ↦ omega (arith, one_same e, rising_none (n - 1) 1 v (omega arith))
  | no ne ↦ omega (arith, one_other ne, rising_one (n - 1) 1 v (omega arith) (omega arith))
]
