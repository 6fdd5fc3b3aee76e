-- The solver's answer: its round is the exact one, the table holds the rule's words; and the promise allows one answer.
use Prim.Native.Nat.{ℕ, ◌+◌, ◌-◌, ◌*◌, ◌^◌, ◌≤◌, ◌<◌}
use mathlib.Core.Path.{◌≡◌, refl, sym, ap, subst, ◌∙◌}
use mathlib.Core.List.{List, [], ◌∷◌}
use native.Mathlib.Decide.{ℕ_discrete}
use native.Mathlib.Omega.{arith}
use lib.Arith.{digits_lt}
use lib.ListN.{length, set, drop, get_or-append}
use Rattle.rules.specs.Words.{Stop, Time, Round}
use Rattle.rules.specs.Lists.{at}
use Rattle.rules.specs.Ring.{lap, recount}
use Rattle.rules.specs.Plan.{leg_in}
use Rattle.rules.specs.Exact.{Exact, exact_round}
use Rattle.rules.specs.Table.{table_of}
use Rattle.rules.specs.Calls.{table_left}
use Rattle.laws.proofs.RisingLaws.{rising_length}
use Rattle.laws.proofs.InLaws.{up_rising}
use Rattle.laws.proofs.OrderLaws.{order_length, later}
use Rattle.laws.proofs.ExactLaws.{First, first_exact, recount_walk, exact_unique, plain_exact}
use Rattle.laws.proofs.OnwardLaws.{way_on, way_first}
use Rattle.laws.proofs.TableLaws.{table_length, table_at, table_is}
use Rattle.exact.specs.Inner.{Words, Walked}
use Rattle.exact.specs.Promise.{Done, Solve}

-- the table that is left has every word
pub words_left : {matrix : List Time} {n : ℕ} (table₀ : List Time) {table : List Time} → 2 ≤ n → table ≡ table_left n matrix table₀ → Words matrix n table (2 ^ (n - 1))
unfolding table_left
words_left {matrix} {n} table₀ two e =
    record {
      word = λ p k l low high.
          let c : k - 1 < n - 1 = omega arith in
          let i : p * (n - 1) + (k - 1) < length (table_of (leg_in n matrix) (n - 1)) = omega (arith, table_length (leg_in n matrix) (n - 1), digits_lt l c) in
          ap (λ (t : List Time). at t (p * (n - 1) + (k - 1))) e
          ∙ get_or-append (table_of (leg_in n matrix) (n - 1)) (drop (length (table_of (leg_in n matrix) (n - 1))) table₀) 0 (p * (n - 1) + (k - 1)) i
          ∙ table_at (leg_in n matrix) (n - 1) p k l low (omega arith);
    }

module _ (matrix : List Time) (n : ℕ) (low : 1 ≤ n) (high : n ≤ 25) (small : (i : ℕ) → at matrix i ≤ 65535) where
  legs_small : (a b : Stop) → leg_in n matrix a b ≤ 65535
  unfolding leg_in
  legs_small a b = small (a * n + b)

  way : List Stop
  way = way_on (leg_in n matrix) (n - 1) 0 (later n)

  way_is_first : First (leg_in n matrix) 0 (later n) way
  unfolding way
  way_is_first = way_first (leg_in n matrix) legs_small (n - 1) 0 1 (later n) (up_rising (n - 1) 1) (rising_length (n - 1) 1) (omega arith)

  way_length : length way ≡ n - 1
  way_length = order_length 1 (up_rising (n - 1) 1) way_is_first.order ∙ rising_length (n - 1) 1

  pub walked_done : 2 ≤ n → {table₀ table : List Time} {round : Round} {time : Time} → Walked matrix n round time → table ≡ table_left n matrix table₀
      → Done matrix n table₀ table round time
  unfolding way
  walked_done two w t =
      record {
        exact = subst (Exact (leg_in n matrix) n) (sym w.goes) (first_exact (leg_in n matrix) n way low way_is_first);
        takes = w.takes ∙ sym (ap (recount (leg_in n matrix)) w.goes ∙ recount_walk (leg_in n matrix) way (omega (arith, way_length)));
        words = t;
      }

  -- one stop
  pub alone_done : n ≡ 1 → (table : List Time) (round : Round) → length round ≡ n → Done matrix n table table (set round 0 0) 0
  unfolding way way_on table_left recount lap
  alone_done e table round l =
      let one = only round (omega arith) in
      let none : way ≡ [] = empty way (omega (arith, way_length)) in
      record {
        exact = subst (Exact (leg_in n matrix) n) (sym (one ∙ ap (λ (r : List Stop). 0 ∷ r) (sym none))) (first_exact (leg_in n matrix) n way low way_is_first);
        takes = sym (ap (recount (leg_in n matrix)) one);
        words = table_is (leg_in n matrix) (n - 1) table table refl (omega (arith, nothing)) (λ s k h a b. absurd (omega arith)) (λ i h. refl);
      }
    where
      only : (r : Round) → length r ≡ 1 → set r 0 0 ≡ 0 ∷ []
      only [] q = absurd (omega arith)
      only (x ∷ []) q = refl
      only (x ∷ y ∷ r) q = absurd (omega arith)

      empty : (r : List Stop) → length r ≡ 0 → r ≡ []
      empty [] q = refl
      empty (x ∷ r) q = absurd (omega arith)

      nothing : 2 ^ (n - 1) * (n - 1) ≡ 0
      nothing = let z : n - 1 ≡ 0 = omega arith in ap (λ x. 2 ^ x * x) z

-- ---- what the promise allows is one answer
module _ {matrix : List Time} {n : ℕ} {table : List Time} {round : Round} where
  -- number, time, round and table of two answers to the same are equal
  pub coincide : {t₁ t₂ : List Time} {r₁ r₂ : Round} {k₁ k₂ : ℕ} {v₁ v₂ : Time}
      → Solve matrix n table t₁ round r₁ k₁ v₁ → Solve matrix n table t₂ round r₂ k₂ v₂ → (k₁ ≡ k₂) × (v₁ ≡ v₂) × (r₁ ≡ r₂) × (t₁ ≡ t₂)
  coincide {t₁} {t₂} {r₁} {r₂} {k₁} {k₂} {v₁} {v₂} x y = let z = rest (ℕ_discrete k₁ 0) in (same, z.0, z.1, z.2)
    where
      same : k₁ ≡ k₂
      same = x.says ∙ sym y.says

      rest : Dec (k₁ ≡ 0) → (v₁ ≡ v₂) × (r₁ ≡ r₂) × (t₁ ≡ t₂)
      rest (yes z) =
          let a = x.done z in
          let b = y.done (sym same ∙ z) in
          let r = exact_unique a.exact b.exact in
          (a.takes ∙ ap (recount (leg_in n matrix)) r ∙ sym b.takes, r, a.words ∙ sym b.words)
      rest (no z) =
          let a = x.refused z in
          let b = y.refused (λ q. z (same ∙ q)) in
          (a.no_time ∙ sym b.no_time, a.round_same ∙ sym b.round_same, a.table_same ∙ sym b.table_same)

  -- the round is the plain walk's
  pub solved_plain : {t : List Time} {r : Round} {v : Time} → 1 ≤ n → Solve matrix n table t round r 0 v → r ≡ exact_round (leg_in n matrix) n
  solved_plain h x = exact_unique (x.done refl).exact (plain_exact (leg_in n matrix) n h)
