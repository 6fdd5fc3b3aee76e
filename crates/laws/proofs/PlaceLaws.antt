-- Places and stops of a round: the place before and after, and where a stop stands.
use Prim.Native.Nat.{◌+◌, ◌-◌, ◌<◌, ◌≤◌, suc, zero, ℕ}
use mathlib.Core.Path.{◌∙◌, ◌≡◌, ap, refl}
use mathlib.Core.Logic.{◌≢◌}
use mathlib.Core.List.{[], ◌∷◌}
use native.Mathlib.Decide.{ℕ_discrete}
use native.Mathlib.Nat.{le_of_suc-le-suc, not-suc-le-zero}
use native.Mathlib.Omega.{arith}
use lib.Dec.{eqb}
use lib.ListN.{length}
use borrow.Author.Tests.{eq-eqb, eqb-false, eqb-true, ne_eqb}
use Rattle.rules.specs.Lists.{at, one, tally}
use Rattle.rules.specs.Ring.{next, place, prev}
use Rattle.rules.specs.Words.{Place, Round, Stop}
use Rattle.laws.proofs.ChoiceLaws.{either_if}
use Rattle.laws.proofs.TallyLaws.{one_other, one_same}
use Rattle.laws.proofs.TurnLaws.{On, high, low}

-- ---- next and prev by cases
pub next_last : (n : ℕ) (i : Place) → i + 1 ≡ n → next n i ≡ 0
unfolding next
next_last n i e = rw (eq-eqb (i + 1) n e)

pub next_inner : (n : ℕ) (i : Place) → i + 1 ≢ n → next n i ≡ i + 1
unfolding next
next_inner n i e = rw (ne_eqb (i + 1) n e)

pub prev_first : (n : ℕ) → prev n 0 ≡ n - 1
unfolding prev
prev_first n = refl

pub prev_inner : (n : ℕ) (i : Place) → i ≢ 0 → prev n i ≡ i - 1
unfolding prev
prev_inner n i e = rw (ne_eqb i 0 e)

-- the same as a view of the place after i, and of the place before
pub data Next (n : ℕ) (i x : Place) : Type 0 where
  to_0 : i + 1 ≡ n → x ≡ 0 → Next n i x
  to_more : i + 1 ≢ n → x ≡ i + 1 → Next n i x

pub next_view : (n : ℕ) (i : Place) → Next n i (next n i)
next_view n i = elim (ℕ_discrete (i + 1) n) [ yes h ↦ to_0 h (next_last n i h) | no h ↦ to_more h (next_inner n i h) ]

pub data Prev (n : ℕ) (i x : Place) : Type 0 where
  to_last : i ≡ 0 → x ≡ n - 1 → Prev n i x
  to_less : i ≢ 0 → x ≡ i - 1 → Prev n i x

pub prev_view : (n : ℕ) (i : Place) → Prev n i (prev n i)
prev_view n i = elim (ℕ_discrete i 0) [ yes h ↦ to_last h (ap (prev n) h ∙ prev_first n) | no h ↦ to_less h (prev_inner n i h) ]

-- both are places of the ring
pub next_below : (n : ℕ) (p : Place) → p < n → next n p < n
next_below n p h = elim (ℕ_discrete (p + 1) n) [ yes q ↦ omega (arith, next_last n p q) | no q ↦ omega (arith, next_inner n p q) ]

pub prev_below : (n : ℕ) (p : Place) → p < n → prev n p < n
prev_below n zero h = omega (arith, prev_first n)
prev_below n (suc p) h = let z : suc p ≢ 0 = omega arith in omega (arith, prev_inner n (suc p) z)

-- one step more, the last step home, and the place before
pub on_next : (n : ℕ) (k : Place) (i : ℕ) (p : Place) → k < n → i + 1 < n → On n k i p → On n k (i + 1) (next n p)
on_next n k i p hk hj (low l e) = elim (ℕ_discrete (p + 1) n) [ yes q ↦ high (omega arith) (omega (arith, next_last n p q)) | no q ↦ low (omega arith) (omega (arith, next_inner n p q)) ]
on_next n k i p hk hj (high l e) = let q : p + 1 ≢ n = omega arith in high (omega arith) (omega (arith, next_inner n p q))

pub on_round : (n : ℕ) (k p : Place) → k < n → On n k (n - 1) p → next n p ≡ k
on_round n k p hk (low l e) = let q : p + 1 ≡ n = omega arith in omega (arith, next_last n p q)
on_round n k p hk (high l e) = let q : p + 1 ≢ n = omega arith in omega (arith, next_inner n p q)

pub on_before : (n : ℕ) (k p : Place) → k < n → On n k (n - 1) p → prev n k ≡ p
on_before n zero p hk (low l e) = omega (arith, prev_first n)
on_before n zero p hk (high l e) = absurd (omega arith)
on_before n (suc k) p hk (low l e) = absurd (omega arith)
on_before n (suc k) p hk (high l e) = let q : suc k ≢ 0 = omega arith in omega (arith, prev_inner n (suc k) q)

-- no step
pub on_zero : (n : ℕ) (k p : Place) → k < n → On n k 0 p → p ≡ k
on_zero n k p hk (low l e) = omega arith
on_zero n k p hk (high l e) = absurd (omega arith)

-- ---- where a stop stands
-- the stop of a place is in the round
pub tally_at : (r : Round) (i : Place) → i < length r → 0 < tally r (at r i)
unfolding tally
tally_at [] i h = absurd (not-suc-le-zero h)
tally_at (x ∷ r) zero h = omega (arith, one_same (refl {a = x}))
tally_at (x ∷ r) (suc i) h = omega (arith, tally_at r i (le_of_suc-le-suc h))

-- a stop of the round has a place, and stands there
pub place_below : (r : Round) (v : Stop) → 0 < tally r v → place r v < length r
unfolding tally place
place_below [] v h = absurd (not-suc-le-zero h)
place_below (x ∷ r) v h =
    either_if (λ (c : ℕ). c < suc (length r)) (eqb x v) (λ y. omega arith)
    (λ y. let z : one x v ≡ 0 = one_other (eqb-false x v y) in let k : place r v < length r = place_below r v (omega arith) in omega arith)

pub at_place : (r : Round) (v : Stop) → 0 < tally r v → at r (place r v) ≡ v
unfolding tally place
at_place [] v h = absurd (not-suc-le-zero h)
at_place (x ∷ r) v h =
    either_if (λ (c : ℕ). at (x ∷ r) c ≡ v) (eqb x v) (λ y. eqb-true x v y)
    (λ y. let z : one x v ≡ 0 = one_other (eqb-false x v y) in at_place r v (omega arith))

-- the place of the stop of a place, where it is in the round once
pub place_at : (r : Round) (i : Place) → i < length r → tally r (at r i) ≤ 1 → place r (at r i) ≡ i
unfolding place tally
place_at [] i h e = absurd (not-suc-le-zero h)
place_at (x ∷ r) zero h e = rw (eq-eqb x x refl, place)
place_at (x ∷ r) (suc i) h e =
    let v = at r i in
    let h' : i < length r = le_of_suc-le-suc h in
    either_if (λ (p : ℕ). p ≡ suc i) (eqb x v)
    (λ y. absurd (omega (arith, one_same (eqb-true x v y), tally_at r i h')))
    (λ y. ap suc (place_at r i h' (omega (arith, one_other (eqb-false x v y)))))
