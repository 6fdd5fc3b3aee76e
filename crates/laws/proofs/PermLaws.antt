-- A round of n stops, each once: the check of number 7 as facts, and back.
use Prim.Native.Nat.{◌+◌, ◌<◌, ◌≤◌, suc, zero, ℕ}
use mathlib.Core.Path.{◌≡◌, ap, refl, subst}
use mathlib.Core.Logic.{◌≢◌}
use mathlib.Core.Bool.{Bool, true}
use mathlib.Core.List.{List, [], ◌∷◌}
use native.Mathlib.Decide.{dec_lt, ℕ_discrete}
use native.Mathlib.Nat.{not-suc-le-zero}
use native.Mathlib.Omega.{arith}
use lib.Dec.{eqb, ltb}
use lib.ListN.{length}
use borrow.Author.Tests.{eq-eqb, eqb-true, lt-ltb, ltb-false, ltb-true}
use Rattle.rules.specs.Lists.{at, every, when◌then◌else◌, one, rising, tally}
use Rattle.rules.specs.Ring.{ahead, behind, is_round, next, place, pred, prev, succ}
use Rattle.rules.specs.Words.{Place, Round, Stop}
use Rattle.laws.proofs.ChoiceLaws.{and-true, either_if, either_way}
use Rattle.laws.proofs.EveryLaws.{Below, more, none}
use Rattle.laws.proofs.PlaceLaws.{next_below, place_at, place_below, prev_below, tally_at}
use Rattle.laws.proofs.RisingLaws.{every_rising, rising_every}
use Rattle.laws.proofs.TallyLaws.{one_other, one_same}

-- no stop twice, every stop below n, none beyond
pub record Perm (r : Round) : Type 0 where
  pub once : (v : Stop) → tally r v ≤ 1
  pub has : (v : Stop) → v < length r → 0 < tally r v
  pub only : (v : Stop) → 0 < tally r v → v < length r

-- what keeps length and tally keeps it
pub perm_kept : (r after : Round) → Perm r → ((v : Stop) → tally after v ≡ tally r v) → length after ≡ length r → Perm after
perm_kept r after p s z = record {
  once = λ v. omega (arith, p.once v, s v);
  has = λ v h. omega (arith, p.has v (omega arith), s v);
  only = λ v h. omega (arith, p.only v (omega (arith, s v)));
}

-- a list whose stops are all below n
pub tally_below : (n : ℕ) (x : List Stop) → ((v : Stop) → 0 < tally x v → v < n) → Below n x
unfolding tally
tally_below n [] h = none
tally_below n (a ∷ x) h = more (h a (tally_at (a ∷ x) 0 (omega arith))) (tally_below n x (λ v q. h v (omega arith)))

below_tally : (n : ℕ) (x : List Stop) → Below n x → (v : Stop) → 0 < tally x v → v < n
unfolding tally
below_tally n [] none v h = absurd (not-suc-le-zero h)
below_tally n (a ∷ x) (more k b) v h = elim (ℕ_discrete a v) [ yes e ↦ subst (λ w. w < n) e k | no ne ↦ below_tally n x b v (omega (arith, one_other ne)) ]

pub perm_below : (r : Round) → Perm r → Below (length r) r
perm_below r p = tally_below (length r) r p.only

-- the place of the stop of a place
pub perm_place : (r : Round) → Perm r → (i : Place) → i < length r → place r (at r i) ≡ i
perm_place r p i h = place_at r i h (p.once (at r i))

-- the stop of a place is below n
pub perm_at : (r : Round) → Perm r → (i : Place) → i < length r → at r i < length r
perm_at r p i h = p.only (at r i) (tally_at r i h)

-- the stops beside a stop
pub succ_below : (r : Round) → Perm r → (v : Stop) → v < length r → succ r v < length r
unfolding succ
succ_below r p v h = perm_at r p (next (length r) (place r v)) (next_below (length r) (place r v) (place_below r v (p.has v h)))

pub pred_below : (r : Round) → Perm r → (v : Stop) → v < length r → pred r v < length r
unfolding pred
pred_below r p v h = perm_at r p (prev (length r) (place r v)) (prev_below (length r) (place r v) (place_below r v (p.has v h)))

-- in a direction
pub ahead_below : (r : Round) → Perm r → (o : Bool) (v : Stop) → v < length r → ahead o r v < length r
unfolding ahead
ahead_below r p o v h = either_way (λ w. w < length r) o (succ_below r p v h) (pred_below r p v h)

pub behind_below : (r : Round) → Perm r → (o : Bool) (v : Stop) → v < length r → behind o r v < length r
unfolding behind
behind_below r p o v h = either_way (λ w. w < length r) o (pred_below r p v h) (succ_below r p v h)

-- ---- n stops, each below n once: none beyond
unfoldable total : ℕ → (ℕ → ℕ) → ℕ
total zero f = 0
total (suc n) f = f n + total n f

unfoldable over : ℕ → List Stop → ℕ
over n [] = 0
over n (x ∷ r) = (when ltb x n then 0 else 1) + over n r

total_ones : (n : ℕ) (f : ℕ → ℕ) → ((v : ℕ) → v < n → f v ≡ 1) → total n f ≡ n
unfolding total
total_ones zero f h = refl
total_ones (suc n) f h = omega (arith, h n (omega arith), total_ones n f (λ v k. h v (omega arith)))

total_none : (n x : ℕ) → n ≤ x → total n (one x) ≡ 0
unfolding total
total_none zero x h = refl
total_none (suc n) x h = let ne : x ≢ n = omega arith in omega (arith, one_other ne, total_none n x (omega arith))

total_one : (n x : ℕ) → x < n → total n (one x) ≡ 1
unfolding total
total_one zero x h = absurd (not-suc-le-zero h)
total_one (suc n) x h = elim (ℕ_discrete x n) [
  | yes e ↦ omega (arith, one_same e, total_none n x (omega arith))
  | no ne ↦ omega (arith, one_other ne, total_one n x (omega arith))
]

total_add : (n : ℕ) (f g h : ℕ → ℕ) → ((v : ℕ) → h v ≡ f v + g v) → total n h ≡ total n f + total n g
unfolding total
total_add zero f g h e = refl
total_add (suc n) f g h e = omega (arith, e n, total_add n f g h e)

total_zero : (n : ℕ) (f : ℕ → ℕ) → ((v : ℕ) → f v ≡ 0) → total n f ≡ 0
unfolding total
total_zero zero f h = refl
total_zero (suc n) f h = omega (arith, h n, total_zero n f h)

counted : (n : ℕ) (r : List Stop) → total n (tally r) + over n r ≡ length r
unfolding tally over
counted n [] = omega (arith, total_zero n (tally []) (λ v. refl))
counted n (x ∷ r) =
    let a = total_add n (one x) (tally r) (tally (x ∷ r)) (λ v. refl) in
    let c = counted n r in
    either_if (λ (k : ℕ). total n (tally (x ∷ r)) + (k + over n r) ≡ suc (length r)) (ltb x n)
    (λ y. omega (arith, total_one n x (ltb-true x n y)))
    (λ y. omega (arith, total_none n x (ltb-false x n y)))

over_below : (n : ℕ) (r : List Stop) → over n r ≡ 0 → Below n r
unfolding over
over_below n [] e = none
over_below n (x ∷ r) e =
    either_if (λ (k : ℕ). k + over n r ≡ 0 → Below n (x ∷ r)) (ltb x n)
    (λ y q. more (ltb-true x n y) (over_below n r (omega arith)))
    (λ y q. absurd (omega arith))
    e

total_few : (n : ℕ) (f : ℕ → ℕ) → ((v : ℕ) → f v ≤ 1) → total n f ≤ n
unfolding total
total_few zero f h = omega arith
total_few (suc n) f h = omega (arith, h n, total_few n f h)

below_over : (n : ℕ) (l : List Stop) → Below n l → over n l ≡ 0
unfolding over
below_over n [] none = refl
below_over n (x ∷ l) (more h b) = rw (lt-ltb x n h) (omega (arith, below_over n l b))

-- stops below n, none twice, are at most n
pub once_few : (n : ℕ) (l : List Stop) → Below n l → ((v : Stop) → tally l v ≤ 1) → length l ≤ n
once_few n l b u = omega (arith, counted n l, total_few n (tally l) u, below_over n l b)

-- n of them are all
pub once_each : (n : ℕ) (l : List Stop) → length l ≡ n → Below n l → ((v : Stop) → tally l v ≤ 1) → (v : Stop) → v < n → tally l v ≡ 1
unfolding tally
once_each n l e b u v h = elim (ℕ_discrete (tally l v) 0) [
  | yes z ↦ absurd (omega (arith, once_few n (v ∷ l) (more h b) (single z)))
  | no z ↦ omega (arith, u v)
]
  where
    single : tally l v ≡ 0 → (w : Stop) → tally (v ∷ l) w ≤ 1
    single z w = elim (ℕ_discrete v w) [ yes q ↦ omega (arith, one_same q, ap (tally l) q) | no q ↦ omega (arith, one_other q, u w) ]

-- ---- number 7
module _ (n : ℕ) (r : Round) (e : is_round n r ≡ true) where
  -- the check gives the length
  pub round_length : length r ≡ n
  unfolding is_round
  round_length = eqb-true (length r) n (and-true (eqb (length r) n) (every (λ v. eqb (tally r v) 1) (rising n 0)) e).0

  ones : (v : Stop) → v < n → tally r v ≡ 1
  unfolding is_round
  ones v h = eqb-true (tally r v) 1 (every_rising (λ v. eqb (tally r v) 1) n 0 (and-true (eqb (length r) n) (every (λ v. eqb (tally r v) 1) (rising n 0)) e).1 v (omega arith) (omega arith))

  none_beyond : (v : Stop) → 0 < tally r v → v < n
  none_beyond v h = below_tally n r (over_below n r (omega (arith, counted n r, total_ones n (tally r) ones, round_length))) v h

  -- the check gives the facts
  pub round_perm : Perm r
  round_perm = record {
    once = λ v. elim (dec_lt v n) [ yes h ↦ omega (arith, ones v h) | no h ↦ elim (dec_lt 0 (tally r v)) [ yes k ↦ absurd (h (none_beyond v k)) | no k ↦ omega arith ] ];
    has = λ v h. omega (arith, ones v (omega (arith, round_length)));
    only = λ v h. omega (arith, none_beyond v h, round_length);
  }

-- a list of n stops that has each below n once passes it
pub round_is : (n : ℕ) (r : Round) → length r ≡ n → ((v : Stop) → v < n → tally r v ≡ 1) → is_round n r ≡ true
unfolding is_round
round_is n r l h =
    let each_one : every (λ v. eqb (tally r v) 1) (rising n 0) ≡ true = rising_every (λ v. eqb (tally r v) 1) n 0 (λ v a b. eq-eqb (tally r v) 1 (h v (omega arith))) in
    rw (eq-eqb (length r) n l) each_one

-- and the facts give the check
pub perm_round : (r : Round) → Perm r → is_round (length r) r ≡ true
perm_round r p = round_is (length r) r refl (λ v h. omega (arith, p.once v, p.has v h))
