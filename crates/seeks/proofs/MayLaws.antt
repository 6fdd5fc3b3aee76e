-- What may be gone on with, test by test; and the best of it, which is the one that a level of breadth 1 tries.
use Prim.Native.Nat.{ℕ, zero, suc, ◌-◌, ◌≤◌, ◌<◌}
use mathlib.Core.Path.{◌≡◌, refl, sym, ap, ◌∙◌}
use mathlib.Core.Logic.{◌⊎◌, inl, inr}
use mathlib.Core.Bool.{Bool, true, false, ◌&&◌}
use mathlib.Core.List.{List, [], ◌∷◌}
use native.Mathlib.Omega.{arith}
use borrow.Author.Tests.{lt-ltb, ltb-true}
use lib.Dec.{ltb}
use Rattle.rules.specs.Words.{Stop, Time, Legs}
use Rattle.rules.specs.Lists.{at, keep}
use Rattle.rules.specs.Ring.{Leg}
use Rattle.rules.specs.Moves.{Case, two, flips, segment, inner}
use Rattle.rules.specs.Plan.{leg_in, list_in, leg_of, near_of}
use Rattle.rules.specs.Improve.{Trial}
use Rattle.rules.specs.Step.{best}
use Rattle.rules.specs.Lk3.{may_move, may_go_on}
use Rattle.laws.proofs.ChoiceLaws.{either, either_if, true_false, and-true}
use Rattle.laws.proofs.LoneLaws.{best_of, best_one}
use Rattle.moves.specs.Moves.{number_of, case_of}
use Rattle.tries.specs.Picks.{Pick, pick, none}
use Rattle.seeks.specs.Seeks.{Sought, sought, gain_of, open_of, better_of, seek_of, move_trial, may_in, unbarred}
use Rattle.seeks.proofs.SeekLaws.{is_closed, move_of, same_best, and-false, seek_closes, seek_stays}

-- ---- the tests
module _ (n : ℕ) (matrix : List Time) (k : ℕ) (near : List Stop) (added removed : List Leg) (deeper : Bool) (t2 : Stop) where
  pub may_is : (c : ℕ) (g : Time) (t3 t4 t5 t6 : Stop) → 2 ≤ c
      → may_in n matrix k near added removed deeper t2 (move_trial c g t3 t4 t5 t6) ≡ (deeper && (ltb (leg_in n matrix t6 (at (list_in k near t6) 0)) g && unbarred added removed t2 t3 t4 t5 t6))
  unfolding may_in may_go_on may_move move_trial case_of unbarred leg_of near_of
  may_is zero g t3 t4 t5 t6 h = absurd (omega arith)
  may_is (suc zero) g t3 t4 t5 t6 h = absurd (omega arith)
  may_is (suc (suc zero)) g t3 t4 t5 t6 h = refl
  may_is (suc (suc (suc zero))) g t3 t4 t5 t6 h = refl
  may_is (suc (suc (suc (suc c)))) g t3 t4 t5 t6 h = refl

  -- a 2-opt move is not gone on with
  pub may_two : (x : Trial) → x.case ≡ two → may_in n matrix k near added removed deeper t2 x ≡ false
  unfolding may_in may_go_on
  may_two x e = rw e (and-false deeper)

-- ---- one move seen
number_case : (c : ℕ) → 2 ≤ c → c ≤ 4 → number_of (case_of c) ≡ c
unfolding number_of case_of
number_case zero h k = absurd (omega arith)
number_case (suc zero) h k = absurd (omega arith)
number_case (suc (suc zero)) h k = refl
number_case (suc (suc (suc zero))) h k = refl
number_case (suc (suc (suc (suc zero)))) h k = refl
number_case (suc (suc (suc (suc (suc c))))) h k = absurd (omega arith)

module _ (d : Legs) (t1 : Stop) (may : Trial → Bool) (so : Pick) (c : ℕ) (g : Time) (t3 t4 t5 t6 : Stop) (three : 2 ≤ c) (most : c ≤ 4) where
  pub one_closes : (d61 : Time) → d61 ≡ d t6 t1 → d61 < g → sought true (pick c (g - d61) t3 t4 t5 t6) ≡ seek_of d t1 may so (move_trial c g t3 t4 t5 t6 ∷ [])
  unfolding move_trial
  one_closes d61 e h =
      let k : d t6 t1 < g = omega arith in
      let e' : d t6 t1 ≡ d61 = sym e in
      sym (seek_closes d t1 may so (move_trial c g t3 t4 t5 t6) [] k ∙ (λ i. sought true (pick (number_case c three most i) (g - e' i) t3 t4 t5 t6)))

  module _ (d61 : Time) (e : d61 ≡ d t6 t1) (h : g ≤ d61) (on : Bool) (is : on ≡ (ltb (gain_of so) g && may (move_trial c g t3 t4 t5 t6))) where
    stays : seek_of d t1 may so (move_trial c g t3 t4 t5 t6 ∷ []) ≡ sought false (better_of may so (move_trial c g t3 t4 t5 t6))
    unfolding move_trial seek_of
    stays = let k : g ≤ d t6 t1 = omega arith in seek_stays d t1 may so (move_trial c g t3 t4 t5 t6) [] k

    pub one_better : on ≡ true → sought false (pick c g t3 t4 t5 t6) ≡ seek_of d t1 may so (move_trial c g t3 t4 t5 t6 ∷ [])
    unfolding better_of open_of move_trial
    one_better y = sym (stays ∙ rw (better_of, ← is, y, number_case c three most))

    pub one_stays : on ≡ false → sought false so ≡ seek_of d t1 may so (move_trial c g t3 t4 t5 t6 ∷ [])
    unfolding better_of move_trial
    one_stays y = sym (stays ∙ rw (better_of, ← is, y))

-- ---- the best
case_number : (c : Case) → case_of (number_of c) ≡ c
unfolding case_of number_of
case_number two = refl
case_number flips = refl
case_number segment = refl
case_number inner = refl

number_some : (c : Case) → 0 < number_of c
unfolding number_of
number_some two = omega arith
number_some flips = omega arith
number_some segment = omega arith
number_some inner = omega arith

number_in : Pick → ℕ
number_in (pick c g t3 t4 t5 t6) = c

-- a move is that of its pick
trial_in : Pick → Trial
trial_in (pick c g t3 t4 t5 t6) = move_trial c g t3 t4 t5 t6

open_trial : (x : Trial) → trial_in (open_of x) ≡ x
unfolding trial_in open_of move_trial
open_trial x i = record { case = case_number x.case i; t3 = x.t3; t4 = x.t4; t5 = x.t5; t6 = x.t6; partial = x.partial }

module _ (d : Legs) (t1 : Stop) (may : Trial → Bool) (rich : (x : Trial) → may x ≡ true → 0 < x.partial) where
  -- a better one, and one that is not
  better_new : (so : Pick) (x : Trial) → may x ≡ true → ltb (gain_of so) x.partial ≡ true → better_of may so x ≡ open_of x
  unfolding better_of
  better_new so x em eb = rw (better_of, eb, em)

  better_old : (so : Pick) (x : Trial) → ltb (gain_of so) x.partial ≡ false → better_of may so x ≡ so
  unfolding better_of
  better_old so x eb = rw (better_of, eb)

  -- from a trial on
  best_from : (xs : List Trial) (y : Trial) (p : Pick) → sought false p ≡ seek_of d t1 may (open_of y) xs → p ≡ open_of (best_of y (keep may xs))
  unfolding seek_of move_of is_closed keep best_of gain_of open_of
  best_from [] y p e = ap move_of e
  best_from (x ∷ xs) y p e =
      either_if (λ (w : Sought). sought false p ≡ w → p ≡ open_of (best_of y (keep may (x ∷ xs)))) (ltb (d x.t6 t1) x.partial)
      (λ c f. absurd (true_false (sym (ap is_closed f))))
      (λ c f.
      elim (either (may x)) [
        | inl em ↦
            elim (either (ltb y.partial x.partial)) [
              | inl eb ↦ rw (keep, em, best_of, eb) (best_from xs x p (f ∙ ap (λ (q : Pick). seek_of d t1 may q xs) (better_new (open_of y) x em eb)))
              | inr eb ↦ rw (keep, em, best_of, eb) (best_from xs y p (f ∙ ap (λ (q : Pick). seek_of d t1 may q xs) (better_old (open_of y) x eb)))
            ]
        | inr em ↦ rw (keep, em) (best_from xs y p (f ∙ ap (λ (q : Pick). seek_of d t1 may q xs) (same_best d t1 may (open_of y) x em)))
      ])
      e

  -- from none on: no trial may be gone on with, or the best of them is found
  best_found : (xs : List Trial) (p : Pick) → sought false p ≡ seek_of d t1 may none xs
      → ((p ≡ none) × (keep may xs ≡ [])) ⊎ ((z : Trial) × (p ≡ open_of z) × (best 1 [] (keep may xs) ≡ z ∷ []))
  unfolding seek_of move_of is_closed keep none gain_of
  best_found [] p e = inl (ap move_of e, refl)
  best_found (x ∷ xs) p e =
      either_if (λ (w : Sought). sought false p ≡ w → ((p ≡ none) × (keep may (x ∷ xs) ≡ [])) ⊎ ((z : Trial) × (p ≡ open_of z) × (best 1 [] (keep may (x ∷ xs)) ≡ z ∷ []))) (ltb (d x.t6 t1) x.partial)
      (λ c f. absurd (true_false (sym (ap is_closed f))))
      (λ c f.
      elim (either (may x)) [
        | inl em ↦
            let g : p ≡ open_of (best_of x (keep may xs)) = best_from xs x p (f ∙ ap (λ (q : Pick). seek_of d t1 may q xs) (better_new none x em (lt-ltb 0 x.partial (rich x em)))) in
            inr (best_of x (keep may xs), g, rw (keep, em) (best_one x (keep may xs)))
        | inr em ↦ rw (keep, em) (best_found xs p (f ∙ ap (λ (q : Pick). seek_of d t1 may q xs) (same_best d t1 may none x em)))
      ])
      e

  pub seek_off : (xs : List Trial) (c : ℕ) (g : Time) (t3 t4 t5 t6 : Stop) → sought false (pick c g t3 t4 t5 t6) ≡ seek_of d t1 may none xs → c ≡ 0 → best 1 [] (keep may xs) ≡ []
  unfolding number_in open_of best
  seek_off xs c g t3 t4 t5 t6 e z =
      elim (best_found xs (pick c g t3 t4 t5 t6) e) [
        | inl q ↦ rw q.1
        | inr q ↦ let n : c ≡ number_of q.0.case = ap number_in q.1 in absurd (omega (arith, number_some q.0.case))
      ]

  pub seek_on : (xs : List Trial) (c : ℕ) (g : Time) (t3 t4 t5 t6 : Stop) → sought false (pick c g t3 t4 t5 t6) ≡ seek_of d t1 may none xs → 0 < c → best 1 [] (keep may xs) ≡ move_trial c g t3 t4 t5 t6 ∷ []
  unfolding number_in none trial_in
  seek_on xs c g t3 t4 t5 t6 e z =
      elim (best_found xs (pick c g t3 t4 t5 t6) e) [
        | inl q ↦ let n : c ≡ 0 = ap number_in q.0 in absurd (omega arith)
        | inr q ↦ q.2 ∙ ap (λ (y : Trial). y ∷ []) (sym (ap trial_in q.1 ∙ open_trial q.0))
      ]

-- what may be gone on with has a partial gain
case_ok : (c : Case) (deeper ok : Bool) → (deeper && (elim c as (λ z. Bool) [ two ↦ false | flips ↦ ok | segment ↦ ok | inner ↦ ok ])) ≡ true → ok ≡ true
case_ok two deeper ok e = absurd (true_false (sym e ∙ and-false deeper))
case_ok flips deeper ok e = (and-true deeper ok e).1
case_ok segment deeper ok e = (and-true deeper ok e).1
case_ok inner deeper ok e = (and-true deeper ok e).1

pub may_rich : (n : ℕ) (matrix : List Time) (k : ℕ) (near : List Stop) (added removed : List Leg) (deeper : Bool) (t2 : Stop) (x : Trial) → may_in n matrix k near added removed deeper t2 x ≡ true → 0 < x.partial
unfolding may_in may_go_on may_move unbarred leg_of near_of
may_rich n matrix k near added removed deeper t2 x e =
    let low : Time = leg_in n matrix x.t6 (at (list_in k near x.t6) 0) in
    let ok : (ltb low x.partial && unbarred added removed t2 x.t3 x.t4 x.t5 x.t6) ≡ true = case_ok x.case deeper (ltb low x.partial && unbarred added removed t2 x.t3 x.t4 x.t5 x.t6) e in
    omega (arith, ltb-true low x.partial (and-true (ltb low x.partial) (unbarred added removed t2 x.t3 x.t4 x.t5 x.t6) ok).0)
