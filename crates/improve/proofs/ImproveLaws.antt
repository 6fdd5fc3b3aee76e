-- `improve` is the move that the scans choose, carried out.
use Prim.Native.Nat.{ℕ, zero, suc, ◌-◌, ◌≤◌, ◌<◌}
use mathlib.Core.Path.{◌≡◌, refl, sym, ap, ◌∙◌}
use mathlib.Core.Bool.{Bool, true, false}
use mathlib.Core.List.{List, [], ◌∷◌, ◌++◌}
use native.Mathlib.Omega.{arith}
use borrow.Author.Tests.{ltb-true}
use lib.Dec.{ltb}
use Rattle.rules.specs.Words.{Stop, Time, Legs}
use Rattle.rules.specs.Ring.{ahead}
use Rattle.rules.specs.Journal.{Track}
use Rattle.rules.specs.Moves.{Case, two, flips, segment, inner, seq3}
use Rattle.rules.specs.Plan.{leg_in, leg_of, near_of}
use Rattle.rules.specs.Improve.{Trial, ends_of, Found, nothing, first_closing, touching, improve, or_else, improve_both}
use Rattle.laws.proofs.ChoiceLaws.{either_if}
use Rattle.legs.specs.declared.plan.Plan.{Plan}
use Rattle.moves.specs.declared.moves.Move.{Move}
use Rattle.moves.specs.Moves.{number_of, case_of}
use Rattle.tries.specs.Picks.{Pick, pick, none, first_of}
use Rattle.scans.specs.Scans.{found_in, found_on}
use Rattle.improve.specs.Steps.{near_plan, near_in, plan_with, trial_of}

gain_of : Pick → Time
gain_of (pick c g t3 t4 t5 t6) = g

-- a chosen move carried out
unfoldable pub carried : Bool → Stop → Stop → Track → Pick → Found
carried fwd t1 t2 t (pick c g t3 t4 t5 t6) = record { gain = g; track = seq3 fwd (case_of c) t1 t2 t3 t4 t5 t6 t; touched = ends_of (trial_of c t3 t4 t5 t6) }

case_number : (c : Case) → case_of (number_of c) ≡ c
unfolding case_of number_of
case_number two = refl
case_number flips = refl
case_number segment = refl
case_number inner = refl

ends_number : (x : Trial) → ends_of (trial_of (number_of x.case) x.t3 x.t4 x.t5 x.t6) ≡ ends_of x
unfolding ends_of trial_of
ends_number x = rw (case_number x.case)

module _ (d : Legs) (fwd : Bool) (t1 t2 : Stop) (t : Track) where
  pub closing_none : (xs : List Trial) (c : ℕ) (g : Time) (t3 t4 t5 t6 : Stop) → pick c g t3 t4 t5 t6 ≡ first_of d t1 xs → g ≤ 0 → first_closing d fwd t1 t2 t xs ≡ nothing t
  unfolding first_closing first_of gain_of
  closing_none [] c g t3 t4 t5 t6 e h = refl
  closing_none (x ∷ xs) c g t3 t4 t5 t6 e h =
      either_if (λ (w : Pick). pick c g t3 t4 t5 t6 ≡ w → first_closing d fwd t1 t2 t (x ∷ xs) ≡ nothing t) (ltb (d x.t6 t1) x.partial)
      (λ y f.
      let k : d x.t6 t1 < x.partial = ltb-true (d x.t6 t1) x.partial y in
      let z : g ≡ x.partial - d x.t6 t1 = ap gain_of f in
      absurd (omega arith))
      (λ y f. rw (y, first_closing) (closing_none xs c g t3 t4 t5 t6 f h))
      e

  same_carried : (x : Trial) → carried fwd t1 t2 t (pick (number_of x.case) (x.partial - d x.t6 t1) x.t3 x.t4 x.t5 x.t6)
      ≡ record { gain = x.partial - d x.t6 t1; track = seq3 fwd x.case t1 t2 x.t3 x.t4 x.t5 x.t6 t; touched = ends_of x }
  unfolding carried
  same_carried x i = record { gain = x.partial - d x.t6 t1; track = seq3 fwd (case_number x.case i) t1 t2 x.t3 x.t4 x.t5 x.t6 t; touched = ends_number x i }

  pub closing_some : (xs : List Trial) (c : ℕ) (g : Time) (t3 t4 t5 t6 : Stop) → pick c g t3 t4 t5 t6 ≡ first_of d t1 xs → 0 < g → first_closing d fwd t1 t2 t xs ≡ carried fwd t1 t2 t (pick c g t3 t4 t5 t6)
  unfolding first_closing first_of none gain_of
  closing_some [] c g t3 t4 t5 t6 e h = let z : g ≡ 0 = ap gain_of e in absurd (omega arith)
  closing_some (x ∷ xs) c g t3 t4 t5 t6 e h =
      either_if (λ (w : Pick). pick c g t3 t4 t5 t6 ≡ w → first_closing d fwd t1 t2 t (x ∷ xs) ≡ carried fwd t1 t2 t (pick c g t3 t4 t5 t6)) (ltb (d x.t6 t1) x.partial)
      (λ y f. rw (y, first_closing) (sym (ap (carried fwd t1 t2 t) f ∙ same_carried x)))
      (λ y f. rw (y, first_closing) (closing_some xs c g t3 t4 t5 t6 f h))
      e

-- more stops queued first
touch : (vs : List Stop) (g : Time) (t : Track) (us : List Stop) → 0 < g → touching vs (record { gain = g; track = t; touched = us }) ≡ record { gain = g; track = t; touched = vs ++ us }
unfolding touching
touch vs zero t us h = absurd (omega arith)
touch vs (suc g) t us h = refl

module _ (p : Plan) (fwd : Bool) (t1 : Stop) (t : Track) (m : Move) (is : pick m.case m.gain m.t3.0 m.t4.0 m.t5.0 m.t6.0 ≡ found_on p fwd t.round t1) where
  -- nothing closes with a gain
  pub improve_none : m.gain ≤ 0 → improve (near_in p) fwd t1 t ≡ nothing t
  unfolding improve near_plan leg_of near_of found_in touching nothing
  improve_none h = rw (closing_none (leg_in p.matrix.n p.matrix.times.now) fwd t1 (ahead fwd t.round t1) t _ m.case m.gain m.t3.0 m.t4.0 m.t5.0 m.t6.0 is h)

  -- the first that does
  pub improve_some : (t2 : Stop) → t2 ≡ ahead fwd t.round t1 → 0 < m.gain
      → improve (near_in p) fwd t1 t ≡ record { gain = m.gain; track = seq3 fwd (case_of m.case) t1 t2 m.t3.0 m.t4.0 m.t5.0 m.t6.0 t; touched = t1 ∷ t2 ∷ ends_of (trial_of m.case m.t3.0 m.t4.0 m.t5.0 m.t6.0) }
  unfolding improve near_plan leg_of near_of found_in carried
  improve_some t2 e h =
      rw (e, closing_some (leg_in p.matrix.n p.matrix.times.now) fwd t1 (ahead fwd t.round t1) t _ m.case m.gain m.t3.0 m.t4.0 m.t5.0 m.t6.0 is h) (touch (t1 ∷ ahead fwd t.round t1 ∷ []) m.gain _ _ h)

module _ (p : Plan) (ka : ℕ) (alpha : List Stop) (t1 : Stop) (t : Track) where
  -- it reads no alpha list
  pub improve_any : (fwd : Bool) → improve (near_in p) fwd t1 t ≡ improve (plan_with p ka alpha) fwd t1 t
  unfolding improve near_plan leg_of near_of
  improve_any fwd = refl

  pub both_is : or_else (improve (plan_with p ka alpha) true t1 t) (improve (plan_with p ka alpha) false t1) ≡ improve_both (plan_with p ka alpha) t1 t
  unfolding improve_both
  both_is = refl
