-- 01, 9: the gain of `lk3_from` is what the recount falls by, where legs take as long as their return.
use Prim.Native.Nat.{◌+◌, ◌-◌, ◌<◌, ◌≤◌, suc, zero, ℕ}
use mathlib.Core.Path.{◌∙◌, ◌≡◌, subst, sym}
use mathlib.Core.Bool.{Bool, false, true}
use mathlib.Core.List.{List, [], ◌∷◌}
use native.Mathlib.Omega.{arith}
use lib.Dec.{eqb, ltb}
use lib.ListN.{length}
use borrow.Author.Tests.{ltb-false}
use Rattle.rules.specs.Improve.{Found, Trial, ends_of, first_closing, touching, trials}
use Rattle.rules.specs.Journal.{Track}
use Rattle.rules.specs.Lists.{when◌then◌else◌, keep}
use Rattle.rules.specs.Lk3.{breadth3, level3, lk3_from, lk3_side, may_go_on, moved3, try_each3}
use Rattle.rules.specs.Moves.{seq3}
use Rattle.rules.specs.Plan.{Plan, alpha_of, leg_of}
use Rattle.rules.specs.Ring.{ahead, recount, succ}
use Rattle.rules.specs.Step.{Step, begin, best, going}
use Rattle.rules.specs.Words.{Stop, Time}
use Rattle.laws.proofs.ChoiceLaws.{by_gain, either_if, either_way}
use Rattle.laws.proofs.EveryLaws.{All, all_keep, all_map, more, none}
use Rattle.laws.proofs.GainLaws.{Falls, Fit, closing_falls, falls_nothing, falls_time, or_else_falls, touching_falls}
use Rattle.laws.proofs.PermLaws.{Perm}
use Rattle.laws.proofs.StepLaws.{Going, all_best, begun, going_fit, going_on, going_perm, going_way}
use Rattle.laws.proofs.TrialLaws.{Worth, trials_worth}
use Rattle.laws.proofs.WayLaws.{Start}

module _ (p : Plan) (t0 : Track) (pm : Perm t0.round) (fit : Fit p (length t0.round)) (long : 3 ≤ length t0.round) (t1 : Stop) (base : Time) where
  moved3_going : (fwd : Bool) (s : Step) (t2 : Stop) (g : Time) (x : Trial) → Going (leg_of p) t0 t1 base s t2 g → Worth (leg_of p) s.track fwd t1 t2 g x
      → Going (leg_of p) t0 t1 base (moved3 fwd t1 t2 s x) x.t6 x.partial
  unfolding moved3 Worth
  moved3_going fwd s t2 g x h c =
      going_on p t0 pm fit t1 base h (seq3 fwd x.case t1 t2 x.t3 x.t4 x.t5 x.t6 s.track) x.t6 x.partial (ends_of x) _ _ c

  -- a deeper level's find, seen from the level above
  lifted : (s : Step) (fwd : Bool) (t2 : Stop) (g : Time) (x : Trial) (f : Found) → Worth (leg_of p) s.track fwd t1 t2 g x → Falls (leg_of p) (moved3 fwd t1 t2 s x).track base f → 0 < f.gain
      → Falls (leg_of p) s.track base f
  unfolding moved3 going Worth
  lifted s fwd t2 g x f c h q = record { gains = h.gains; stays = λ e. absurd (omega arith); same = λ v. h.same v ∙ c.same v; size = h.size ∙ c.size }

  try_each3_falls : (fwd : Bool) (t2 : Stop) (g : Time) (s : Step) (deeper : Step → Stop → Time → Found) (xs : List Trial) → Going (leg_of p) t0 t1 base s t2 g
      → ((s' : Step) (t2' : Stop) (g' : Time) → Going (leg_of p) t0 t1 base s' t2' g' → Falls (leg_of p) s'.track base (deeper s' t2' g'))
      → All (Worth (leg_of p) s.track fwd t1 t2 g) xs → Falls (leg_of p) s.track base (try_each3 fwd t1 t2 s deeper xs)
  unfolding try_each3
  try_each3_falls fwd t2 g s deeper [] h m none = falls_nothing (leg_of p) s.track base
  try_each3_falls fwd t2 g s deeper (x ∷ xs) h m (more c a) =
      let s' = moved3 fwd t1 t2 s x in
      let f = deeper s' x.t6 x.partial in
      by_gain (Falls (leg_of p) s.track base) f.gain {x = try_each3 fwd t1 t2 s deeper xs} {y = λ g. f} (λ e. try_each3_falls fwd t2 g s deeper xs h m a)
      (λ q e. lifted s fwd t2 g x f c (m s' x.t6 x.partial (moved3_going fwd s t2 g x h c)) (omega arith))

  level3_falls : (levels : ℕ) (s : Step) (t2 : Stop) (g : Time) → Going (leg_of p) t0 t1 base s t2 g → Falls (leg_of p) s.track base (level3 p t1 levels s t2 g)
  unfolding level3
  level3_falls zero s t2 g h = falls_nothing (leg_of p) s.track base
  level3_falls (suc levels) s t2 g h =
      let r = s.track.round in
      let fwd = eqb (succ r t1) t2 in
      let pm' : Perm r = going_perm p t0 pm fit t1 base h in
      let fit' : Fit p (length r) = going_fit p t0 pm fit t1 base h in
      let st : Start fwd r t1 t2 = subst (λ o. Start o r t1 t2) (sym (going_way p t0 pm fit t1 base h long)) h.start in
      let tried = trials (leg_of p) (leg_of p) (alpha_of p) keep fwd r t1 t2 g in
      let worth : All (Worth (leg_of p) s.track fwd t1 t2 g) tried = trials_worth (leg_of p) s.track pm' fit'.even fwd t1 t2 g (alpha_of p) fit'.lists.alpha keep (λ P. all_keep) st in
      let f = first_closing (leg_of p) fwd t1 t2 s.track tried in
      let on = keep (may_go_on p s t2) tried in
      let most = (when eqb levels 0 then [] else best (breadth3 (49 - levels)) [] on) in
      let goes : All (Worth (leg_of p) s.track fwd t1 t2 g) on = all_map {P = λ x. Worth (leg_of p) s.track fwd t1 t2 g x × (may_go_on p s t2 x ≡ true)} _ (λ x q. q.0) (all_keep (may_go_on p s t2) tried worth) in
      by_gain (Falls (leg_of p) s.track base) f.gain {x = try_each3 fwd t1 t2 s (level3 p t1 levels) most} {y = λ k. touching s.stops f}
      (λ e. try_each3_falls fwd t2 g s (level3 p t1 levels) most h (level3_falls levels)
      (either_way (All (Worth (leg_of p) s.track fwd t1 t2 g)) (eqb levels 0) none (all_best (Worth (leg_of p) s.track fwd t1 t2 g) (breadth3 (49 - levels)) [] on none goes)))
      (λ k e. touching_falls (leg_of p) s.track base s.stops f (closing_falls (leg_of p) s.track fwd t1 t2 g base h.legs tried worth))

module _ (p : Plan) (t : Track) (pm : Perm t.round) (fit : Fit p (length t.round)) (t1 : Stop) (h1 : t1 < length t.round) where
  lk3_side_falls : (fwd : Bool) → 3 ≤ length t.round → Falls (leg_of p) t (recount (leg_of p) t.round) (lk3_side p t1 fwd t)
  unfolding lk3_side begin
  lk3_side_falls fwd long =
      let t2 = ahead fwd t.round t1 in
      touching_falls (leg_of p) t (recount (leg_of p) t.round) (t1 ∷ t2 ∷ []) _
      (level3_falls p t pm fit long t1 (recount (leg_of p) t.round) 50 (begin t t1 t2) t2 (leg_of p t1 t2) (begun p t pm t1 h1 fwd))

  -- both sides of t1, and below 5 stops nothing
  pub lk3_from_falls : Falls (leg_of p) t (recount (leg_of p) t.round) (lk3_from p t1 t)
  unfolding lk3_from
  lk3_from_falls =
      either_if (Falls (leg_of p) t (recount (leg_of p) t.round)) (ltb (length t.round) 5) (λ y. falls_nothing (leg_of p) t (recount (leg_of p) t.round))
      (λ y. let q : 5 ≤ length t.round = ltb-false (length t.round) 5 y in
      or_else_falls (leg_of p) t (lk3_side p t1 true t) (lk3_side p t1 false) (lk3_side_falls true (omega arith)) (lk3_side_falls false (omega arith)))

  -- the gain is the fall of the recount
  pub lk3_time : recount (leg_of p) (lk3_from p t1 t).track.round + (lk3_from p t1 t).gain ≡ recount (leg_of p) t.round
  lk3_time = falls_time (leg_of p) t (lk3_from p t1 t) lk3_from_falls
