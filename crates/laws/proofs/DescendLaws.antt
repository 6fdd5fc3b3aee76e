-- 01, 10: the carried time equals a plain recount through a whole descent, kept or committed, where legs take as long as their return.
use Prim.Native.Nat.{◌+◌, ◌-◌, ◌<◌, suc, zero, ℕ}
use mathlib.Core.Path.{◌∙◌, ◌≡◌, ap, refl, subst, sym}
use mathlib.Core.List.{List, [], ◌∷◌}
use native.Mathlib.Omega.{arith}
use lib.Dec.{ltb}
use lib.ListN.{length}
use Rattle.rules.specs.Descend.{Manner, Ran, committed, descend, descending, journalled, kept, leave, short, step_from}
use Rattle.rules.specs.Improve.{improve_both}
use Rattle.rules.specs.Journal.{Track, cleared}
use Rattle.rules.specs.Lk.{lk_from}
use Rattle.rules.specs.Lk3.{lk3_from}
use Rattle.rules.specs.Plan.{Plan, leg_of}
use Rattle.rules.specs.Queue.{push_all}
use Rattle.rules.specs.Ring.{recount}
use Rattle.rules.specs.State.{State}
use Rattle.rules.specs.Words.{Legs, Stop, Time}
use Rattle.laws.proofs.ChoiceLaws.{either_way}
use Rattle.laws.proofs.EvenLaws.{below_head}
use Rattle.laws.proofs.GainLaws.{Falls, Fit, both_falls, falls_time, or_else_falls}
use Rattle.laws.proofs.Lk3Laws.{lk3_from_falls}
use Rattle.laws.proofs.LkLaws.{lk_from_falls}
use Rattle.laws.proofs.PermLaws.{Perm}
use Rattle.laws.proofs.RunLaws.{Stands, descend_stands, stands_journalled, stands_taken}

-- ---- a step of any kind
module _ (p : Plan) (t : Track) (pm : Perm t.round) (fit : Fit p (length t.round)) (v : Stop) (h : v < length t.round) where
  pub step_falls : (kind : ℕ) → Falls (leg_of p) t (recount (leg_of p) t.round) (step_from p kind v t)
  unfolding step_from
  step_falls zero = or_else_falls (leg_of p) t (lk_from p v t) (improve_both p v) (lk_from_falls p t pm fit v h) (both_falls p t pm fit v h)
  step_falls (suc zero) = or_else_falls (leg_of p) t (lk3_from p v t) (improve_both p v) (lk3_from_falls p t pm fit v h) (both_falls p t pm fit v h)
  step_falls (suc (suc kind)) = either_way (Falls (leg_of p) t (recount (leg_of p) t.round)) (ltb (length t.round) 5) (both_falls p t pm fit v h) (lk3_from_falls p t pm fit v h)

  -- its gain is the fall of the recount
  pub step_time : (kind : ℕ) → recount (leg_of p) (step_from p kind v t).track.round + (step_from p kind v t).gain ≡ recount (leg_of p) t.round
  step_time kind = falls_time (leg_of p) t (step_from p kind v t) (step_falls kind)

journalled_round : (m : Manner) (t : Track) → (journalled m t).round ≡ t.round
unfolding journalled cleared
journalled_round (kept room) t = refl
journalled_round committed t = refl

-- ---- a state whose time is the recount of its round
pub record Sound (d : Legs) (n : ℕ) (s : State) : Type 0 where
  pub stands : Stands n s.track s.queue
  pub carried : s.time ≡ recount d s.track.round

module _ (p : Plan) (kind : ℕ) (m : Manner) (n : ℕ) (fit : Fit p n) where
  journalled_time : (t : Track) → recount (leg_of p) (journalled m t).round ≡ recount (leg_of p) t.round
  journalled_time t = ap (recount (leg_of p)) (journalled_round m t)

  descending_carried : (left : ℕ) (vs : List Stop) (t : Track) (time : Time) → Stands n t vs → time ≡ recount (leg_of p) t.round
      → (descending p kind m left vs t time).state.time ≡ recount (leg_of p) (descending p kind m left vs t time).state.track.round
  unfolding descending leave
  descending_carried zero [] t time h e = e ∙ sym (journalled_time t)
  descending_carried (suc left) [] t time h e = e ∙ sym (journalled_time t)
  descending_carried zero (v ∷ vs) t time h e = e ∙ sym (journalled_time t)
  descending_carried (suc left) (v ∷ vs) t time h e =
      let u = journalled m t in
      let g = stands_journalled m n t (v ∷ vs) h in
      let f = step_from p kind v u in
      let k = step_time p u g.perm (subst (Fit p) (sym g.size) fit) v (omega (arith, below_head n v vs g.queued, g.size)) kind in
      either_way (λ (x : Ran). x.state.time ≡ recount (leg_of p) x.state.track.round) (short m t) (e ∙ sym (journalled_time t))
      (descending_carried left (push_all vs f.touched) f.track (time - f.gain) (stands_taken p kind n fit.lists v vs u g) (omega (arith, k, e, journalled_time t)))

  descend_carried : (budget : ℕ) (s : State) → Sound (leg_of p) n s → (descend p kind m budget s).state.time ≡ recount (leg_of p) (descend p kind m budget s).state.track.round
  unfolding descend
  descend_carried budget s h = descending_carried budget s.queue s.track s.time h.stands h.carried

  -- a whole descent
  pub descend_sound : (budget : ℕ) (s : State) → Sound (leg_of p) n s → Sound (leg_of p) n (descend p kind m budget s).state
  descend_sound budget s h = record { stands = descend_stands p kind n fit.lists m budget s h.stands; carried = descend_carried budget s h }
