-- 01, 14: the times of the walk and of the best are recounts, through every turn of a search, where legs take as long as their return; so is
-- the time of its answer.
use Prim.Native.Nat.{◌+◌, ◌-◌, ◌≤◌, suc, zero, ℕ}
use mathlib.Core.Path.{◌≡◌, refl, subst}
use mathlib.Core.Logic.{◌≢◌}
use mathlib.Core.Bool.{Bool, ◌&&◌, false, true}
use native.Mathlib.Nat.{le_refl}
use native.Mathlib.Omega.{arith}
use lib.Dec.{eqb, leb, ltb}
use borrow.Author.Tests.{eqb-false}
use Rattle.rules.specs.Descend.{committed, descend, kept}
use Rattle.rules.specs.Draws.{drawn, moved}
use Rattle.rules.specs.Kicks.{kick, kicked_state}
use Rattle.rules.specs.Lists.{when◌then◌else◌}
use Rattle.rules.specs.Plan.{Plan, leg_of}
use Rattle.rules.specs.Ring.{is_round, recount}
use Rattle.rules.specs.Search.{Answer, Settings, Walk, kicked_once, margin, restarted, search, search_from, shaken, turned, turns}
use Rattle.rules.specs.Start.{start_round}
use Rattle.rules.specs.State.{State, activated, load, undo}
use Rattle.rules.specs.Words.{Legs, Round, Time}
use Rattle.laws.proofs.ChoiceLaws.{either_if, either_way}
use Rattle.laws.proofs.DescendLaws.{Sound, descend_sound}
use Rattle.laws.proofs.GainLaws.{Fit}
use Rattle.laws.proofs.KickedLaws.{kick_sound}
use Rattle.laws.proofs.PermLaws.{perm_round, round_length, round_perm}
use Rattle.laws.proofs.RunLaws.{committed_empty}
use Rattle.laws.proofs.SearchLaws.{Walks, turn_took}
use Rattle.laws.proofs.StartRoundLaws.{start_round_lem}
use Rattle.laws.proofs.StateLaws.{activated_sound, commit_sound, load_sound}

shaken_sound : (d : Legs) (n : ℕ) → 1 ≤ n → (count kind x : ℕ) (s : State) → Sound d n s → Sound d n (shaken d count kind s x).state
unfolding shaken
shaken_sound d n pos zero kind x s h = h
shaken_sound d n pos (suc count) kind x s h = let k = kick d kind x s.track in shaken_sound d n pos count kind k.draw (kicked_state k.made s) (kick_sound d n kind x s pos h)

-- the carried times are recounts
pub record Timed (d : Legs) (n : ℕ) (w : Walk) : Type 0 where
  pub walks : Walks n w
  pub carried : w.state.time ≡ recount d w.state.track.round
  pub best_carried : w.best_time ≡ recount d w.best

-- the answer is a round of all n stops, its time the recount, its units no more than the budget
pub record Answers (p : Plan) (n budget : ℕ) (a : Answer) : Type 0 where
  pub whole : is_round n a.round ≡ true
  pub timed : a.time ≡ recount (leg_of p) a.round
  pub within_budget : a.units ≤ budget

undo_time : (d : Legs) (s : State) → (undo (recount d) s).time ≡ recount d (undo (recount d) s).track.round
unfolding undo load
undo_time d s = refl

module _ (p : Plan) (o : Settings) (n : ℕ) (pos : 1 ≤ n) (fit : Fit p n) (room : 130 ≤ o.room) where
  -- the better of two rounds, each with its recount
  better_time : (r r' : Round) (time time' : Time) → time ≡ recount (leg_of p) r → time' ≡ recount (leg_of p) r' → (b : Bool) → (when b then time else time') ≡ recount (leg_of p) (when b then r else r')
  better_time r r' time time' e e' true = e
  better_time r r' time time' e e' false = e'

  restart_times : (w : Walk) → Timed (leg_of p) n w → ((restarted p o w).state.time ≡ recount (leg_of p) (restarted p o w).state.track.round) × ((restarted p o w).best_time ≡ recount (leg_of p) (restarted p o w).best)
  unfolding restarted
  restart_times w g =
      let d = leg_of p in
      let s = load (recount d) w.best in
      let k = (shaken d 32 0 s w.draw).state in
      let ran = descend p o.step committed w.left k in
      let h = descend_sound p o.step committed n fit w.left k (shaken_sound d n pos 32 0 w.draw s (load_sound d n w.best g.walks.best_perm g.walks.best_size)) in
      (h.carried, better_time ran.state.track.round w.best ran.state.time w.best_time h.carried g.best_carried (ltb ran.state.time w.best_time))

  kick_times : (slack : Time) (w : Walk) → Timed (leg_of p) n w → ((kicked_once p o slack w).state.time ≡ recount (leg_of p) (kicked_once p o slack w).state.track.round) × ((kicked_once p o slack w).best_time ≡ recount (leg_of p) (kicked_once p o slack w).best)
  unfolding kicked_once
  kick_times slack w g =
      let d = leg_of p in
      let x = moved w.draw in
      let kind = (when eqb (drawn 0 (o.one_in - 1) x) 0 then 2 else o.kind) in
      let k = (shaken d 1 kind w.state x).state in
      let s' = (descend p o.step (kept o.room) w.left k).state in
      let h = descend_sound p o.step (kept o.room) n fit w.left k (shaken_sound d n pos 1 kind x w.state (record { stands = g.walks.stands; carried = g.carried })) in
      let walk_best = (when ltb s'.time w.walk_best then s'.time else w.walk_best) in (
        either_way (λ (u : State). u.time ≡ recount d u.track.round) (leb s'.time (walk_best + slack)) (commit_sound d n s' h).carried (undo_time d s'),
        better_time s'.track.round w.best s'.time w.best_time h.carried g.best_carried (ltb s'.time w.best_time),
      )

  turn_times : (slack : Time) (w : Walk) → Timed (leg_of p) n w → ((turned p o slack w).state.time ≡ recount (leg_of p) (turned p o slack w).state.track.round) × ((turned p o slack w).best_time ≡ recount (leg_of p) (turned p o slack w).best)
  unfolding turned
  turn_times slack w g =
      either_way (λ (v : Walk). (v.state.time ≡ recount (leg_of p) v.state.track.round) × (v.best_time ≡ recount (leg_of p) v.best)) (ltb w.walk_fails o.restart) (kick_times slack w g) (restart_times w g)

  -- a turn keeps them
  pub turn_timed : (slack m : ℕ) (w : Walk) → w.left ≡ suc m → Timed (leg_of p) n w → Timed (leg_of p) n (turned p o slack w)
  turn_timed slack m w e g =
      let t = turn_took p o n pos fit.lists room slack m w e g.walks in
      let c = turn_times slack w g in
      record { walks = t.walks; carried = c.0; best_carried = c.1 }

  -- and so do all turns
  pub turns_timed : (slack fuel : ℕ) (w : Walk) → w.left ≤ fuel → Timed (leg_of p) n w → Timed (leg_of p) n (turns p o slack fuel w)
  unfolding turns
  turns_timed slack zero w h g = g
  turns_timed slack (suc fuel) w h g =
      either_if (Timed (leg_of p) n) (eqb w.left 0) (λ e. g)
      (λ e. either_way (Timed (leg_of p) n) (o.stop && leb o.limit w.fails) g
      (let q : w.left ≢ 0 = eqb-false w.left 0 e in
      let l : w.left ≡ suc (w.left - 1) = omega arith in
      let t = turn_took p o n pos fit.lists room slack (w.left - 1) w l g.walks in
      turns_timed slack fuel (turned p o slack w) (omega (arith, t.less)) (turn_timed slack (w.left - 1) w l g)))

  -- a search from any round of n stops
  pub search_from_answers : (r : Round) → is_round n r ≡ true → Answers p n o.budget (search_from p o r)
  unfolding search_from
  search_from_answers r e =
      let d = leg_of p in
      let h = activated_sound d n (load (recount d) r) (load_sound d n r (round_perm n r e) (round_length n r e)) in
      let s = activated (load (recount d) r) in
      let g = descend p o.step committed o.budget s in
      let c = descend_sound p o.step committed n fit o.budget s h in
      let time = g.state.time in
      let first : Walk = record { state = g.state; best = g.state.track.round; best_time = time; walk_best = time; walk_fails = 0; fails = 0; kicks = 0; draw = o.draw; left = g.left } in
      let begins : Timed d n first = record {
        walks = record { stands = c.stands; empty = committed_empty p o.step o.budget s; best_perm = c.stands.perm; best_size = c.stands.size };
        carried = c.carried;
        best_carried = c.carried;
      } in
      let w = turns p o (margin p.n time) g.left first in
      let t = turns_timed (margin p.n time) g.left first (le_refl g.left) begins in
      record { whole = subst (λ m. is_round m w.best ≡ true) t.walks.best_size (perm_round w.best t.walks.best_perm); timed = t.best_carried; within_budget = omega arith }

-- "then loads the start round"
pub search_answers : (p : Plan) (o : Settings) → 1 ≤ p.n → Fit p p.n → 130 ≤ o.room → Answers p p.n o.budget (search p o)
unfolding search
search_answers p o pos fit room = search_from_answers p o p.n pos fit room (start_round (leg_of p) p.n) (start_round_lem (leg_of p) p.n pos)
