-- 01, "The port", 14: `search_with_slack`, `restart_from`. Assumes nothing.
use Rattle.std.specs.Prelude.{ℕ, zero, suc, ◌+◌, ◌-◌, ◌*◌, ◌/◌, max, Bool, true, false, ◌&&◌, leb, ltb, eqb}
use Rattle.rules.specs.Words.{Time, Round, Legs}
use Rattle.rules.specs.Lists.{when◌then◌else◌}
use Rattle.rules.specs.Draws.{moved, drawn}
use Rattle.rules.specs.Ring.{recount}
use Rattle.rules.specs.Plan.{Plan, leg_of}
use Rattle.rules.specs.State.{State, commit, load, undo, activated}
use Rattle.rules.specs.Descend.{kept, committed, descend}
use Rattle.rules.specs.Kicks.{kick, kicked_state}
use Rattle.rules.specs.Start.{start_round}

-- "(time + 5n) divided by 10n, rounded down"
unfoldable pub margin : ℕ → Time → Time
margin n time = (time + 5 * n) / (10 * n)

-- "Restart after max(3n, 3000) kicks without a walk record"
unfoldable pub restart_after : ℕ → ℕ
restart_after n = max (3 * n) 3000

-- "With the stop flag, end after max(500n, 100000) kicks without a new best"
unfoldable pub stop_after : ℕ → ℕ
stop_after n = max (500 * n) 100000

-- what a search is told: step kind, kick kind, one kick in so many global, stop flag, journal room, after how many kicks it restarts and
-- stops, budget, draw state
pub record Settings : Type 0 where
  pub step : ℕ
  pub kind : ℕ
  pub one_in : ℕ
  pub stop : Bool
  pub room : ℕ
  pub restart : ℕ
  pub limit : ℕ
  pub budget : ℕ
  pub draw : ℕ

-- where a search stands: its state, the best round and its time, the walk's record, the kicks since that and since the best, all kicks,
-- the draw state, the units left
pub record Walk : Type 0 where
  pub state : State
  pub best : Round
  pub best_time : Time
  pub walk_best : Time
  pub walk_fails : ℕ
  pub fails : ℕ
  pub kicks : ℕ
  pub draw : ℕ
  pub left : ℕ

-- "Answer: best round, its time, units, kicks", and how it ended; and the draw state that is left
pub record Answer : Type 0 where
  pub round : Round
  pub time : Time
  pub units : ℕ
  pub kicks : ℕ
  pub ended : ℕ
  pub draw : ℕ

-- a state after kicks, and the draw state after them
pub record Shaken : Type 0 where
  pub state : State
  pub draw : ℕ

-- so many kicks of a kind, one after another
unfoldable pub shaken : Legs → ℕ → ℕ → State → ℕ → Shaken
shaken d zero kind s x = record { state = s; draw = x }
shaken d (suc count) kind s x = let k = kick d kind x s.track in shaken d count kind (kicked_state k.made s) k.draw

module _ (p : Plan) (o : Settings) where
  -- "by 32 kicks of kind 0 from the best", and a committed descent: the new walk is judged against its own record
  unfoldable pub restarted : Walk → Walk
  restarted w =
      let k = shaken (leg_of p) 32 0 (load (recount (leg_of p)) w.best) w.draw in
      let g = descend p o.step committed w.left k.state in
      let time = g.state.time in
      let new = ltb time w.best_time in
      record {
        state = g.state;
        best = when new then g.state.track.round else w.best;
        best_time = when new then time else w.best_time;
        walk_best = time;
        walk_fails = 0;
        fails = when new then 0 else w.fails;
        kicks = w.kicks;
        draw = k.draw;
        left = g.left;
      }

  -- "One kick in 16 is global: a first draw from 0 to 15 gives 0", and a kept descent; records, then "Acceptance .. as in the source":
  -- within the margin of the walk's record
  unfoldable pub kicked_once : Time → Walk → Walk
  kicked_once slack w =
      let x = moved w.draw in
      let kind = (when eqb (drawn 0 (o.one_in - 1) x) 0 then 2 else o.kind) in
      let k = shaken (leg_of p) 1 kind w.state x in
      let g = descend p o.step (kept o.room) w.left k.state in
      let time = g.state.time in
      let new = ltb time w.best_time in
      let walk_new = ltb time w.walk_best in
      let walk_best = (when walk_new then time else w.walk_best) in
      record {
        state = when leb time (walk_best + slack) then commit g.state else undo (recount (leg_of p)) g.state;
        best = when new then g.state.track.round else w.best;
        best_time = when new then time else w.best_time;
        walk_best = walk_best;
        walk_fails = when walk_new then 0 else w.walk_fails + 1;
        fails = when new then 0 else w.fails + 1;
        kicks = w.kicks + 1;
        draw = k.draw;
        left = g.left;
      }

  -- a restart where one is due, else a kick
  unfoldable pub turned : Time → Walk → Walk
  turned slack w = elim (ltb w.walk_fails o.restart) [ true ↦ kicked_once slack w | false ↦ restarted w ]

  -- turns until no unit is left or, with the stop flag, it was long enough without a new best. Each turn takes a unit or more, so as much
  -- fuel as units left is enough: that is a law
  unfoldable pub turns : Time → ℕ → Walk → Walk
  turns slack zero w = w
  turns slack (suc fuel) w =
      elim (eqb w.left 0) [
        | true ↦ w
        | false ↦
            elim (o.stop && leb o.limit w.fails) [ true ↦ w | false ↦ turns slack fuel (turned slack w) ]
      ]

  -- "every stop before a search's first descent", which is committed; "The acceptance margin is fixed after the first descent"
  unfoldable pub search_from : Round → Answer
  search_from r =
      let g = descend p o.step committed o.budget (activated (load (recount (leg_of p)) r)) in
      let time = g.state.time in
      let first : Walk = record {
        state = g.state;
        best = g.state.track.round;
        best_time = time;
        walk_best = time;
        walk_fails = 0;
        fails = 0;
        kicks = 0;
        draw = o.draw;
        left = g.left;
      } in
      let w = turns (margin p.n time) g.left first in
      record {
        round = w.best;
        time = w.best_time;
        units = o.budget - w.left;
        kicks = w.kicks;
        ended = when eqb w.left 0 then 1 else 0;
        draw = w.draw;
      }

  -- "then loads the start round"
  unfoldable pub search : Answer
  search = search_from (start_round (leg_of p) p.n)
