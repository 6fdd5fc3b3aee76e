-- What each public call does where it is not refused: the state that it leaves and its results. A refusal leaves everything as it came and
-- gives 0 in every result but the number. Assumes nothing.
use Rattle.std.specs.Prelude.{ℕ, ◌-◌, Bool, List, ◌++◌, length, drop}
use Rattle.rules.specs.Words.{Place, Time, Round}
use Rattle.rules.specs.Lists.{when◌then◌else◌}
use Rattle.rules.specs.Ring.{recount}
use Rattle.rules.specs.Plan.{leg_in, leg_of}
use Rattle.rules.specs.State.{State, commit, load, undo}
use Rattle.rules.specs.Descend.{kept, committed, descend}
use Rattle.rules.specs.Kicks.{kick, kicked_state}
use Rattle.rules.specs.Table.{table_of}
use Rattle.rules.specs.Search.{Settings, search, restart_after, stop_after}
use Rattle.rules.specs.Memory.{Lent, Carried, room_in, plan_in, state_in}

-- the state that is left with its queue's head, the draw state, the legs that a kick added and removed (its signed change is the first
-- less the second), a descent's gain, units, kicks and how it ended
pub record Done : Type 0 where
  pub state : State
  pub head : Place
  pub draw : ℕ
  pub added : Time
  pub removed : Time
  pub gain : Time
  pub units : ℕ
  pub kicks : ℕ
  pub ended : ℕ

-- no result but the state
unfoldable pub leaving : State → Place → ℕ → Done
leaving s head draw = record { state = s; head = head; draw = draw; added = 0; removed = 0; gain = 0; units = 0; kicks = 0; ended = 0 }

-- an empty queue that load, descent, undo and search leave has its head at 0; kick and commit keep the head that they were given
unfoldable pub load_done : Lent → Round → Done
load_done l start = leaving (load (recount (leg_of (plan_in l))) start) 0 0

unfoldable pub commit_done : Lent → Carried → Done
commit_done l c = leaving (commit (state_in l c)) c.head 0

unfoldable pub undo_done : Lent → Carried → Done
undo_done l c = leaving (undo (recount (leg_of (plan_in l))) (state_in l c)) 0 0

unfoldable pub kick_done : Lent → Carried → ℕ → ℕ → Done
kick_done l c kind draw =
    let s = state_in l c in
    let k = kick (leg_of (plan_in l)) kind draw s.track in
    record {
      state = kicked_state k.made s;
      head = c.head;
      draw = k.draw;
      added = k.made.added;
      removed = k.made.removed;
      gain = 0;
      units = 0;
      kicks = 0;
      ended = 0;
    }

-- `keeps` tells a kept descent from a committed one
unfoldable pub descend_done : Lent → Carried → Bool → ℕ → ℕ → Done
descend_done l c keeps step budget =
    let g = descend (plan_in l) step (when keeps then kept (room_in l) else committed) budget (state_in l c) in
    record {
      state = g.state;
      head = 0;
      draw = 0;
      added = 0;
      removed = 0;
      gain = c.time - g.state.time;
      units = budget - g.left;
      kicks = 0;
      ended = g.ended;
    }

-- "one kick in 16 is global"; the search leaves its best round loaded, so that a single call may follow at once
unfoldable pub settings_in : Lent → ℕ → ℕ → Bool → ℕ → ℕ → Settings
settings_in l step kind stop budget draw = record {
  step = step;
  kind = kind;
  one_in = 16;
  stop = stop;
  room = room_in l;
  restart = restart_after l.n;
  limit = stop_after l.n;
  budget = budget;
  draw = draw;
}

unfoldable pub search_done : Lent → ℕ → ℕ → Bool → ℕ → ℕ → Done
search_done l step kind stop budget draw =
    let a = search (plan_in l) (settings_in l step kind stop budget draw) in
    record {
      state = load (recount (leg_of (plan_in l))) a.round;
      head = 0;
      draw = a.draw;
      added = 0;
      removed = 0;
      gain = 0;
      units = a.units;
      kicks = a.kicks;
      ended = a.ended;
    }

-- what the exact solver leaves in the table: the words of the rule, and "words beyond stay"
unfoldable pub table_left : ℕ → List Time → List ℕ → List ℕ
table_left n matrix table = let t = table_of (leg_in n matrix) (n - 1) in t ++ drop (length t) table
