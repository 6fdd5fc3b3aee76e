-- What the parts of a search ask and promise. Assumes nothing.
use Rattle.std.specs.Prelude.{ℕ, ◌+◌, ◌-◌, ◌≤◌, ◌<◌, ◌≡◌, Bool, true, ◌&&◌, ◌||◌, List, [], leb, ltb, eqb, length}
use Rattle.rules.specs.Words.{Time, Round, Place}
use Rattle.rules.specs.Lists.{when◌then◌else◌, at}
use Rattle.rules.specs.Draws.{moved, drawn}
use Rattle.rules.specs.Ring.{recount}
use Rattle.rules.specs.Journal.{good_journal}
use Rattle.rules.specs.SharedWords.{Tied, Square, Listed}
use Rattle.rules.specs.Plan.{Plan, leg_in, leg_of}
use Rattle.rules.specs.State.{State, load, activated}
use Rattle.rules.specs.Descend.{Ran, committed, descend}
use Rattle.rules.specs.Search.{Settings, Walk, Answer, Shaken, shaken}
use Rattle.rules.specs.Memory.{Lent, Carried, plan_in, state_in}
use Rattle.rules.specs.Calls.{settings_in}
use Rattle.laws.proofs.PermLaws.{Perm}
use Rattle.laws.proofs.GainLaws.{Fit}
use Rattle.queue.specs.Lines.{InLine}
use Rattle.refusals.specs.Lending.{lending, carrying}
use Rattle.loads.specs.Lying.{Laid, Lies}

-- ---- the numbers of a walk: the carried time, the best time, the walk's record, the kicks since that and since the best, all kicks, the units left
pub record Tally : Type 0 where
  pub time : Time
  pub best : Time
  pub walk : Time
  pub stale : ℕ
  pub fails : ℕ
  pub kicks : ℕ
  pub left : ℕ

abbrev pub tallying : Time → Time → Time → ℕ → ℕ → ℕ → ℕ → Tally
tallying time best walk stale fails kicks left = record { time = time; best = best; walk = walk; stale = stale; fails = fails; kicks = kicks; left = left }

-- each kick takes a unit or more, so that the counts stay numbers of 32 bits
pub record Counts (t : Tally) : Type 0 where
  pub stale_fits : t.stale + t.left ≤ 4294967295
  pub fails_fit : t.fails + t.left ≤ 4294967295
  pub kicks_fit : t.kicks + t.left ≤ 4294967295

-- the numbers after a kick and its descent that ended at time `now`
unfoldable pub judged : Time → Time → ℕ → Tally → Tally
judged slack now left t =
    let walk = (when ltb now t.walk then now else t.walk) in
    record {
      time = when leb now (walk + slack) then now else t.time;
      best = when ltb now t.best then now else t.best;
      walk = walk;
      stale = when ltb now t.walk then 0 else t.stale + 1;
      fails = when ltb now t.best then 0 else t.fails + 1;
      kicks = t.kicks + 1;
      left = left;
    }

-- and after a restart's
unfoldable pub renewed : Time → ℕ → Tally → Tally
renewed now left t =
    record {
      time = now;
      best = when ltb now t.best then now else t.best;
      walk = now;
      stale = 0;
      fails = when ltb now t.best then 0 else t.fails;
      kicks = t.kicks;
      left = left;
    }

-- turns end here
unfoldable pub over : Bool → ℕ → ℕ → ℕ → Bool
over stop limit left fails = eqb left 0 || (stop && leb limit fails)

-- ---- memory
-- lists that a descent may scan: they stay as they are
pub record Given (l : Lent) : Type 0 where
  pub some_near : 1 ≤ l.k
  pub near_listed : Listed l.near l.k l.n
  pub alpha_listed : Listed l.alpha l.ka l.n
  pub fits : Fit (plan_in l) l.n

-- all is as long as it should be
pub record Desk (l : Lent) : Type 0 where
  pub two : 2 ≤ l.n
  pub square : Square l.matrix l.n
  pub short : (i : ℕ) → i < length l.matrix → at l.matrix i ≤ 65535
  pub round_long : length l.round ≡ l.n
  pub places_long : length l.places ≡ l.n
  pub queue_long : length l.queue ≡ l.n
  pub flags_long : length l.flags ≡ l.n
  pub scratch_long : length l.scratch ≡ l.n
  pub room : 2560 ≤ length l.journal

-- round, places, queue and journal in the middle of a turn
pub record Works (l : Lent) (c : Carried) : Type 0 where
  pub desk : Desk l
  pub tied : Tied l.round l.places
  pub line : InLine l.queue l.flags c.head c.count
  pub good : good_journal l.n l.journal c.held ≡ true
  pub carried : c.time ≡ recount (leg_in l.n l.matrix) l.round

-- memory for kicks alone, which scan no lists
abbrev pub bare : ℕ → List Time → Round → List Place → List ℕ → List ℕ → List ℕ → List ℕ → Lent
bare n matrix round places queue flags scratch journal = lending n 0 0 matrix [] [] round places queue flags scratch journal

-- it stands for the state s
pub record Holds (s : State) (l : Lent) (c : Carried) : Type 0 where
  pub works : Works l c
  pub is : state_in l c ≡ s

-- nothing is journalled and nobody waits; a best round of all n stops lies beside it
pub record Rests (l : Lent) (best : Round) (time : Time) : Type 0 where
  pub works : Works l (carrying 0 0 0 time)
  pub given : Given l
  pub best_perm : Perm best
  pub best_long : length best ≡ l.n

-- where a search stands between two turns
unfoldable pub walk_in : Lent → Round → Tally → ℕ → Walk
walk_in l best t draw =
    record {
      state = load (recount (leg_of (plan_in l))) l.round;
      best = best;
      best_time = t.best;
      walk_best = t.walk;
      walk_fails = t.stale;
      fails = t.fails;
      kicks = t.kicks;
      draw = draw;
      left = t.left;
    }

-- memory and numbers went on to the walk w
pub record Goes (w : Walk) (l : Lent) (best : Round) (t : Tally) (draw : ℕ) : Type 0 where
  pub is : walk_in l best t draw ≡ w
  pub rests : Rests l best t.time

-- ---- a turn's kick
-- what a search is told; budget and first draw state are asked of the whole search alone
unfoldable pub told : Lent → ℕ → ℕ → Bool → Settings
told l step kind stop = settings_in l step kind stop 0 0

-- "One kick in 16 is global: a first draw from 0 to 15 gives 0"
unfoldable pub kind_of : ℕ → ℕ → ℕ
kind_of kind x = when eqb (drawn 0 15 (moved x)) 0 then 2 else kind

unfoldable pub kick_of : Plan → ℕ → Round → ℕ → Shaken
kick_of p kind r x = shaken (leg_of p) 1 (kind_of kind x) (load (recount (leg_of p)) r) (moved x)

-- the kind was drawn
pub record Chosen (kind x new r : ℕ) : Type 0 where
  pub is : r ≡ kind_of kind x
  pub known : r ≤ 2
  pub state : new ≡ moved x

-- a descent ran and left its state, the units left and the draw state
pub record Dives (ran : Ran) (new : ℕ) (l : Lent) (c : Carried) (left draw : ℕ) : Type 0 where
  pub holds : Holds ran.state l c
  pub head_is : c.head ≡ 0
  pub count_is : c.count ≡ 0
  pub left_is : left ≡ ran.left
  pub draw_is : draw ≡ new

-- kicks were made one after another
pub record Shook (k : Shaken) (l : Lent) (c : Carried) (draw : ℕ) : Type 0 where
  pub holds : Holds k.state l c
  pub draw_is : draw ≡ k.draw

-- records, the best round and acceptance, after a descent to `round` that ended at time `now`
pub record Judges (slack now left : ℕ) (t : Tally) (round back best : Round) (round' : Round) (places' : List Place) (best' : Round) (t' : Tally) : Type 0 where
  pub best_is : best' ≡ (when ltb now t.best then round else best)
  pub laid : Laid (when leb now ((when ltb now t.walk then now else t.walk) + slack) then round else back) round' places'
  pub tally_is : t' ≡ judged slack now left t

-- ---- the whole search
-- the walk after the first descent
unfoldable pub begun : Plan → ℕ → ℕ → ℕ → Round → Walk
begun p step budget draw r =
    let g = descend p step committed budget (activated (load (recount (leg_of p)) r)) in
    let time = g.state.time in
    record {
      state = g.state;
      best = g.state.track.round;
      best_time = time;
      walk_best = time;
      walk_fails = 0;
      fails = 0;
      kicks = 0;
      draw = draw;
      left = g.left;
    }

-- what is answered of the last walk
unfoldable pub answered : ℕ → Walk → Answer
answered budget w =
    record {
      round = w.best;
      time = w.best_time;
      units = budget - w.left;
      kicks = w.kicks;
      ended = when eqb w.left 0 then 1 else 0;
      draw = w.draw;
    }

-- memory and results after a search that answers a: its best round is loaded
pub record Finds (a : Answer) (l : Lent) (best : Round) (draw : ℕ) (time : Time) (units kicks ended : ℕ) : Type 0 where
  pub lies : Lies l.matrix a.round l.round l.places l.flags time
  pub long : length a.round ≡ l.n
  pub best_is : best ≡ a.round
  pub draw_is : draw ≡ a.draw
  pub units_is : units ≡ a.units
  pub kicks_is : kicks ≡ a.kicks
  pub ended_is : ended ≡ a.ended
