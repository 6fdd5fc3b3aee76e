-- The memory of a walk, read off what is worked on. Assumes nothing.
use Rattle.std.specs.Prelude.{ℕ, ◌≡◌, false}
use Rattle.rules.specs.Words.{Time, Round}
use Rattle.rules.specs.Plan.{leg_in}
use Rattle.rules.specs.Descend.{kept, descend}
use Rattle.rules.specs.Search.{Walk, shaken, kicked_once, restarted, turned}
use Rattle.rules.specs.Memory.{Lent, Carried, room_in, plan_in, state_in}
use Rattle.legs.specs.declared.matrix.Matrix.{Matrix}
use Rattle.legs.specs.declared.plan.Plan.{Plan as PlanOf}
use Rattle.work.specs.declared.work.Work.{Work}
use Rattle.refusals.specs.Lending.{lending, carrying}
use Rattle.walks.specs.declared.tallies.Tally.{Tally as TallyOf}
use Rattle.walks.specs.Walking.{Tally, tallying, bare, Goes, Dives, Shook, walk_in, told, kick_of}

-- what is lent, and what goes in by value
abbrev pub lent_in : PlanOf → Work → Lent
lent_in p w =
    lending p.matrix.n p.near.count p.alpha.count p.matrix.times.now p.near.entries.now p.alpha.entries.now w.track.now.stops.now w.track.now.places.now w.queue.now.words.now w.queue.now.flags.now w.scratch.now w.track.now.journal.now

abbrev pub bare_in : Matrix → Work → Lent
bare_in m w = bare m.n m.times.now w.track.now.stops.now w.track.now.places.now w.queue.now.words.now w.queue.now.flags.now w.scratch.now w.track.now.journal.now

abbrev pub carried_in : Work → Time → Carried
carried_in w time = carrying w.queue.now.head w.queue.now.count w.track.now.held time

-- the numbers that stand there
abbrev pub tally_in : TallyOf → Tally
tally_in t = tallying t.time t.best t.walk t.stale t.fails t.kicks t.left

-- nothing is journalled and nobody waits
pub record Idle (w : Work) : Type 0 where
  pub none_held : w.track.now.held ≡ 0
  pub nobody : w.queue.now.count ≡ 0
  pub begins : w.queue.now.head ≡ 0

-- a was left as b by so many kicks of a kind, the time as `after` and the draw state x as `new`
abbrev pub Shakes : Matrix → ℕ → ℕ → Work → Time → ℕ → Work → Time → ℕ → Type 0
Shakes m count kind a time x b after new = Shook (shaken (leg_in m.n m.times.now) count kind (state_in (bare_in m a) (carried_in a time)) x) (bare_in m b) (carried_in b after) new

-- by a turn's kick and its kept descent, with so many units left
abbrev pub DivesOn : PlanOf → ℕ → ℕ → ℕ → Work → ℕ → Work → Time → ℕ → ℕ → Type 0
DivesOn p step kind units a x b time left new =
    let l = lent_in p a in
    let k = kick_of (plan_in l) kind a.track.now.stops.now x in
    Dives (descend (plan_in l) step (kept (room_in l)) units k.state) k.draw (lent_in p b) (carried_in b time) left new

-- where a walk stands
abbrev pub stands : PlanOf → Work → Round → TallyOf → ℕ → Walk
stands p w best t x = walk_in (lent_in p w) best (tally_in t) x

-- and that it went on to the walk w
abbrev pub GoesOn : Walk → PlanOf → Work → Round → TallyOf → ℕ → Type 0
GoesOn w p b best t new = Goes w (lent_in p b) best (tally_in t) new

-- the walks that a kick, a restart and a turn lead to
abbrev pub kicked_from : PlanOf → ℕ → ℕ → Time → Work → Round → TallyOf → ℕ → Walk
kicked_from p step kind slack a best t x = kicked_once (plan_in (lent_in p a)) (told (lent_in p a) step kind false) slack (stands p a best t x)

abbrev pub restarted_from : PlanOf → ℕ → Work → Round → TallyOf → ℕ → Walk
restarted_from p step a best t x = restarted (plan_in (lent_in p a)) (told (lent_in p a) step 0 false) (stands p a best t x)

abbrev pub turned_from : PlanOf → ℕ → ℕ → Time → Work → Round → TallyOf → ℕ → Walk
turned_from p step kind slack a best t x = turned (plan_in (lent_in p a)) (told (lent_in p a) step kind false) slack (stands p a best t x)
