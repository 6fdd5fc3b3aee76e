-- What `improve` promises. Assumes nothing.
use Rattle.std.specs.Prelude.{ℕ, ◌≡◌, List, []}
use Rattle.rules.specs.Words.{Stop, Place, Time, Round}
use Rattle.rules.specs.Plan.{Plan as PlanOf}
use Rattle.rules.specs.Queue.{push_all, waiting}
use Rattle.rules.specs.Improve.{Trial, Found}
use Rattle.legs.specs.declared.plan.Plan.{Plan}
use Rattle.queue.specs.Lines.{Waits}
use Rattle.moves.specs.Moves.{Made, case_of}
use Rattle.work.specs.declared.work.Work.{Work}

-- the plan of what is lent
abbrev pub plan_of : ℕ → List Time → ℕ → List Stop → ℕ → List Stop → PlanOf
plan_of n matrix k near ka alpha = record { n = n; matrix = matrix; k = k; near = near; ka = ka; alpha = alpha }

-- and of what is lent to `improve`, which reads no alpha list
unfoldable pub near_plan : ℕ → List Time → ℕ → List Stop → PlanOf
near_plan n matrix k near = plan_of n matrix k near 0 []

-- the same of a plan that stands there
abbrev pub near_in : Plan → PlanOf
near_in p = near_plan p.matrix.n p.matrix.times.now p.near.count p.near.entries.now

-- and with other alpha lists, for what reads none
abbrev pub plan_with : Plan → ℕ → List Stop → PlanOf
plan_with p ka alpha = plan_of p.matrix.n p.matrix.times.now p.near.count p.near.entries.now ka alpha

-- a move of a number's case as a trial
unfoldable pub trial_of : ℕ → Stop → Stop → Stop → Stop → Trial
trial_of c t3 t4 t5 t6 = record { case = case_of c; t3 = t3; t4 = t4; t5 = t5; t6 = t6; partial = 0 }

-- a step done: its gain, its track with at most `most` entries more, and its stops pushed in order
pub record Stepped (most : ℕ) (f : Found) (queue : List ℕ) (head : Place) (count : ℕ) (journal : List ℕ) (held : ℕ)
    (round : Round) (places : List Place) (queue' flags' journal' : List ℕ) (gain : Time) (held' : ℕ) (head' : Place) (count' : ℕ) : Type 0 where
  pub gain_is : gain ≡ f.gain
  pub made : Made most f.track journal held round places journal' held'
  pub waits : Waits (push_all (waiting queue head count) f.touched) head queue' flags' head' count'

-- a was left as b by a step that gained so much
abbrev pub Steps : ℕ → Found → Work → Work → Time → Type 0
Steps most f a b gain =
    Stepped most f a.queue.now.words.now a.queue.now.head a.queue.now.count a.track.now.journal.now a.track.now.held b.track.now.stops.now b.track.now.places.now b.queue.now.words.now b.queue.now.flags.now b.track.now.journal.now gain b.track.now.held b.queue.now.head b.queue.now.count
