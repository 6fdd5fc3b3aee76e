-- The state and the results of an answer: a refusal leaves the state as it came, and gives 0 in every other result. Assumes nothing.
use Rattle.std.specs.Prelude.{ℕ, ℤ, pos, Result, Ok, Err}
use Rattle.rules.specs.Words.{Time}
use Rattle.rules.specs.Memory.{Carried}
use Rattle.numbers.specs.declared.Refusal.{Refusal}
use Rattle.refusals.specs.declared.lent.State.{State}
use Rattle.refusals.specs.Lents.{carried_in}
use Rattle.descent.specs.Kinds.{ended_number}
use Rattle.planner.specs.declared.Kicked.{Kicked}
use Rattle.planner.specs.declared.Descended.{Descended}

-- load, commit, undo
abbrev pub left_by : State → Result State Refusal → Carried
left_by came (Ok s) = carried_in s
left_by came (Err r) = carried_in came

-- a kick
abbrev pub kicked_by : State → Result Kicked Refusal → Carried
kicked_by came (Ok k) = carried_in k.state
kicked_by came (Err r) = carried_in came

abbrev pub change_by : Result Kicked Refusal → ℤ
change_by (Ok k) = k.change
change_by (Err r) = pos 0

-- a descent
abbrev pub descended_by : State → Result Descended Refusal → Carried
descended_by came (Ok d) = carried_in d.state
descended_by came (Err r) = carried_in came

abbrev pub gain_by : Result Descended Refusal → Time
gain_by (Ok d) = d.gain
gain_by (Err r) = 0

abbrev pub units_by : Result Descended Refusal → ℕ
units_by (Ok d) = d.units
units_by (Err r) = 0

abbrev pub ended_by : Result Descended Refusal → ℕ
ended_by (Ok d) = ended_number d.ended
ended_by (Err r) = 0
