-- The numbers of a step's kind and of the way a descent ended. Assumes nothing.
use Rattle.std.specs.Prelude.{ℕ, zero, suc}
use Rattle.rules.specs.Words.{Stop}
use Rattle.rules.specs.Journal.{Track}
use Rattle.rules.specs.Plan.{Plan}
use Rattle.rules.specs.Improve.{Found}
use Rattle.rules.specs.Lk.{lk_from}
use Rattle.rules.specs.Lk3.{lk3_from}
use Rattle.descent.specs.declared.kinds.StepKind.{StepKind}
use Rattle.descent.specs.declared.kinds.StepKind.TheVariants.{Lk, Lk3, Lk3Only}
use Rattle.descent.specs.declared.kinds.Ending.{Ending}
use Rattle.descent.specs.declared.kinds.Ending.TheVariants.{Idle, Spent, Full}

-- the number of a step's kind, as the rules have it
abbrev pub step_number : StepKind → ℕ
step_number Lk = 0
step_number Lk3 = 1
step_number Lk3Only = 2

-- the kind that a number stands for: any but 0 and 1 is read as Lk3Only
abbrev pub step_kind_in : ℕ → StepKind
step_kind_in zero = Lk
step_kind_in (suc zero) = Lk3
step_kind_in (suc (suc n)) = Lk3Only

-- the search that a step of a kind begins with
abbrev pub lk_search_of : Plan → StepKind → Stop → Track → Found
lk_search_of p Lk v t = lk_from p v t
lk_search_of p Lk3 v t = lk3_from p v t
lk_search_of p Lk3Only v t = lk3_from p v t

-- 0 nobody waits, 1 no unit is left, 2 the journal is too full
abbrev pub ended_number : Ending → ℕ
ended_number Idle = 0
ended_number Spent = 1
ended_number Full = 2
