-- 01, 13: what the exact solver promises. Assumes nothing.
use Rattle.std.specs.Prelude.{ℕ, ◌≡◌, List, Result, Ok, Err}
use Rattle.rules.specs.Words.{Time, Round}
use Rattle.rules.specs.Ring.{recount}
use Rattle.rules.specs.Plan.{leg_in}
use Rattle.rules.specs.Exact.{Exact}
use Rattle.rules.specs.Numbers.{exact_number}
use Rattle.rules.specs.Calls.{table_left}
use Rattle.numbers.specs.declared.Refusal.{Refusal}

-- the time in an answer: 0 where it is refused
abbrev pub time_in : Result ℕ Refusal → ℕ
time_in (Ok time) = time
time_in (Err refusal) = 0

-- "Every refusal .. changes nothing lent", and gives 0 in every other result
pub record Refused (table table' : List Time) (round round' : Round) (time : Time) : Type 0 where
  pub no_time : time ≡ 0
  pub table_same : table' ≡ table
  pub round_same : round' ≡ round

-- the exact round, its time ("The round's time is returned beside it"), and every word of the table
pub record Done (matrix : List Time) (n : ℕ) (table table' : List Time) (round' : Round) (time : Time) : Type 0 where
  pub exact : Exact (leg_in n matrix) n round'
  pub takes : time ≡ recount (leg_in n matrix) round'
  pub words : table' ≡ table_left n matrix table

pub record Solve (matrix : List Time) (n : ℕ) (table table' : List Time) (round round' : Round) (number : ℕ) (time : Time) : Type 0 where
  pub says : number ≡ exact_number n matrix round table
  pub refused : (number ≡ 0 → ⊥) → Refused table table' round round' time
  pub done : number ≡ 0 → Done matrix n table table' round' time
