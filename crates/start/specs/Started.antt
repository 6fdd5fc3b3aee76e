-- What both start rounds promise. Assumes nothing.
use Rattle.std.specs.Prelude.{ℕ, ◌≡◌, List}
use Rattle.rules.specs.Words.{Time, Round}
use Rattle.rules.specs.Plan.{leg_in}
use Rattle.rules.specs.Start.{start_round}
use Rattle.rules.specs.Numbers.{start_number}

-- the number, and the lent round as it is left: as it came where the number isn't 0, else the start round
pub record Started (matrix : List Time) (n : ℕ) (round after : Round) (number : ℕ) : Type 0 where
  pub says : number ≡ start_number n matrix round
  pub refused : (number ≡ 0 → ⊥) → after ≡ round
  pub done : number ≡ 0 → after ≡ start_round (leg_in n matrix) n
