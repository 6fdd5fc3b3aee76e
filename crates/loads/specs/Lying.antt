-- A round that lies in memory with nothing journalled and nobody waiting. Assumes nothing.
use Rattle.std.specs.Prelude.{ℕ, ◌≡◌, List, [], length}
use Rattle.rules.specs.Words.{Place, Time, Round}
use Rattle.rules.specs.Ring.{recount}
use Rattle.rules.specs.Queue.{flags_of}
use Rattle.rules.specs.Plan.{leg_in}
use Rattle.rules.specs.SharedWords.{Tied}
use Rattle.ring.specs.Legs.{IsTime}

-- r with its places
pub record Laid (r round : Round) (places : List Place) : Type 0 where
  pub round_is : round ≡ r
  pub tied : Tied r places

-- and with flags and time
pub record Lies (matrix : List Time) (r round : Round) (places : List Place) (flags : List ℕ) (time : Time) : Type 0 where
  pub laid : Laid r round places
  pub flags_are : flags ≡ flags_of (length r) []
  pub takes : IsTime (length r) (recount (leg_in (length r) matrix) r) time
