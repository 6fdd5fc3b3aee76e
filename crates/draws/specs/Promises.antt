-- What a step and a draw promise. Assumes nothing.
use Rattle.std.specs.Prelude.{ℕ, ◌≤◌, ◌<◌, ◌≡◌}
use Rattle.rules.specs.Draws.{moved, drawn}

-- r is the state after x, and other than 0 where x is
pub record Stepped (x r : ℕ) : Type 0 where
  pub is : r ≡ moved x
  pub some : 0 < x → 0 < r

-- r is what the new state gives from low to high
pub record Picked (low high new r : ℕ) : Type 0 where
  pub is : r ≡ drawn low high new
  pub least : low ≤ r
  pub most : r ≤ high

-- a draw from low to high: the state x is moved on to `new`, and r is drawn
pub record Drew (x low high new r : ℕ) : Type 0 where
  pub state : new ≡ moved x
  pub some : 0 < x → 0 < new
  pub is : r ≡ drawn low high (moved x)
  pub least : low ≤ r
  pub most : r ≤ high
