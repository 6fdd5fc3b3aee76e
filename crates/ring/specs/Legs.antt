-- A leg as one word, and what is asked and said of times. Assumes nothing.
use Rattle.std.specs.Prelude.{ℕ, ◌+◌, ◌*◌, ◌≤◌, ◌<◌, ◌≡◌, List, length}
use Rattle.rules.specs.Words.{Stop, Time}
use Rattle.rules.specs.Lists.{at}
use Rattle.rules.specs.Ring.{Leg}

-- the smaller stop first
unfoldable pub leg_word : Leg → ℕ
leg_word e = e.low * 4096 + e.high

-- each of a list is a stop of n
pub record Stops (l : List Stop) (n : ℕ) : Type 0 where
  pub below : (i : ℕ) → i < length l → at l i < n

-- r is the time p of so many legs
pub record IsTime (legs : ℕ) (p r : Time) : Type 0 where
  pub is : r ≡ p
  pub small : r ≤ 65535 * legs
