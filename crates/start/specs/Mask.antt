-- The mask: 65535 at the stops that were visited, 0 at those that are left. Assumes nothing.
use Rattle.std.specs.Prelude.{ℕ, ◌≤◌, ◌<◌, ◌≡◌, List, length}
use Rattle.std.specs.Int.Bits.{bit_or}
use Rattle.rules.specs.Words.{Stop, Time}
use Rattle.rules.specs.Lists.{at}

-- a mask of n stops, and room beyond
pub record Mask (n : ℕ) (mask : List ℕ) : Type 0 where
  pub few : n ≤ 4096
  pub room : n ≤ length mask
  pub flag : (v : Stop) → v < n → (at mask v ≡ 0 → ⊥) → at mask v ≡ 65535

-- a stop is left
pub record Left (n : ℕ) (mask : List ℕ) : Type 0 where
  pub stop : Stop
  pub below : stop < n
  pub free : at mask stop ≡ 0

-- no stop was visited
pub record Blank (n : ℕ) (mask : List ℕ) : Type 0 where
  pub room : n ≤ length mask
  pub zeros : (v : Stop) → at mask v ≡ 0

-- what the leg to stop v takes, and 65535 where it was visited
unfoldable pub masked : List Time → List ℕ → Stop → Time
masked row mask v = bit_or (at row v) (at mask v)
