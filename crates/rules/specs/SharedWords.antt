-- The words that inner contracts share: what functions ask of lent memory, and results with their bounds. Assumes nothing.
use Rattle.std.specs.Prelude.{ℕ, ◌*◌, ◌≤◌, ◌<◌, ◌≡◌, List, length}
use Rattle.rules.specs.Words.{Stop, Place, Time, Round}
use Rattle.rules.specs.Lists.{at}

-- the round holds each of its stops once, at most 4096, and the places are its inverse
pub record Tied (round : Round) (places : List Place) : Type 0 where
  pub few : length round ≤ 4096
  pub same : length places ≡ length round
  pub stop : (i : Place) → i < length round → at round i < length round
  pub place : (v : Stop) → v < length round → at places v < length round
  pub back : (i : Place) → i < length round → at places (at round i) ≡ i
  pub forth : (v : Stop) → v < length round → at round (at places v) ≡ v

-- a matrix of n rows and columns
pub record Square (matrix : List Time) (n : ℕ) : Type 0 where
  pub few : n ≤ 4096
  pub cells : length matrix ≡ n * n

-- lists of `count` entries for each of n stops, each entry a stop
pub record Listed (entries : List Stop) (count n : ℕ) : Type 0 where
  pub short : count ≤ 20
  pub cells : length entries ≡ n * count
  pub stops : (i : ℕ) → i < length entries → at entries i < n

-- r is p, a stop or a place of n
pub record Is (n p r : ℕ) : Type 0 where
  pub is : r ≡ p
  pub below : r < n

-- r is the time p of one leg
pub record IsLeg (p r : Time) : Type 0 where
  pub is : r ≡ p
  pub small : r ≤ 65535
