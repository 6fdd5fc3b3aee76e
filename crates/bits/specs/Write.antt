-- What a writer promises. Assumes nothing.
use Rattle.std.specs.Prelude.{ℕ, ◌+◌, ◌≡◌, List, ◌++◌, length, take, drop}

-- r is l with the bytes at byte `place`, and nothing else changed
pub record Wrote (l : List ℕ) (place : ℕ) (bytes r : List ℕ) : Type 0 where
  pub is : r ≡ take place l ++ (bytes ++ drop (place + length bytes) l)
