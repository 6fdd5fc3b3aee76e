-- The nearest stop left, and what a scan of a block finds. Assumes nothing.
use Rattle.std.specs.Prelude.{ℕ, ◌≤◌, ◌<◌, ◌≡◌, List}
use Rattle.rules.specs.Words.{Stop, Time}
use Rattle.rules.specs.Lists.{at}

-- of the stops left below n, k is the lowest of the nearest
pub record Nearest (f : Stop → Time) (n : ℕ) (mask : List ℕ) (k : Stop) : Type 0 where
  pub below : k < n
  pub free : at mask k ≡ 0
  pub near : (v : Stop) → v < n → at mask v ≡ 0 → f k ≤ f v
  pub first : (v : Stop) → v < k → at mask v ≡ 0 → f k < f v

-- f is x somewhere from i on and before e
pub record Hit (f : Stop → Time) (i e x : ℕ) : Type 0 where
  pub stop : Stop
  pub low : i ≤ stop
  pub high : stop < e
  pub is : f stop ≡ x

-- x is the least of f from i on and before e, and 65535 where none is less; f has 16 bits there
pub record Lowest (f : Stop → Time) (i e x : ℕ) : Type 0 where
  pub top : x ≤ 65535
  pub short : (v : Stop) → i ≤ v → v < e → f v ≤ 65535
  pub least : (v : Stop) → i ≤ v → v < e → x ≤ f v
  pub hit : x < 65535 → Hit f i e x

-- k is the first from i on and before e where f is x
pub record First (f : Stop → Time) (i e x k : ℕ) : Type 0 where
  pub low : i ≤ k
  pub high : k < e
  pub is : f k ≡ x
  pub before : (v : Stop) → i ≤ v → v < k → f v ≡ x → ⊥
