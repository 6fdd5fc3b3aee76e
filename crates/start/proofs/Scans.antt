-- The nearest stop left, by one scan: stop by stop.
use Prim.Native.Nat.{ℕ, ◌+◌, ◌<◌}
use mathlib.Core.Path.{◌≡◌, subst}
use mathlib.Core.List.{List}
use native.Mathlib.Omega.{arith}
use native.Mathlib.Decide.{dec_lt}
use Rattle.rules.specs.Words.{Stop, Time}
use Rattle.rules.specs.Lists.{at}
use Rattle.start.specs.Near.{Nearest}

-- what holds of stop j and of those before it
pub one_more : (P : Stop → Type 0) (j : Stop) → P j → (v : Stop) → v < j + 1 → (v < j → P v) → P v
one_more P j p v h before = go (dec_lt v j)
  where
    go : Dec (v < j) → P v
    go (yes q) = before q
    go (no q) = let e : j ≡ v = omega arith in subst P e p

module _ (f : Stop → Time) (mask : List ℕ) where
  -- before stop j: none is left, or `so` is the nearest, at `best`
  pub data Scanned (j best so : ℕ) : Type 0 where
    none : best ≡ 65536 → ((v : Stop) → v < j → at mask v ≡ 0 → ⊥) → Scanned j best so
    some : f so ≡ best → Nearest f j mask so → Scanned j best so
