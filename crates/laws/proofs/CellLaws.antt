-- Where the cells of a table of rows lie.
use Prim.Native.Nat.{ℕ, ◌+◌, ◌*◌, ◌≤◌, ◌<◌}
use native.Mathlib.Omega.{arith}
use native.Mathlib.Nat.{mul-le-mul_right}

-- row a of n rows of w cells ends within the table
pub row_within : (n w a : ℕ) → a < n → a * w + w ≤ n * w
row_within n w a h = omega (arith, mul-le-mul_right w h)

-- n rows of at most 4096 cells, at most 4096 of them, are few enough for 32 bits
pub cells_few : (n w : ℕ) → n ≤ 4096 → w ≤ 4096 → n * w ≤ 16777216
cells_few n w hn hw = omega (arith, mul-le-mul_right w hn)
