-- 01, "Answer numbers", 1 and 3: the start round's number, test by test.
use Prim.Native.Nat.{ℕ, ◌*◌, ◌≤◌, ◌<◌}
use mathlib.Core.Path.{◌≡◌}
use mathlib.Core.List.{List}
use mathlib.Core.Logic.{◌≢◌}
use native.Mathlib.Omega.{arith}
use native.Mathlib.Decide.{dec_lt, ℕ_discrete}
use lib.ListN.{length}
use borrow.Author.Tests.{le-leb, lt-leb, eq-eqb, ne_eqb}
use Rattle.rules.specs.Words.{Time, Round}
use Rattle.rules.specs.Numbers.{verdict, within, start_number}

module _ (n : ℕ) (matrix : List Time) (round : Round) where
  pub start_none : n < 1 → start_number n matrix round ≡ 1
  unfolding start_number verdict within
  start_none h = simp (lt-leb 1 n h)

  pub start_many : 4096 < n → start_number n matrix round ≡ 1
  unfolding start_number verdict within
  start_many h = let some : 1 ≤ n = omega arith in simp (le-leb 1 n some, lt-leb n 4096 h)

  module _ (some : 1 ≤ n) (few : n ≤ 4096) where
    pub start_odd_matrix : length matrix ≢ n * n → start_number n matrix round ≡ 3
    unfolding start_number verdict within
    start_odd_matrix h = simp (le-leb 1 n some, le-leb n 4096 few, ne_eqb (length matrix) (n * n) h)

    module _ (cells : length matrix ≡ n * n) where
      pub start_odd_round : length round ≢ n → start_number n matrix round ≡ 3
      unfolding start_number verdict within
      start_odd_round h = simp (le-leb 1 n some, le-leb n 4096 few, eq-eqb (length matrix) (n * n) cells, ne_eqb (length round) n h)

      pub start_fits : length round ≡ n → start_number n matrix round ≡ 0
      unfolding start_number verdict within
      start_fits h = simp (le-leb 1 n some, le-leb n 4096 few, eq-eqb (length matrix) (n * n) cells, eq-eqb (length round) n h)

  -- what 0 says
  pub record Fits : Type 0 where
    pub some : 1 ≤ n
    pub few : n ≤ 4096
    pub cells : length matrix ≡ n * n
    pub long : length round ≡ n

  pub start_zero : start_number n matrix round ≡ 0 → Fits
  start_zero z = go (dec_lt n 1) (dec_lt 4096 n) (ℕ_discrete (length matrix) (n * n)) (ℕ_discrete (length round) n)
    where
      go : Dec (n < 1) → Dec (4096 < n) → Dec (length matrix ≡ n * n) → Dec (length round ≡ n) → Fits
      go (yes h) b c d = absurd (omega (arith, start_none h))
      go (no h) (yes b) c d = absurd (omega (arith, start_many b))
      go (no h) (no b) (no c) d = absurd (omega (arith, start_odd_matrix (omega arith) (omega arith) c))
      go (no h) (no b) (yes c) (no d) = absurd (omega (arith, start_odd_round (omega arith) (omega arith) c d))
      go (no h) (no b) (yes c) (yes d) = record { some = omega arith; few = omega arith; cells = c; long = d }
