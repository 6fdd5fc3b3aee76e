-- Demand 1 for the two public functions that are lent no state: the start round and the exact solver. Assumes nothing.
use Rattle.std.specs.Prelude.{ℕ, ◌*◌, ◌-◌, ◌<◌, ◌^◌, ◌≢◌, ◌⊎◌, List, length}
use Rattle.rules.specs.Words.{Round, Time}
use Rattle.rules.specs.Numbers.{start_number, exact_number}
use Rattle.demands.specs.Demands.{Right}

-- "both start rounds .. 1 to 4,096"; 1 and 3 of 01's table
pub data StartGround (n : ℕ) (matrix : List Time) (round : Round) : ℕ → Type 0 where
  start_size : (n < 1) ⊎ (4096 < n) → StartGround n matrix round 1
  start_matrix : length matrix ≢ n * n → StartGround n matrix round 3
  start_round : length round ≢ n → StartGround n matrix round 3

-- "exact solver .. 1 to 25"; 1, 3 and 4, "exact table under 2^(n-1) times (n-1) words"
pub data ExactGround (n : ℕ) (matrix : List Time) (round : Round) (table : List ℕ) : ℕ → Type 0 where
  exact_size : (n < 1) ⊎ (25 < n) → ExactGround n matrix round table 1
  exact_matrix : length matrix ≢ n * n → ExactGround n matrix round table 3
  exact_round : length round ≢ n → ExactGround n matrix round table 3
  exact_table : length table < 2 ^ (n - 1) * (n - 1) → ExactGround n matrix round table 4

pub record Solvers : Type 0 where
  pub start : (n : ℕ) (matrix : List Time) (round : Round) → Right (StartGround n matrix round) (start_number n matrix round)
  pub exact : (n : ℕ) (matrix : List Time) (round : Round) (table : List ℕ) → Right (ExactGround n matrix round table) (exact_number n matrix round table)
