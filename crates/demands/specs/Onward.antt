-- Beyond the demands: what a run leaves is no ground to refuse the next call, so demand 3 is not kept by refusing. Assumes nothing.
use Rattle.std.specs.Prelude.{ℕ, ◌<◌, ◌≤◌, ◌≡◌, true, List}
use Rattle.rules.specs.Words.{Stop, Time}
use Rattle.rules.specs.Plan.{leg_in}
use Rattle.rules.specs.Memory.{Lent, Carried}
use Rattle.demands.specs.Demands.{Call, Ground, Run, Untouched, single}

pub record Onward {n : ℕ} {matrix : List Time} {l : Lent} {c : Carried} (run : Run n matrix l c) : Type 0 where
  -- "One symmetric matrix, 2 to 4,096 stops": the accepted load saw to both
  pub two : 2 ≤ n
  pub most : n ≤ 4096
  pub symmetric : (a b : Stop) → a < n → b < n → leg_in n matrix a b ≡ leg_in n matrix b a
  -- a call that is lent what the run left, and told its n, is never given 1 or 5, nor 7 if it is a single call
  pub never_1 : (m : Lent) (q : Call) → Untouched matrix l m → m.n ≡ n → Ground m c q 1 → ⊥
  pub never_5 : (m : Lent) (q : Call) → Untouched matrix l m → m.n ≡ n → Ground m c q 5 → ⊥
  pub never_7 : (m : Lent) (q : Call) → Untouched matrix l m → m.n ≡ n → single q ≡ true → Ground m c q 7 → ⊥
