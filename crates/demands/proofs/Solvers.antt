-- Demand 1 for the start round and the exact solver.
use Prim.Native.Nat.{◌*◌, ◌-◌, ◌^◌, ◌≤◌, ℕ}
use mathlib.Core.Path.{◌≡◌}
use mathlib.Core.Logic.{inl, inr}
use mathlib.Core.Bool.{Bool, ◌&&◌, false}
use mathlib.Core.List.{List, [], ◌∷◌}
use native.Mathlib.Omega.{arith}
use lib.Dec.{eqb, leb}
use lib.ListN.{length}
use borrow.Author.Tests.{eqb-false, leb-false, lt-leb, ne_eqb}
use Rattle.rules.specs.Numbers.{Check, ◌or◌, exact_number, start_number, within}
use Rattle.rules.specs.Words.{Round, Time}
use Rattle.laws.proofs.EveryLaws.{more, none}
use Rattle.laws.proofs.FailLaws.{either_fails, left_fails, outside, outside_fails, right_fails}
use Rattle.laws.proofs.VerdictLaws.{Fails, above, fails_give, later, next, this, top}
use Rattle.demands.specs.Demands.{Right}
use Rattle.demands.specs.Solvers.{ExactGround, Solvers, StartGround, exact_matrix, exact_round, exact_size, exact_table, start_matrix, start_round, start_size}
use Rattle.demands.proofs.RightLaws.{verdict_right}

-- 2 is not asked
two_three : 2 ≤ 3
two_three = omega arith

module _ (n : ℕ) (matrix : List Time) (round : Round) where
  abbrev matrix_ok : Bool
  matrix_ok = eqb (length matrix) (n * n)

  abbrev round_ok : Bool
  round_ok = eqb (length round) n

  -- ---- the start round
  abbrev start_checks : List Check
  start_checks = (within 1 4096 n or 1) ∷ ((matrix_ok && round_ok) or 3) ∷ []

  start_fails : (k : ℕ) → StartGround n matrix round k → Fails start_checks k
  start_fails k (start_size h) = this (outside_fails 1 4096 n h)
  start_fails k (start_matrix h) = later (this (left_fails matrix_ok round_ok (ne_eqb (length matrix) (n * n) h)))
  start_fails k (start_round h) = later (this (right_fails matrix_ok round_ok (ne_eqb (length round) n h)))

  start_long : (matrix_ok && round_ok) ≡ false → StartGround n matrix round 3
  start_long e = elim (either_fails matrix_ok round_ok e) [ inl h ↦ start_matrix (eqb-false (length matrix) (n * n) h) | inr h ↦ start_round (eqb-false (length round) n h) ]

  start_grounds : (k : ℕ) → Fails start_checks k → StartGround n matrix round k
  start_grounds =
      fails_give (StartGround n matrix round) start_checks
      (more (λ e. start_size (outside 1 4096 n e))
      (more (λ e. start_long e) none))

  start_right : Right (StartGround n matrix round) (start_number n matrix round)
  unfolding start_number
  start_right = verdict_right (StartGround n matrix round) start_checks (next 1 (above two_three top)) start_fails start_grounds

  -- ---- the exact solver
  module _ (table : List ℕ) where
    abbrev exact_checks : List Check
    exact_checks = (within 1 25 n or 1) ∷ ((matrix_ok && round_ok) or 3) ∷ (leb (2 ^ (n - 1) * (n - 1)) (length table) or 4) ∷ []

    exact_fails : (k : ℕ) → ExactGround n matrix round table k → Fails exact_checks k
    exact_fails k (exact_size h) = this (outside_fails 1 25 n h)
    exact_fails k (exact_matrix h) = later (this (left_fails matrix_ok round_ok (ne_eqb (length matrix) (n * n) h)))
    exact_fails k (exact_round h) = later (this (right_fails matrix_ok round_ok (ne_eqb (length round) n h)))
    exact_fails k (exact_table h) = later (later (this (lt-leb (2 ^ (n - 1) * (n - 1)) (length table) h)))

    exact_long : (matrix_ok && round_ok) ≡ false → ExactGround n matrix round table 3
    exact_long e = elim (either_fails matrix_ok round_ok e) [ inl h ↦ exact_matrix (eqb-false (length matrix) (n * n) h) | inr h ↦ exact_round (eqb-false (length round) n h) ]

    exact_grounds : (k : ℕ) → Fails exact_checks k → ExactGround n matrix round table k
    exact_grounds =
        fails_give (ExactGround n matrix round table) exact_checks
        (more (λ e. exact_size (outside 1 25 n e))
        (more (λ e. exact_long e)
        (more (λ e. exact_table (leb-false (2 ^ (n - 1) * (n - 1)) (length table) e)) none)))

    exact_right : Right (ExactGround n matrix round table) (exact_number n matrix round table)
    unfolding exact_number
    exact_right = verdict_right (ExactGround n matrix round table) exact_checks (next 1 (above two_three (next 4 top))) exact_fails exact_grounds

pub demand_1_solvers : Solvers
demand_1_solvers = record { start = start_right; exact = exact_right }
