-- 01, "Sheets": a sheet's matrix is symmetric; the whole, refused and done.
use Prim.Native.Nat.{◌*◌, ◌-◌, ◌/◌, suc, zero, ℕ}
use mathlib.Core.Path.{◌∙◌, ◌≡◌, refl, sym}
use mathlib.Core.Logic.{◌≢◌}
use mathlib.Core.Bool.{true}
use mathlib.Core.List.{List, ◌++◌}
use native.Mathlib.Omega.{arith}
use lib.Dec.{eqb}
use lib.ListN.{drop, length}
use borrow.Author.Tests.{eq-eqb}
use Rattle.rules.specs.Bits.{bits_of, fields}
use Rattle.rules.specs.Lists.{every, rising}
use Rattle.rules.specs.Numbers.{symmetric, verdict}
use Rattle.rules.specs.Plan.{leg_in, leg_of}
use Rattle.rules.specs.Search.{search}
use Rattle.rules.specs.Sheets.{Header, answer_bytes, header_in, plan_on, settings_on, sheet_checks, solve, triangle_leg}
use Rattle.rules.specs.Words.{Legs}
use Rattle.laws.proofs.EvenLaws.{Even}
use Rattle.laws.proofs.MatrixLaws.{matrix_at}
use Rattle.laws.proofs.RisingLaws.{rising_every}
use Rattle.laws.proofs.TriangleLaws.{leg_return}

-- ---- 5: a sheet's matrix is symmetric
pub even_symmetric : (d : Legs) (n : ℕ) → Even d n → symmetric n d ≡ true
unfolding symmetric
even_symmetric d n e =
    rising_every (λ a. every (λ b. eqb (d a b) (d b a)) (rising n 0)) n 0
    (λ a la ha. rising_every (λ b. eqb (d a b) (d b a)) n 0 (λ b lb hb. eq-eqb (d a b) (d b a) (e a b (omega arith) (omega arith))))

module _ (h : Header) (bs : List ℕ) where
  pub sheet_even : Even (leg_of (plan_on h bs)) (h.n)
  unfolding plan_on leg_of leg_in
  sheet_even a b ha hb =
      let t = fields 16 (h.n * (h.n - 1) / 2) (drop 128 bs) in
      matrix_at (triangle_leg (h.n) t) (h.n) a b ha hb ∙ leg_return (h.n) t a b ∙ sym (matrix_at (triangle_leg (h.n) t) (h.n) b a hb ha)

-- ---- the whole
pub solve_refused : (sheet lent : List ℕ) (m : ℕ) → m ≡ verdict (sheet_checks sheet (length lent)) → m ≢ 0 → solve sheet lent ≡ record { number = m; answer = lent }
unfolding solve
solve_refused sheet lent zero e z = absurd (z refl)
solve_refused sheet lent (suc m) e z = rw (solve, ← e)

pub solve_done : (sheet lent : List ℕ) → 0 ≡ verdict (sheet_checks sheet (length lent)) →
    let h = header_in (bits_of sheet) in
    let a = answer_bytes (search (plan_on h (bits_of sheet)) (settings_on h)) in
    solve sheet lent ≡ record { number = 0; answer = a ++ drop (length a) lent }
unfolding solve
solve_done sheet lent e = rw (solve, ← e)
