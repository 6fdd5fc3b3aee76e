use Rattle.std.proofs.Common.{◌≡◌, ℕ, ◌+◌, ◌*◌, ◌/◌, ◌%◌, ◌<◌, get_or}
use Rattle.rules.specs.Sheets.{triangle_leg}
use Rattle.sheet_plan.specs.Load.{triangle_in}
use Rattle.sheet_plan.proofs.load_matrix.Given as goal

abbrev pub invariant-loop-a : goal.invariant-loop-a
invariant-loop-a l = (k : ℕ) → k < l.a * l.n → get_or l.m k 0 ≡ triangle_leg l.n (triangle_in l.n l.s) (k / l.n) (k % l.n)

abbrev pub invariant-loop-b : goal.invariant-loop-b
invariant-loop-b l = (k : ℕ) → k < l.a * l.n + l.b → get_or l.m k 0 ≡ triangle_leg l.n (triangle_in l.n l.s) (k / l.n) (k % l.n)
