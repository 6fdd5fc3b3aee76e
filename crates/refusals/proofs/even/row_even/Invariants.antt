use Prim.Native.Nat.{ℕ, ◌+◌, ◌*◌, ◌≤◌, ◌<◌}
use mathlib.Core.Path.{◌≡◌}
use Rattle.rules.specs.Plan.{leg_in}
use Rattle.refusals.proofs.even.row_even.Given as goal

abbrev pub invariant-loop-b : goal.invariant-loop-b
invariant-loop-b l =
    (l.a < l.b) × ((l.b ≤ l.matrix.n) × ((l.back ≡ l.b * l.matrix.n + l.a) × ((x : ℕ) → l.a < x → x < l.b → leg_in l.matrix.n l.matrix.times.now l.a x ≡ leg_in l.matrix.n l.matrix.times.now x l.a)))
