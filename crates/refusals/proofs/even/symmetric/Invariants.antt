use Prim.Native.Nat.{ℕ, ◌≤◌, ◌<◌}
use mathlib.Core.Path.{◌≡◌}
use mathlib.Core.Bool.{true}
use Rattle.rules.specs.Plan.{leg_in}
use Rattle.refusals.specs.Refusing.{row_even}
use Rattle.refusals.proofs.even.symmetric.Given as goal

abbrev pub invariant-loop-a : goal.invariant-loop-a
invariant-loop-a l =
    (l.a ≤ l.matrix.n) × ((x : ℕ) → x < l.a → row_even (leg_in l.matrix.n l.matrix.times.now) l.matrix.n x ≡ true)
