use Prim.Native.Nat.{ℕ, ◌+◌, ◌*◌, ◌≤◌, ◌<◌}
use mathlib.Core.Logic.{◌≢◌}
use Rattle.rules.specs.Lists.{at}
use Rattle.refusals.proofs.lists.entries_good.Given as goal

abbrev pub invariant-loop-i : goal.invariant-loop-i
invariant-loop-i l =
    (l.i ≤ l.count) × ((x : ℕ) → x < l.i → (at l.entries (l.v * l.count + x) < l.n) × (at l.entries (l.v * l.count + x) ≢ l.v))
