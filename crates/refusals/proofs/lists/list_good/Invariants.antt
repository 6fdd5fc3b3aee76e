use Prim.Native.Nat.{ℕ, ◌≤◌, ◌<◌}
use mathlib.Core.Path.{◌≡◌}
use mathlib.Core.Bool.{true}
use Rattle.rules.specs.Plan.{list_in}
use Rattle.refusals.specs.Refusing.{good_entries}
use Rattle.refusals.proofs.lists.list_good.Given as goal

abbrev pub invariant-loop-v : goal.invariant-loop-v
invariant-loop-v l =
    (l.v ≤ l.n) × ((x : ℕ) → x < l.v → good_entries l.n x (list_in l.count l.entries x) ≡ true)
