use Prim.Native.Nat.{◌+◌, ◌-◌, ◌*◌, ◌≤◌}
use mathlib.Core.Path.{◌≡◌}
use lib.ListN.{length}
use Rattle.rules.specs.Ring.{recount}
use Rattle.rules.specs.Plan.{leg_in}
use Rattle.ring.proofs.CostLaws.{rest, closed}
use Rattle.ring.proofs.times.cost.Given as goal

abbrev pub invariant-loop-i : goal.invariant-loop-i
invariant-loop-i l =
    (l.i ≤ length l.round) × ((l.sum ≤ 65535 * l.i) × (l.sum + rest (leg_in (length l.round) l.matrix.times.now) (closed l.round) l.i ≡ recount (leg_in (length l.round) l.matrix.times.now) l.round))
