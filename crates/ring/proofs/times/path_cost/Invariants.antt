use Prim.Native.Nat.{◌+◌, ◌-◌, ◌*◌, ◌<◌, ◌≤◌}
use mathlib.Core.Path.{◌≡◌}
use lib.ListN.{length}
use Rattle.rules.specs.Ring.{path_cost}
use Rattle.rules.specs.Plan.{leg_in}
use Rattle.ring.specs.Around.{around}
use Rattle.ring.proofs.CostLaws.{rest, part}
use Rattle.ring.proofs.times.path_cost.Given as goal

abbrev pub invariant-loop-step : goal.invariant-loop-step
invariant-loop-step l =
    (l._step ≤ l.legs) × ((l.at < length l.round) × ((l.at ≡ around (length l.round) l.start l._step) × ((l.sum ≤ 65535 * l._step) × (l.sum + rest (leg_in (length l.round) l.matrix.times.now) (part l.start l.legs l.round) l._step ≡ path_cost (leg_in (length l.round) l.matrix.times.now) l.start l.legs l.round))))
