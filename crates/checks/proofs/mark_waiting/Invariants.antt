use Prim.Native.Nat.{◌-◌, ◌≤◌, ◌<◌}
use mathlib.Core.Path.{◌≡◌}
use lib.ListN.{length}
use Rattle.rules.specs.Queue.{waiting}
use Rattle.ring.specs.Around.{around}
use Rattle.checks.proofs.MarkLaws.{Marking}
use Rattle.checks.proofs.mark_waiting.Given as goal

abbrev pub invariant-loop-step : goal.invariant-loop-step
invariant-loop-step l =
    (length l.marks ≡ length l.initial.marks) × ((l._step ≤ l.count) × ((l.at < length l.queue) × ((l.at ≡ around (length l.queue) l.head l._step) × Marking (length l.queue) (waiting l.queue l.head l.count) l._step l.marks)))
