use Prim.Native.Nat.{◌≤◌, ◌<◌}
use mathlib.Core.Path.{◌≡◌}
use lib.ListN.{length, take, drop}
use Rattle.rules.specs.Ring.{turn}
use Rattle.rules.specs.Queue.{push_all}
use Rattle.ring.specs.Around.{around}
use Rattle.queue.specs.Queues.{SameQueue, waiting_in}
use Rattle.queue.proofs.queue.Queue.push_places.Given as goal

abbrev pub invariant-loop-step : goal.invariant-loop-step
invariant-loop-step l =
    let rest = take l.places (turn l.start l.round) in
    SameQueue l.initial.self l.self × ((l.self.head ≡ l.initial.self.head) × ((l._step ≤ l.places) × ((l.at < length l.round) × ((l.at ≡ around (length l.round) l.start l._step) × (push_all (waiting_in l.self) (drop l._step rest) ≡ push_all (waiting_in l.initial.self) rest)))))
