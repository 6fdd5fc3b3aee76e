use Prim.Native.Nat.{◌≤◌}
use mathlib.Core.Path.{◌≡◌}
use lib.ListN.{length, drop}
use Rattle.rules.specs.Queue.{push_all}
use Rattle.queue.specs.Queues.{SameQueue, waiting_in}
use Rattle.queue.proofs.queue.Queue.push_all.Given as goal

abbrev pub invariant-loop-v : goal.invariant-loop-v
invariant-loop-v l =
    SameQueue l.initial.self l.self × ((l.self.head ≡ l.initial.self.head) × ((l.v-index ≤ length l.stops) × (push_all (waiting_in l.self) (drop l.v-index l.stops) ≡ push_all (waiting_in l.initial.self) l.stops)))
