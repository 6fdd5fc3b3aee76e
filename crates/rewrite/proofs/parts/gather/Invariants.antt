use Prim.Native.Nat.{◌-◌, ◌<◌, ◌≤◌}
use mathlib.Core.Path.{◌≡◌}
use mathlib.Core.List.{◌++◌}
use lib.ListN.{length, take, drop}
use Rattle.rules.specs.Ring.{turn}
use Rattle.ring.specs.Around.{around}
use Rattle.rewrite.proofs.parts.gather.Given as goal

abbrev pub invariant-loop-k : goal.invariant-loop-k
invariant-loop-k l =
    (length l.scratch ≡ length l.initial.scratch) × ((l.k ≤ l.count) × ((l.i < length l.round) × ((l.i ≡ around (length l.round) l.start l.k) × (l.scratch ≡ take l.k (turn l.start l.round) ++ drop l.k l.initial.scratch))))

abbrev pub decreases-loop-k : goal.decreases-loop-k
decreases-loop-k l =
    l.count - l.k
