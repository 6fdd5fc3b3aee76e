use Prim.Native.Nat.{◌-◌, ◌<◌, ◌≤◌}
use mathlib.Core.Path.{◌≡◌}
use lib.ListN.{length, drop}
use Rattle.ring.specs.Around.{around}
use Rattle.rewrite.specs.Writes.{writes, placings}
use Rattle.rewrite.proofs.parts.put.Given as goal

abbrev pub invariant-loop-v : goal.invariant-loop-v
invariant-loop-v l =
    (length l.round ≡ length l.initial.round) × ((length l.places ≡ length l.initial.places) × ((l.v-index ≤ length l.part) × ((l.i < length l.initial.round) × ((l.i ≡ around (length l.initial.round) l.start l.v-index) × ((writes (length l.initial.round) l.i (drop l.v-index l.part) l.round ≡ writes (length l.initial.round) l.start l.part l.initial.round) × (placings (length l.initial.round) l.i (drop l.v-index l.part) l.places ≡ placings (length l.initial.round) l.start l.part l.initial.places))))))
