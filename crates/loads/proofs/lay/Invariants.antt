use Prim.Native.Nat.{◌≤◌}
use lib.ListN.{length}
use Rattle.loads.proofs.LayLaws.{Laying}
use Rattle.loads.proofs.lay.Given as goal

abbrev pub invariant-loop-place : goal.invariant-loop-place
invariant-loop-place l = (l.place ≤ length l.start) × Laying l.start l.round l.places l.place
