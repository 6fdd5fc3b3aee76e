use Rattle.std.proofs.Common.{◌-◌, ◌≤◌}
use Rattle.start.specs.Mask.{masked}
use Rattle.start.proofs.Blocks.{Blocks}
use Rattle.start.proofs.BlockedScan.nearest.Given as goal

abbrev pub invariant-loop-i : goal.invariant-loop-i
invariant-loop-i l = (l.i ≤ l.n) × Blocks (masked l.row.times.now l.row.mask.now) l.i l.best l.start l.end

abbrev pub decreases-loop-i : goal.decreases-loop-i
decreases-loop-i l = l.n - l.i
