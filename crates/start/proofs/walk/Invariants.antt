use Rattle.std.proofs.Common.{◌≡◌, length}
use Rattle.start.proofs.Walks.{Walking}
use Rattle.start.proofs.walk.Given as goal

abbrev pub invariant-loop-i : goal.invariant-loop-i
invariant-loop-i g l = Walking l.matrix.times.now l.matrix.n l.mask l.round l.last.0 l.i × (length l.mask ≡ length l.initial.mask)
