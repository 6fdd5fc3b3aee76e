use Rattle.exact.proofs.Fills.{Filling}
use Rattle.exact.proofs.fill.Given as goal

abbrev pub invariant-loop-s : goal.invariant-loop-s
invariant-loop-s l = Filling l.matrix.times.now l.matrix.n l.initial.table l.table l.s
