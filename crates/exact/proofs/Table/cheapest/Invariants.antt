use Rattle.exact.proofs.Cells.{Scan}
use Rattle.exact.proofs.Table.cheapest.Given as goal

abbrev pub invariant-loop-j : goal.invariant-loop-j
invariant-loop-j l = Scan l.self.matrix.times.now l.self.matrix.n l.set l.k.0 l.least l.j-iterator.left
