use Rattle.exact.proofs.Rows.{Rowing}
use Rattle.exact.proofs.Table.next_row.Given as goal

abbrev pub invariant-loop-k : goal.invariant-loop-k
invariant-loop-k l = Rowing l.self.matrix.times.now l.self.matrix.n l.self.sets l.row l.k-iterator.left
