use Rattle.exact.proofs.Backs.{Going}
use Rattle.exact.proofs.Table.walk_back.Given as goal

abbrev pub invariant-loop-i : goal.invariant-loop-i
invariant-loop-i l = Going l.self.matrix.times.now l.self.matrix.n l.round l.left l.last.0 l.time l.i
