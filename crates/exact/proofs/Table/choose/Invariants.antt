use Rattle.exact.proofs.Choices.{Choosing}
use Rattle.exact.proofs.Table.choose.Given as goal

abbrev pub invariant-loop-j : goal.invariant-loop-j
invariant-loop-j l = Choosing l.self.matrix.times.now l.self.matrix.n l.set l.last.0 l.k.0 l.best l.j-iterator.left
