use Rattle.start.specs.Mask.{masked}
use Rattle.start.specs.Near.{Lowest}
use Rattle.start.proofs.Row.lowest.Given as goal

abbrev pub invariant-loop-j : goal.invariant-loop-j
invariant-loop-j l = Lowest (masked l.self.times.now l.self.mask.now) l.i l.j l.best
