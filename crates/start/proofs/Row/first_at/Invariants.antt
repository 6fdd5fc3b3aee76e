use Rattle.start.specs.Mask.{masked}
use Rattle.start.proofs.Blocks.{Missed}
use Rattle.start.proofs.Row.first_at.Given as goal

abbrev pub invariant-loop-j : goal.invariant-loop-j
invariant-loop-j l = Missed (masked l.self.times.now l.self.mask.now) l.i l.v l.j
