use Rattle.std.proofs.Common.{arith}
use Rattle.start.specs.Mask.{masked}
use Rattle.start.proofs.Blocks.{lowest_next}
use Rattle.start.proofs.Row.lowest.Goals as goal

pub loop-j-preserved : goal.loop-j-preserved
loop-j-preserved c = let s = c.args.self.now in
    lowest_next (masked s.times.now s.mask.now) c.loop-j.auto.j (omega (arith, c.time.ensures)) (omega (arith, c.min-best.ensures, c.time.ensures)) c.loop-j.invariant
