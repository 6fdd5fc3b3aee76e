use Rattle.std.proofs.Common.{arith}
use Rattle.start.proofs.Blocks.{by_blocks, by_none}
use Rattle.start.proofs.BlockedScan.nearest.Goals as goal

pub returns-then-best : goal.returns-then-best
returns-then-best c = let s = c.args.row.now in
    by_none s.times.now s.mask.now s.fits c.loop-i.invariant.1 (omega arith) (omega arith) (omega arith) c.first_left.ensures

pub returns : goal.returns
returns c = let s = c.args.row.now in
    let b = c.loop-i.invariant.1 in
    by_blocks s.times.now s.mask.now s.fits b (omega arith) (omega arith) (omega (arith, b.top)) c.first_at.ensures
