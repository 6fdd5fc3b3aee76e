use Rattle.std.proofs.Common.{arith}
use Rattle.exact.proofs.Cells.{cell_small, via_is}
use Rattle.exact.proofs.Table.via.Goals as goal

pub overflow_add-result : goal.overflow_add-result
overflow_add-result c = let s = c.requires.stops in
    omega (arith, c.dist.ensures.small, cell_small c.args.self.now.right c.requires.there s.1 s.2)

pub returns : goal.returns
returns c = let s = c.requires.stops in
    via_is c.args.self.now.right c.requires.there s.1 s.2 c.dist.ensures.is c.dist.ensures.small
