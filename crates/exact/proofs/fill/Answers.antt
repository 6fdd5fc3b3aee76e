use Rattle.std.proofs.Common.{length-take, arith}
use Rattle.exact.proofs.Cells.{shifted}
use Rattle.exact.proofs.Fills.{fill_next, fill_done, row_cut}
use Rattle.exact.proofs.fill.Goals as goal

pub loop-s-preserved : goal.loop-s-preserved
loop-s-preserved c = fill_next c.requires c.loop-s.invariant (omega (arith, shifted c.args.matrix.n c.requires.high)) (simp length-take (omega (arith, c.requires.high))) (row_cut c.next_row-row.ensures) c.put_row.ensures

pub returns : goal.returns
returns c = fill_done c.requires c.loop-s.invariant (omega (arith, shifted c.args.matrix.n c.requires.high, c.loop-s.invariant.few))
