use Rattle.std.proofs.Common.{arith}
use lib.Arith.{digits_lt}
use Rattle.rules.specs.Sheets.{triangle_leg}
use Rattle.sheet_plan.specs.Load.{triangle_in}
use Rattle.sheet_plan.proofs.LoadLaws.{cell_filled}
use Rattle.sheet_plan.proofs.load_matrix.Goals as goal

pub loop-b-preserved : goal.loop-b-preserved
loop-b-preserved c =
    cell_filled c.args.n (triangle_leg c.args.n (triangle_in c.args.n c.args.s.now)) c.loop-b.m c.loop-a.a c.loop-b.b c.cell.result c.loop-b-test.true
    (omega (arith, digits_lt c.loop-a-test.true c.loop-b-test.true, c.loop-b.auto.m, c.requires)) c.cell.ensures c.loop-b.invariant
