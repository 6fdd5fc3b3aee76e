use Rattle.std.proofs.Common.{arith}
use Rattle.exact.proofs.Cells.{shifted}
use Rattle.exact.proofs.Solves.{words_left}
use Rattle.exact.proofs.run.Goals as goal

pub invariant_of-full : goal.invariant_of-full
invariant_of-full c = let z = c.requires.sized in
    let all = shifted c.args.matrix.n z.high in
    record {
      sized = record { low = z.low; high = z.high; square = z.square; room = omega (arith, z.room, c.fill.auto.table) };
      few = omega (arith, all);
      right = rw all (words_left c.args.table.now z.low c.fill.ensures);
    }
