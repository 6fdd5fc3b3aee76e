use Rattle.std.proofs.Common.{arith}
use Rattle.laws.proofs.StartNumberLaws.{start_zero}
use Rattle.start.proofs.Walks.{blank}
use Rattle.start.proofs.start.Goals as goal

pub invariant_of-walk : goal.invariant_of-walk
invariant_of-walk g c = let s = c.args in
    let x = start_zero s.n s.matrix.now s.round.now (omega (arith, c.in_ok-check.ensures)) in record { square = record { few = x.few; cells = x.cells } }

pub walk-requires : goal.walk-requires
walk-requires g c = let s = c.args in
    let x = start_zero s.n s.matrix.now s.round.now (omega (arith, c.in_ok-check.ensures)) in record { some = x.some; blank = blank s.n x.few; round_len = x.long }
