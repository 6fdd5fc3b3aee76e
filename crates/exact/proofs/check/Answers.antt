use Rattle.std.proofs.Common.{sym, arith}
use Rattle.exact.proofs.Cells.{shifted_rows}
use Rattle.exact.proofs.Numbers.{outside, odd, small, all_fit}
use Rattle.exact.proofs.check.Goals as goal

pub returns-then-n-lt1 : goal.returns-then-n-lt1
returns-then-n-lt1 c = let s = c.args in
    sym (outside s.n s.matrix.now s.round.now s.table.now c.then-n-lt1.either)

pub returns-then-matrix-n : goal.returns-then-matrix-n
returns-then-matrix-n c = let s = c.args in
    sym (odd s.n s.matrix.now s.round.now s.table.now (omega arith) (omega arith) c.then-matrix-n.either)

pub returns-then-table-n : goal.returns-then-table-n
returns-then-table-n c = let s = c.args in
    sym (small s.n s.matrix.now s.round.now s.table.now (omega arith) (omega arith) (omega arith) (omega arith) (omega (arith, shifted_rows s.n (omega arith))))

pub returns : goal.returns
returns c = let s = c.args in
    sym (all_fit s.n s.matrix.now s.round.now s.table.now (omega arith) (omega arith) (omega arith) (omega arith) (omega (arith, shifted_rows s.n (omega arith))))
