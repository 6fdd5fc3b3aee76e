use Rattle.std.proofs.Common.{refl, arith}
use Rattle.exact.proofs.Numbers.{ready}
use Rattle.exact.proofs.Solves.{alone_done, walked_done}
use Rattle.exact.proofs.solve_tsp_exact.Goals as goal

pub returns-then-n-eq1 : goal.returns-then-n-eq1
returns-then-n-eq1 c = let s = c.args in
    let r = ready s.n s.matrix.now s.round.now s.table.now (omega (arith, c.in_ok-check.ensures)) in
    record {
      says = omega (arith, c.in_ok-check.ensures);
      refused = λ z. absurd (z refl);
      done = λ z. alone_done s.matrix.now s.n r.low r.high (λ i. omega (arith, c.type_inv.matrix i)) c.if-n-eq1.true s.table.now s.round.now r.long;
    }

pub returns : goal.returns
returns c = let s = c.args in
    let r = ready s.n s.matrix.now s.round.now s.table.now (omega (arith, c.in_ok-check.ensures)) in
    record {
      says = omega (arith, c.in_ok-check.ensures);
      refused = λ z. absurd (z refl);
      done = λ z. walked_done s.matrix.now s.n r.low r.high (λ i. omega (arith, c.type_inv.matrix i)) (omega (arith, c.if-n-eq1.false)) c.run.ensures.walked c.run.ensures.filled;
    }
