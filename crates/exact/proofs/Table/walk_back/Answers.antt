use Rattle.std.proofs.Common.{◌-◌, refl, ap, arith}
use Rattle.exact.proofs.Backs.{going_starts, going_in, going_some, going_next, going_done}
use Rattle.exact.proofs.Table.walk_back.Goals as goal

pub loop-i-init : goal.loop-i-init
loop-i-init c = let t = c.args.self.now in
    going_starts t.matrix.times.now t.matrix.n t.sized.low c.args.round.now c.requires.round_len (t.sets - 1) (ap (λ x. x - 1) c.requires.all)

pub choose-k-requires-clause-some : goal.choose-k-requires-clause-some
choose-k-requires-clause-some c = going_some c.loop-i.invariant (omega arith)

pub overflow_sub-left-in-loop-i : goal.overflow_sub-left-in-loop-i
overflow_sub-left-in-loop-i c = omega (arith, c.alone-left.ensures, going_in c.loop-i.invariant c.choose-k.ensures)

pub loop-i-preserved : goal.loop-i-preserved
loop-i-preserved c = going_next c.loop-i.invariant c.choose-k.ensures _ c.alone-left.ensures _ c.dist-time.ensures.is c.dist-time.ensures.small _ refl

pub returns : goal.returns
returns c = going_done c.loop-i.invariant (omega arith) _ (omega (arith, c.dist-home.ensures.is))
