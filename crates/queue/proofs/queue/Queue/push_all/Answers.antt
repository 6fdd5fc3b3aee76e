use mathlib.Core.Path.{◌∙◌}
use native.Mathlib.Omega.{arith}
use Rattle.queue.proofs.PushLaws.{push_turn, push_done}
use Rattle.queue.proofs.SameLaws.{queue_through}
use Rattle.queue.proofs.queue.Queue.push_all.Goals as goal

pub loop-v-preserved : goal.loop-v-preserved
loop-v-preserved c =
    let lp = c.loop-v in
    let p = c.push.ensures in
    (queue_through lp.invariant.0 p.same, (p.waits.head_is ∙ lp.invariant.1.0, (omega (arith, c.loop-v-test.true), push_turn _ _ c.args.stops.now lp.v-index _ c.loop-v-test.true p.waits.is lp.invariant.1.1.1)))

pub returns-clause-waits : goal.returns-clause-waits
returns-clause-waits c =
    let lp = c.loop-v in
    record { is = push_done _ c.args.stops.now lp.v-index _ c.loop-v-test.false lp.invariant.1.1.1; head_is = lp.invariant.1.0; line = lp.self.in_line }
