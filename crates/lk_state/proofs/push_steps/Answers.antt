use Prim.Native.Nat.{◌<◌}
use mathlib.Core.Path.{refl, ◌∙◌}
use native.Mathlib.Omega.{arith}
use Rattle.std.proofs.lemmas.List.{length-take, get_or-take}
use Rattle.rules.specs.Queue.{push_all}
use Rattle.queue.proofs.SameLaws.{queue_stays, queue_through}
use Rattle.lk_state.specs.Stacks.{stops_in}
use Rattle.lk_state.proofs.StackLaws.{push_word}
use Rattle.lk_state.proofs.push_steps.Goals as goal

pub loop-w-init : goal.loop-w-init
unfolding push_all stops_in
loop-w-init c = (queue_stays c.args.queue.now, (refl, refl))

pub loop-w-preserved : goal.loop-w-preserved
loop-w-preserved c =
    let lp = c.loop-w in
    let p = c.push_two.ensures in
    let low : lp.w-index < c.args.len = omega (arith, c.loop-w-test.true, length-take c.args.len c.args.steps.now) in
    let pushed = rw (get_or-take c.args.len c.args.steps.now lp.w-index 0 low) at p.waits.is in
    (queue_through lp.invariant.0 p.same, (p.waits.head_is ∙ lp.invariant.1.0, push_word c.args.steps.now lp.w-index _ _ _ lp.invariant.1.1 pushed))
