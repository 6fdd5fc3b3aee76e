use mathlib.Core.Path.{◌≡◌}
use native.Mathlib.Omega.{arith}
use Rattle.queue.proofs.LineLaws.{line_cleared}
use Rattle.queue.proofs.clear_queue.Goals as goal

pub loop-left-smaller : goal.loop-left-smaller
loop-left-smaller c = omega (arith, c.pop_front-taken.ensures.count_is)

pub returns : goal.returns
returns c =
    let lp = c.loop-left in
    let none : lp.left.count ≡ 0 = omega (arith, c.loop-left-test.false) in
    line_cleared c.args.queue.now lp.flags lp.left.head lp.left.count lp.invariant none
