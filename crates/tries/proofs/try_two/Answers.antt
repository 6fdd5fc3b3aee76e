use native.Mathlib.Omega.{arith}
use Rattle.tries.specs.Picks.{legs_in}
use Rattle.tries.proofs.PickLaws.{chosen_is}
use Rattle.tries.proofs.TryLaws.{two_after, two_gains, two_fails}
use Rattle.tries.proofs.try_two.Goals as goal

pub returns-then-after : goal.returns-then-after
returns-then-after c = let a = c.args in chosen_is (two_after (legs_in a.plan.now) a.t1.0 a.t3.0 a.t4.0 a.g2 a.after c.if-after.true) (c.no_move.ensures a.plan.now.matrix.n (omega (arith, c.requires.tries.low1)))

pub returns-then-gain-gt0 : goal.returns-then-gain-gt0
returns-then-gain-gt0 c = let a = c.args in record { is = two_gains (legs_in a.plan.now) a.t1.0 a.t3.0 a.t4.0 a.g2 a.after c.closed-gain.result c.if-after.false c.closed-gain.ensures c.if-gain-gt0.true; low3 = c.requires.tries.low3; low4 = c.requires.tries.low4; low5 = c.requires.tries.low4; low6 = c.requires.tries.low4 }

pub returns : goal.returns
returns c = let a = c.args in chosen_is (two_fails (legs_in a.plan.now) a.t1.0 a.t3.0 a.t4.0 a.g2 a.after c.closed-gain.result c.if-after.false c.closed-gain.ensures c.if-gain-gt0.false) (c.no_move-2.ensures a.plan.now.matrix.n (omega (arith, c.requires.tries.low1)))
