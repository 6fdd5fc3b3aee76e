use mathlib.Core.Path.{sym}
use native.Mathlib.Omega.{arith}
use Rattle.laws.proofs.FailLaws.{long_fails}
use Rattle.refusals.proofs.SizeLaws.{long_each}
use Rattle.refusals.proofs.sizes.all_long.Goals as goal

pub returns-then-lengths-i : goal.returns-then-lengths-i
returns-then-lengths-i c = sym (long_fails c.args.n c.args.lengths.now c.loop-i.i (omega (arith, c.loop-i-test.true, c.told-lengths)) c.if-lengths-i.true)

pub returns : goal.returns
returns c = long_each c.args.n c.args.lengths.now (λ x h. c.loop-i.invariant x (omega (arith, h, c.loop-i-test.false, c.told-lengths)))
