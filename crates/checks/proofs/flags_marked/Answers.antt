use native.Mathlib.Omega.{arith}
use borrow.Author.Count.{below_more}
use Rattle.checks.proofs.MarkLaws.{front_same, front_differs}
use borrow.Author.Rules.{rules}
use Rattle.checks.proofs.flags_marked.Goals as goal

pub loop-i-init : goal.loop-i-init
loop-i-init c = (search rules, λ k h. absurd (omega arith))

pub returns-then-flags-i : goal.returns-then-flags-i
returns-then-flags-i c =
    front_differs c.args.flags.now c.args.marks.now c.requires c.loop-i.i c.loop-i-test.true c.if-flags-i.true

pub loop-i-preserved : goal.loop-i-preserved
loop-i-preserved c = (search rules, below_more _ _ c.loop-i.invariant.1 c.if-flags-i.false)

pub returns : goal.returns
returns c = front_same c.args.flags.now c.args.marks.now c.requires (λ k h. c.loop-i.invariant.1 k (omega (arith, c.loop-i-test.false)))
