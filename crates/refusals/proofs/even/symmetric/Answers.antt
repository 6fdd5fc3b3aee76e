use mathlib.Core.Path.{sym, ◌∙◌}
use native.Mathlib.Omega.{arith}
use borrow.Author.Count.{below_more}
use Rattle.rules.specs.Plan.{leg_in}
use Rattle.refusals.proofs.EvenRowLaws.{rows_pass, rows_fail}
use Rattle.refusals.proofs.even.symmetric.Goals as goal

pub loop-a-init : goal.loop-a-init
loop-a-init c = (omega arith, λ x h. absurd (omega arith))

pub loop-a-preserved : goal.loop-a-preserved
loop-a-preserved c = (omega (arith, c.loop-a-test.true), below_more _ _ c.loop-a.invariant.1 (sym c.row_even.ensures ∙ c.if-not-row_even.false))

pub returns-then-not-row_even : goal.returns-then-not-row_even
returns-then-not-row_even c =
    let a = c.args in
    rows_fail (leg_in a.matrix.now.n a.matrix.now.times.now) a.matrix.now.n c.loop-a.a c.loop-a-test.true (sym c.row_even.ensures ∙ c.if-not-row_even.true)

pub returns : goal.returns
returns c =
    let a = c.args in
    rows_pass (leg_in a.matrix.now.n a.matrix.now.times.now) a.matrix.now.n (λ x h. c.loop-a.invariant.1 x (omega (arith, c.loop-a-test.false)))
