use mathlib.Core.Path.{sym, ◌∙◌}
use native.Mathlib.Omega.{arith}
use borrow.Author.Count.{below_more}
use Rattle.refusals.proofs.EntriesLaws.{lists_pass, list_fails}
use Rattle.refusals.proofs.lists.list_good.Goals as goal

pub loop-v-init : goal.loop-v-init
loop-v-init c = (omega arith, λ x h. absurd (omega arith))

pub loop-v-preserved : goal.loop-v-preserved
loop-v-preserved c = (omega (arith, c.loop-v-test.true), below_more _ _ c.loop-v.invariant.1 (sym c.entries_good.ensures ∙ c.if-not-entries_good.false))

pub returns-then-not-entries_good : goal.returns-then-not-entries_good
returns-then-not-entries_good c =
    let a = c.args in
    list_fails a.entries.now a.count a.n c.loop-v.v c.loop-v-test.true (sym c.entries_good.ensures ∙ c.if-not-entries_good.true)

pub returns : goal.returns
returns c =
    let a = c.args in
    lists_pass a.entries.now a.count a.n (λ x h. c.loop-v.invariant.1 x (omega (arith, c.loop-v-test.false)))
