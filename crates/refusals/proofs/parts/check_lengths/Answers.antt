use mathlib.Core.Path.{sym, ◌∙◌}
use native.Mathlib.Omega.{arith}
use Rattle.refusals.proofs.SizeLaws.{plan_short, some_short, room_short, none_short}
use Rattle.refusals.proofs.parts.check_lengths.Goals as goal

pub returns-then-not-plan : goal.returns-then-not-plan
returns-then-not-plan c =
    let a = c.args in
    plan_short a.n a.k a.ka a.cells a.near a.alpha a.lengths.now a.words (sym c.plan_long-plan.ensures ∙ c.if-not-plan.true)

pub returns-then-not-all_long : goal.returns-then-not-all_long
returns-then-not-all_long c =
    let a = c.args in
    some_short a.n a.k a.ka a.cells a.near a.alpha a.lengths.now a.words (sym c.plan_long-plan.ensures ∙ c.if-not-plan.false) (sym c.all_long.ensures ∙ c.if-not-all_long.true)

pub returns-then-words-lt512 : goal.returns-then-words-lt512
returns-then-words-lt512 c =
    let a = c.args in
    room_short a.n a.k a.ka a.cells a.near a.alpha a.lengths.now a.words (sym c.plan_long-plan.ensures ∙ c.if-not-plan.false) (sym c.all_long.ensures ∙ c.if-not-all_long.false) (omega (arith, c.if-words-lt512.true))

pub returns : goal.returns
returns c =
    let a = c.args in
    none_short a.n a.k a.ka a.cells a.near a.alpha a.lengths.now a.words (sym c.plan_long-plan.ensures ∙ c.if-not-plan.false) (sym c.all_long.ensures ∙ c.if-not-all_long.false) (omega (arith, c.if-words-lt512.false))
