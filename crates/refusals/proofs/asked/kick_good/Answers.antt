use native.Mathlib.Omega.{arith}
use Rattle.refusals.proofs.NumberLaws.{kind_beyond, draw_tells}
use Rattle.refusals.proofs.asked.kick_good.Goals as goal

pub returns-then-kind-gt2 : goal.returns-then-kind-gt2
returns-then-kind-gt2 c =
    let a = c.args in
    kind_beyond a.kind a.draw c.if-kind-gt2.true

pub returns : goal.returns
returns c =
    let a = c.args in
    draw_tells a.kind a.draw (omega (arith, c.if-kind-gt2.false))
