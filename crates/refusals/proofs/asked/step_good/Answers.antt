use native.Mathlib.Omega.{arith}
use Rattle.refusals.proofs.NumberLaws.{step_beyond, step_plain, step_alpha}
use Rattle.refusals.proofs.asked.step_good.Goals as goal

pub returns-then-step-gt2 : goal.returns-then-step-gt2
returns-then-step-gt2 c =
    let a = c.args in
    step_beyond a.ka a.step c.if-step-gt2.true

pub returns-then-step-eq0 : goal.returns-then-step-eq0
returns-then-step-eq0 c =
    let a = c.args in
    step_plain a.ka a.step (omega (arith, c.if-step-gt2.false)) c.if-step-eq0.true

pub returns : goal.returns
returns c =
    let a = c.args in
    step_alpha a.ka a.step (omega (arith, c.if-step-gt2.false)) c.if-step-eq0.false
