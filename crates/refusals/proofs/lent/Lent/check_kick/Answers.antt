use mathlib.Core.Path.{refl, sym, ap, ◌∙◌}
use mathlib.Core.Bool.{Bool}
use native.Mathlib.Omega.{arith}
use Rattle.rules.specs.Numbers.{verdict, call_checks}
use Rattle.laws.proofs.JournalWordLaws.{good_room}
use Rattle.std.proofs.lemmas.Result.{err_from_is_err_and}
use Rattle.numbers.proofs.RefusalLaws.{refused_some}
use Rattle.refusals.specs.Lents.{lent_in, carried_in}
use Rattle.refusals.proofs.PassLaws.{call_passed}
use Rattle.refusals.proofs.NumberLaws.{kick_refused, kick_crowded, kick_free}
use Rattle.refusals.proofs.lent.Lent.check_kick.Goals as goal

pub returns-in_err-check_call : goal.returns-in_err-check_call
returns-in_err-check_call c =
    let a = c.args in
    let l = lent_in a.self.now in
    let s = carried_in a.state in
    let p = err_from_is_err_and c.from_residual.result c.from_residual.ensures.1 in
    let is = c.in_err-check_call.ensures ∙ ap (λ (t : Bool). verdict (call_checks l s t)) c.kick_good.ensures in
    let some = refused_some c.in_err-check_call.field-0.0 in
    rw (p.1, p.2) (kick_refused l s a.kind a.draw _ is (λ z. omega (arith, z, some)))

pub overflow_sub-self : goal.overflow_sub-self
overflow_sub-self c =
    let l = lent_in c.args.self.now in
    let p = call_passed l (carried_in c.args.state) c.kick_good.result (sym c.in_ok-check_call.ensures) in
    omega (arith, good_room l.n l.journal c.args.state.held p.journal)

pub returns-then-self-state-lt30 : goal.returns-then-self-state-lt30
returns-then-self-state-lt30 c =
    let a = c.args in
    let l = lent_in a.self.now in
    let s = carried_in a.state in
    let is = c.in_ok-check_call.ensures ∙ ap (λ (t : Bool). verdict (call_checks l s t)) c.kick_good.ensures in
    kick_crowded l s a.kind a.draw 0 is refl (omega (arith, c.if-self-state-lt30.true))

pub returns : goal.returns
returns c =
    let a = c.args in
    let l = lent_in a.self.now in
    let s = carried_in a.state in
    let is = c.in_ok-check_call.ensures ∙ ap (λ (t : Bool). verdict (call_checks l s t)) c.kick_good.ensures in
    kick_free l s a.kind a.draw 0 is refl (omega (arith, c.if-self-state-lt30.false))
