use Prim.Native.Nat.{ℕ}
use mathlib.Core.Path.{refl, sym, ap, ◌∙◌}
use mathlib.Core.List.{[]}
use native.Mathlib.Omega.{arith}
use Rattle.std.proofs.lemmas.Result.{err_from_is_err_and}
use Rattle.numbers.proofs.RefusalLaws.{refused_some}
use Rattle.refusals.specs.Refusing.{state_good}
use Rattle.refusals.specs.Lents.{lent_in, carried_in}
use Rattle.refusals.proofs.PartLaws.{call_lent}
use Rattle.refusals.proofs.StateLaws.{state_is}
use Rattle.refusals.proofs.PassLaws.{lent_passed}
use Rattle.refusals.proofs.NumberLaws.{call_refused, call_good, call_odd}
use Rattle.refusals.proofs.lent.Lent.check_call.Goals as goal

pub returns-in_err-check_lent : goal.returns-in_err-check_lent
returns-in_err-check_lent c =
    let l = lent_in c.args.self.now in
    let p = err_from_is_err_and c.from_residual.result c.from_residual.ensures.1 in
    let is = c.in_err-check_lent.ensures ∙ call_lent l c.args.told in
    let some = refused_some c.in_err-check_lent.field-0.0 in
    rw (p.1, p.2) (call_refused l (carried_in c.args.state) c.args.told _ is (λ z. omega (arith, z, some)))

pub state_good-requires : goal.state_good-requires
state_good-requires c =
    let l = lent_in c.args.self.now in
    let p = lent_passed l c.args.told [] (sym (c.in_ok-check_lent.ensures ∙ call_lent l c.args.told)) in
    record { square = rw p.round_long p.square; places_len = p.places_long ∙ sym p.round_long; queue_len = p.queue_long ∙ sym p.round_long; flags_len = p.flags_long ∙ sym p.round_long }

pub returns-then-not-state_good : goal.returns-then-not-state_good
returns-then-not-state_good c =
    let l = lent_in c.args.self.now in
    let s = carried_in c.args.state in
    let is = c.in_ok-check_lent.ensures ∙ call_lent l c.args.told in
    let p = lent_passed l c.args.told [] (sym is) in
    call_odd l s c.args.told 0 is refl (sym (c.state_good.ensures ∙ ap (λ (n : ℕ). state_good n l.matrix l.round l.places l.queue l.flags l.journal s) p.round_long ∙ state_is l s) ∙ c.if-not-state_good.true)

pub returns : goal.returns
returns c =
    let l = lent_in c.args.self.now in
    let s = carried_in c.args.state in
    let is = c.in_ok-check_lent.ensures ∙ call_lent l c.args.told in
    let p = lent_passed l c.args.told [] (sym is) in
    call_good l s c.args.told 0 is refl (sym (c.state_good.ensures ∙ ap (λ (n : ℕ). state_good n l.matrix l.round l.places l.queue l.flags l.journal s) p.round_long ∙ state_is l s) ∙ c.if-not-state_good.false)
