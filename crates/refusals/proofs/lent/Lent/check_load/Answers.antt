use Prim.Native.Nat.{ℕ}
use mathlib.Core.Path.{refl, sym, ap, ◌∙◌}
use mathlib.Core.Bool.{true}
use mathlib.Core.List.{[], ◌∷◌}
use native.Mathlib.Omega.{arith}
use lib.ListN.{length}
use Rattle.rules.specs.Ring.{is_round}
use Rattle.std.proofs.lemmas.Result.{err_from_is_err_and}
use Rattle.numbers.proofs.RefusalLaws.{refused_some}
use Rattle.refusals.specs.Lents.{lent_in}
use Rattle.refusals.proofs.PartLaws.{lent_is}
use Rattle.refusals.proofs.PassLaws.{lent_passed, last_length}
use Rattle.refusals.proofs.NumberLaws.{load_refused, load_good, load_odd}
use Rattle.refusals.proofs.lent.Lent.check_load.Goals as goal

pub returns-in_err-check_lent : goal.returns-in_err-check_lent
returns-in_err-check_lent c =
    let l = lent_in c.args.self.now in
    let start = c.args.start.now in
    let p = err_from_is_err_and c.from_residual.result c.from_residual.ensures.1 in
    let is = c.in_err-check_lent.ensures ∙ lent_is l true (length start ∷ []) in
    let some = refused_some c.in_err-check_lent.field-0.0 in
    rw (p.1, p.2) (load_refused l start _ is (λ z. omega (arith, z, some)))

pub is_round-requires : goal.is_round-requires
is_round-requires c =
    let l = lent_in c.args.self.now in
    let start = c.args.start.now in
    let z = sym (c.in_ok-check_lent.ensures ∙ lent_is l true (length start ∷ [])) in
    let p = lent_passed l true (length start ∷ []) z in
    let s = last_length l true (length start) z in
    record { round_nonzero = omega (arith, p.two); round_len_bound = omega (arith, p.few) }

pub returns-then-not-is_round : goal.returns-then-not-is_round
returns-then-not-is_round c =
    let l = lent_in c.args.self.now in
    let start = c.args.start.now in
    let is = c.in_ok-check_lent.ensures ∙ lent_is l true (length start ∷ []) in
    let s = last_length l true (length start) (sym is) in
    load_odd l start 0 is refl (sym (c.is_round.ensures ∙ ap (λ (n : ℕ). is_round n start) s) ∙ c.if-not-is_round.true)

pub returns : goal.returns
returns c =
    let l = lent_in c.args.self.now in
    let start = c.args.start.now in
    let is = c.in_ok-check_lent.ensures ∙ lent_is l true (length start ∷ []) in
    let s = last_length l true (length start) (sym is) in
    load_good l start 0 is refl (sym (c.is_round.ensures ∙ ap (λ (n : ℕ). is_round n start) s) ∙ c.if-not-is_round.false)
