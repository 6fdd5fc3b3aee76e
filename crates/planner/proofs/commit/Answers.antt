use mathlib.Core.Path.{refl}
use native.Mathlib.Omega.{arith}
use Rattle.std.proofs.lemmas.Result.{err_from_is_err_and}
use Rattle.rules.specs.Memory.{Lent}
use Rattle.numbers.proofs.RefusalLaws.{refused_some}
use Rattle.refusals.specs.Lending.{lending}
use Rattle.refusals.specs.Lents.{carried_in}
use Rattle.planner.proofs.PromiseLaws.{commit_refuses, commit_does}
use Rattle.planner.proofs.commit.Goals as goal

pub returns-in_err-check_call : goal.returns-in_err-check_call
returns-in_err-check_call c =
    let a = c.args in
    let l : Lent = lending a.n a.k a.ka a.matrix.now a.near.now a.alpha.now a.round.now a.places.now a.queue.now a.flags.now a.scratch.now a.journal.now in
    let p = err_from_is_err_and c.from_residual.result c.from_residual.ensures.1 in
    let some = refused_some c.in_err-check_call.field-0.0 in
    rw (p.1, p.2) (commit_refuses l (carried_in a.state) _ c.in_err-check_call.ensures (λ z. omega (arith, z, some)))

pub returns : goal.returns
returns c =
    let a = c.args in
    let l : Lent = lending a.n a.k a.ka a.matrix.now a.near.now a.alpha.now a.round.now a.places.now a.queue.now a.flags.now a.scratch.now a.journal.now in
    commit_does l (carried_in a.state) 0 c.in_ok-check_call.ensures refl
