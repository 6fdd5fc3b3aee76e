use mathlib.Core.Path.{refl, sym, ◌∙◌}
use native.Mathlib.Omega.{arith}
use Rattle.std.proofs.lemmas.Result.{err_from_is_err_and}
use Rattle.rules.specs.Memory.{Lent}
use Rattle.numbers.proofs.RefusalLaws.{refused_some}
use Rattle.refusals.specs.Lending.{lending}
use Rattle.refusals.specs.Lents.{carried_in}
use Rattle.refusals.proofs.PassLaws.{load_passed}
use Rattle.planner.proofs.PromiseLaws.{load_refuses, load_does}
use Rattle.planner.proofs.load.Goals as goal

pub returns-in_err-check_load : goal.returns-in_err-check_load
returns-in_err-check_load c =
    let a = c.args in
    let l : Lent = lending a.n a.k a.ka a.matrix.now a.near.now a.alpha.now a.round.now a.places.now a.queue.now a.flags.now a.scratch.now a.journal.now in
    let p = err_from_is_err_and c.from_residual.result c.from_residual.ensures.1 in
    let some = refused_some c.in_err-check_load.field-0.0 in
    rw (p.1, p.2) (load_refuses l (carried_in a.state) a.start.now _ c.in_err-check_load.ensures (λ z. omega (arith, z, some)))

pub invariant_of-matrix : goal.invariant_of-matrix
invariant_of-matrix c =
    let a = c.args in
    let l : Lent = lending a.n a.k a.ka a.matrix.now a.near.now a.alpha.now a.round.now a.places.now a.queue.now a.flags.now a.scratch.now a.journal.now in
    let p = load_passed l a.start.now (sym c.in_ok-check_load.ensures) in
    record { square = p.0.square }

pub load_round-time-requires : goal.load_round-time-requires
load_round-time-requires c =
    let a = c.args in
    let l : Lent = lending a.n a.k a.ka a.matrix.now a.near.now a.alpha.now a.round.now a.places.now a.queue.now a.flags.now a.scratch.now a.journal.now in
    let p = load_passed l a.start.now (sym c.in_ok-check_load.ensures) in
    record { size = sym p.1.0; is_round = rw p.1.0 p.1.1; round_fits = p.0.round_long ∙ sym p.1.0; places_fit = p.0.places_long ∙ sym p.1.0; flags_fit = p.0.flags_long ∙ sym p.1.0 }

pub returns : goal.returns
returns c =
    let a = c.args in
    let l : Lent = lending a.n a.k a.ka a.matrix.now a.near.now a.alpha.now a.round.now a.places.now a.queue.now a.flags.now a.scratch.now a.journal.now in
    let u = c.load_round-time in
    let after : Lent = lending a.n a.k a.ka a.matrix.now a.near.now a.alpha.now u.new.round u.new.places a.queue.now u.new.flags a.scratch.now a.journal.now in
    load_does l (carried_in a.state) a.start.now 0 c.in_ok-check_load.ensures refl after (carried_in c.empty-after.result) u.result c.empty-after.ensures u.ensures
