use mathlib.Core.Path.{refl, sym, ◌∙◌}
use mathlib.Core.Bool.{true}
use native.Mathlib.Omega.{arith}
use Rattle.std.proofs.lemmas.Result.{err_from_is_err_and}
use Rattle.rules.specs.Memory.{Lent}
use Rattle.numbers.proofs.RefusalLaws.{refused_some}
use Rattle.refusals.specs.Lending.{lending}
use Rattle.refusals.specs.Lents.{carried_in}
use Rattle.refusals.proofs.PassLaws.{call_passed}
use Rattle.planner.proofs.PromiseLaws.{undo_refuses, undo_does}
use Rattle.planner.proofs.undo.Goals as goal

pub returns-in_err-check_call : goal.returns-in_err-check_call
returns-in_err-check_call c =
    let a = c.args in
    let l : Lent = lending a.n a.k a.ka a.matrix.now a.near.now a.alpha.now a.round.now a.places.now a.queue.now a.flags.now a.scratch.now a.journal.now in
    let p = err_from_is_err_and c.from_residual.result c.from_residual.ensures.1 in
    let some = refused_some c.in_err-check_call.field-0.0 in
    rw (p.1, p.2) (undo_refuses l (carried_in a.state) _ c.in_err-check_call.ensures (λ z. omega (arith, z, some)))

pub invariant_of-matrix : goal.invariant_of-matrix
invariant_of-matrix c =
    let a = c.args in
    let l : Lent = lending a.n a.k a.ka a.matrix.now a.near.now a.alpha.now a.round.now a.places.now a.queue.now a.flags.now a.scratch.now a.journal.now in
    let p = call_passed l (carried_in a.state) true (sym c.in_ok-check_call.ensures) in
    record { square = p.lent.square }

pub invariant_of-track : goal.invariant_of-track
invariant_of-track c =
    let a = c.args in
    let l : Lent = lending a.n a.k a.ka a.matrix.now a.near.now a.alpha.now a.round.now a.places.now a.queue.now a.flags.now a.scratch.now a.journal.now in
    let p = call_passed l (carried_in a.state) true (sym c.in_ok-check_call.ensures) in
    record { tied = p.tied; good = rw p.lent.round_long p.journal }

pub invariant_of-line : goal.invariant_of-line
invariant_of-line c =
    let a = c.args in
    let l : Lent = lending a.n a.k a.ka a.matrix.now a.near.now a.alpha.now a.round.now a.places.now a.queue.now a.flags.now a.scratch.now a.journal.now in
    let p = call_passed l (carried_in a.state) true (sym c.in_ok-check_call.ensures) in
    record { in_line = p.line }

pub undo_on-recounted-requires : goal.undo_on-recounted-requires
undo_on-recounted-requires c =
    let a = c.args in
    let l : Lent = lending a.n a.k a.ka a.matrix.now a.near.now a.alpha.now a.round.now a.places.now a.queue.now a.flags.now a.scratch.now a.journal.now in
    let p = call_passed l (carried_in a.state) true (sym c.in_ok-check_call.ensures) in
    record { size = sym p.lent.round_long; queue_fits = p.lent.queue_long ∙ sym p.lent.round_long; scratch_fits = p.lent.scratch_long ∙ sym p.lent.round_long }

pub returns : goal.returns
returns c =
    let a = c.args in
    let l : Lent = lending a.n a.k a.ka a.matrix.now a.near.now a.alpha.now a.round.now a.places.now a.queue.now a.flags.now a.scratch.now a.journal.now in
    let u = c.undo_on-recounted in
    let t = u.new.track in
    let q = u.new.queue in
    let same = u.ensures.same_track in
    let line = u.ensures.same_queue in
    let round = c.round-1.given.1.1 (sym same.same_stops) in
    let places = c.places-1.given.1.1 (sym same.same_places) in
    let journal = c.journal-1.given.1.1 (sym same.same_journal) ∙ u.ensures.journal_stays in
    let words = c.queue-1.given.1.1 (sym line.same_words) ∙ u.ensures.words_stay in
    let flags = c.flags-1.given.1.1 (sym line.same_flags) in
    let after : Lent = lending a.n a.k a.ka a.matrix.now a.near.now a.alpha.now t.stops.now t.places.now a.queue.now q.flags.now u.new.scratch a.journal.now in
    rw (round, places, words, flags, journal) (undo_does l (carried_in a.state) 0 c.in_ok-check_call.ensures refl after (carried_in c.empty-after.result) u.result c.empty-after.ensures u.ensures.lies)
