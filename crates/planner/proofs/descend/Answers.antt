use mathlib.Core.Path.{refl, sym, ap, ◌∙◌}
use mathlib.Core.Bool.{Bool}
use native.Mathlib.Omega.{arith}
use Rattle.std.proofs.lemmas.Result.{err_from_is_err_and}
use Rattle.rules.specs.Memory.{Lent, Carried}
use Rattle.rules.specs.Numbers.{verdict, call_checks}
use Rattle.descent.specs.Kinds.{step_number, ended_number}
use Rattle.descent.proofs.KindLaws.{step_number_in}
use Rattle.numbers.proofs.RefusalLaws.{refused_some}
use Rattle.refusals.specs.Lending.{lending, carrying}
use Rattle.refusals.specs.Lents.{carried_in}
use Rattle.refusals.proofs.PassLaws.{call_passed}
use Rattle.planner.proofs.DescentLaws.{step_good, descent_room, descent_fits, time_falls, units_left, descend_refuses, descend_does}
use Rattle.planner.proofs.descend.Goals as goal

pub returns-in_err-check_call : goal.returns-in_err-check_call
returns-in_err-check_call c =
    let a = c.args in
    let l : Lent = lending a.n a.k a.ka a.matrix.now a.near.now a.alpha.now a.round.now a.places.now a.queue.now a.flags.now a.scratch.now a.journal.now in
    let s = carried_in a.state in
    let p = err_from_is_err_and c.from_residual.result c.from_residual.ensures.1 in
    let is = c.in_err-check_call.ensures ∙ ap (λ (t : Bool). verdict (call_checks l s t)) c.step_good-told.ensures in
    let some = refused_some c.in_err-check_call.field-0.0 in
    rw (p.1, p.2) (descend_refuses l s a.keeps a.step a.budget _ is (λ z. omega (arith, z, some)))

pub invariant_of-times : goal.invariant_of-times
invariant_of-times c =
    let a = c.args in
    let l : Lent = lending a.n a.k a.ka a.matrix.now a.near.now a.alpha.now a.round.now a.places.now a.queue.now a.flags.now a.scratch.now a.journal.now in
    let s = carried_in a.state in
    let p = call_passed l s c.step_good-told.result (sym c.in_ok-check_call.ensures) in
    record { square = p.lent.square }

pub invariant_of-nears : goal.invariant_of-nears
invariant_of-nears c =
    let a = c.args in
    let l : Lent = lending a.n a.k a.ka a.matrix.now a.near.now a.alpha.now a.round.now a.places.now a.queue.now a.flags.now a.scratch.now a.journal.now in
    let s = carried_in a.state in
    let p = call_passed l s c.step_good-told.result (sym c.in_ok-check_call.ensures) in
    record { few = p.lent.few; listed = p.lent.near_listed }

pub invariant_of-alphas : goal.invariant_of-alphas
invariant_of-alphas c =
    let a = c.args in
    let l : Lent = lending a.n a.k a.ka a.matrix.now a.near.now a.alpha.now a.round.now a.places.now a.queue.now a.flags.now a.scratch.now a.journal.now in
    let s = carried_in a.state in
    let p = call_passed l s c.step_good-told.result (sym c.in_ok-check_call.ensures) in
    record { few = p.lent.few; listed = p.lent.alpha_listed }

pub invariant_of-track : goal.invariant_of-track
invariant_of-track c =
    let a = c.args in
    let l : Lent = lending a.n a.k a.ka a.matrix.now a.near.now a.alpha.now a.round.now a.places.now a.queue.now a.flags.now a.scratch.now a.journal.now in
    let s = carried_in a.state in
    let p = call_passed l s c.step_good-told.result (sym c.in_ok-check_call.ensures) in
    record { tied = p.tied; good = rw p.lent.round_long p.journal }

pub invariant_of-line : goal.invariant_of-line
invariant_of-line c =
    let a = c.args in
    let l : Lent = lending a.n a.k a.ka a.matrix.now a.near.now a.alpha.now a.round.now a.places.now a.queue.now a.flags.now a.scratch.now a.journal.now in
    let s = carried_in a.state in
    let p = call_passed l s c.step_good-told.result (sym c.in_ok-check_call.ensures) in
    record { in_line = p.line }

pub descend_on-d-requires : goal.descend_on-d-requires
descend_on-d-requires c =
    let a = c.args in
    let l : Lent = lending a.n a.k a.ka a.matrix.now a.near.now a.alpha.now a.round.now a.places.now a.queue.now a.flags.now a.scratch.now a.journal.now in
    let s = carried_in a.state in
    let p = call_passed l s c.step_good-told.result (sym c.in_ok-check_call.ensures) in
    let e = p.lent.round_long in
    record { size = sym e; some = p.lent.some_near; fit = descent_fits l s c.step_good-told.result p; room = descent_room l s c.step_good-told.result p; queue_fits = p.lent.queue_long ∙ sym e; scratch_fits = p.lent.scratch_long ∙ sym e; time_is = p.time }

pub overflow_sub-result : goal.overflow_sub-result
overflow_sub-result c =
    let a = c.args in
    let l : Lent = lending a.n a.k a.ka a.matrix.now a.near.now a.alpha.now a.round.now a.places.now a.queue.now a.flags.now a.scratch.now a.journal.now in
    let s = carried_in a.state in
    let p = call_passed l s c.step_good-told.result (sym c.in_ok-check_call.ensures) in
    let u = c.descend_on-d in
    let t = u.new.track in
    let q = u.new.queue in
    let low = step_good a.ka a.step (sym c.step_good-told.ensures ∙ p.lent.asked) in
    let is_step = ap step_number c.of.ensures ∙ step_number_in a.step low in
    let descended = rw is_step at u.ensures.descended in
    let after : Lent = lending a.n a.k a.ka a.matrix.now a.near.now a.alpha.now t.stops.now t.places.now q.words.now q.flags.now u.new.scratch t.journal.now in
    let new : Carried = carrying q.head q.count t.held u.result.time in
    omega (arith, time_falls l after s new c.step_good-told.result p a.keeps a.step a.budget u.result.left (ended_number u.result.ended) u.ensures.same_queue.size descended)

pub overflow_sub-result-2 : goal.overflow_sub-result-2
overflow_sub-result-2 c =
    let a = c.args in
    let l : Lent = lending a.n a.k a.ka a.matrix.now a.near.now a.alpha.now a.round.now a.places.now a.queue.now a.flags.now a.scratch.now a.journal.now in
    let s = carried_in a.state in
    let p = call_passed l s c.step_good-told.result (sym c.in_ok-check_call.ensures) in
    let u = c.descend_on-d in
    let t = u.new.track in
    let q = u.new.queue in
    let low = step_good a.ka a.step (sym c.step_good-told.ensures ∙ p.lent.asked) in
    let is_step = ap step_number c.of.ensures ∙ step_number_in a.step low in
    let descended = rw is_step at u.ensures.descended in
    let after : Lent = lending a.n a.k a.ka a.matrix.now a.near.now a.alpha.now t.stops.now t.places.now q.words.now q.flags.now u.new.scratch t.journal.now in
    let new : Carried = carrying q.head q.count t.held u.result.time in
    omega (arith, units_left l after s new c.step_good-told.result p a.keeps a.step a.budget u.result.left (ended_number u.result.ended) u.ensures.same_queue.size descended)

pub returns : goal.returns
returns c =
    let a = c.args in
    let l : Lent = lending a.n a.k a.ka a.matrix.now a.near.now a.alpha.now a.round.now a.places.now a.queue.now a.flags.now a.scratch.now a.journal.now in
    let s = carried_in a.state in
    let p = call_passed l s c.step_good-told.result (sym c.in_ok-check_call.ensures) in
    let u = c.descend_on-d in
    let t = u.new.track in
    let q = u.new.queue in
    let low = step_good a.ka a.step (sym c.step_good-told.ensures ∙ p.lent.asked) in
    let is_step = ap step_number c.of.ensures ∙ step_number_in a.step low in
    let descended = rw is_step at u.ensures.descended in
    let after : Lent = lending a.n a.k a.ka a.matrix.now a.near.now a.alpha.now t.stops.now t.places.now q.words.now q.flags.now u.new.scratch t.journal.now in
    let new : Carried = carrying q.head q.count t.held u.result.time in
    let same = u.ensures.same_track in
    let line = u.ensures.same_queue in
    let round = c.round-1.given.1.1 (sym same.same_stops) in
    let places = c.places-1.given.1.1 (sym same.same_places) in
    let journal = c.journal-1.given.1.1 (sym same.same_journal) in
    let words = c.queue-1.given.1.1 (sym line.same_words) in
    let flags = c.flags-1.given.1.1 (sym line.same_flags) in
    let is = c.in_ok-check_call.ensures ∙ ap (λ (t : Bool). verdict (call_checks l s t)) c.step_good-told.ensures in
    rw (round, places, words, flags, journal) (descend_does l s a.keeps a.step a.budget 0 is refl after new u.result.left (ended_number u.result.ended) line.size descended)
