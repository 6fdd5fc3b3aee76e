use Prim.Native.Nat.{◌+◌, ◌-◌}
use lib.IntN.{ℤ, pos, ◌+ℤ◌}
use mir.Val.{to_z, of_z}
use mir.ValLaws.{to_z-of_z}
use mir.Syntax.{w32}
use mathlib.Core.Path.{refl, sym, ap, ◌∙◌}
use native.Mathlib.Omega.{arith}
use borrow.Author.Rules.{rules}
use Rattle.std.proofs.lemmas.Result.{err_from_is_err_and}
use Rattle.rules.specs.Memory.{Lent}
use Rattle.numbers.proofs.RefusalLaws.{refused_some}
use Rattle.refusals.specs.Lending.{lending}
use Rattle.refusals.specs.Lents.{carried_in}
use Rattle.rules.specs.Memory.{Carried}
use Rattle.rules.specs.Numbers.{good_kick}
use Rattle.refusals.specs.Lending.{carrying}
use Rattle.refusals.proofs.PassLaws.{kick_passed}
use Rattle.kicks.proofs.KindLaws.{kind_read}
use Rattle.planner.proofs.KickLaws.{kind_good, kick_room, time_small, recounted}
use Rattle.planner.proofs.PromiseLaws.{kick_refuses, kick_does}
use Rattle.planner.proofs.kick.Goals as goal

pub returns-in_err-check_kick : goal.returns-in_err-check_kick
returns-in_err-check_kick c =
    let a = c.args in
    let l : Lent = lending a.n a.k a.ka a.matrix.now a.near.now a.alpha.now a.round.now a.places.now a.queue.now a.flags.now a.scratch.now a.journal.now in
    let p = err_from_is_err_and c.from_residual.result c.from_residual.ensures.1 in
    let some = refused_some c.in_err-check_kick.field-0.0 in
    rw (p.1, p.2) (kick_refuses l (carried_in a.state) a.kind a.draw.now _ (search rules) (λ z. omega (arith, z, some)))

pub invariant_of-matrix : goal.invariant_of-matrix
invariant_of-matrix c =
    let a = c.args in
    let l : Lent = lending a.n a.k a.ka a.matrix.now a.near.now a.alpha.now a.round.now a.places.now a.queue.now a.flags.now a.scratch.now a.journal.now in
    let p = kick_passed l (carried_in a.state) a.kind a.draw.now (sym c.in_ok-check_kick.ensures) in
    record { square = p.0.lent.square }

pub invariant_of-track : goal.invariant_of-track
invariant_of-track c =
    let a = c.args in
    let l : Lent = lending a.n a.k a.ka a.matrix.now a.near.now a.alpha.now a.round.now a.places.now a.queue.now a.flags.now a.scratch.now a.journal.now in
    let p = kick_passed l (carried_in a.state) a.kind a.draw.now (sym c.in_ok-check_kick.ensures) in
    record { tied = p.0.tied; good = rw p.0.lent.round_long p.0.journal }

pub invariant_of-line : goal.invariant_of-line
invariant_of-line c =
    let a = c.args in
    let l : Lent = lending a.n a.k a.ka a.matrix.now a.near.now a.alpha.now a.round.now a.places.now a.queue.now a.flags.now a.scratch.now a.journal.now in
    let p = kick_passed l (carried_in a.state) a.kind a.draw.now (sym c.in_ok-check_kick.ensures) in
    record { in_line = p.0.line }

pub kick_on-legs-requires : goal.kick_on-legs-requires
kick_on-legs-requires c =
    let a = c.args in
    let l : Lent = lending a.n a.k a.ka a.matrix.now a.near.now a.alpha.now a.round.now a.places.now a.queue.now a.flags.now a.scratch.now a.journal.now in
    let p = kick_passed l (carried_in a.state) a.kind a.draw.now (sym c.in_ok-check_kick.ensures) in
    let e = p.0.lent.round_long in
    record { size = sym e; two = omega (arith, p.0.lent.two, e); room = kick_room l (carried_in a.state) p.1; queue_fits = p.0.lent.queue_long ∙ sym e; scratch_fits = p.0.lent.scratch_long ∙ sym e }

pub overflow_add-higher : goal.overflow_add-higher
overflow_add-higher c =
    let a = c.args in
    let l : Lent = lending a.n a.k a.ka a.matrix.now a.near.now a.alpha.now a.round.now a.places.now a.queue.now a.flags.now a.scratch.now a.journal.now in
    let s = carried_in a.state in
    let p = kick_passed l s a.kind a.draw.now (sym c.in_ok-check_kick.ensures) in
    let u = c.kick_on-legs in
    let t = u.new.track in
    let q = u.new.queue in
    let kicked = rw (kind_read _ a.kind c.of.ensures (kind_good a.kind a.draw.now p.0.lent.asked).0) at u.ensures.kicked in
    omega (arith, time_small l s (good_kick a.kind a.draw.now) p.0 (λ i h. omega (arith, c.type_inv.matrix i)), kicked.made.added_is.small)

pub overflow_sub-result : goal.overflow_sub-result
overflow_sub-result c =
    let a = c.args in
    let l : Lent = lending a.n a.k a.ka a.matrix.now a.near.now a.alpha.now a.round.now a.places.now a.queue.now a.flags.now a.scratch.now a.journal.now in
    let s = carried_in a.state in
    let p = kick_passed l s a.kind a.draw.now (sym c.in_ok-check_kick.ensures) in
    let u = c.kick_on-legs in
    let t = u.new.track in
    let q = u.new.queue in
    let kicked = rw (kind_read _ a.kind c.of.ensures (kind_good a.kind a.draw.now p.0.lent.asked).0) at u.ensures.kicked in
    let after : Lent = lending a.n a.k a.ka a.matrix.now a.near.now a.alpha.now t.stops.now t.places.now q.words.now q.flags.now u.new.scratch t.journal.now in
    omega (arith, recounted l after s (carrying q.head q.count t.held 0) (good_kick a.kind a.draw.now) p.0 p.1 a.kind a.draw.now u.result.added u.result.removed u.new.draw kicked)

pub returns : goal.returns
returns c =
    let a = c.args in
    let l : Lent = lending a.n a.k a.ka a.matrix.now a.near.now a.alpha.now a.round.now a.places.now a.queue.now a.flags.now a.scratch.now a.journal.now in
    let s = carried_in a.state in
    let p = kick_passed l s a.kind a.draw.now (sym c.in_ok-check_kick.ensures) in
    let u = c.kick_on-legs in
    let t = u.new.track in
    let q = u.new.queue in
    let kicked = rw (kind_read _ a.kind c.of.ensures (kind_good a.kind a.draw.now p.0.lent.asked).0) at u.ensures.kicked in
    let after : Lent = lending a.n a.k a.ka a.matrix.now a.near.now a.alpha.now t.stops.now t.places.now q.words.now q.flags.now u.new.scratch t.journal.now in
    let same = u.ensures.same_track in
    let line = u.ensures.same_queue in
    let round = c.round-1.given.1.1 (sym same.same_stops) in
    let places = c.places-1.given.1.1 (sym same.same_places) in
    let journal = c.journal-1.given.1.1 (sym same.same_journal) in
    let words = c.queue-1.given.1.1 (sym line.same_words) in
    let flags = c.flags-1.given.1.1 (sym line.same_flags) in
    let new : Carried = carrying q.head q.count t.held (a.state.time + u.result.added - u.result.removed) in
    let change = c.change in
    rw (round, places, words, flags, journal) (kick_does l s a.kind a.draw.now 0 c.in_ok-check_kick.ensures refl after new u.result.added u.result.removed u.new.draw (to_z w32 (of_z w32 change.result)) kicked line.size refl (ap (λ (z : ℤ). z +ℤ pos u.result.removed) (to_z-of_z w32 change.result (record { sfits = change.type_inv })) ∙ change.ensures))
