use Prim.Native.Nat.{ℕ, ◌+◌, ◌*◌}
use mathlib.Core.Path.{◌≡◌, refl, ◌∙◌}
use native.Mathlib.Omega.{arith}
use lib.ListN.{length}
use Rattle.rules.specs.Journal.{reversal, words_of, carry_out, track_of}
use Rattle.laws.proofs.RangeLaws.{in_reversal}
use Rattle.laws.proofs.RewriteLaws.{reverse_at_short}
use Rattle.laws.proofs.StretchLaws.{reversing_short, reversing_long}
use Rattle.journal.proofs.MoveLaws.{moved_one, moved_none}
use Rattle.journal.proofs.track.Track.reverse.Goals as goal

pub returns-then-span-lt2-clause-moved : goal.returns-then-span-lt2-clause-moved
unfolding track_of
returns-then-span-lt2-clause-moved c =
    let a = c.args in
    let s = a.self.now in
    let m = c.reverse_tour-span in
    let t = m.ensures.took in
    let r_is = m.ensures.rewritten.is ∙ reverse_at_short m.result.start m.result.len s.stops.now (omega (arith, t.below)) c.if-span-lt2.true in
    rw (reversing_short a.start.0 a.end.0 (track_of s.stops.now s.journal.now s.held) m.result.start m.result.len t.is c.if-span-lt2.true)
    (moved_none s.stops.now s.journal.now s.held m.new.round m.new.places (record { good = s.good; room = c.requires.room }) r_is m.ensures.rewritten.tied)

pub invariant_of-self-2 : goal.invariant_of-self-2
unfolding words_of carry_out
invariant_of-self-2 c =
    let s = c.args.self.now in
    let m = c.reverse_tour-span in
    let t = m.ensures.took in
    let r = in_reversal (length s.stops.now) m.result.start m.result.len t.below (omega (arith, t.short)) in
    let done = moved_one (reversal m.result.start m.result.len) s.stops.now s.journal.now s.held m.new.round m.new.places c.note.new.journal (s.held + 1) (record { good = s.good; room = c.requires.room }) r m.auto.round m.ensures.rewritten.is m.ensures.rewritten.tied c.note.ensures refl in
    record { tied = done.tied; good = done.good }

pub returns-clause-moved : goal.returns-clause-moved
unfolding words_of carry_out track_of
returns-clause-moved c =
    let a = c.args in
    let s = a.self.now in
    let m = c.reverse_tour-span in
    let t = m.ensures.took in
    let r = in_reversal (length s.stops.now) m.result.start m.result.len t.below (omega (arith, t.short)) in
    rw (reversing_long a.start.0 a.end.0 (track_of s.stops.now s.journal.now s.held) m.result.start m.result.len t.is c.if-span-lt2.false)
    (moved_one (reversal m.result.start m.result.len) s.stops.now s.journal.now s.held m.new.round m.new.places c.note.new.journal (s.held + 1) (record { good = s.good; room = c.requires.room }) r m.auto.round m.ensures.rewritten.is m.ensures.rewritten.tied c.note.ensures refl)
