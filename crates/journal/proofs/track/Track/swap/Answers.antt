use Prim.Native.Nat.{ℕ, ◌+◌, ◌*◌}
use mathlib.Core.Path.{◌≡◌, refl}
use mathlib.Core.List.{◌++◌}
use lib.ListN.{length, take}
use Rattle.rules.specs.Journal.{Entry, words_of, carry_out, track_of, swap}
use Rattle.laws.proofs.RangeLaws.{in_swap}
use Rattle.journal.specs.Journalled.{Journalled, Moved}
use Rattle.journal.proofs.MoveLaws.{moved_one}
use Rattle.journal.proofs.track.Track.swap.Goals as goal

pub invariant_of-self-2 : goal.invariant_of-self-2
unfolding words_of carry_out
invariant_of-self-2 c =
    let a = c.args in
    let s = a.self.now in
    let m = c.swap_raw in
    let done = moved_one (swap a.i.0 a.j.0) s.stops.now s.journal.now s.held m.new.round m.new.places c.note.new.journal (s.held + 1) (record { good = s.good; room = c.requires.room }) (in_swap _ a.i.0 a.j.0 c.requires.i_low c.requires.j_low) m.auto.round m.ensures.is m.ensures.tied c.note.ensures refl in
    record { tied = done.tied; good = done.good }

pub returns-clause-moved : goal.returns-clause-moved
unfolding words_of carry_out
returns-clause-moved c =
    let a = c.args in
    let s = a.self.now in
    let m = c.swap_raw in
    moved_one (swap a.i.0 a.j.0) s.stops.now s.journal.now s.held m.new.round m.new.places c.note.new.journal (s.held + 1) (record { good = s.good; room = c.requires.room }) (in_swap _ a.i.0 a.j.0 c.requires.i_low c.requires.j_low) m.auto.round m.ensures.is m.ensures.tied c.note.ensures refl
