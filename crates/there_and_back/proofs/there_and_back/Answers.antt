use mathlib.Core.Path.{◌≡◌, sym, ap, ◌∙◌}
use lib.ListN.{length}
use Rattle.rules.specs.Ring.{places_of}
use Rattle.rules.specs.Journal.{Track, track_of}
use Rattle.laws.proofs.TiedLaws.{tied_places}
use Rattle.laws.proofs.JournalLaws.{entries_of_length}
use Rattle.laws.proofs.SinceLaws.{reversing_back}
use Rattle.there_and_back.proofs.there_and_back.Goals as goal

pub returns-clause-round_unchanged : goal.returns-clause-round_unchanged
unfolding track_of
returns-clause-round_unchanged c =
    let a = c.args in
    let s = a.track.now in
    let b = c.rollback in
    let t = track_of s.stops.now s.journal.now s.held in
    let l : length t.journal ≡ s.held = entries_of_length s.journal.now s.held in
    let back = reversing_back a.start.0 a.end.0 t c.requires.start_low c.requires.end_low in
    let e : track_of b.new.self.stops.now b.new.self.journal.now b.new.self.held ≡ t = cc (b.ensures.back.is, c.reverse.ensures.moved.is, l, back) in
    ap (λ (x : Track). x.round) e

pub returns-clause-places_unchanged : goal.returns-clause-places_unchanged
unfolding track_of
returns-clause-places_unchanged c =
    let a = c.args in
    let s = a.track.now in
    let b = c.rollback in
    let t = track_of s.stops.now s.journal.now s.held in
    let l : length t.journal ≡ s.held = entries_of_length s.journal.now s.held in
    let back = reversing_back a.start.0 a.end.0 t c.requires.start_low c.requires.end_low in
    let e : track_of b.new.self.stops.now b.new.self.journal.now b.new.self.held ≡ t = cc (b.ensures.back.is, c.reverse.ensures.moved.is, l, back) in
    tied_places b.ensures.back.tied ∙ ap places_of (ap (λ (x : Track). x.round) e) ∙ sym (tied_places s.tied)
