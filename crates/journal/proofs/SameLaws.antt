-- A track that stays in its memory, call after call.
use mathlib.Core.Path.{refl, ◌∙◌}
use Rattle.journal.specs.declared.track.Track.{Track}
use Rattle.journal.specs.Tracks.{SameTrack}

pub track_stays : (a : Track) → SameTrack a a
track_stays a = record { same_stops = refl; same_places = refl; same_journal = refl; size = refl; room = refl }

pub track_through : {a b c : Track} → SameTrack a b → SameTrack b c → SameTrack a c
track_through p q = record { same_stops = q.same_stops ∙ p.same_stops; same_places = q.same_places ∙ p.same_places; same_journal = q.same_journal ∙ p.same_journal; size = q.size ∙ p.size; room = q.room ∙ p.room }
