-- A round with its places and its journal, moved in place. Assumes nothing.
use Rattle.std.specs.Prelude.{ℕ, ◌≡◌, length}
use Rattle.rules.specs.Journal.{Track as TrackOf, track_of}
use Rattle.journal.specs.Journalled.{Moved, Back}
use Rattle.journal.specs.declared.track.Track.{Track}

-- the track that is there
abbrev pub track_in : Track → TrackOf
track_in t = track_of t.stops.now t.journal.now t.held

-- the same memory
pub record SameTrack (a b : Track) : Type 0 where
  pub same_stops : b.stops.ghost_name ≡ a.stops.ghost_name
  pub same_places : b.places.ghost_name ≡ a.places.ghost_name
  pub same_journal : b.journal.ghost_name ≡ a.journal.ghost_name
  pub size : length b.stops.now ≡ length a.stops.now
  pub room : length b.journal.now ≡ length a.journal.now

-- a was left as b: one rewriting at most, journalled, and the track t is there
abbrev pub Moves : TrackOf → Track → Track → Type 0
Moves t a b = Moved t a.journal.now a.held b.stops.now b.places.now b.journal.now b.held

-- a was left as b: rolled back to a mark
abbrev pub Rolls : ℕ → Track → Track → Type 0
Rolls mark a b = Back (track_in a) mark b.stops.now b.places.now b.journal.now b.held
