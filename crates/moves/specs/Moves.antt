-- What the moves ask and promise. Assumes nothing.
use Rattle.std.specs.Prelude.{ℕ, zero, suc, ◌+◌, ◌≤◌, ◌<◌, ◌≡◌, true, List, length}
use Rattle.rules.specs.Words.{Stop, Place, Round}
use Rattle.rules.specs.Journal.{Track as TrackOf, Entry, good_journal, track_of, reversing}
use Rattle.rules.specs.Moves.{Case, two, flips, segment, inner, flip}
use Rattle.rules.specs.SharedWords.{Tied}
use Rattle.journal.specs.Journalled.{Grew}
use Rattle.journal.specs.declared.track.Track.{Track}

-- moves carried out and journalled: round and journal are the track t, at most `most` entries were added
pub record Made (most : ℕ) (t : TrackOf) (journal : List ℕ) (held : ℕ) (round : Round) (places : List Place) (journal' : List ℕ) (held' : ℕ) : Type 0 where
  pub is : track_of round journal' held' ≡ t
  pub tied : Tied round places
  pub good : good_journal (length round) journal' held' ≡ true
  pub grew : Grew journal held journal' held'
  pub high : held' ≤ held + most

-- a was left as b: such moves carried out on the track that is lent
abbrev pub MadeOn : ℕ → TrackOf → Track → Track → Type 0
MadeOn most t a b = Made most t a.journal.now a.held b.stops.now b.places.now b.journal.now b.held

-- the number that the code has for a case; 0 is no move
unfoldable pub number_of : Case → ℕ
number_of two = 1
number_of flips = 2
number_of segment = 3
number_of inner = 4

-- and the case of a number
unfoldable pub case_of : ℕ → Case
case_of zero = inner
case_of (suc zero) = two
case_of (suc (suc zero)) = flips
case_of (suc (suc (suc zero))) = segment
case_of (suc (suc (suc (suc c)))) = inner

-- six stops of n
pub record Six (n : ℕ) (a b c d e f : Stop) : Type 0 where
  pub low1 : a < n
  pub low2 : b < n
  pub low3 : c < n
  pub low4 : d < n
  pub low5 : e < n
  pub low6 : f < n

-- the places between which a flip reverses
pub record IsEnds (r : Round) (t1 t2 t3 : Stop) (start end : Place) : Type 0 where
  pub is : (journal : List Entry) → reversing start end (record { round = r; journal = journal }) ≡ flip t1 t2 t3 (record { round = r; journal = journal })
  pub start_low : start < length r
  pub end_low : end < length r
