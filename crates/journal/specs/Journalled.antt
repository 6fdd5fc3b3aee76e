-- What the journal's functions ask and promise. Assumes nothing.
use Rattle.std.specs.Prelude.{ℕ, ◌+◌, ◌*◌, ◌≤◌, ◌≡◌, true, List, ◌++◌, length, take}
use Rattle.rules.specs.Words.{Place, Round}
use Rattle.rules.specs.Lists.{each}
use Rattle.rules.specs.Journal.{Track, Entry, words_of, good_journal, track_of, rollback}
use Rattle.rules.specs.SharedWords.{Tied}

-- the words hold `held` entries in range for n stops, and there is room for `free` more
pub record Journalled (n : ℕ) (journal : List ℕ) (held free : ℕ) : Type 0 where
  pub good : good_journal n journal held ≡ true
  pub room : 5 * (held + free) ≤ length journal

-- the words held stayed, and those of the newer entries, oldest first, came behind them; words beyond are spent
pub record Grew (journal : List ℕ) (held : ℕ) (journal' : List ℕ) (held' : ℕ) : Type 0 where
  pub newer : List Entry
  pub more : held' ≡ held + length newer
  pub words : take (5 * held') journal' ≡ take (5 * held) journal ++ each words_of newer

-- a journalled rewriting: round and journal are the track t, at most one entry was added
pub record Moved (t : Track) (journal : List ℕ) (held : ℕ) (round : Round) (places : List Place) (journal' : List ℕ) (held' : ℕ) : Type 0 where
  pub is : track_of round journal' held' ≡ t
  pub tied : Tied round places
  pub good : good_journal (length round) journal' held' ≡ true
  pub grew : Grew journal held journal' held'
  pub high : held' ≤ held + 1

-- a rollback to a mark
pub record Back (t : Track) (mark : ℕ) (round : Round) (places : List Place) (journal : List ℕ) (held : ℕ) : Type 0 where
  pub is : track_of round journal held ≡ rollback mark t
  pub tied : Tied round places
  pub good : good_journal (length round) journal held ≡ true
  pub to_mark : held ≡ mark
