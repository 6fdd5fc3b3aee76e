-- What the kicks ask and promise. Assumes nothing.
use Rattle.std.specs.Prelude.{ℕ, ◌+◌, ◌-◌, ◌*◌, ◌≤◌, ◌<◌, ◌≡◌, true, List, [], ◌∷◌, ltb, length, drop}
use Rattle.rules.specs.Words.{Stop, Place, Round, Legs}
use Rattle.rules.specs.Lists.{when◌then◌else◌, at}
use Rattle.rules.specs.Plan.{leg_in}
use Rattle.rules.specs.Draws.{◌to◌, draws}
use Rattle.rules.specs.Queue.{push_all}
use Rattle.rules.specs.Journal.{Track, good_journal, track_of}
use Rattle.rules.specs.Kicks.{Kicked, Kick, shuffle_spans, global_spans, shuffled, shuffle_kick, window_kick, global_kick}
use Rattle.rules.specs.SharedWords.{Tied}
use Rattle.legs.specs.declared.matrix.Matrix.{Matrix}
use Rattle.ring.specs.Legs.{IsTime}
use Rattle.journal.specs.Journalled.{Grew}
use Rattle.journal.specs.Tracks.{track_in}
use Rattle.journal.specs.declared.track.Track.{Track as TrackOf}
use Rattle.queue.specs.Lines.{Waits}
use Rattle.queue.specs.Queues.{waiting_in}
use Rattle.work.specs.declared.work.Work.{Work}
use Rattle.kicks.specs.declared.Kicked.{Kicked as KickedOf}

-- memory that a kick may work in: two stops or more, the matrix of as many, and room for `free` journal entries
pub record Ready (free : ℕ) (m : Matrix) (w : Work) : Type 0 where
  pub two : 2 ≤ length w.track.now.stops.now
  pub size : m.n ≡ length w.track.now.stops.now
  pub room : 5 * (w.track.now.held + free) ≤ length w.track.now.journal.now

-- the legs that a matrix gives
abbrev pub legs_in : Matrix → Legs
legs_in m = leg_in m.n m.times.now

-- round and journal are the track t, at most `most` entries were added
pub record Tracked (t : Track) (most : ℕ) (journal : List ℕ) (held : ℕ) (round : Round) (places : List Place) (journal' : List ℕ) (held' : ℕ) : Type 0 where
  pub is : track_of round journal' held' ≡ t
  pub tied : Tied round places
  pub good : good_journal (length round) journal' held' ≡ true
  pub grew : Grew journal held journal' held'
  pub high : held' ≤ held + most

-- places shuffled: the track t, and the draw state as it is said to be
pub record Shuffled (t : Track) (draw most x : ℕ) (journal : List ℕ) (held : ℕ) (round : Round) (places : List Place) (journal' : List ℕ) (held' new : ℕ) : Type 0 where
  pub moved : Tracked t most journal held round places journal' held'
  pub state : new ≡ draw
  pub some : 0 < x → 0 < new

-- a was left as b, and the draw state x as `new`: len places from `start` on shuffled
abbrev pub Shuffles : Place → ℕ → ℕ → TrackOf → TrackOf → ℕ → Type 0
Shuffles start len x a b new =
    Shuffled (shuffled start (draws (shuffle_spans len) x).values (track_in a)) (draws (shuffle_spans len) x).state (len - 1) x a.journal.now a.held b.stops.now b.places.now b.journal.now b.held new

-- k was done: with at most `most` entries, its stops wait behind q, and at most `legs` legs came and went
pub record Made (k : Kicked) (most legs : ℕ) (q : List Stop) (head : Place) (journal : List ℕ) (held : ℕ) (round : Round) (places : List Place) (journal' : List ℕ) (held' : ℕ) (queue flags : List ℕ) (head' : Place) (count added removed : ℕ) : Type 0 where
  pub moved : Tracked k.track most journal held round places journal' held'
  pub waits : Waits (push_all q k.touched) head queue flags head' count
  pub added_is : IsTime legs k.added added
  pub removed_is : IsTime legs k.removed removed

-- g was done, draws and all, from the draw state x on
pub record Kicks (g : Kick) (x most legs : ℕ) (q : List Stop) (head : Place) (journal : List ℕ) (held : ℕ) (round : Round) (places : List Place) (journal' : List ℕ) (held' : ℕ) (queue flags : List ℕ) (head' : Place) (count added removed new : ℕ) : Type 0 where
  pub made : Made g.made most legs q head journal held round places journal' held' queue flags head' count added removed
  pub state : new ≡ g.draw
  pub some : 0 < x → 0 < new

-- a was left as b: k was done in the memory that is lent
abbrev pub MadeOn : Kicked → ℕ → ℕ → Work → Work → KickedOf → Type 0
MadeOn k most legs a b r =
    Made k most legs (waiting_in a.queue.now) a.queue.now.head a.track.now.journal.now a.track.now.held b.track.now.stops.now b.track.now.places.now b.track.now.journal.now b.track.now.held b.queue.now.words.now b.queue.now.flags.now b.queue.now.head b.queue.now.count r.added r.removed

-- and g was, from the draw state x on, which is left as `new`
abbrev pub KicksOn : Kick → ℕ → ℕ → ℕ → Work → Work → KickedOf → ℕ → Type 0
KicksOn g x most legs a b r new =
    Kicks g x most legs (waiting_in a.queue.now) a.queue.now.head a.track.now.journal.now a.track.now.held b.track.now.stops.now b.track.now.places.now b.track.now.journal.now b.track.now.held b.queue.now.words.now b.queue.now.flags.now b.queue.now.head b.queue.now.count r.added r.removed new

-- ---- the parts of a global kick, with what they draw
-- nothing was done
unfoldable pub still : Track → Kicked
still t = record { track = t; touched = []; added = 0; removed = 0 }

-- below 8 stops
unfoldable pub shuffle_drawn : Legs → ℕ → Track → Kick
shuffle_drawn d x t =
    let g = draws (shuffle_spans (length t.round)) x in
    record { made = shuffle_kick d g.values t; draw = g.state }

-- after the double bridge, at 32 stops or more
unfoldable pub window_drawn : Legs → ℕ → Track → Kick
window_drawn d x t =
    let g = draws ((0 to (length t.round - 30)) ∷ shuffle_spans 30) x in
    when ltb (length t.round) 32 then record { made = still t; draw = x } else
    record { made = window_kick d (at g.values 0) (drop 1 g.values) t; draw = g.state }

unfoldable pub global_drawn : Legs → ℕ → Track → Kick
global_drawn d x t =
    let g = draws (global_spans (length t.round)) x in
    record { made = global_kick d g.values t; draw = g.state }
