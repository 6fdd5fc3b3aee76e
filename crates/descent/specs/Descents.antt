-- A descent over memory that is worked on in place. Assumes nothing.
use Rattle.std.specs.Prelude.{ℕ, ◌/◌, ◌≡◌, Bool, length}
use Rattle.rules.specs.Words.{Time}
use Rattle.rules.specs.Lists.{when◌then◌else◌}
use Rattle.rules.specs.Plan.{Plan}
use Rattle.rules.specs.State.{State}
use Rattle.rules.specs.Descend.{Ran}
use Rattle.journal.specs.declared.track.Track.{Track}
use Rattle.journal.specs.Tracks.{track_in}
use Rattle.queue.specs.Queues.{waiting_in}
use Rattle.work.specs.declared.work.Work.{Work}
use Rattle.descent.specs.Handed.{manner_of, TookStep, Ended, Descended}

-- the entries that the journal has room for
abbrev pub room_of : Work → ℕ
room_of w = length w.track.now.journal.now / 5

-- the state that is there, with its time
abbrev pub state_at : Work → Time → State
state_at w time = record { track = track_in w.track.now; queue = waiting_in w.queue.now; time = time }

-- a was left as b: only the count of the entries held may be another
pub record Keeps (keeps : Bool) (a b : Track) : Type 0 where
  pub held_is : b.held ≡ (when keeps then a.held else 0)
  pub stops_stay : b.stops.now ≡ a.stops.now
  pub places_stay : b.places.now ≡ a.places.now
  pub journal_stays : b.journal.now ≡ a.journal.now

-- a was left as b: the first stop taken, and the step from it done
abbrev pub Takes : Plan → ℕ → Work → Work → Time → Type 0
Takes p kind a b gain =
    TookStep p kind (track_in a.track.now) (waiting_in a.queue.now) a.track.now.journal.now a.track.now.held
    b.track.now.stops.now b.track.now.places.now b.queue.now.words.now b.queue.now.flags.now b.track.now.journal.now gain b.track.now.held b.queue.now.head b.queue.now.count

-- a was left as b: stops taken until the descent ended
abbrev pub Ends : Ran → Bool → Work → Work → Time → ℕ → ℕ → Type 0
Ends ran keeps a b time left ended =
    Ended ran (manner_of keeps (room_of a)) keeps a.track.now.journal.now a.track.now.held
    b.track.now.stops.now b.track.now.places.now b.queue.now.words.now b.queue.now.flags.now b.track.now.journal.now b.track.now.held b.queue.now.head b.queue.now.count time left ended

-- a was left as b: a descent done
abbrev pub Descends : Ran → Bool → Work → Work → Time → ℕ → ℕ → Type 0
Descends ran keeps a b time left ended =
    Descended ran keeps a.track.now.journal.now a.track.now.held
    b.track.now.stops.now b.track.now.places.now b.queue.now.words.now b.queue.now.flags.now b.track.now.journal.now b.track.now.held b.queue.now.head b.queue.now.count time left ended
