-- What a kick and a descent leave of a track and a queue. Assumes nothing.
use Rattle.std.specs.Prelude.{ℕ, ◌/◌, Bool, length}
use Rattle.rules.specs.Words.{Time}
use Rattle.rules.specs.Kicks.{Kick}
use Rattle.rules.specs.Descend.{Ran}
use Rattle.rules.specs.State.{State}
use Rattle.journal.specs.Tracks.{track_in}
use Rattle.journal.specs.declared.track.Track.{Track}
use Rattle.queue.specs.Queues.{waiting_in}
use Rattle.queue.specs.declared.queue.Queue.{Queue}
use Rattle.kicks.specs.Kicking.{Kicks}
use Rattle.kicks.specs.declared.Kicked.{Kicked}
use Rattle.descent.specs.Handed.{Descended}

-- the kick g, draws and all, from the draw state x on
abbrev pub KicksBy : Kick → ℕ → Track → Queue → Track → Queue → Kicked → ℕ → Type 0
KicksBy g x t q t' q' r new =
    Kicks g x 30 35 (waiting_in q) q.head t.journal.now t.held t'.stops.now t'.places.now t'.journal.now t'.held q'.words.now q'.flags.now q'.head q'.count r.added r.removed new

-- the entries that the journal has room for
abbrev pub room_by : Track → ℕ
room_by t = length t.journal.now / 5

-- the state that a track, a queue and a time are
abbrev pub state_by : Track → Queue → Time → State
state_by t q time = record { track = track_in t; queue = waiting_in q; time = time }

-- a descent done
abbrev pub DescendsBy : Ran → Bool → Track → Track → Queue → Time → ℕ → ℕ → Type 0
DescendsBy ran keeps t t' q' time left ended =
    Descended ran keeps t.journal.now t.held t'.stops.now t'.places.now q'.words.now q'.flags.now t'.journal.now t'.held q'.head q'.count time left ended
