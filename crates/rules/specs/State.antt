-- 01, "Answer numbers", the paragraph below the table: what all calls share, and load, commit, undo. Assumes nothing.
use Rattle.std.specs.Prelude.{List, []}
use Rattle.rules.specs.Words.{Stop, Time, Round}
use Rattle.rules.specs.Journal.{Track, cleared, undo_all}
use Rattle.rules.specs.Queue.{push_all}

-- the round with its journal, the stops that wait, the carried time
pub record State : Type 0 where
  pub track : Track
  pub queue : List Stop
  pub time : Time

-- "Commit empties the journal and keeps the queue"
unfoldable pub commit : State → State
commit s = record { track = cleared s.track; queue = s.queue; time = s.time }

-- "A load .. sets round, places, empty queue and journal, and the carried time". `count` is the time of a round: the recount here, with the
-- handling times under Q-6; load, undo and check 7 alone count a whole round
unfoldable pub load : (Round → Time) → Round → State
load count r = record { track = record { round = r; journal = [] }; queue = []; time = count r }

-- "undo empties the queue and gives back the last commit's round and time; the time it returns is the recount of the round it leaves"
unfoldable pub undo : (Round → Time) → State → State
undo count s = load count (undo_all s.track.journal s.track.round)

-- `activate_all`: every stop waits, in the round's order
unfoldable pub activated : State → State
activated s = record { track = s.track; queue = push_all s.queue s.track.round; time = s.time }
