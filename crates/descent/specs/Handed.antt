-- What a step of a descent and a descent leave. Assumes nothing.
use Rattle.std.specs.Prelude.{ℕ, ◌<◌, ◌≡◌, Bool, true, false, List, [], ◌∷◌, length}
use Rattle.rules.specs.Words.{Stop, Place, Time, Round}
use Rattle.rules.specs.Lists.{when◌then◌else◌}
use Rattle.rules.specs.Queue.{push_all, waiting}
use Rattle.rules.specs.Journal.{Track, good_journal, track_of}
use Rattle.rules.specs.Plan.{Plan}
use Rattle.rules.specs.Descend.{Manner, kept, committed, Ran, step_from, leave}
use Rattle.rules.specs.SharedWords.{Tied}
use Rattle.journal.specs.Journalled.{Grew}
use Rattle.queue.specs.Lines.{InLine, Waits}
use Rattle.moves.specs.Moves.{Made}

-- the first stop of a queue q taken, v, and the step from it done; vs waited behind it
pub record TookStep (p : Plan) (kind : ℕ) (t : Track) (q : List Stop) (journal : List ℕ) (held : ℕ) (round : Round) (places : List Place) (queue' flags' journal' : List ℕ) (gain : Time) (held' : ℕ) (head' : Place) (count' : ℕ) : Type 0 where
  pub v : Stop
  pub vs : List Stop
  pub is : q ≡ v ∷ vs
  pub below : v < length t.round
  pub gain_is : gain ≡ (step_from p kind v t).gain
  pub made : Made 100 (step_from p kind v t).track journal held round places journal' held'
  pub waits : waiting queue' head' count' ≡ push_all vs (step_from p kind v t).touched
  pub line : InLine queue' flags' head' count'

-- kept or committed
unfoldable pub manner_of : Bool → ℕ → Manner
manner_of keeps room = when keeps then kept room else committed

-- stops taken until the descent ends: what it leaves is the rule's, but for the queue, which is still to be emptied; kept, the entries held
-- stayed and newer ones came behind them; committed, none is held
pub record Ended (ran : Ran) (m : Manner) (keeps : Bool) (journal : List ℕ) (held : ℕ) (round : Round) (places : List Place) (queue' flags' journal' : List ℕ) (held' : ℕ) (head' : Place) (count' : ℕ) (time : Time) (left ended : ℕ) : Type 0 where
  pub is : ran ≡ leave m ended left (track_of round journal' held') time
  pub tied : Tied round places
  pub good : good_journal (length round) journal' held' ≡ true
  pub grew : keeps ≡ true → Grew journal held journal' held'
  pub none : keeps ≡ false → held' ≡ 0
  pub line : InLine queue' flags' head' count'

-- a descent done: the queue is empty too
pub record Descended (ran : Ran) (keeps : Bool) (journal : List ℕ) (held : ℕ) (round : Round) (places : List Place) (queue' flags' journal' : List ℕ) (held' : ℕ) (head' : Place) (count' : ℕ) (time : Time) (left ended : ℕ) : Type 0 where
  pub track_is : track_of round journal' held' ≡ ran.state.track
  pub time_is : time ≡ ran.state.time
  pub left_is : left ≡ ran.left
  pub ended_is : ended ≡ ran.ended
  pub tied : Tied round places
  pub good : good_journal (length round) journal' held' ≡ true
  pub grew : keeps ≡ true → Grew journal held journal' held'
  pub none : keeps ≡ false → held' ≡ 0
  pub waits : Waits [] 0 queue' flags' head' count'
