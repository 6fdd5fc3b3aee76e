-- What the queue's functions ask and promise. Assumes nothing.
use Rattle.std.specs.Prelude.{ℕ, ◌+◌, ◌≤◌, ◌<◌, ◌≡◌, List, ◌∷◌, length}
use Rattle.rules.specs.Words.{Stop, Place}
use Rattle.rules.specs.Lists.{tally}
use Rattle.rules.specs.Ring.{next}
use Rattle.rules.specs.Queue.{waiting, flags_of}
use Rattle.ring.specs.Legs.{Stops}

-- n words with a head and a count hold stops below n, each once, and the flags agree
pub record InLine (queue flags : List ℕ) (head : Place) (count : ℕ) : Type 0 where
  pub few : length queue ≤ 4096
  pub start : head < length queue
  pub room : count ≤ length queue
  pub stops : Stops (waiting queue head count) (length queue)
  pub single : (v : Stop) → tally (waiting queue head count) v ≤ 1
  pub agreed : flags ≡ flags_of (length queue) (waiting queue head count)

-- the stops q wait now, with the head where it is said to be; words that nobody waits in are spent
pub record Waits (q : List Stop) (at : Place) (queue flags : List ℕ) (head : Place) (count : ℕ) : Type 0 where
  pub is : waiting queue head count ≡ q
  pub head_is : head ≡ at
  pub line : InLine queue flags head count

-- the first of those that wait is v, and the others wait now; the head moved by one
pub record Took (queue flags : List ℕ) (head : Place) (count v : ℕ) (flags' : List ℕ) (head' : Place) (count' : ℕ) : Type 0 where
  pub is : waiting queue head count ≡ v ∷ waiting queue head' count'
  pub below : v < length queue
  pub head_is : head' ≡ next (length queue) head
  pub count_is : count ≡ count' + 1
  pub line : InLine queue flags' head' count'
