-- 01, "Sizes and numbers": the memory that a call is lent, what it stands for, and what it holds once a state is left in it. Assumes nothing.
use Rattle.std.specs.Prelude.{ℕ, ◌-◌, ◌*◌, ◌/◌, ◌≡◌, List, [], ◌++◌, reverse, ltb, length, take}
use Rattle.rules.specs.Words.{Stop, Place, Time, Round}
use Rattle.rules.specs.Lists.{when◌then◌else◌, each}
use Rattle.rules.specs.Ring.{places_of}
use Rattle.rules.specs.Queue.{waiting, flags_of}
use Rattle.rules.specs.Journal.{words_of, track_of}
use Rattle.rules.specs.Plan.{Plan}
use Rattle.rules.specs.State.{State}

-- "Round, places, queue, flags and scratch: n elements each"; "Journal: room in whole entries, five 32-bit words each"
pub record Lent : Type 0 where
  pub n : ℕ
  pub k : ℕ
  pub ka : ℕ
  pub matrix : List Time
  pub near : List Stop
  pub alpha : List Stop
  pub round : Round
  pub places : List Place
  pub queue : List ℕ
  pub flags : List ℕ
  pub scratch : List ℕ
  pub journal : List ℕ

-- what goes in by value and comes back: the queue's head and count, the entries held, the carried time
pub record Carried : Type 0 where
  pub head : Place
  pub count : ℕ
  pub held : ℕ
  pub time : Time

-- "up to four words left over stay unused"
unfoldable pub room_in : Lent → ℕ
room_in l = length l.journal / 5

-- the plan and the state that lent memory stands for
unfoldable pub plan_in : Lent → Plan
plan_in l = record { n = l.n; matrix = l.matrix; k = l.k; near = l.near; ka = l.ka; alpha = l.alpha }

unfoldable pub state_in : Lent → Carried → State
state_in l c = record { track = track_of l.round l.journal c.held; queue = waiting l.queue c.head c.count; time = c.time }

-- the journal words that a state is left with: old entries keep theirs as they came, new ones follow; an emptied journal has none
unfoldable pub words_left : Lent → Carried → State → List ℕ
words_left l c s =
    let entries = s.track.journal in
    when ltb (length entries) c.held then [] else take (5 * c.held) l.journal ++ each words_of (reverse (take (length entries - c.held) entries))

-- memory l with c, once the state s is left in it with its queue's head at `head`: the scratch words, the queue words that nobody waits in
-- and the journal words beyond those held are not said (docs/EXCEPTIONS.md)
pub record Leaves (l : Lent) (c : Carried) (s : State) (head : Place) (l' : Lent) (c' : Carried) : Type 0 where
  pub round_left : l'.round ≡ s.track.round
  pub places_left : l'.places ≡ places_of s.track.round
  pub queue_left : waiting l'.queue c'.head c'.count ≡ s.queue
  pub flags_left : l'.flags ≡ flags_of l.n s.queue
  pub journal_left : take (5 * c'.held) l'.journal ≡ words_left l c s
  pub head_left : c'.head ≡ head
  pub count_left : c'.count ≡ length s.queue
  pub held_left : c'.held ≡ length s.track.journal
  pub time_left : c'.time ≡ s.time
