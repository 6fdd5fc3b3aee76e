-- The results of a call. Assumes nothing.
use Rattle.std.specs.Prelude.{ℕ, List, ◌≡◌, ◌≤◌, ◌-◌, ◌++◌, pos, take, min, length, replicate, vec_len, vec_capacity}
use Rattle.lending.specs.declared.memory.TheConstants.{STOPS}
use Rattle.lending.specs.declared.memory.Work.{Work}
use Rattle.lending.specs.declared.session.Lengths.{Lengths}
use Rattle.lending.specs.declared.session.Session.{Session}
use Rattle.lending.specs.declared.told.Outcome.{Outcome}

-- each result is 0
pub record HasNoResult (outcome : Outcome) : Type 0 where
  pub change : outcome.change ≡ pos 0
  pub gain : outcome.gain ≡ 0
  pub units : outcome.units ≡ 0
  pub ended : outcome.ended ≡ 0
  pub kicks : outcome.kicks ≡ 0

-- a session before its first call: nobody waits, no entry is held, the time is 0, and each stop has its place
pub record IsFresh (session : Session) : Type 0 where
  pub head : session.state.head ≡ 0
  pub count : session.state.count ≡ 0
  pub held : session.state.held ≡ 0
  pub time : session.state.time ≡ 0
  pub round : session.lengths.round ≡ session.n
  pub places : session.lengths.places ≡ session.n

-- what calls write has as many words in each slice as what is kept of it
pub record HasSameSizes (kept work : Work) : Type 0 where
  pub round : vec_len kept.round ≡ vec_len work.round
  pub places : vec_len kept.places ≡ vec_len work.places
  pub queue : vec_len kept.queue ≡ vec_len work.queue
  pub flags : vec_len kept.flags ≡ vec_len work.flags
  pub scratch : vec_len kept.scratch ≡ vec_len work.scratch
  pub journal : vec_len kept.journal ≡ vec_len work.journal

-- there is room to keep each slice of what calls write
pub record HasRoom (kept work : Work) : Type 0 where
  pub round : vec_len work.round ≤ vec_capacity kept.round
  pub places : vec_len work.places ≤ vec_capacity kept.places
  pub queue : vec_len work.queue ≤ vec_capacity kept.queue
  pub flags : vec_len work.flags ≤ vec_capacity kept.flags
  pub scratch : vec_len work.scratch ≤ vec_capacity kept.scratch
  pub journal : vec_len work.journal ≤ vec_capacity kept.journal

-- words that are cut to a length, or grown to it by 0
abbrev pub fitted : ℕ → List ℕ → List ℕ
fitted count words = take count words ++ replicate (count - length words) 0

-- what calls write holds the same words as what was kept of it
pub record HasSameWords (work kept : Work) : Type 0 where
  pub round : work.round.items ≡ kept.round.items
  pub places : work.places.items ≡ kept.places.items
  pub queue : work.queue.items ≡ kept.queue.items
  pub flags : work.flags.items ≡ kept.flags.items
  pub scratch : work.scratch.items ≡ kept.scratch.items
  pub journal : work.journal.items ≡ kept.journal.items

-- as much of the round as is lent: no more than there are places for
abbrev pub round_lent : Work → Lengths → List ℕ
round_lent work lengths = take (min lengths.round STOPS) work.round.items
