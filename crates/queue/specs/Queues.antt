-- A queue in its memory. Assumes nothing.
use Rattle.std.specs.Prelude.{◌≡◌, List, length}
use Rattle.rules.specs.Words.{Stop, Place}
use Rattle.rules.specs.Queue.{waiting}
use Rattle.queue.specs.Lines.{Waits}
use Rattle.queue.specs.declared.queue.Queue.{Queue}

-- those that wait, in order
abbrev pub waiting_in : Queue → List Stop
waiting_in q = waiting q.words.now q.head q.count

-- the same memory
pub record SameQueue (a b : Queue) : Type 0 where
  pub same_words : b.words.ghost_name ≡ a.words.ghost_name
  pub same_flags : b.flags.ghost_name ≡ a.flags.ghost_name
  pub size : length b.words.now ≡ length a.words.now

-- the stops q wait now, with the head at `at`
abbrev pub Queued : List Stop → Place → Queue → Type 0
Queued q at b = Waits q at b.words.now b.flags.now b.head b.count
