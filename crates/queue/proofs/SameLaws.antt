-- A queue that stays in its memory, call after call.
use mathlib.Core.Path.{refl, ◌∙◌}
use Rattle.queue.specs.declared.queue.Queue.{Queue}
use Rattle.queue.specs.Queues.{SameQueue}

pub queue_stays : (a : Queue) → SameQueue a a
queue_stays a = record { same_words = refl; same_flags = refl; size = refl }

pub queue_through : {a b c : Queue} → SameQueue a b → SameQueue b c → SameQueue a c
queue_through p q = record { same_words = q.same_words ∙ p.same_words; same_flags = q.same_flags ∙ p.same_flags; size = q.size ∙ p.size }
