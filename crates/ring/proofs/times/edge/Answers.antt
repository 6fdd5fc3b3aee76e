use borrow.Author.Tests.{lt-ltb, le-ltb}
use Rattle.rules.specs.Ring.{leg}
use Rattle.ring.specs.Legs.{leg_word}
use Rattle.ring.proofs.times.edge.Goals as goal

pub returns-then-a-b : goal.returns-then-a-b
unfolding leg leg_word
returns-then-a-b c = simp (lt-ltb _ _ c.if-a-b.true)

pub returns-else-a-b : goal.returns-else-a-b
unfolding leg leg_word
returns-else-a-b c = simp (le-ltb _ _ c.if-a-b.false)
