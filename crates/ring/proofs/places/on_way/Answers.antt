use borrow.Author.Tests.{le-leb, lt-leb}
use Rattle.rules.specs.Ring.{on_way}
use Rattle.ring.proofs.places.on_way.Goals as goal

pub returns-then-a-b : goal.returns-then-a-b
unfolding on_way
returns-then-a-b c = simp (le-leb _ _ c.if-a-c.true, le-leb _ _ c.if-a-b.true)

pub returns-else-a-b : goal.returns-else-a-b
unfolding on_way
returns-else-a-b c = simp (le-leb _ _ c.if-a-c.true, lt-leb _ _ c.if-a-b.false)

pub returns-then-a-b-2 : goal.returns-then-a-b-2
unfolding on_way
returns-then-a-b-2 c = simp (lt-leb _ _ c.if-a-c.false, le-leb _ _ c.if-a-b-2.true)

pub returns-else-a-b-2 : goal.returns-else-a-b-2
unfolding on_way
returns-else-a-b-2 c = simp (lt-leb _ _ c.if-a-c.false, lt-leb _ _ c.if-a-b-2.false)
