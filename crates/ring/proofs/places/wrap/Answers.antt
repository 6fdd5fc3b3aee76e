use borrow.Author.Rules.{rules}
use borrow.Author.Tests.{lt-ltb, le-ltb}
use Rattle.ring.specs.Around.{wrapped}
use Rattle.ring.proofs.places.wrap.Goals as goal

pub returns-then-x-n : goal.returns-then-x-n
unfolding wrapped
returns-then-x-n c = record { is = simp (lt-ltb _ _ c.if-x-n.true); below = search rules }

pub returns-else-x-n : goal.returns-else-x-n
unfolding wrapped
returns-else-x-n c = record { is = simp (le-ltb _ _ c.if-x-n.false); below = search rules }
