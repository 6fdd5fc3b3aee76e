use borrow.Author.Tests.{eq-eqb, ne_eqb}
use Rattle.rules.specs.Ring.{next}
use borrow.Author.Rules.{rules}
use Rattle.ring.proofs.places.next.Goals as goal

pub returns-then-i-n : goal.returns-then-i-n
unfolding next
returns-then-i-n c = record { is = simp (eq-eqb _ _ c.if-i-n.true); below = search rules }

pub returns-else-i-n : goal.returns-else-i-n
unfolding next
returns-else-i-n c = record { is = simp (ne_eqb _ _ c.if-i-n.false); below = search rules }
