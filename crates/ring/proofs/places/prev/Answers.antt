use borrow.Author.Tests.{eq-eqb, ne_eqb}
use Rattle.rules.specs.Ring.{prev}
use borrow.Author.Rules.{rules}
use Rattle.ring.proofs.places.prev.Goals as goal

pub returns-then-i-eq0 : goal.returns-then-i-eq0
unfolding prev
returns-then-i-eq0 c = record { is = simp (eq-eqb _ _ c.if-i-eq0.true); below = search rules }

pub returns-else-i-eq0 : goal.returns-else-i-eq0
unfolding prev
returns-else-i-eq0 c = record { is = simp (ne_eqb _ _ c.if-i-eq0.false); below = search rules }
