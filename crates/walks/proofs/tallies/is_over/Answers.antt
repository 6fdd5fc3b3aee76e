use Rattle.walks.specs.Walking.{over}
use mathlib.Core.Path.{refl}
use borrow.Author.Tests.{eq-eqb, ne_eqb}
use Rattle.walks.proofs.tallies.is_over.Goals as goal

pub returns-then-left-eq0 : goal.returns-then-left-eq0
unfolding over
returns-then-left-eq0 c = rw (eq-eqb c.args.left 0 c.if-left-eq0.true) refl

pub returns-then-stop : goal.returns-then-stop
unfolding over
returns-then-stop c = rw (ne_eqb c.args.left 0 c.if-left-eq0.false, c.if-stop.true) refl

pub returns-else-stop : goal.returns-else-stop
unfolding over
returns-else-stop c = rw (ne_eqb c.args.left 0 c.if-left-eq0.false, c.if-stop.false) refl
