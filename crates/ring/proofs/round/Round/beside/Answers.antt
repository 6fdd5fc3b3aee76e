use Rattle.rules.specs.Ring.{beside}
use Rattle.ring.proofs.round.Round.beside.Goals as goal

pub returns-then-after : goal.returns-then-after
unfolding beside
returns-then-after c = rw c.if-after.true c.ahead.ensures

pub returns-else-after : goal.returns-else-after
unfolding beside
returns-else-after c = rw c.if-after.false c.behind.ensures
