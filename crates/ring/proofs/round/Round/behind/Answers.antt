use Rattle.rules.specs.Ring.{behind}
use Rattle.ring.proofs.round.Round.behind.Goals as goal

pub returns-then-fwd : goal.returns-then-fwd
unfolding behind
returns-then-fwd c = rw c.if-fwd.true c.pred.ensures

pub returns-else-fwd : goal.returns-else-fwd
unfolding behind
returns-else-fwd c = rw c.if-fwd.false c.succ.ensures
