use Rattle.rules.specs.Ring.{ahead}
use Rattle.ring.proofs.round.Round.ahead.Goals as goal

pub returns-then-fwd : goal.returns-then-fwd
unfolding ahead
returns-then-fwd c = rw c.if-fwd.true c.succ.ensures

pub returns-else-fwd : goal.returns-else-fwd
unfolding ahead
returns-else-fwd c = rw c.if-fwd.false c.pred.ensures
