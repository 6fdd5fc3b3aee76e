use Rattle.rules.specs.Ring.{between}
use Rattle.ring.proofs.round.Round.between_dir.Goals as goal

pub returns-else-fwd : goal.returns-else-fwd
unfolding between
returns-else-fwd c = rw c.if-fwd.false c.between-else-fwd.ensures
