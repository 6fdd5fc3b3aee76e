use Rattle.rules.specs.Ring.{between}
use Rattle.ring.proofs.round.Round.between.Goals as goal

pub returns : goal.returns
unfolding between
returns c = cc (c.on_way.ensures, c.place_of-p.ensures.is, c.place_of-q.ensures.is, c.place_of-s.ensures.is)
