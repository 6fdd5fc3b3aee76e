use mathlib.Core.Path.{ap}
use lib.Dec.{eqb}
use Rattle.checks.proofs.time_good.Goals as goal

pub returns : goal.returns
returns c = ap (eqb c.args.time) c.cost.ensures.is
