use Rattle.std.proofs.Common.{refl, rules}
use Rattle.rules.specs.Plan.{leg_in}
use Rattle.legs.proofs.matrix.Matrix.dist.Goals as goal

pub returns : goal.returns
unfolding leg_in
returns c = record { is = refl; small = search rules }
