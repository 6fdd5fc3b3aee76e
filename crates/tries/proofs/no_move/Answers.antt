use mathlib.Core.Path.{refl}
use Rattle.tries.specs.Picks.{none}
use Rattle.tries.proofs.no_move.Goals as goal

pub returns : goal.returns
unfolding none
returns c = λ n h. record { is = refl; low3 = h; low4 = h; low5 = h; low6 = h }
