use mathlib.Core.Path.{refl}
use Rattle.rules.specs.Search.{margin}
use Rattle.walks.proofs.tallies.margin_of.Goals as goal

pub returns : goal.returns
unfolding margin
returns c = refl
