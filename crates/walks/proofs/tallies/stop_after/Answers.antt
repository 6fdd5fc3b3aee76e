use Rattle.rules.specs.Search.{stop_after}
use native.Mathlib.Omega.{arith}
use Rattle.walks.proofs.tallies.stop_after.Goals as goal

pub returns-then-w-lt100000 : goal.returns-then-w-lt100000
unfolding stop_after
returns-then-w-lt100000 c = omega (arith, c.if-w-lt100000.true)

pub returns-else-w-lt100000 : goal.returns-else-w-lt100000
unfolding stop_after
returns-else-w-lt100000 c = omega (arith, c.if-w-lt100000.false)
