use Rattle.rules.specs.Search.{restart_after}
use native.Mathlib.Omega.{arith}
use Rattle.walks.proofs.tallies.restart_after.Goals as goal

pub returns-then-w-lt3000 : goal.returns-then-w-lt3000
unfolding restart_after
returns-then-w-lt3000 c = omega (arith, c.if-w-lt3000.true)

pub returns-else-w-lt3000 : goal.returns-else-w-lt3000
unfolding restart_after
returns-else-w-lt3000 c = omega (arith, c.if-w-lt3000.false)
