use mathlib.Core.Path.{◌≡◌}
use Rattle.rules.specs.Step.{among}
use Rattle.lk_state.specs.Stacks.{leg_is, legs_in}
use Rattle.lk_state.proofs.has.Given as goal

abbrev pub invariant-loop-i : goal.invariant-loop-i
invariant-loop-i g l = among (legs_in l.legs l.i) (leg_is l.word) ≡ among (legs_in l.legs l.len) (leg_is l.word)
