use Rattle.rules.specs.Plan.{leg_in}
use Rattle.rules.specs.Memory.{state_in}
use Rattle.rules.specs.Search.{shaken}
use Rattle.work.specs.Works.{SameWork}
use Rattle.walks.specs.Standing.{bare_in, carried_in}
use Rattle.walks.proofs.ShakeLaws.{Shaking}
use Rattle.walks.proofs.turns.shake.Given as goal

abbrev pub invariant-loop-kick : goal.invariant-loop-kick
invariant-loop-kick l =
    let m = l.matrix in
    SameWork l.fn.work l.work × Shaking (shaken (leg_in m.n m.times.now) 32 0 (state_in (bare_in m l.fn.work) (carried_in l.fn.work l.time)) l.fn.state) (bare_in m l.work) (carried_in l.work l.shaken) l.state l._kick
