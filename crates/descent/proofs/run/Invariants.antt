use Rattle.rules.specs.Descend.{descend}
use Rattle.legs.specs.Plans.{plan_in}
use Rattle.descent.specs.Handed.{manner_of}
use Rattle.descent.specs.Kinds.{step_number, ended_number}
use Rattle.descent.specs.Descents.{room_of, state_at}
use Rattle.descent.proofs.RunningLaws.{Running}
use Rattle.descent.proofs.run.Given as goal

abbrev pub invariant-stops : goal.invariant-stops
invariant-stops l =
    let p = plan_in l.plan in
    let kind = step_number l.step in
    Running p kind l.keeps (descend p kind (manner_of l.keeps (room_of l.fn.work)) l.budget (state_at l.fn.work l.time)) l.fn.work l.work l.left l.carried (ended_number l.ended)

abbrev pub decreases-stops : goal.decreases-stops
decreases-stops l = l.left
