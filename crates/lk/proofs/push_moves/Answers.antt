use Rattle.rules.specs.Queue.{push_all}
use Rattle.lk_state.specs.Stacks.{stops_in}
use Rattle.improve.proofs.StepLaws.{pushed}
use Rattle.lk.proofs.push_moves.Goals as goal

pub returns-clause-waits : goal.returns-clause-waits
unfolding push_all
returns-clause-waits c = pushed (stops_in c.args.steps.now c.args.len) c.push_two.ensures.waits c.push_steps.ensures.waits
