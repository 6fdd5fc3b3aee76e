use native.Mathlib.Omega.{arith}
use Rattle.rules.specs.Journal.{track_of}
use Rattle.legs.specs.Plans.{plan_in}
use Rattle.journal.specs.Tracks.{track_in}
use Rattle.improve.proofs.StepLaws.{stepped_is, stepped_more}
use Rattle.descent.proofs.KindLaws.{few_is, only_is}
use Rattle.descent.proofs.steps.lk3_only_step.Goals as goal

pub returns-then-few-clause-stepped : goal.returns-then-few-clause-stepped
unfolding track_of
returns-then-few-clause-stepped c =
    let p = plan_in c.args.plan.now in
    stepped_more (stepped_is (few_is p c.args.v.0 (track_in c.args.work.now.track.now) (omega arith)) (c.improve_both.ensures.stepped p.ka p.alpha)) (omega arith)

pub returns-else-few-clause-stepped : goal.returns-else-few-clause-stepped
unfolding track_of
returns-else-few-clause-stepped c =
    stepped_is (only_is (plan_in c.args.plan.now) c.args.v.0 (track_in c.args.work.now.track.now) (omega arith)) c.lk3_from.ensures.stepped
