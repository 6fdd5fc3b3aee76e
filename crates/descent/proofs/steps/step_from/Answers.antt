use Rattle.legs.specs.Plans.{plan_in}
use Rattle.journal.specs.Tracks.{track_in}
use Rattle.improve.proofs.StepLaws.{stepped_is}
use Rattle.descent.proofs.KindLaws.{or_improve_is}
use Rattle.descent.proofs.steps.step_from.Goals as goal

pub returns-in-Lk-clause-stepped : goal.returns-in-Lk-clause-stepped
returns-in-Lk-clause-stepped c =
    stepped_is (or_improve_is (plan_in c.args.plan.now) c.args.v.0 (track_in c.args.work.now.track.now) c.in-Lk.is) c.lk_or_improve.ensures.stepped

pub returns-in-Lk3Only-clause-stepped : goal.returns-in-Lk3Only-clause-stepped
returns-in-Lk3Only-clause-stepped c = rw c.in-Lk3Only.is c.lk3_only_step.ensures.stepped
