use native.Mathlib.Omega.{arith}
use Rattle.legs.specs.Plans.{plan_in}
use Rattle.journal.specs.Tracks.{track_in}
use Rattle.improve.proofs.StepLaws.{stepped_is, stepped_more}
use Rattle.descent.proofs.KindLaws.{lk3_is}
use Rattle.descent.proofs.steps.lk_search.Goals as goal

pub returns-in-Lk-clause-stepped : goal.returns-in-Lk-clause-stepped
returns-in-Lk-clause-stepped c =
    let p = plan_in c.args.plan.now in
    rw c.in-Lk.is (stepped_more (c.lk_from.ensures.stepped p.ka p.alpha) (omega arith))

pub returns-in-Lk3-clause-stepped : goal.returns-in-Lk3-clause-stepped
returns-in-Lk3-clause-stepped c =
    stepped_is (lk3_is (plan_in c.args.plan.now) c.args.v.0 (track_in c.args.work.now.track.now) c.in-Lk3.is) c.lk3_from.ensures.stepped
