use native.Mathlib.Omega.{arith}
use Rattle.rules.specs.Improve.{improve_both}
use Rattle.legs.specs.Plans.{plan_in}
use Rattle.journal.specs.Tracks.{track_in}
use Rattle.improve.proofs.StepLaws.{stepped_more, stepped_first, stepped_else, same_held}
use Rattle.descent.proofs.KindLaws.{lk_search_stays}
use Rattle.descent.proofs.steps.lk_or_improve.Goals as goal

pub returns-then-gain-gt0-clause-stepped : goal.returns-then-gain-gt0-clause-stepped
returns-then-gain-gt0-clause-stepped c =
    stepped_first (improve_both (plan_in c.args.plan.now) c.args.v.0) c.lk_search-gain.ensures.stepped (omega (arith, c.if-gain-gt0.true)) (omega arith)

pub improve_both-requires-clause-room : goal.improve_both-requires-clause-room
improve_both-requires-clause-room c =
    let t = c.args.work.now.track.now in
    let s = c.lk_search-gain.ensures in
    omega (arith, c.requires.room, s.same.room, same_held t.stops.now (lk_search_stays (plan_in c.args.plan.now) c.args.v.0 (track_in t) c.args.step) s.stepped (omega (arith, c.if-gain-gt0.false)))

pub returns-clause-stepped : goal.returns-clause-stepped
returns-clause-stepped c =
    let p = plan_in c.args.plan.now in
    let v = c.args.v.0 in
    let t = c.args.work.now.track.now in
    let s = c.lk_search-gain.ensures.stepped in
    stepped_else t.stops.now (lk_search_stays p v (track_in t) c.args.step) s (omega (arith, c.if-gain-gt0.false)) (improve_both p v) (stepped_more (c.improve_both.ensures.stepped p.ka p.alpha) (omega arith))
