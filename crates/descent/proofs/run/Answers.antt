use mathlib.Core.Path.{refl, subst}
use native.Mathlib.Omega.{arith}
use Rattle.rules.specs.Plan.{leg_of}
use Rattle.legs.specs.Plans.{plan_in}
use Rattle.laws.proofs.GainLaws.{Fit}
use Rattle.work.proofs.SameLaws.{work_through}
use Rattle.descent.proofs.RunningLaws.{kept_work, starts, within_room, affords, turns, empty_ends, out_ends, short_ends}
use Rattle.descent.proofs.run.Goals as goal

pub stops-init : goal.stops-init
unfolding leg_of
stops-init c =
    starts (kept_work refl c.keep.ensures.same refl refl) c.keep.ensures.kept refl c.requires.time_is refl

pub short-requires : goal.short-requires
short-requires c = within_room c.stops.invariant

pub overflow_sub-carried : goal.overflow_sub-carried
overflow_sub-carried c = affords c.stops.invariant (subst (Fit (plan_in c.args.plan.now)) c.requires.size c.requires.fit) c.take_step-gain.new.work c.take_step-gain.ensures.took

pub stops-preserved : goal.stops-preserved
stops-preserved c =
    let e = c.take_step-gain.ensures in
    turns c.stops.invariant (subst (Fit (plan_in c.args.plan.now)) c.requires.size c.requires.fit) c.take_step-gain.new.work e.took c.short.result _ (omega arith) c.short.ensures c.if-short.false
    (work_through e.same (kept_work refl c.keep-in-stops.ensures.same refl refl))
    c.keep-in-stops.ensures.kept refl

pub returns-after-stops-clause-ended : goal.returns-after-stops-clause-ended
returns-after-stops-clause-ended c = empty_ends c.stops.invariant (omega (arith, c.stops-test.false))

pub returns-then-left-eq0-clause-ended : goal.returns-then-left-eq0-clause-ended
returns-then-left-eq0-clause-ended c = out_ends c.stops.invariant c.stops-test.true c.if-left-eq0.true

pub returns-then-short-clause-ended : goal.returns-then-short-clause-ended
returns-then-short-clause-ended c = short_ends c.stops.invariant c.short.result c.stops-test.true (omega arith) c.short.ensures c.if-short.true
