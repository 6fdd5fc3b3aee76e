use Prim.Native.Nat.{◌≤◌}
use mathlib.Core.List.{[]}
use native.Mathlib.Omega.{arith}
use lib.ListN.{length}
use Rattle.improve.specs.Steps.{plan_with}
use Rattle.lk.proofs.SideLaws.{none_held, from_none, from_first, first_none, from_second}
use Rattle.lk.proofs.lk_from.Goals as goal

pub returns-then-plan-lt5-clause-stepped : goal.returns-then-plan-lt5-clause-stepped
returns-then-plan-lt5-clause-stepped c = λ ka alpha. from_none (plan_with c.args.plan.now ka alpha) c.args.t1.0 c.args.work.now (omega (arith, c.requires.size, c.if-plan-lt5.true))

pub returns-then-gain-gt0-clause-stepped : goal.returns-then-gain-gt0-clause-stepped
returns-then-gain-gt0-clause-stepped c = λ ka alpha.
    let a = c.args in
    from_first (plan_with a.plan.now ka alpha) a.t1.0 a.work.now c.lk_side-gain.new.work (omega (arith, c.requires.size, c.if-plan-lt5.false)) (c.lk_side-gain.ensures.stepped ka alpha) c.if-gain-gt0.true

pub lk_side-requires-clause-room : goal.lk_side-requires-clause-room
lk_side-requires-clause-room c =
    let a = c.args in
    let b = c.lk_side-gain.new.work in
    let long : 5 ≤ length a.work.now.track.now.stops.now = omega (arith, c.requires.size, c.if-plan-lt5.false) in
    omega (arith, none_held a.work.now b (first_none (plan_with a.plan.now 0 []) a.t1.0 a.work.now b long (c.lk_side-gain.ensures.stepped 0 []) c.if-gain-gt0.false), c.lk_side-gain.ensures.same.room, c.requires.room)

pub returns-clause-stepped : goal.returns-clause-stepped
returns-clause-stepped c = λ ka alpha.
    let a = c.args in
    from_second (plan_with a.plan.now ka alpha) a.t1.0 a.work.now c.lk_side-gain.new.work (omega (arith, c.requires.size, c.if-plan-lt5.false)) (c.lk_side-gain.ensures.stepped ka alpha) c.if-gain-gt0.false c.lk_side.new.work (c.lk_side.ensures.stepped ka alpha)
