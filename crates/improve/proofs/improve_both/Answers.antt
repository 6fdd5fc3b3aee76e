use mathlib.Core.Path.{◌≡◌}
use mathlib.Core.Bool.{true, false}
use native.Mathlib.Omega.{arith}
use Rattle.rules.specs.Improve.{improve}
use Rattle.laws.proofs.StayLaws.{improve_stays}
use Rattle.journal.specs.Tracks.{track_in}
use Rattle.improve.specs.Steps.{near_in, plan_with}
use Rattle.improve.proofs.ImproveLaws.{improve_any, both_is}
use Rattle.improve.proofs.StepLaws.{stepped_is, stepped_first, stepped_else, still_room}
use Rattle.improve.proofs.improve_both.Goals as goal

pub returns-then-gain-gt0-clause-stepped : goal.returns-then-gain-gt0-clause-stepped
returns-then-gain-gt0-clause-stepped c = λ ka alpha.
    let a = c.args in
    let p = a.plan.now in
    let t = track_in a.work.now.track.now in
    stepped_is (both_is p ka alpha a.t1.0 t)
    (stepped_first (improve (plan_with p ka alpha) false a.t1.0) (stepped_is (improve_any p ka alpha a.t1.0 t true) c.improve-gain.ensures.stepped) (omega (arith, c.if-gain-gt0.true)) (omega arith))

pub improve-requires-clause-room : goal.improve-requires-clause-room
improve-requires-clause-room c =
    let a = c.args in
    let t = a.work.now.track.now in
    let s = c.improve-gain.ensures in
    let none : c.improve-gain.result ≡ 0 = omega arith in
    still_room t.stops.now (improve_stays (near_in a.plan.now) a.t1.0 (track_in t) true) s.stepped none 2 s.same.room c.requires.room

pub returns-clause-stepped : goal.returns-clause-stepped
returns-clause-stepped c = λ ka alpha.
    let a = c.args in
    let p = a.plan.now in
    let t = track_in a.work.now.track.now in
    let none : c.improve-gain.result ≡ 0 = omega arith in
    stepped_is (both_is p ka alpha a.t1.0 t)
    (stepped_else a.work.now.track.now.stops.now (improve_stays (plan_with p ka alpha) a.t1.0 t true) (stepped_is (improve_any p ka alpha a.t1.0 t true) c.improve-gain.ensures.stepped) none (improve (plan_with p ka alpha) false a.t1.0)
    (stepped_is (improve_any p ka alpha a.t1.0 (track_in c.improve-gain.new.work.track.now) false) c.improve.ensures.stepped))
