use mathlib.Core.Path.{refl}
use native.Mathlib.Omega.{arith}
use Rattle.work.proofs.SameLaws.{work_through}
use Rattle.improve.proofs.StepLaws.{stepped_none}
use Rattle.lk_scans.proofs.ShownLaws.{breadth_first}
use Rattle.lk.proofs.SideLaws.{side_all, none_held, try_over, try_end, try_hit, try_miss}
use Rattle.lk.proofs.lk_side.Goals as goal

pub loop-i-init : goal.loop-i-init
loop-i-init c =
    let a = c.args in
    let w = a.work.now in (
      record { same_track = refl; same_queue = refl; same_scratch = refl; same_stops = refl; same_places = refl; same_journal = refl; same_words = refl; same_flags = refl; size = refl; room = refl },
      record {
        yet = stepped_none refl refl w.track.now.tied w.track.now.good w.queue.now.in_line;
        leads = λ ka alpha. side_all a.plan.now ka alpha a.t1.0 c.ahead-t2.result.0 a.fwd w.track.now c.round-round.result c.round-round.ensures.stops c.ahead-t2.ensures.is c.dist-g.ensures.is c.lk_first-ps.ensures;
      },
    )

pub lk_deepen-gain-requires-clause-fine : goal.lk_deepen-gain-requires-clause-fine
lk_deepen-gain-requires-clause-fine c =
    let f = c.pick_at-p.ensures.fine c.args.plan.now.matrix.n c.dist-g.result c.lk_first-ps.ensures.fines in
    record { low3 = f.low3; low4 = f.low4; small = omega (arith, f.small, c.dist-g.ensures.small) }

pub lk_deepen-gain-requires-clause-room : goal.lk_deepen-gain-requires-clause-room
lk_deepen-gain-requires-clause-room c = omega (arith, none_held c.args.work.now c.loop-i.work c.loop-i.invariant.1.yet, c.loop-i.invariant.0.room, c.requires.room)

pub returns-then-gain-gt0-clause-stepped : goal.returns-then-gain-gt0-clause-stepped
returns-then-gain-gt0-clause-stepped c = try_hit c.loop-i.invariant.1 c.pick_at-p.ensures (omega (arith, c.if-p-eq0.false)) c.lk_deepen-gain.new.work c.lk_deepen-gain.ensures.stepped c.if-gain-gt0.true

pub loop-i-preserved : goal.loop-i-preserved
loop-i-preserved c = (work_through c.loop-i.invariant.0 c.lk_deepen-gain.ensures.same, try_miss c.loop-i.invariant.1 c.pick_at-p.ensures (omega (arith, c.if-p-eq0.false)) c.lk_deepen-gain.new.work c.lk_deepen-gain.ensures.stepped c.if-gain-gt0.false)

pub returns-after-loop-i-clause-stepped : goal.returns-after-loop-i-clause-stepped
returns-after-loop-i-clause-stepped c = try_over c.loop-i.invariant.1 (omega (arith, c.loop-i-test.false, c.lk_breadth-i-end.ensures, breadth_first))

pub returns-then-p-eq0-clause-stepped : goal.returns-then-p-eq0-clause-stepped
returns-then-p-eq0-clause-stepped c = try_end c.loop-i.invariant.1 c.pick_at-p.ensures c.if-p-eq0.true
