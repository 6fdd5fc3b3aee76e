use native.Mathlib.Omega.{arith}
use Rattle.rules.specs.Journal.{track_of}
use Rattle.journal.specs.Tracks.{track_in}
use Rattle.improve.proofs.ImproveLaws.{improve_none, improve_some}
use Rattle.improve.proofs.StepLaws.{stepped_none, stepped_some}
use Rattle.improve.proofs.improve.Goals as goal

pub returns-then-gain-eq0-clause-stepped : goal.returns-then-gain-eq0-clause-stepped
unfolding track_of
returns-then-gain-eq0-clause-stepped c =
    let a = c.args in
    let t = a.work.now.track.now in
    let m = c.find_move-mv.result in
    let none = improve_none a.plan.now a.fwd a.t1.0 (track_in t) m (rw c.round-round.ensures.stops at c.find_move-mv.ensures.is) (omega (arith, c.if-gain-eq0.true)) in
    stepped_none none c.if-gain-eq0.true t.tied t.good a.work.now.queue.now.in_line

pub returns-clause-stepped : goal.returns-clause-stepped
unfolding track_of
returns-clause-stepped c =
    let a = c.args in
    let t = a.work.now.track.now in
    let m = c.find_move-mv.result in
    let some = improve_some a.plan.now a.fwd a.t1.0 (track_in t) m (rw c.round-round.ensures.stops at c.find_move-mv.ensures.is) c.ahead-t2.result.0 (rw c.round-round.ensures.stops at c.ahead-t2.ensures.is) (omega (arith, c.if-gain-eq0.false)) in
    stepped_some some c.apply_seq3.ensures.made c.push_move.ensures.waits
