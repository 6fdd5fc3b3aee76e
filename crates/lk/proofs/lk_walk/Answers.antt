use mathlib.Core.Path.{refl}
use native.Mathlib.Omega.{arith}
use Rattle.journal.proofs.SameLaws.{track_stays, track_through}
use Rattle.lk.proofs.NoteLaws.{noted}
use Rattle.lk.proofs.WalkLaws.{ahead_start, ahead_turn, ahead_over}
use Rattle.lk.proofs.lk_walk.Goals as goal

pub loop-p-init : goal.loop-p-init
loop-p-init c =
    let a = c.args in
    (track_stays a.track.now, ahead_start a.plan.now a.track.now a.first c.lk_new-st.ensures c.requires.t2_low c.requires.partial_nonzero c.requires.fine)

pub loop-p-preserved : goal.loop-p-preserved
loop-p-preserved c =
    let lp = c.loop-p in
    let w = lp.invariant.1 in
    let few = c.args.plan.now.matrix.square.few in
    let note = noted lp.st _ lp.level lp.end.0 lp.p.t3.0 lp.p.t4.0 c.leg_word.result c.leg_word-in-loop-p.result w.kept.room (omega (arith, w.some c.loop-p-test.true)) (omega (arith, few, w.fine.low4)) c.leg_word.ensures c.leg_word-in-loop-p.ensures refl refl refl in
    (track_through lp.invariant.0 c.flip.ensures.same, ahead_turn w c.requires.size c.requires.t1_low c.loop-p-test.true c.flip.new.track c.flip.ensures.made note c.better_of-best.ensures c.dist-closing.ensures.is c.round.result c.round.ensures.stops c.lk_level-p.ensures)

pub returns-clause-walked : goal.returns-clause-walked
returns-clause-walked c = ahead_over c.loop-p.invariant.1 (omega (arith, c.loop-p-test.false))
