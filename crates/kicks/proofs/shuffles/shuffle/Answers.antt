use native.Mathlib.Omega.{arith}
use Rattle.journal.proofs.SameLaws.{track_stays, track_through}
use Rattle.kicks.proofs.ShuffleLaws.{shuffle_starts, shuffle_turn, shuffle_done}
use Rattle.kicks.proofs.shuffles.shuffle.Goals as goal

pub loop-k-init : goal.loop-k-init
loop-k-init c = (track_stays _, shuffle_starts _ _ _ _)

pub loop-k-preserved : goal.loop-k-preserved
loop-k-preserved c =
    let a = c.args in
    let lp = c.loop-k in
    let m = c.exchange_drawn.ensures in
    let d = c.draw-r.ensures in
    (track_through lp.invariant.0 m.same, shuffle_turn a.start.0 a.len _ _ _ _ _ lp.invariant.1 _ _ c.draw-r.result (omega (arith, c.loop-k-test.true)) d.state d.some d.is m.moved)

pub returns-clause-shuffled : goal.returns-clause-shuffled
returns-clause-shuffled c = shuffle_done _ _ _ _ _ _ _ c.loop-k.invariant.1 (omega (arith, c.loop-k-test.false))
