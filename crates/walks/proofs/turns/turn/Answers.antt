use native.Mathlib.Omega.{arith}
use Rattle.kicks.specs.Kinds.{kick_number}
use Rattle.descent.specs.Kinds.{step_number}
use Rattle.walks.specs.Standing.{lent_in, tally_in}
use Rattle.walks.proofs.WalkLaws.{turn_kicks, turn_restarts}
use Rattle.walks.proofs.turns.turn.Goals as goal

pub kick_turn-requires-clause-counts_low : goal.kick_turn-requires-clause-counts_low
kick_turn-requires-clause-counts_low c =
    let k = c.requires.counts in
    let h = c.requires.left_nonzero in
    (omega (arith, k.stale_fits, h), (omega (arith, k.fails_fit, h), omega (arith, k.kicks_fit, h)))

pub returns-then-t-restart_after-clause-goes : goal.returns-then-t-restart_after-clause-goes
returns-then-t-restart_after-clause-goes c =
    let a = c.args in
    turn_kicks (lent_in a.plan.now a.work.now) a.best.now (tally_in a.t) a.state.now (step_number a.step) (kick_number a.kind) a.slack c.restart_after.result c.restart_after.ensures c.if-t-restart_after.true c.kick_turn.ensures.goes

pub returns-else-t-restart_after-clause-goes : goal.returns-else-t-restart_after-clause-goes
returns-else-t-restart_after-clause-goes c =
    let a = c.args in
    turn_restarts (lent_in a.plan.now a.work.now) a.best.now (tally_in a.t) a.state.now (step_number a.step) (kick_number a.kind) a.slack c.restart_after.result c.restart_after.ensures (omega (arith, c.if-t-restart_after.false)) c.restart.ensures.goes
