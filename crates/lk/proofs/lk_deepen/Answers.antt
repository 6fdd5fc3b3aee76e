use mathlib.Core.Path.{sym, subst, ◌∙◌}
use mathlib.Core.List.{[]}
use native.Mathlib.Omega.{arith}
use Rattle.lk_state.specs.Stacks.{Stepping}
use Rattle.lk.proofs.SideLaws.{deep_none, deep_some}
use Rattle.lk.proofs.lk_deepen.Goals as goal

pub rollback-requires-clause-mark_le_held : goal.rollback-requires-clause-mark_le_held
rollback-requires-clause-mark_le_held c = (c.lk_walk-walk.ensures.walked 0 []).high

pub returns-then-mark-eq0-clause-stepped : goal.returns-then-mark-eq0-clause-stepped
returns-then-mark-eq0-clause-stepped c = λ ka alpha.
    deep_none (c.lk_walk-walk.ensures.walked ka alpha) (omega (arith, c.requires.room)) c.rollback.ensures.back c.rollback.ensures.words c.args.t1.0 c.args.t2.0 c.if-mark-eq0.true c.args.work.now.queue.now.in_line

pub push_moves-requires-clause-len_bound : goal.push_moves-requires-clause-len_bound
push_moves-requires-clause-len_bound c = omega (arith, (c.lk_walk-walk.ensures.walked 0 []).few)

pub push_moves-requires-clause-stepping : goal.push_moves-requires-clause-stepping
push_moves-requires-clause-stepping c = subst (Stepping c.lk_walk-walk.result.steps c.lk_walk-walk.result.mark.len) (c.lk_walk-walk.ensures.same.size ∙ sym c.args.work.now.queue_fits) (c.lk_walk-walk.ensures.walked 0 []).below

pub returns-clause-stepped : goal.returns-clause-stepped
returns-clause-stepped c = λ ka alpha.
    deep_some (c.lk_walk-walk.ensures.walked ka alpha) (omega (arith, c.requires.room)) c.rollback.ensures.back c.rollback.ensures.words c.args.t1.0 c.args.t2.0 (omega (arith, c.if-mark-eq0.false)) c.push_moves.ensures.waits
