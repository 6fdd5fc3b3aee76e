use mathlib.Core.Path.{sym}
use native.Mathlib.Omega.{arith}
use Rattle.kicks.specs.Kinds.{kick_number}
use Rattle.walks.specs.Standing.{bare_in, carried_in}
use Rattle.walks.proofs.HoldLaws.{same_bare, time_small, kick_counts, kick_shook}
use Rattle.walks.proofs.turns.kick_on.Goals as goal

pub kick-done-requires : goal.kick-done-requires
kick-done-requires c =
    let d = c.requires.works.desk in
    record { ready = record { two = omega (arith, d.two, d.round_long); size = sym d.round_long; room = c.requires.room } }

pub overflow_add-result : goal.overflow_add-result
overflow_add-result c =
    let a = c.args in
    omega (arith, time_small (bare_in a.matrix.now a.work.now) (carried_in a.work.now a.time) c.requires.works, c.kick-done.ensures.kicked.made.added_is.small)

pub overflow_sub-result : goal.overflow_sub-result
overflow_sub-result c =
    let a = c.args in
    omega (arith, kick_counts (bare_in a.matrix.now a.work.now) (carried_in a.work.now a.time) c.requires.works _ _ _ _ _ _ (same_bare a.matrix.now c.kick-done.ensures.same) (kick_number a.kind) a.state.now c.kick-done.ensures.kicked)

pub returns-clause-shakes : goal.returns-clause-shakes
returns-clause-shakes c =
    let a = c.args in
    kick_shook (bare_in a.matrix.now a.work.now) (carried_in a.work.now a.time) c.requires.works _ _ _ _ _ _ (same_bare a.matrix.now c.kick-done.ensures.same) (kick_number a.kind) a.state.now c.kick-done.ensures.kicked
