use mathlib.Core.Path.{refl, sym, subst}
use native.Mathlib.Omega.{arith}
use Rattle.work.proofs.SameLaws.{work_stays, work_through}
use Rattle.walks.specs.Walking.{Works}
use Rattle.walks.specs.Standing.{bare_in, carried_in}
use Rattle.walks.proofs.HoldLaws.{idle_is}
use Rattle.walks.proofs.ShakeLaws.{shaking_starts, shaking_room, shaking_turn, shaking_done}
use Rattle.walks.proofs.turns.shake.Goals as goal

pub loop-kick-init : goal.loop-kick-init
loop-kick-init c =
    let a = c.args in
    let l = bare_in a.matrix.now a.work.now in
    (work_stays _, shaking_starts l (carried_in a.work.now a.time) a.state.now (subst (Works l) (sym (idle_is a.time c.requires.idle)) c.requires.works) c.requires.idle.none_held)

pub kick_on-shaken-requires : goal.kick_on-shaken-requires
kick_on-shaken-requires c =
    let p = c.loop-kick in
    record { works = p.invariant.1.works; room = shaking_room _ _ _ _ p._kick p.invariant.1 c.loop-kick-test.true }

pub loop-kick-preserved : goal.loop-kick-preserved
loop-kick-preserved c =
    let p = c.loop-kick in
    let k = c.kick_on-shaken.ensures in
    (work_through p.invariant.0 k.same, shaking_turn (bare_in c.args.matrix.now p.work) (carried_in p.work p.shaken) p.state k.shakes _ p._kick refl refl c.loop-kick-test.true p.invariant.1)

pub returns-clause-shakes : goal.returns-clause-shakes
returns-clause-shakes c = let p = c.loop-kick in shaking_done _ _ _ _ p._kick p.invariant.1 (omega (arith, c.loop-kick-test.false))
