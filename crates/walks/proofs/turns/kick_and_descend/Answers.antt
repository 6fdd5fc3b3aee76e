use mathlib.Core.Bool.{true}
use mathlib.Core.Path.{sym, subst}
use native.Mathlib.Omega.{arith}
use Rattle.rules.specs.Memory.{Lent, Carried, plan_in, state_in}
use Rattle.rules.specs.Plan.{leg_in}
use Rattle.rules.specs.Search.{shaken}
use Rattle.descent.specs.Kinds.{step_number}
use Rattle.kicks.specs.Kinds.{kick_number}
use Rattle.walks.specs.Walking.{Works, Given, Shook}
use Rattle.walks.specs.Standing.{lent_in, bare_in, carried_in}
use Rattle.walks.proofs.HoldLaws.{same_lent, idle_is, works_bare, works_full, given_after, descend_dives}
use Rattle.walks.proofs.DiveLaws.{dives}
use Rattle.walks.proofs.turns.kick_and_descend.Goals as goal

pub kick_on-kicked-requires-clause-works : goal.kick_on-kicked-requires-clause-works
kick_on-kicked-requires-clause-works c =
    let a = c.args in
    subst (Works (bare_in a.plan.now.matrix a.work.now)) (sym (idle_is a.time c.requires.idle)) (works_bare (lent_in a.plan.now a.work.now) _ c.requires.works)

pub kick_on-kicked-requires-clause-room : goal.kick_on-kicked-requires-clause-room
kick_on-kicked-requires-clause-room c = omega (arith, c.requires.works.desk.room, c.requires.idle.none_held)

pub descend-requires : goal.descend-requires
unfolding plan_in
descend-requires c =
    let w = c.kick_on-kicked.ensures.shakes.holds.works in
    let g = c.requires.given in
    record { size = sym w.desk.round_long; some = g.some_near; fit = g.fits; room = w.desk.room; time_is = w.carried }

pub returns-clause-dives : goal.returns-clause-dives
returns-clause-dives c =
    let a = c.args in
    let p = a.plan.now in
    let l : Lent = lent_in p a.work.now in
    let k = c.kick_on-kicked in
    let b = k.new.work in
    let m : Lent = lent_in p b in
    let c1 : Carried = carried_in b k.result in
    let w : Works m c1 = works_full m c1 k.ensures.shakes.holds.works in
    let g : Given m = given_after l c.requires.given _ _ _ _ _ _ in
    let s = subst (λ (d : Carried). Shook (shaken (leg_in l.n l.matrix) 1 (kick_number c.choose_kind-this.result) (state_in (bare_in p.matrix a.work.now) d) c.choose_kind-this.new.state) (bare_in p.matrix b) c1 k.new.state) (idle_is a.time c.requires.idle) k.ensures.shakes in
    dives l a.time c.requires.works (kick_number a.kind) a.state.now c.choose_kind-this.ensures _ _ _ _ _ _ (same_lent p k.ensures.same) s (step_number a.step) a.left (descend_dives m c1 w g _ _ _ _ _ _ (same_lent p c.descend.ensures.same) (step_number a.step) true a.left c.descend.ensures.descended k.new.state)
