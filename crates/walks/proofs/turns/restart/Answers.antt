use mathlib.Core.Bool.{false}
use mathlib.Core.Path.{◌≡◌, refl, sym, ◌∙◌}
use Rattle.rules.specs.Memory.{Lent, Carried, plan_in}
use Rattle.descent.specs.Kinds.{step_number}
use Rattle.walks.specs.Walking.{Tally, tallying, renewed, Works, Given}
use Rattle.walks.specs.Standing.{lent_in, carried_in, tally_in}
use Rattle.walks.proofs.HoldLaws.{same_lent, works_bare, works_full, given_after, descend_dives}
use Rattle.walks.proofs.RestartLaws.{restart_goes}
use Rattle.walks.proofs.turns.restart.Goals as goal

pub reshape-shaken-requires : goal.reshape-shaken-requires
reshape-shaken-requires c =
    let a = c.args in
    let r = c.requires.rests in
    record { desk = (works_bare (lent_in a.plan.now a.work.now) _ r.works).desk; idle = c.requires.idle; perm = r.best_perm; best_fits = r.best_long }

pub descend-dived-requires : goal.descend-dived-requires
unfolding plan_in
descend-dived-requires c =
    let w = c.reshape-shaken.ensures.shook.holds.works in
    let g = c.requires.rests.given in
    record { size = sym w.desk.round_long; some = g.some_near; fit = g.fits; room = w.desk.room; time_is = w.carried }

pub keep_best-requires : goal.keep_best-requires
keep_best-requires c = c.requires.rests.best_long ∙ sym (c.descend-dived.ensures.same.size ∙ c.reshape-shaken.ensures.shook.holds.works.desk.round_long)

pub returns-clause-idle : goal.returns-clause-idle
returns-clause-idle c =
    let a = c.args in
    let p = a.plan.now in
    let k = c.reshape-shaken in
    let m = lent_in p k.new.work in
    let d = c.descend-dived.ensures.descended in
    let c1 = carried_in k.new.work k.result in
    let v = descend_dives m c1 (works_full m c1 k.ensures.shook.holds.works) (given_after (lent_in p a.work.now) c.requires.rests.given _ _ _ _ _ _) _ _ _ _ _ _ (same_lent p c.descend-dived.ensures.same) (step_number a.step) false a.t.left d k.new.state in
    record { none_held = d.none refl; nobody = v.count_is; begins = v.head_is }

pub returns-clause-goes : goal.returns-clause-goes
unfolding renewed
returns-clause-goes c =
    let a = c.args in
    let p = a.plan.now in
    let l : Lent = lent_in p a.work.now in
    let t : Tally = tally_in a.t in
    let k = c.reshape-shaken in
    let m : Lent = lent_in p k.new.work in
    let c1 : Carried = carried_in k.new.work k.result in
    let w : Works m c1 = works_full m c1 k.ensures.shook.holds.works in
    let g : Given m = given_after l c.requires.rests.given _ _ _ _ _ _ in
    let d = c.descend-dived.result in
    let u : Tally = tallying d.time c.lesser.result d.time 0 c.counted.result a.t.kicks d.left in
    let et : u ≡ renewed d.time d.left t = λ i. tallying d.time (c.lesser.ensures i) d.time 0 (c.counted.ensures i) a.t.kicks d.left in
    restart_goes l a.best.now t c.requires.rests (step_number a.step) a.state.now _ _ _ _ _ _ k.ensures.shook _ _ _ _ _ _ (descend_dives m c1 w g _ _ _ _ _ _ (same_lent p c.descend-dived.ensures.same) (step_number a.step) false a.t.left c.descend-dived.ensures.descended k.new.state) c.keep_best.new.best c.keep_best.ensures u et
