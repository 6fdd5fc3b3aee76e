use mathlib.Core.List.{List}
use mathlib.Core.Path.{sym, subst, ◌∙◌}
use Prim.Native.Nat.{ℕ}
use Rattle.kicks.specs.Kinds.{kick_number}
use Rattle.descent.specs.Kinds.{step_number}
use Rattle.walks.specs.Walking.{Goes}
use Rattle.walks.specs.Standing.{lent_in, tally_in, kicked_from}
use Rattle.walks.proofs.HoldLaws.{after}
use Rattle.walks.proofs.JudgeLaws.{turn_goes}
use Rattle.walks.proofs.turns.kick_turn.Goals as goal

pub judge-requires-clause-best_fits : goal.judge-requires-clause-best_fits
judge-requires-clause-best_fits c = c.requires.rests.best_long ∙ sym c.kick_and_descend-dived.ensures.dives.holds.works.desk.round_long

pub returns-clause-idle : goal.returns-clause-idle
returns-clause-idle c =
    let d = c.kick_and_descend-dived.ensures.dives in
    record { none_held = c.judge.ensures.none_held; nobody = d.count_is; begins = d.head_is }

pub returns-clause-goes : goal.returns-clause-goes
returns-clause-goes c =
    let a = c.args in
    let p = a.plan.now in
    let l = lent_in p a.work.now in
    let d = c.kick_and_descend-dived in
    let b = d.new.work in
    let j = c.judge in
    let u = j.new.track in
    let es = b.track.now.tied.same in
    subst (λ (ws : List ℕ). Goes (kicked_from p (step_number a.step) (kick_number a.kind) a.slack a.work.now a.best.now a.t a.state.now) (after l u.stops.now u.places.now b.queue.now.words.now b.queue.now.flags.now j.new.scratch ws) j.new.best (tally_in j.result) d.new.state) (sym j.ensures.words)
    (turn_goes l a.best.now (tally_in a.t) c.requires.rests (step_number a.step) (kick_number a.kind) a.slack a.state.now _ _ _ _ _ _ d.ensures.dives u.stops.now u.places.now j.new.scratch j.new.best (tally_in j.result) j.ensures.same.size (u.tied.same ∙ j.ensures.same.size ∙ sym es) j.auto.scratch j.ensures.judges)
