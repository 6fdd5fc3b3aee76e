use mathlib.Core.Path.{ap}
use mathlib.Core.List.{List, [], ◌∷◌}
use Rattle.rules.specs.Words.{Stop}
use Rattle.rules.specs.Queue.{push_all}
use Rattle.queue.specs.Queues.{waiting_in}
use Rattle.improve.proofs.StepLaws.{pushed, waits_is, ends_two, ends_three}
use Rattle.improve.proofs.push_move.Goals as goal

pub returns-then-mv-ne1-clause-waits : goal.returns-then-mv-ne1-clause-waits
unfolding push_all
returns-then-mv-ne1-clause-waits c =
    let a = c.args in
    let m = a.mv in
    let four = pushed (m.t3.0 ∷ m.t4.0 ∷ []) c.push_two.ensures.waits c.push_two-2.ensures.waits in
    let six = pushed (m.t5.0 ∷ m.t6.0 ∷ []) four c.push_two-then-mv-ne1.ensures.waits in
    waits_is (ap (λ (l : List Stop). push_all (waiting_in a.queue.now) (a.t1.0 ∷ a.t2.0 ∷ l)) (ends_three m.case m.t3.0 m.t4.0 m.t5.0 m.t6.0 c.if-mv-ne1.true)) six

pub returns-else-mv-ne1-clause-waits : goal.returns-else-mv-ne1-clause-waits
unfolding push_all
returns-else-mv-ne1-clause-waits c =
    let a = c.args in
    let m = a.mv in
    let four = pushed (m.t3.0 ∷ m.t4.0 ∷ []) c.push_two.ensures.waits c.push_two-2.ensures.waits in
    waits_is (ap (λ (l : List Stop). push_all (waiting_in a.queue.now) (a.t1.0 ∷ a.t2.0 ∷ l)) (ends_two m.case m.t3.0 m.t4.0 m.t5.0 m.t6.0 c.if-mv-ne1.false)) four
