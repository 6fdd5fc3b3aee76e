use mathlib.Core.Path.{◌≡◌}
use mathlib.Core.List.{[]}
use Rattle.rules.specs.Step.{best as best_of}
use Rattle.lk_state.specs.Stacks.{legs_in}
use Rattle.lk_scans.specs.Picked.{conts_on, cont_is, shown, Fine}
use Rattle.lk_scans.proofs.LeftLaws.{left}
use Rattle.lk_scans.proofs.lk_next.Given as goal

abbrev pub invariant-loop-i : goal.invariant-loop-i
invariant-loop-i l =
    let added = legs_in l.st.added l.st.added_len in
    let removed = legs_in l.st.removed l.st.removed_len in
    Fine l.plan.matrix.n l.g l.best.partial l.best.t3.0 l.best.t4.0
    × (best_of 1 (shown (cont_is l.best.partial l.best.t3.0 l.best.t4.0) []) (left l.plan l.round added removed l.t1.0 l.t2.0 l.g l.fwd l.i) ≡ best_of 1 [] (conts_on l.plan l.round added removed l.t1.0 l.t2.0 l.g))
