use mathlib.Core.Path.{◌≡◌}
use mathlib.Core.List.{[], ◌∷◌}
use Rattle.rules.specs.Ring.{leg}
use Rattle.rules.specs.Step.{best}
use Rattle.lk_scans.specs.Picked.{conts_on, shown_from, Fines, Falling}
use Rattle.lk_scans.proofs.LeftLaws.{left}
use Rattle.lk_scans.proofs.lk_first.Given as goal

abbrev pub invariant-loop-i : goal.invariant-loop-i
invariant-loop-i l =
    let removed = leg l.t1.0 l.t2.0 ∷ [] in
    Fines l.plan.matrix.n l.g l.ps
    × (Falling l.ps × (best 3 (shown_from 0 l.ps) (left l.plan l.round [] removed l.t1.0 l.t2.0 l.g l.fwd l.i) ≡ best 3 [] (conts_on l.plan l.round [] removed l.t1.0 l.t2.0 l.g)))
