use mathlib.Core.Path.{◌≡◌, refl, ap, ◌∙◌}
use mathlib.Core.List.{[], ◌∷◌}
use native.Mathlib.Omega.{arith}
use lib.Dec.{eqb}
use Rattle.rules.specs.Ring.{leg, succ as succ_of}
use Rattle.rules.specs.Step.{best}
use Rattle.lk_scans.specs.Picked.{cont_is, shown, trial_in, shown_from, Fine}
use Rattle.lk_scans.proofs.LeftLaws.{left_all, left_done, left_stop, left_skip, first_turn, best_end}
use Rattle.lk_scans.proofs.lk_first.Goals as goal

pub loop-i-init : goal.loop-i-init
unfolding cont_is shown shown_from trial_in
loop-i-init c =
    let a = c.args in
    let b : c.eq-fwd.result ≡ eqb (succ_of a.round.now.stops.now a.t1.0) a.t2.0 = cc (c.succ.ensures.is, c.eq-fwd.ensures) in
    let f : Fine a.plan.now.matrix.n a.g 0 0 0 = record { low3 = omega (arith, c.requires.t1_low); low4 = omega (arith, c.requires.t1_low); small = omega arith } in
    (record { fine_a = f; fine_b = f; fine_c = f }, (record { second = omega arith; third = omega arith }, ap (best 3 []) (left_all a.plan.now a.round.now [] (leg a.t1.0 a.t2.0 ∷ []) a.t1.0 a.t2.0 a.g c.eq-fwd.result b)))

pub loop-i-preserved-then-either : goal.loop-i-preserved-then-either
loop-i-preserved-then-either c =
    let a = c.args in
    let turn = left_skip a.plan.now a.round.now [] (leg a.t1.0 a.t2.0 ∷ []) a.t1.0 a.t2.0 a.g c.eq-fwd.result c.requires.t2_low c.loop-i.i c.loop-i-test.true c.near-t3.ensures.is c.dist-d23.ensures.is (omega arith) c.ahead-t2_next.ensures.is c.either.ensures c.if-either.true in
    (c.loop-i.invariant.0, (c.loop-i.invariant.1.0, cc))

pub loop-i-preserved : goal.loop-i-preserved
unfolding cont_is trial_in
loop-i-preserved c =
    let a = c.args in
    let placed = c.place_pick-ps.ensures in
    let turn = first_turn a.plan.now a.round.now a.t1.0 a.t2.0 a.g c.eq-fwd.result c.requires.t2_low c.loop-i.i c.loop-i-test.true c.near-t3.ensures.is c.dist-d23.ensures.is (omega arith) c.ahead-t2_next.ensures.is c.either.ensures c.if-either.false c.behind-t4.ensures.is c.dist.ensures.is refl c.loop-i.invariant.1.0 placed in (
      placed.fines a.plan.now.matrix.n a.g c.loop-i.invariant.0 (record { low3 = c.near-t3.ensures.below; low4 = omega (arith, c.behind-t4.ensures.below, c.requires.size); small = omega (arith, c.dist.ensures.small) }),
      (placed.falls c.loop-i.invariant.1.0, turn ∙ c.loop-i.invariant.1.1),
    )

pub returns-after-loop-i : goal.returns-after-loop-i
returns-after-loop-i c =
    let a = c.args in
    let removed = leg a.t1.0 a.t2.0 ∷ [] in
    let end = left_done a.plan.now a.round.now [] removed a.t1.0 a.t2.0 a.g c.eq-fwd.result c.requires.t2_low c.loop-i.i (omega arith) in
    record { is = best_end a.plan.now a.round.now [] removed a.t1.0 a.t2.0 a.g c.eq-fwd.result 3 c.loop-i.i end c.loop-i.invariant.1.1; fines = c.loop-i.invariant.0 }

pub returns-then-g-d23 : goal.returns-then-g-d23
returns-then-g-d23 c =
    let a = c.args in
    let removed = leg a.t1.0 a.t2.0 ∷ [] in
    let end = left_stop a.plan.now a.round.now [] removed a.t1.0 a.t2.0 a.g c.eq-fwd.result c.requires.t2_low c.loop-i.i c.loop-i-test.true c.near-t3.ensures.is c.dist-d23.ensures.is (omega arith) in
    record { is = best_end a.plan.now a.round.now [] removed a.t1.0 a.t2.0 a.g c.eq-fwd.result 3 c.loop-i.i end c.loop-i.invariant.1.1; fines = c.loop-i.invariant.0 }
