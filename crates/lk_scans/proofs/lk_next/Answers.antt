use mathlib.Core.Path.{◌≡◌, ap}
use mathlib.Core.List.{[]}
use native.Mathlib.Omega.{arith}
use lib.Dec.{eqb}
use Rattle.rules.specs.Ring.{succ as succ_of}
use Rattle.rules.specs.Step.{best as best_of}
use Rattle.lk_state.specs.Stacks.{legs_in}
use Rattle.lk_scans.specs.Picked.{cont_is, shown}
use Rattle.lk_scans.proofs.LeftLaws.{left_all, left_done, left_stop, left_skip, left_bar, left_under, left_over, best_end}
use Rattle.lk_scans.proofs.lk_next.Goals as goal

pub loop-i-init : goal.loop-i-init
unfolding cont_is shown
loop-i-init c =
    let a = c.args in
    let s = a.st.now in
    let b : c.eq-fwd.result ≡ eqb (succ_of a.round.now.stops.now a.t1.0) a.t2.0 = cc (c.succ.ensures.is, c.eq-fwd.ensures) in
    (record { low3 = omega (arith, c.requires.t1_low); low4 = omega (arith, c.requires.t1_low); small = omega arith }, ap (best_of 1 []) (left_all a.plan.now a.round.now (legs_in s.added s.added_len) (legs_in s.removed s.removed_len) a.t1.0 a.t2.0 a.g c.eq-fwd.result b))

pub loop-i-preserved-then-barred : goal.loop-i-preserved-then-barred
loop-i-preserved-then-barred c =
    let a = c.args in
    let s = a.st.now in
    let turn = left_skip a.plan.now a.round.now (legs_in s.added s.added_len) (legs_in s.removed s.removed_len) a.t1.0 a.t2.0 a.g c.eq-fwd.result c.requires.t2_low c.loop-i.i c.loop-i-test.true c.near-t3.ensures.is c.dist-d23.ensures.is (omega arith) c.ahead-t2_next.ensures.is c.either-barred.ensures c.if-barred.true in
    (c.loop-i.invariant.0, cc)

pub loop-i-preserved-then-partial-best : goal.loop-i-preserved-then-partial-best
unfolding cont_is
loop-i-preserved-then-partial-best c =
    let a = c.args in
    let s = a.st.now in
    let best = c.loop-i.best in
    let turn = left_under a.plan.now a.round.now (legs_in s.added s.added_len) (legs_in s.removed s.removed_len) a.t1.0 a.t2.0 a.g c.eq-fwd.result c.requires.t2_low c.loop-i.i c.loop-i-test.true c.near-t3.ensures.is c.dist-d23.ensures.is (omega arith) c.ahead-t2_next.ensures.is c.either-barred.ensures c.if-barred.false c.behind-t4.ensures.is c.dist.ensures.is (cont_is best.partial best.t3.0 best.t4.0) (omega arith) in
    (c.loop-i.invariant.0, cc)

pub loop-i-preserved-then-barred_by : goal.loop-i-preserved-then-barred_by
loop-i-preserved-then-barred_by c =
    let a = c.args in
    let s = a.st.now in
    let turn = left_bar a.plan.now a.round.now (legs_in s.added s.added_len) (legs_in s.removed s.removed_len) a.t1.0 a.t2.0 a.g c.eq-fwd.result c.requires.t2_low c.loop-i.i c.loop-i-test.true c.near-t3.ensures.is c.dist-d23.ensures.is (omega arith) c.ahead-t2_next.ensures.is c.either-barred.ensures c.if-barred.false c.behind-t4.ensures.is c.dist.ensures.is c.barred_by.ensures c.if-barred_by.true in
    (c.loop-i.invariant.0, cc)

pub loop-i-preserved : goal.loop-i-preserved
unfolding cont_is
loop-i-preserved c =
    let a = c.args in
    let s = a.st.now in
    let best = c.loop-i.best in
    let turn = left_over a.plan.now a.round.now (legs_in s.added s.added_len) (legs_in s.removed s.removed_len) a.t1.0 a.t2.0 a.g c.eq-fwd.result c.requires.t2_low c.loop-i.i c.loop-i-test.true c.near-t3.ensures.is c.dist-d23.ensures.is (omega arith) c.ahead-t2_next.ensures.is c.either-barred.ensures c.if-barred.false c.behind-t4.ensures.is c.dist.ensures.is c.barred_by.ensures c.if-barred_by.false (cont_is best.partial best.t3.0 best.t4.0) (omega arith) in
    (record { low3 = c.near-t3.ensures.below; low4 = omega (arith, c.behind-t4.ensures.below, c.requires.size); small = omega (arith, c.dist.ensures.small) }, cc)

pub returns-after-loop-i : goal.returns-after-loop-i
returns-after-loop-i c =
    let a = c.args in
    let s = a.st.now in
    let added = legs_in s.added s.added_len in
    let removed = legs_in s.removed s.removed_len in
    let end = left_done a.plan.now a.round.now added removed a.t1.0 a.t2.0 a.g c.eq-fwd.result c.requires.t2_low c.loop-i.i (omega arith) in
    record { is = best_end a.plan.now a.round.now added removed a.t1.0 a.t2.0 a.g c.eq-fwd.result 1 c.loop-i.i end c.loop-i.invariant.1; fine = c.loop-i.invariant.0 }

pub returns-then-over : goal.returns-then-over
returns-then-over c =
    let a = c.args in
    let s = a.st.now in
    let added = legs_in s.added s.added_len in
    let removed = legs_in s.removed s.removed_len in
    let end = left_stop a.plan.now a.round.now added removed a.t1.0 a.t2.0 a.g c.eq-fwd.result c.requires.t2_low c.loop-i.i c.loop-i-test.true c.near-t3.ensures.is c.dist-d23.ensures.is (omega arith) in
    record { is = best_end a.plan.now a.round.now added removed a.t1.0 a.t2.0 a.g c.eq-fwd.result 1 c.loop-i.i end c.loop-i.invariant.1; fine = c.loop-i.invariant.0 }
