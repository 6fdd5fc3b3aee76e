use borrow.Author.Tests.{le-leb, lt-leb}
use mathlib.Core.Path.{sym, ◌∙◌}
use native.Mathlib.Omega.{arith}
use borrow.Author.Rules.{rules}
use Rattle.tries.proofs.PickLaws.{chosen_is}
use Rattle.scans.specs.Scans.{found_in}
use Rattle.scans.proofs.FindLaws.{near_long, all3, done3, stop3, skip3, try3, done4, hit4, miss4, done5, stop5, skip5, hit5, miss5}
use Rattle.scans.proofs.find_move.Goals.{else-fifths-test, then-fifths-test+then-t5_over}
use Rattle.scans.proofs.find_move.Goals as goal

pub thirds-init : goal.thirds-init
unfolding found_in
thirds-init c = record { yet = c.no_move-chosen.ensures _ (omega (arith, c.requires.size, c.requires.t1_low)); within = search rules; finds = all3 _ _ _ _ _ _ _ c.ahead-t2.ensures.is c.dist-d12.ensures.is }

pub thirds-preserved-then-t3_barred : goal.thirds-preserved-then-t3_barred
thirds-preserved-then-t3_barred c =
    let long = near_long c.args.plan.now c.ahead-t2.result.0 (omega (arith, c.requires.size, c.ahead-t2.ensures.below)) in
    record {
      yet = c.thirds.invariant.yet;
      within = search rules;
      finds = sym (skip3 _ _ _ _ _ _ _ c.thirds.i c.near-t3.result.0 c.dist-d23.result (omega (arith, long, c.thirds-test.true)) c.near-t3.ensures.is c.dist-d23.ensures.is (lt-leb _ _ (omega arith)) c.either-t3_barred.result _ c.ahead-t2_next.ensures.is c.either-t3_barred.ensures c.if-t3_barred.true) ∙ c.thirds.invariant.finds;
    }

pub sides-init : goal.sides-init
sides-init c =
    let long = near_long c.args.plan.now c.ahead-t2.result.0 (omega (arith, c.requires.size, c.ahead-t2.ensures.below)) in
    record {
      yet = c.thirds.invariant.yet;
      within = search rules;
      finds = sym (try3 _ _ _ _ _ _ _ c.thirds.i c.near-t3.result.0 c.dist-d23.result (omega (arith, long, c.thirds-test.true)) c.near-t3.ensures.is c.dist-d23.ensures.is (lt-leb _ _ (omega arith)) c.either-t3_barred.result _ c.ahead-t2_next.ensures.is c.either-t3_barred.ensures c.if-t3_barred.false) ∙ c.thirds.invariant.finds;
    }

pub fifths-init : goal.fifths-init
fifths-init c =
    record {
      yet = c.sides.invariant.yet;
      within = search rules;
      finds = sym (miss4 _ _ _ _ _ _ _ _ _ _ _ _ _ c.dist.result c.sides-test.true c.beside-t4.ensures.is (cc) (cc c.dist.ensures.is) _ _ _ _ _ _ c.try_two-two.ensures.is c.if-two-gt0.false) ∙ c.sides.invariant.finds;
    }

pub fifths-preserved-then-t5_barred : goal.fifths-preserved-then-t5_barred
fifths-preserved-then-t5_barred c =
    let long = near_long c.args.plan.now c.beside-t4.result.0 (omega (arith, c.requires.size, c.beside-t4.ensures.below)) in
    record {
      yet = c.fifths.invariant.yet;
      within = search rules;
      finds = sym (skip5 _ _ _ _ _ _ _ _ _ _ c.fifths.j _ _ _ _ c.near-t5.result.0 c.dist-d45.result (omega (arith, long, c.fifths-test.true)) c.near-t5.ensures.is c.dist-d45.ensures.is (lt-leb _ _ (omega arith)) c.any_of-t5_barred.result _ _ c.succ-t4_succ.ensures.is c.pred-t4_pred.ensures.is c.any_of-t5_barred.ensures c.if-t5_barred.true) ∙ c.fifths.invariant.finds;
    }

pub fifths-preserved : goal.fifths-preserved
fifths-preserved c =
    let long = near_long c.args.plan.now c.beside-t4.result.0 (omega (arith, c.requires.size, c.beside-t4.ensures.below)) in
    record {
      yet = c.fifths.invariant.yet;
      within = search rules;
      finds = sym (miss5 _ _ _ _ _ _ _ _ _ _ c.fifths.j _ _ _ _ c.near-t5.result.0 c.dist-d45.result (omega (arith, long, c.fifths-test.true)) c.near-t5.ensures.is c.dist-d45.ensures.is (lt-leb _ _ (omega arith)) c.any_of-t5_barred.result _ _ c.succ-t4_succ.ensures.is c.pred-t4_pred.ensures.is c.any_of-t5_barred.ensures c.if-t5_barred.false _ _ _ _ _ _ c.try_fifth-three.ensures.is c.if-three-gt0.false) ∙ c.fifths.invariant.finds;
    }

pub sides-preserved : goal.sides-preserved
sides-preserved c =
    let long = near_long c.args.plan.now c.beside-t4.result.0 (omega (arith, c.requires.size, c.beside-t4.ensures.below)) in
    let i = c.fifths.invariant in
    elim c.fifths-test.branch [
      | else-fifths-test w ↦ record { yet = i.yet; within = search rules; finds = sym (done5 _ _ _ _ _ _ _ _ _ _ c.fifths.j _ _ _ _ (omega (arith, long, w.fifths-test.false))) ∙ i.finds }
      | then-fifths-test+then-t5_over w ↦ record { yet = i.yet; within = search rules; finds = sym (stop5 _ _ _ _ _ _ _ _ _ _ c.fifths.j _ _ _ _ w.near-t5.result.0 w.dist-d45.result (omega (arith, long, w.fifths-test.true)) w.near-t5.ensures.is w.dist-d45.ensures.is (le-leb _ _ (omega arith))) ∙ i.finds }
    ]

pub thirds-preserved : goal.thirds-preserved
thirds-preserved c =
    record { yet = c.sides.invariant.yet; within = search rules; finds = sym (done4 _ _ _ _ _ _ _ _ c.sides.side _ _ c.sides-test.false) ∙ c.sides.invariant.finds }

pub returns-after-thirds : goal.returns-after-thirds
returns-after-thirds c =
    let long = near_long c.args.plan.now c.ahead-t2.result.0 (omega (arith, c.requires.size, c.ahead-t2.ensures.below)) in
    chosen_is (sym (done3 _ _ _ _ _ _ _ c.thirds.i (omega (arith, long, c.thirds-test.false))) ∙ c.thirds.invariant.finds) c.thirds.invariant.yet

pub returns-then-t3_over : goal.returns-then-t3_over
returns-then-t3_over c =
    let long = near_long c.args.plan.now c.ahead-t2.result.0 (omega (arith, c.requires.size, c.ahead-t2.ensures.below)) in
    chosen_is (sym (stop3 _ _ _ _ _ _ _ c.thirds.i c.near-t3.result.0 c.dist-d23.result (omega (arith, long, c.thirds-test.true)) c.near-t3.ensures.is c.dist-d23.ensures.is (le-leb _ _ (omega arith))) ∙ c.thirds.invariant.finds) c.thirds.invariant.yet

pub returns-then-two-gt0 : goal.returns-then-two-gt0
returns-then-two-gt0 c =
    chosen_is (sym c.try_two-two.ensures.is ∙ sym (hit4 _ _ _ _ _ _ _ _ _ _ _ _ _ c.dist.result c.sides-test.true c.beside-t4.ensures.is (cc) (cc c.dist.ensures.is) _ _ _ _ _ _ c.try_two-two.ensures.is c.if-two-gt0.true) ∙ c.sides.invariant.finds) c.try_two-two.ensures

pub returns-then-three-gt0 : goal.returns-then-three-gt0
returns-then-three-gt0 c =
    let long = near_long c.args.plan.now c.beside-t4.result.0 (omega (arith, c.requires.size, c.beside-t4.ensures.below)) in
    chosen_is (sym c.try_fifth-three.ensures.is ∙ sym (hit5 _ _ _ _ _ _ _ _ _ _ c.fifths.j _ _ _ _ c.near-t5.result.0 c.dist-d45.result (omega (arith, long, c.fifths-test.true)) c.near-t5.ensures.is c.dist-d45.ensures.is (lt-leb _ _ (omega arith)) c.any_of-t5_barred.result _ _ c.succ-t4_succ.ensures.is c.pred-t4_pred.ensures.is c.any_of-t5_barred.ensures c.if-t5_barred.false _ _ _ _ _ _ c.try_fifth-three.ensures.is c.if-three-gt0.true) ∙ c.fifths.invariant.finds) c.try_fifth-three.ensures
