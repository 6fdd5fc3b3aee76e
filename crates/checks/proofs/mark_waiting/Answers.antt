use Prim.Native.Nat.{◌≤◌, ◌<◌}
use mathlib.Core.Path.{◌≡◌, refl, sym, ap, ◌∙◌}
use native.Mathlib.Omega.{arith}
use lib.ListN.{length, length-set}
use Rattle.rules.specs.Lists.{at}
use Rattle.rules.specs.Ring.{next}
use Rattle.rules.specs.Queue.{waiting}
use Rattle.ring.proofs.AroundLaws.{around_0, next_around}
use Rattle.laws.proofs.WaitLaws.{waiting_length}
use Rattle.queue.proofs.LineLaws.{at_waiting}
use Rattle.checks.proofs.MarkLaws.{marking_starts, marking_turn, marking_beyond, marking_twice, marking_done}
use borrow.Author.Rules.{rules}
use Rattle.checks.proofs.mark_waiting.Goals as goal

pub loop-step-init : goal.loop-step-init
loop-step-init c =
    let h = c.requires.head_in_bounds in
    (refl, (search rules, (h, (sym (around_0 _ c.args.head h), marking_starts _ _ c.args.marks.now c.requires.marks_value))))

pub returns-then-n-v : goal.returns-then-n-v
returns-then-n-v c =
    let here : (at c.args.queue.now c.loop-step.at ≡ at (waiting c.args.queue.now c.args.head c.args.count) c.loop-step._step) = let lp = c.loop-step in
    ap (at c.args.queue.now) lp.invariant.1.1.1.0 ∙ sym (at_waiting c.args.queue.now c.args.head c.args.count lp._step c.requires.head_in_bounds c.requires.count_in_bounds c.loop-step-test.true) in
    let a = c.args in
    let q = waiting a.queue.now a.head a.count in
    let l : c.loop-step._step < length q = omega (arith, c.loop-step-test.true, waiting_length a.queue.now a.head a.count c.requires.count_in_bounds) in
    marking_beyond _ q c.loop-step._step c.loop-step.marks c.loop-step.invariant.1.1.1.1 l (omega (arith, here, c.if-n-v.true))

pub returns-then-marks-v-ne0 : goal.returns-then-marks-v-ne0
returns-then-marks-v-ne0 c =
    let here : (at c.args.queue.now c.loop-step.at ≡ at (waiting c.args.queue.now c.args.head c.args.count) c.loop-step._step) = let lp = c.loop-step in
    ap (at c.args.queue.now) lp.invariant.1.1.1.0 ∙ sym (at_waiting c.args.queue.now c.args.head c.args.count lp._step c.requires.head_in_bounds c.requires.count_in_bounds c.loop-step-test.true) in
    let a = c.args in
    let q = waiting a.queue.now a.head a.count in
    let l : c.loop-step._step < length q = omega (arith, c.loop-step-test.true, waiting_length a.queue.now a.head a.count c.requires.count_in_bounds) in
    let up : 0 < at c.loop-step.marks (at c.args.queue.now c.loop-step.at) = omega (arith, c.if-marks-v-ne0.true) in
    marking_twice _ q c.loop-step._step c.loop-step.marks c.loop-step.invariant.1.1.1.1 l (omega (arith, here, c.if-n-v.false)) (rw (here) at up)

pub loop-step-preserved : goal.loop-step-preserved
loop-step-preserved c =
    let here : (at c.args.queue.now c.loop-step.at ≡ at (waiting c.args.queue.now c.args.head c.args.count) c.loop-step._step) = let lp = c.loop-step in
    ap (at c.args.queue.now) lp.invariant.1.1.1.0 ∙ sym (at_waiting c.args.queue.now c.args.head c.args.count lp._step c.requires.head_in_bounds c.requires.count_in_bounds c.loop-step-test.true) in
    let a = c.args in
    let lp = c.loop-step in
    let n = length a.queue.now in
    let q = waiting a.queue.now a.head a.count in
    let h = c.loop-step-test.true in
    let l : lp._step < length q = omega (arith, h, waiting_length a.queue.now a.head a.count c.requires.count_in_bounds) in
    let e = lp.invariant.1.1.1.0 in
    let v = here in
    let down : at lp.marks (at c.args.queue.now c.loop-step.at) ≡ 0 = omega arith in (
      simp length-set lp.invariant.0,
      (
        search rules,
        (
          c.next-at.ensures.below,
          (
            c.next-at.ensures.is ∙ ap (next n) e ∙ next_around n a.head lp._step c.requires.head_in_bounds (omega (arith, h, c.requires.count_in_bounds)),
            rw v (marking_turn n q lp._step lp.marks lp.invariant.1.1.1.1 l (omega (arith, v, c.if-n-v.false)) (rw v at down)),
          ),
        ),
      ),
    )

pub returns : goal.returns
returns c =
    let a = c.args in
    let q = waiting a.queue.now a.head a.count in
    let l : length q ≤ c.loop-step._step = omega (arith, c.loop-step-test.false, waiting_length a.queue.now a.head a.count c.requires.count_in_bounds) in
    marking_done _ q c.loop-step._step c.loop-step.marks c.loop-step.invariant.1.1.1.1 l
