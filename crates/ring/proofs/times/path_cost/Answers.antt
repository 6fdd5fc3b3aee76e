use Prim.Native.Nat.{ℕ, ◌+◌}
use mathlib.Core.Path.{◌≡◌, sym, ap, ◌∙◌}
use native.Mathlib.Omega.{arith}
use lib.ListN.{length}
use Rattle.rules.specs.Lists.{at}
use Rattle.rules.specs.Ring.{next}
use Rattle.rules.specs.Plan.{leg_in}
use Rattle.ring.specs.Around.{around}
use Rattle.ring.proofs.AroundLaws.{around_0, next_around}
use Rattle.ring.proofs.CostLaws.{path_starts, path_turn, path_done}
use borrow.Author.Rules.{rules}
use Rattle.ring.proofs.times.path_cost.Goals as goal

pub loop-step-init : goal.loop-step-init
loop-step-init c =
    let a = c.args in
    let hs = c.requires.start_low in
    (search rules, (hs, (sym (around_0 _ a.start hs), (search rules, path_starts _ a.start a.legs a.round.now))))

pub dist-sum-requires : goal.dist-sum-requires
dist-sum-requires c =
    let s = c.requires.stops in
    let e = c.requires.size in
    record { a_low = rw e (s.below c.loop-step.at c.loop-step.invariant.1.0); b_low = rw e (s.below c.next-after.result c.next-after.ensures.below) }

pub loop-step-preserved : goal.loop-step-preserved
loop-step-preserved c =
    let a = c.args in
    let r = a.round.now in
    let m = a.matrix.now.times.now in
    let d = leg_in (length r) m in
    let hs = c.requires.start_low in
    let hl = c.requires.legs_low in
    let lp = c.loop-step in
    let i = lp._step in
    let h = c.loop-step-test.true in
    let e : c.dist-sum.result ≡ d (at r lp.at) (at r (next (length r) lp.at)) = c.dist-sum.ensures.is ∙ ap (λ (n : ℕ). leg_in n m (at r lp.at) (at r c.next-after.result)) c.requires.size ∙ ap (λ (j : ℕ). d (at r lp.at) (at r j)) c.next-after.ensures.is in
    let q : c.next-after.result ≡ around (length r) a.start (i + 1) = c.next-after.ensures.is ∙ ap (next (length r)) lp.invariant.1.1.0 ∙ next_around (length r) a.start i hs (omega (arith, h, hl)) in
    (search rules, (c.next-after.ensures.below, (q, (search rules, omega (arith, e, path_turn d a.start a.legs r hs hl i lp.at h lp.invariant.1.1.0, lp.invariant.1.1.1.1)))))

pub returns : goal.returns
returns c =
    let a = c.args in
    let r = a.round.now in
    let d = leg_in (length r) a.matrix.now.times.now in
    let lp = c.loop-step in
    record {
      is = omega (arith, lp.invariant.1.1.1.1, path_done d a.start a.legs r c.requires.legs_low lp._step c.loop-step-test.false);
      small = omega (arith, lp.invariant.1.1.1.0, lp.invariant.0);
    }
