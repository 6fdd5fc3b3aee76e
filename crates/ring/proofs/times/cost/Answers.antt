use Prim.Native.Nat.{ℕ}
use mathlib.Core.Path.{◌≡◌, ap, ◌∙◌, subst, sym}
use native.Mathlib.Omega.{arith}
use lib.ListN.{length}
use Rattle.rules.specs.Lists.{at}
use Rattle.rules.specs.Ring.{next}
use Rattle.rules.specs.Plan.{leg_in}
use Rattle.ring.proofs.CostLaws.{cost_starts, cost_turn, cost_done, cost_none}
use borrow.Author.Rules.{rules}
use Rattle.ring.proofs.times.cost.Goals as goal

pub returns-then-n-lt2 : goal.returns-then-n-lt2
returns-then-n-lt2 c = record { is = cost_none _ c.args.round.now c.if-n-lt2.true; small = search rules }

pub loop-i-init : goal.loop-i-init
loop-i-init c = (search rules, (search rules, cost_starts _ c.args.round.now c.if-n-lt2.false))

pub loop-i-preserved : goal.loop-i-preserved
loop-i-preserved c =
    let r = c.args.round.now in
    let m = c.args.matrix.now.times.now in
    let d = leg_in (length r) m in
    let i = c.loop-i.i in
    let e : c.dist-sum.result ≡ d (at r i) (at r (next (length r) i)) = c.dist-sum.ensures.is ∙ ap (λ (n : ℕ). leg_in n m (at r i) (at r c.next.result)) c.requires.size ∙ ap (λ (j : ℕ). d (at r i) (at r j)) c.next.ensures.is in
    (search rules, (search rules, omega (arith, e, cost_turn d r i c.loop-i-test.true, c.loop-i.invariant.1.1)))

pub returns : goal.returns
returns c =
    let r = c.args.round.now in
    let d = leg_in (length r) c.args.matrix.now.times.now in
    record { is = omega (arith, c.loop-i.invariant.1.1, cost_done d r c.loop-i.i c.loop-i-test.false); small = omega (arith, c.loop-i.invariant.1.0, c.loop-i.invariant.0) }
