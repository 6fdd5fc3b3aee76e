use Prim.Native.Nat.{◌<◌}
use mathlib.Core.Path.{◌≡◌, refl, sym, ap, ◌∙◌}
use native.Mathlib.Omega.{arith}
use lib.ListN.{length, length-set}
use Rattle.rules.specs.Lists.{at}
use Rattle.rules.specs.Ring.{next, turn}
use Rattle.ring.proofs.AroundLaws.{around_0, next_around}
use Rattle.laws.proofs.TurnLaws.{turn_length}
use Rattle.ring.proofs.TurnAtLaws.{at_turn}
use Rattle.rewrite.proofs.WriteLaws.{gather_turn}
use borrow.Author.Rules.{rules}
use Rattle.rewrite.proofs.parts.gather.Goals as goal

pub loop-k-init : goal.loop-k-init
loop-k-init c =
    let h = c.requires.start_in_bounds in
    (refl, (search rules, (h, (sym (around_0 _ c.args.start h), refl))))

pub loop-k-preserved : goal.loop-k-preserved
loop-k-preserved c =
    let a = c.args in
    let r = a.round.now in
    let lp = c.loop-k in
    let h : lp.k < length r = omega (arith, c.loop-k-test.true, c.requires.count_in_bounds) in
    let e = c.next-i.ensures.is in
    let v : at r lp.i ≡ at (turn a.start r) lp.k = ap (at r) lp.invariant.1.1.1.0 ∙ sym (at_turn a.start lp.k r c.requires.start_in_bounds h) in (
      simp length-set lp.invariant.0,
      (
        search rules,
        (
          c.next-i.ensures.below,
          (
            e ∙ ap (next (length r)) lp.invariant.1.1.1.0 ∙ next_around (length r) a.start lp.k c.requires.start_in_bounds h,
            rw (v, lp.invariant.1.1.1.1) (gather_turn lp.k (turn a.start r) a.scratch.now (omega (arith, turn_length a.start r)) (omega (arith, c.requires.count_in_bounds_2))),
          ),
        ),
      ),
    )

pub returns : goal.returns
returns c =
    let q : c.loop-k.k ≡ c.args.count = search rules in
    rw (← q) c.loop-k.invariant.1.1.1.1
