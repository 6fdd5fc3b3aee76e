use Prim.Native.Nat.{◌+◌, ◌-◌, ◌/◌, ◌<◌}
use mathlib.Core.Path.{◌≡◌, refl, sym, ap, ◌∙◌}
use native.Mathlib.Omega.{arith}
use Rattle.std.proofs.Math.Nat.{sub-zero}
use lib.ListN.{length}
use Rattle.laws.proofs.RewriteLaws.{reverse_at_short, swap_at_length}
use Rattle.rewrite.proofs.ReverseLaws.{exchanges_starts, exchanges_turn, exchanges_done}
use borrow.Author.Rules.{rules}
use Rattle.rewrite.proofs.reverse_positions.Goals as goal

pub returns-then-len-lt2 : goal.returns-then-len-lt2
returns-then-len-lt2 c =
    record { is = sym (reverse_at_short c.args.start c.args.len c.args.round.now (omega (arith, c.requires.start_low)) c.if-len-lt2.true); tied = c.requires.tied }

pub loop-pair-init : goal.loop-pair-init
loop-pair-init c =
    let a = c.args in
    let h : 1 < a.len = search rules in
    (c.requires.tied, (refl, (c.requires.start_low, (c.wrap-j.ensures.below, rw (c.wrap-j.ensures.is, sub-zero (a.len / 2)) (exchanges_starts a.start a.len a.round.now c.requires.start_low h c.requires.len_low)))))

pub loop-pair-preserved : goal.loop-pair-preserved
loop-pair-preserved c =
    let sw = c.swap_raw in
    let m = c.args.len / 2 in
    let one : m - c.loop-pair._pair - 1 ≡ m - (c.loop-pair._pair + 1) = omega arith in
    let lp = c.loop-pair in
    let n = length c.args.round.now in
    let e : length sw.new.round ≡ n = ap length sw.ensures.is ∙ swap_at_length lp.i lp.j lp.round ∙ lp.invariant.1.0 in (
      sw.ensures.tied,
      (
        e,
        (
          c.next-i.ensures.below,
          (
            c.prev-j.ensures.below,
            rw (c.next-i.ensures.is, c.prev-j.ensures.is, sw.ensures.is, ← one) (exchanges_turn (m - lp._pair) n lp.i lp.j lp.round _ (omega (arith, c.loop-pair-test.true)) lp.invariant.1.1.1.1),
          ),
        ),
      ),
    )

pub shape_of-round : goal.shape_of-round
shape_of-round c = c.loop-pair.invariant.1.0

pub shape_of-places : goal.shape_of-places
shape_of-places c = c.loop-pair.invariant.0.same ∙ c.loop-pair.invariant.1.0 ∙ sym c.requires.tied.same

pub returns : goal.returns
returns c =
    let lp = c.loop-pair in
    record { is = exchanges_done (c.args.len / 2 - lp._pair) _ lp.i lp.j lp.round _ (omega (arith, c.loop-pair-test.false)) lp.invariant.1.1.1.1; tied = lp.invariant.0 }
