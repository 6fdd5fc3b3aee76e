use Prim.Native.Nat.{◌<◌}
use mathlib.Core.Path.{◌≡◌, refl, sym, ap, ◌∙◌}
use native.Mathlib.Omega.{arith}
use lib.ListN.{length, length-set}
use Rattle.rules.specs.Ring.{next}
use Rattle.ring.specs.Around.{around}
use Rattle.ring.proofs.AroundLaws.{around_0, next_around}
use Rattle.rewrite.proofs.WriteLaws.{writes_turn, placings_turn, writes_done, placings_done}
use borrow.Author.Rules.{rules}
use Rattle.rewrite.proofs.parts.put.Goals as goal

pub loop-v-init : goal.loop-v-init
loop-v-init c =
    let h = c.requires.start_in_bounds in
    (refl, (refl, (search rules, (h, (sym (around_0 _ c.args.start h), (refl, refl))))))

pub offset_bounds-places-v : goal.offset_bounds-places-v
offset_bounds-places-v c =
    omega (arith, c.requires.stops.below c.loop-v.v-index (search rules), c.requires.round_len_bound)

pub bounds-places-v : goal.bounds-places-v
bounds-places-v c =
    omega (arith, c.requires.stops.below c.loop-v.v-index (search rules), c.requires.round_len_bound)

pub loop-v-preserved : goal.loop-v-preserved
loop-v-preserved c =
    let a = c.args in
    let lp = c.loop-v in
    let n = length a.round.now in
    let vs = a.part.now in
    let h = c.loop-v-test.true in
    let e = c.next-i.ensures.is in
    let k_lt : lp.v-index < n = omega (arith, c.requires.part_in_bounds, h) in (
      simp length-set lp.invariant.0,
      (
        simp length-set lp.invariant.1.0,
        (
          search rules,
          (
            c.next-i.ensures.below,
            (
              e ∙ ap (next n) lp.invariant.1.1.1.1.0 ∙ next_around n a.start lp.v-index c.requires.start_in_bounds k_lt,
              (
                rw e (writes_turn n lp.i lp.v-index vs lp.round _ h lp.invariant.1.1.1.1.1.0),
                rw (e) (placings_turn n lp.i lp.v-index vs lp.places _ h lp.invariant.1.1.1.1.1.1),
              ),
            ),
          ),
        ),
      ),
    )

pub returns : goal.returns
returns c =
    let a = c.args in
    let lp = c.loop-v in
    let n = length a.round.now in
    let vs = a.part.now in
    let h = c.loop-v-test.false in
    let q : lp.v-index ≡ length vs = omega (arith, lp.invariant.1.1.0, h) in record { is = record { is = lp.invariant.1.1.1.1.0 ∙ ap (around n a.start) q; below = lp.invariant.1.1.1.0 }; round_after = writes_done n lp.i lp.v-index vs lp.round _ h lp.invariant.1.1.1.1.1.0; places_after = placings_done n lp.i lp.v-index vs lp.places _ h lp.invariant.1.1.1.1.1.1 }
