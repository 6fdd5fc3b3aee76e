-- 01, 8: what is left of a level's scan from an entry on, as the list of continuations that are still to come.
use Prim.Native.Nat.{ℕ, ◌+◌, ◌≤◌, ◌<◌}
use mathlib.Core.Path.{◌≡◌, refl, sym, ap, ◌∙◌}
use mathlib.Core.Logic.{◌≢◌}
use mathlib.Core.Bool.{Bool, true, false, ◌||◌, ◌&&◌}
use mathlib.Core.List.{List, [], ◌∷◌, map}
use native.Mathlib.Numerals.{add-one}
use native.Mathlib.Omega.{arith}
use borrow.Author.Tests.{ltb-true, eqb-true, eq-eqb}
use lib.Dec.{ltb, eqb}
use lib.ListN.{length, drop, drop_of_length-le}
use lib.Seq.{drop-cons}
use Rattle.rules.specs.Words.{Stop, Time}
use Rattle.rules.specs.Lists.{at, keep, keep_while}
use Rattle.rules.specs.Ring.{Leg, leg}
use Rattle.rules.specs.Plan.{Plan, leg_of, near_of}
use Rattle.rules.specs.Improve.{Trial, free3}
use Rattle.rules.specs.Step.{Step, among}
use Rattle.rules.specs.Lk.{cont_of, may_flip, conts}
use Rattle.laws.proofs.ChoiceLaws.{either_if, not_so, and-true, true_false}

-- ---- along a list
module _ (p : Plan) (fwd : Bool) (s : Step) (t1 t2 : Stop) (g : Time) where
  unfoldable pub rest : List Stop → List Trial
  rest l = keep (may_flip s t2) (map (cont_of p fwd s t2 g) (keep (free3 fwd s.track.round t1 t2) (keep_while (λ t3. ltb (leg_of p t2 t3) g) l)))

  pub rest_all : rest (near_of p t2) ≡ conts p fwd s t1 t2 g
  unfolding rest conts
  rest_all = refl

  module _ (l : List Stop) (i : ℕ) where
    pub rest_done : length l ≤ i → rest (drop i l) ≡ []
    unfolding rest keep keep_while
    rest_done h = rw (drop_of_length-le l h)

    module _ (h : i < length l) where
      pub rest_stop : ltb (leg_of p t2 (at l i)) g ≡ false → rest (drop i l) ≡ []
      unfolding rest keep keep_while
      rest_stop e = rw (drop-cons l i 0 h, keep_while, e)

      module _ (on : ltb (leg_of p t2 (at l i)) g ≡ true) where
        pub rest_skip : free3 fwd s.track.round t1 t2 (at l i) ≡ false → rest (drop i l) ≡ rest (drop (i + 1) l)
        unfolding rest keep keep_while
        rest_skip n = rw (drop-cons l i 0 h, add-one i, keep_while, on, keep, n)

        module _ (free : free3 fwd s.track.round t1 t2 (at l i) ≡ true) where
          thirds_on : keep (free3 fwd s.track.round t1 t2) (keep_while (λ t3. ltb (leg_of p t2 t3) g) (drop i l)) ≡ at l i ∷ keep (free3 fwd s.track.round t1 t2) (keep_while (λ t3. ltb (leg_of p t2 t3) g) (drop (i + 1) l))
          unfolding keep keep_while
          thirds_on = rw (drop-cons l i 0 h, add-one i, keep_while, on, keep, free)

          rest_on : rest (drop i l) ≡ keep (may_flip s t2) (cont_of p fwd s t2 g (at l i) ∷ map (cont_of p fwd s t2 g) (keep (free3 fwd s.track.round t1 t2) (keep_while (λ t3. ltb (leg_of p t2 t3) g) (drop (i + 1) l))))
          unfolding rest
          rest_on = ap (λ (z : List Stop). keep (may_flip s t2) (map (cont_of p fwd s t2 g) z)) thirds_on

          pub rest_bar : may_flip s t2 (cont_of p fwd s t2 g (at l i)) ≡ false → rest (drop i l) ≡ rest (drop (i + 1) l)
          unfolding rest keep
          rest_bar n = rest_on ∙ rw (keep, n) refl

          pub rest_may : may_flip s t2 (cont_of p fwd s t2 g (at l i)) ≡ true → rest (drop i l) ≡ cont_of p fwd s t2 g (at l i) ∷ rest (drop (i + 1) l)
          unfolding rest keep
          rest_may y = rest_on ∙ rw (keep, y) refl

-- ---- the first level: the leg t1-t2 is the only one barred, and t3 is not t1
leg_other : (a b c : Stop) → a ≢ c → (leg a b).low ≡ (leg b c).low → (leg a b).high ≡ (leg b c).high → ⊥
unfolding leg
leg_other a b c n =
    either_if (λ (e : Leg). e.low ≡ (leg b c).low → e.high ≡ (leg b c).high → ⊥) (ltb a b)
    (λ y. let l : a < b = ltb-true a b y in
    either_if (λ (f : Leg). a ≡ f.low → b ≡ f.high → ⊥) (ltb b c) (λ z e f. n (omega arith)) (λ z e f. n (omega arith)))
    (λ y. either_if (λ (f : Leg). b ≡ f.low → a ≡ f.high → ⊥) (ltb b c) (λ z e f. n (omega arith)) (λ z e f. n (omega arith)))

pub first_free : (t1 t2 t3 t4 : Stop) → t1 ≢ t3 → false ≡ (among (leg t1 t2 ∷ []) (leg t2 t3) || among [] (leg t3 t4))
unfolding among
first_free t1 t2 t3 t4 n =
    let q : (eqb (leg t1 t2).low (leg t2 t3).low && eqb (leg t1 t2).high (leg t2 t3).high) ≡ false
    = not_so (eqb (leg t1 t2).low (leg t2 t3).low && eqb (leg t1 t2).high (leg t2 t3).high)
    (λ e. let p = and-true (eqb (leg t1 t2).low (leg t2 t3).low) (eqb (leg t1 t2).high (leg t2 t3).high) e in
    leg_other t1 t2 t3 n (eqb-true (leg t1 t2).low (leg t2 t3).low p.0) (eqb-true (leg t1 t2).high (leg t2 t3).high p.1)) in
    rw (q, among) refl

pub not_first : (t1 t3 : Stop) (y b : Bool) → b ≡ (eqb t3 t1 || y) → b ≡ false → t1 ≢ t3
not_first t1 t3 y b eb e q = true_false (sym (ap (λ (z : Bool). z || y) (eq-eqb t3 t1 (sym q))) ∙ sym eb ∙ e)
