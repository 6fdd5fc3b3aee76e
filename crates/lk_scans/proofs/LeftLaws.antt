-- A level's scan from where the code stands: a law for each way on.
use Prim.Native.Nat.{ℕ, ◌+◌, ◌-◌, ◌≤◌, ◌<◌}
use mathlib.Core.Path.{◌≡◌, refl, sym, ap, subst, ◌∙◌}
use mathlib.Core.Bool.{Bool, true, false, not, ◌||◌}
use mathlib.Core.List.{List, [], ◌∷◌}
use native.Mathlib.Omega.{arith}
use borrow.Author.Tests.{lt-ltb, le-ltb}
use lib.Dec.{ltb, eqb}
use lib.ListN.{length, drop}
use Rattle.rules.specs.Words.{Stop, Time}
use Rattle.rules.specs.Lists.{at}
use Rattle.rules.specs.Ring.{Leg, leg, succ, ahead, behind}
use Rattle.rules.specs.Moves.{two}
use Rattle.rules.specs.Plan.{leg_in, list_in, leg_of, near_of}
use Rattle.rules.specs.Improve.{Trial, free3}
use Rattle.rules.specs.Step.{among, best}
use Rattle.rules.specs.Lk.{cont_of, may_flip, conts}
use Rattle.legs.specs.declared.plan.Plan.{Plan}
use Rattle.ring.specs.declared.round.Round.{Round}
use Rattle.improve.specs.Steps.{near_plan, near_in}
use Rattle.lk_scans.specs.Picked.{step_in, conts_in, conts_on, cont_is, trial_in, shown, shown_from, Falling, Placed}
use Rattle.lk_scans.specs.declared.Pick.{Pick}
use Rattle.lk_scans.specs.declared.Picks.{Picks}
use Rattle.laws.proofs.EntryLaws.{length_list}
use Rattle.laws.proofs.ContLaws.{rest, rest_all, rest_done, rest_stop, rest_skip, rest_bar, rest_may, first_free, not_first}
use Rattle.lk_scans.proofs.ShownLaws.{one_over, one_under}

by : (b : Bool) (Q : Type 0) → (b ≡ true → Q) → (b ≡ false → Q) → Q
by true Q f g = f refl
by false Q f g = g refl

not_is : (b x y : Bool) → b ≡ x → b ≡ y → not x ≡ not y
not_is b x y e f = ap not (sym e ∙ f)

module _ (p : Plan) (r : Round) (added removed : List Leg) (t1 t2 : Stop) (g : Time) (fwd : Bool) where
  -- t2's near list
  near : List Stop
  near = list_in p.near.count p.near.entries.now t2

  -- the continuations from entry i on
  unfoldable pub left : ℕ → List Trial
  unfolding near
  left i = rest (near_in p) fwd (step_in r.stops.now added removed) t1 t2 g (drop i near)

  pub left_all : fwd ≡ eqb (succ r.stops.now t1) t2 → left 0 ≡ conts_on p r added removed t1 t2 g
  unfolding left near conts_in near_plan near_of
  left_all e = rest_all (near_in p) fwd (step_in r.stops.now added removed) t1 t2 g ∙ ap (λ (b : Bool). conts (near_in p) b (step_in r.stops.now added removed) t1 t2 g) e

  module _ (low : t2 < p.matrix.n) (i : ℕ) where
    count : length near ≡ p.near.count
    unfolding near
    count = length_list p.near.entries.now p.near.count p.near.n t2 p.near.listed (omega (arith, p.near_fits, low))

    pub left_done : p.near.count ≤ i → left i ≡ []
    unfolding left
    left_done h = rest_done (near_in p) fwd (step_in r.stops.now added removed) t1 t2 g near i (omega (arith, count, h))

    module _ (hi : i < p.near.count) {t3 : Stop} {d23 : Time} (e3 : t3 ≡ at (list_in p.near.count p.near.entries.now t2) i) (e23 : d23 ≡ leg_in p.matrix.n p.matrix.times.now t2 t3) where
      there : i < length near
      there = omega (arith, count, hi)

      leg23 : d23 ≡ leg_of (near_in p) t2 (at near i)
      unfolding leg_of near_plan near
      leg23 = e23 ∙ ap (leg_in p.matrix.n p.matrix.times.now t2) e3

      pub left_stop : g ≤ d23 → left i ≡ []
      unfolding left
      left_stop h =
          let e : d23 ≡ leg_of (near_in p) t2 (at near i) = leg23 in
          rest_stop (near_in p) fwd (step_in r.stops.now added removed) t1 t2 g near i there (le-ltb _ _ (subst (λ (d : Time). g ≤ d) e h))

      module _ (on : d23 < g) {b : Bool} {next : Stop} (en : next ≡ ahead fwd r.stops.now t2) (eb : b ≡ eqb t3 t1 || eqb t3 next) where
        on_test : ltb (leg_of (near_in p) t2 (at near i)) g ≡ true
        on_test = let e : d23 ≡ leg_of (near_in p) t2 (at near i) = leg23 in lt-ltb _ _ (subst (λ (d : Time). d < g) e on)

        bar_test : b ≡ eqb (at near i) t1 || eqb (at near i) (ahead fwd r.stops.now t2)
        unfolding near
        bar_test = eb ∙ (λ j. eqb (e3 j) t1 || eqb (e3 j) (en j))

        pub left_skip : b ≡ true → left i ≡ left (i + 1)
        unfolding left free3 step_in
        left_skip y = rest_skip (near_in p) fwd (step_in r.stops.now added removed) t1 t2 g near i there on_test (not_is b _ true bar_test y)

        module _ (nb : b ≡ false) {t4 : Stop} {d34 : Time} (e4 : t4 ≡ behind fwd r.stops.now t3) (e34 : d34 ≡ leg_in p.matrix.n p.matrix.times.now t3 t4) where
          free : free3 fwd r.stops.now t1 t2 (at near i) ≡ true
          unfolding free3
          free = not_is b _ false bar_test nb

          cont_is_lem : cont_of (near_in p) fwd (step_in r.stops.now added removed) t2 g (at near i) ≡ cont_is (g - d23 + d34) t3 t4
          unfolding cont_of cont_is step_in near_plan leg_of near
          cont_is_lem =
              let d : Stop → Stop → Time = leg_in p.matrix.n p.matrix.times.now in
              let f4 : behind fwd r.stops.now (at near i) ≡ t4 = ap (behind fwd r.stops.now) (sym e3) ∙ sym e4 in
              λ j. record { case = two; t3 = sym e3 j; t4 = f4 j; t5 = f4 j; t6 = f4 j; partial = (g - sym leg23 j) + ((ap (λ (v : Stop). d v (behind fwd r.stops.now v)) (sym e3) ∙ ap (d t3) (sym e4) ∙ sym e34) j) }

          module _ {x : Bool} (ex : x ≡ among removed (leg t2 t3) || among added (leg t3 t4)) where
            may_is : may_flip (step_in r.stops.now added removed) t2 (cont_of (near_in p) fwd (step_in r.stops.now added removed) t2 g (at near i)) ≡ not x
            unfolding may_flip step_in cont_is
            may_is = ap (may_flip (step_in r.stops.now added removed) t2) cont_is_lem ∙ ap not (sym ex)

            pub left_bar : x ≡ true → left i ≡ left (i + 1)
            unfolding left step_in
            left_bar y = rest_bar (near_in p) fwd (step_in r.stops.now added removed) t1 t2 g near i there on_test free (may_is ∙ ap not y)

            pub left_may : x ≡ false → left i ≡ cont_is (g - d23 + d34) t3 t4 ∷ left (i + 1)
            unfolding left step_in
            left_may y =
                rest_may (near_in p) fwd (step_in r.stops.now added removed) t1 t2 g near i there on_test free (may_is ∙ ap not y)
                ∙ ap (λ (z : Trial). z ∷ rest (near_in p) fwd (step_in r.stops.now added removed) t1 t2 g (drop (i + 1) near)) cont_is_lem

          -- no better than the best so far
          pub left_under : (y : Trial) → g - d23 + d34 ≤ y.partial → best 1 (shown y []) (left i) ≡ best 1 (shown y []) (left (i + 1))
          unfolding cont_is
          left_under y h =
              by (among removed (leg t2 t3) || among added (leg t3 t4)) (best 1 (shown y []) (left i) ≡ best 1 (shown y []) (left (i + 1)))
              (λ e. ap (best 1 (shown y [])) (left_bar refl e))
              (λ e. ap (best 1 (shown y [])) (left_may refl e) ∙ one_under (cont_is (g - d23 + d34) t3 t4) y (left (i + 1)) h (omega (arith, on)))

          -- better
          pub left_over : {x : Bool} → x ≡ among removed (leg t2 t3) || among added (leg t3 t4) → x ≡ false → (y : Trial) → y.partial < g - d23 + d34
              → best 1 (shown y []) (left i) ≡ best 1 (shown (cont_is (g - d23 + d34) t3 t4) []) (left (i + 1))
          unfolding cont_is
          left_over ex e y h = ap (best 1 (shown y [])) (left_may ex e) ∙ one_over (cont_is (g - d23 + d34) t3 t4) y (left (i + 1)) h

  -- nothing is left
  pub best_end : (b i : ℕ) {l goal : List Trial} → left i ≡ [] → best b l (left i) ≡ goal → l ≡ goal
  unfolding best
  best_end b i {l} {goal} e f = sym (ap (best b l) e) ∙ f

-- the first level: one more, put where it belongs
module _ (p : Plan) (r : Round) (t1 t2 : Stop) (g : Time) (fwd : Bool) (low : t2 < p.matrix.n) (i : ℕ) where
  pub first_turn : i < p.near.count → {t3 : Stop} {d23 : Time} → t3 ≡ at (list_in p.near.count p.near.entries.now t2) i → d23 ≡ leg_in p.matrix.n p.matrix.times.now t2 t3
      → d23 < g → {b : Bool} {next : Stop} → next ≡ ahead fwd r.stops.now t2 → b ≡ eqb t3 t1 || eqb t3 next → b ≡ false → {t4 : Stop} {d34 : Time} → t4 ≡ behind fwd r.stops.now t3 → d34 ≡ leg_in p.matrix.n p.matrix.times.now t3 t4
      → {ps ps' : Picks} {q : Pick} → trial_in q ≡ cont_is (g - d23 + d34) t3 t4 → Falling ps → Placed ps q ps'
      → best 3 (shown_from 0 ps') (left p r [] (leg t1 t2 ∷ []) t1 t2 g fwd (i + 1)) ≡ best 3 (shown_from 0 ps) (left p r [] (leg t1 t2 ∷ []) t1 t2 g fwd i)
  unfolding best
  first_turn hi {t3} {d23} e3 e23 on {b} {next} en eb nb {t4} {d34} e4 e34 {ps} {ps'} eq f pl =
      let l : List Trial = left p r [] (leg t1 t2 ∷ []) t1 t2 g fwd (i + 1) in
      let x : left p r [] (leg t1 t2 ∷ []) t1 t2 g fwd i ≡ cont_is (g - d23 + d34) t3 t4 ∷ l
      = left_may p r [] (leg t1 t2 ∷ []) t1 t2 g fwd low i hi e3 e23 on en eb nb e4 e34 (first_free t1 t2 t3 t4 (not_first t1 t3 (eqb t3 next) b eb nb)) refl in
      ap (λ (z : List Trial). best 3 z l) (pl.is f) ∙ ap (λ (y : Trial). best 3 (shown_from 0 ps) (y ∷ l)) eq ∙ sym (ap (best 3 (shown_from 0 ps)) x)
