-- The words of the stacks: a leg as a word, a leg among the words, one word more.
use Prim.Native.Nat.{ℕ, zero, suc, ◌+◌, ◌-◌, ◌*◌, ◌/◌, ◌%◌, ◌≤◌, ◌<◌}
use mathlib.Core.Path.{◌≡◌, refl, sym, ap, ◌∙◌}
use mathlib.Core.Logic.{◌≢◌}
use mathlib.Core.Bool.{Bool, true, false, ◌&&◌}
use mathlib.Core.List.{List, [], ◌∷◌, ◌++◌}
use native.Mathlib.Numerals.{add-one}
use native.Mathlib.Omega.{arith}
use borrow.Author.Tests.{eq-eqb, eqb-true}
use lib.Dec.{eqb, ltb}
use lib.ListN.{length, set}
use lib.Seq.{get_or-set_same, get_or-set_other}
use Rattle.rules.specs.Words.{Stop}
use Rattle.rules.specs.Lists.{at}
use Rattle.rules.specs.Ring.{Leg, leg}
use Rattle.rules.specs.Step.{among}
use Rattle.rules.specs.Queue.{push, push_all}
use Rattle.laws.proofs.ChoiceLaws.{either_way, not_so, and-true}
use Rattle.ring.specs.Legs.{leg_word}
use Rattle.lk_state.specs.Stacks.{leg_is, legs_in, stops_in, Stepping, LegWord}

-- ---- a leg as a word
leg_ends : (a b : Stop) → a < 4096 → b < 4096 → ((leg a b).low < 4096) × ((leg a b).high < 4096)
unfolding leg
leg_ends a b ha hb = either_way (λ (e : Leg). (e.low < 4096) × (e.high < 4096)) (ltb a b) (ha, hb) (hb, ha)

pub word_leg : (a b : Stop) (r : ℕ) → a < 4096 → b < 4096 → r ≡ leg_word (leg a b) → LegWord a b r
unfolding leg_is leg_word
word_leg a b r ha hb e =
    let h = leg_ends a b ha hb in
    let low : r / 4096 ≡ (leg a b).low = omega (arith, h.0, h.1) in
    let high : r % 4096 ≡ (leg a b).high = omega (arith, h.0, h.1) in
    record { is = λ i. record { low = low i; high = high i }; small = omega (arith, h.0, h.1) }

-- ---- a leg among the words
-- equal legs are equal words
same_legs : (x w : ℕ) → (eqb (x / 4096) (w / 4096) && eqb (x % 4096) (w % 4096)) ≡ true → x ≡ w
same_legs x w e =
    let p = and-true (eqb (x / 4096) (w / 4096)) (eqb (x % 4096) (w % 4096)) e in
    let l : x / 4096 ≡ w / 4096 = eqb-true (x / 4096) (w / 4096) p.0 in
    let h : x % 4096 ≡ w % 4096 = eqb-true (x % 4096) (w % 4096) p.1 in
    omega arith

among_same : (x w : ℕ) (ls : List Leg) → x ≡ w → among (leg_is x ∷ ls) (leg_is w) ≡ true
unfolding among leg_is
among_same x w ls e = rw (e, among, leg_is, eq-eqb (w / 4096) (w / 4096) refl, eq-eqb (w % 4096) (w % 4096) refl)

among_other : (x w : ℕ) (ls : List Leg) → x ≢ w → among (leg_is x ∷ ls) (leg_is w) ≡ among ls (leg_is w)
unfolding among leg_is
among_other x w ls n = rw (among, leg_is, not_so (eqb (x / 4096) (w / 4096) && eqb (x % 4096) (w % 4096)) (λ e. n (same_legs x w e)))

module _ (ws : List ℕ) (w : ℕ) (goal : Bool) where
  -- the word before i is the one, and another
  pub has_hit : (i : ℕ) → 0 < i → at ws (i - 1) ≡ w → among (legs_in ws i) (leg_is w) ≡ goal → true ≡ goal
  unfolding legs_in
  has_hit zero h e g = absurd (omega arith)
  has_hit (suc i) h e g =
      let q : suc i - 1 ≡ i = omega arith in
      let e' : at ws i ≡ w = rw q at e in
      sym (among_same (at ws i) w (legs_in ws i) e') ∙ g

  pub has_turn : (i : ℕ) → 0 < i → at ws (i - 1) ≢ w → among (legs_in ws i) (leg_is w) ≡ goal → among (legs_in ws (i - 1)) (leg_is w) ≡ goal
  unfolding legs_in
  has_turn zero h e g = absurd (omega arith)
  has_turn (suc i) h e g =
      let q : suc i - 1 ≡ i = omega arith in
      let e' : at ws i ≢ w = rw q at e in
      rw q (sym (among_other (at ws i) w (legs_in ws i) e') ∙ g)

  pub has_done : (i : ℕ) → i ≤ 0 → among (legs_in ws i) (leg_is w) ≡ goal → false ≡ goal
  unfolding legs_in among
  has_done zero h g = g
  has_done (suc i) h g = absurd (omega arith)

-- ---- one word more
-- the same words give the same legs and stops
pub legs_same : (i : ℕ) (ws ws' : List ℕ) → ((j : ℕ) → j < i → at ws' j ≡ at ws j) → legs_in ws' i ≡ legs_in ws i
unfolding legs_in
legs_same zero ws ws' h = refl
legs_same (suc i) ws ws' h = λ k. leg_is (h i (omega arith) k) ∷ legs_same i ws ws' (λ j hj. h j (omega arith)) k

pub stops_same : (i : ℕ) (ws ws' : List ℕ) → ((j : ℕ) → j < i → at ws' j ≡ at ws j) → stops_in ws' i ≡ stops_in ws i
unfolding stops_in
stops_same zero ws ws' h = refl
stops_same (suc i) ws ws' h = λ k. stops_same i ws ws' (λ j hj. h j (omega arith)) k ++ (h i (omega arith) k / 4096 ∷ h i (omega arith) k % 4096 ∷ [])

below_set : (ws : List ℕ) (i w j : ℕ) → j < i → at (set ws i w) j ≡ at ws j
below_set ws i w j h = get_or-set_other ws i j w 0 (λ q. omega arith)

-- words above the count say nothing
pub legs_set : (ws : List ℕ) (i k w : ℕ) → i ≤ k → legs_in (set ws k w) i ≡ legs_in ws i
legs_set ws i k w h = legs_same i ws (set ws k w) (λ j hj. below_set ws k w j (omega arith))

pub stops_set : (ws : List ℕ) (i k w : ℕ) → i ≤ k → stops_in (set ws k w) i ≡ stops_in ws i
stops_set ws i k w h = stops_same i ws (set ws k w) (λ j hj. below_set ws k w j (omega arith))

-- a leg more
pub legs_push : (ws : List ℕ) (i w : ℕ) → i < length ws → legs_in (set ws i w) (i + 1) ≡ leg_is w ∷ legs_in ws i
unfolding legs_in
legs_push ws i w h = rw (add-one i) (λ k. leg_is (get_or-set_same ws i w 0 h k) ∷ legs_set ws i i w (omega arith) k)

pub leg_push : (ws : List ℕ) (i w : ℕ) (a b : Stop) → i < length ws → LegWord a b w → legs_in (set ws i w) (i + 1) ≡ leg a b ∷ legs_in ws i
leg_push ws i w a b h l = legs_push ws i w h ∙ ap (λ (e : Leg). e ∷ legs_in ws i) l.is

-- two stops more
pub stops_more : (ws : List ℕ) (i : ℕ) → stops_in ws (i + 1) ≡ stops_in ws i ++ (at ws i / 4096 ∷ at ws i % 4096 ∷ [])
unfolding stops_in
stops_more ws i = rw (add-one i)

pub stops_push : (ws : List ℕ) (i : ℕ) (t3 t4 : Stop) → i < length ws → t4 < 4096 → stops_in (set ws i (t3 * 4096 + t4)) (i + 1) ≡ stops_in ws i ++ (t3 ∷ t4 ∷ [])
stops_push ws i t3 t4 h h4 =
    let w : ℕ = t3 * 4096 + t4 in
    let e : at (set ws i w) i ≡ w = get_or-set_same ws i w 0 h in
    let e3 : at (set ws i w) i / 4096 ≡ t3 = rw e (omega arith) in
    let e4 : at (set ws i w) i % 4096 ≡ t4 = rw e (omega arith) in
    stops_more (set ws i w) i ∙ (λ k. stops_set ws i i w (omega arith) k ++ (e3 k ∷ e4 k ∷ []))

-- fewer words, and a word more, with both stops below n
pub stepping_less : (ws : List ℕ) (len len' n : ℕ) → len' ≤ len → Stepping ws len n → Stepping ws len' n
stepping_less ws len len' n h s = record { third = λ i hi. s.third i (omega arith); fourth = λ i hi. s.fourth i (omega arith) }

split : (i : ℕ) (A : Type 0) (j : ℕ) → j < i + 1 → (j < i → A) → (j ≡ i → A) → A
split zero A j h f g = g (omega arith)
split (suc i) A zero h f g = f (omega arith)
split (suc i) A (suc j) h f g = split i A j (omega arith) (λ l. f (omega arith)) (λ e. g (ap suc e))

pub stepping_push : (ws : List ℕ) (i n : ℕ) (t3 t4 : Stop) → i < length ws → t4 < 4096 → t3 < n → t4 < n → Stepping ws i n → Stepping (set ws i (t3 * 4096 + t4)) (i + 1) n
stepping_push ws i n t3 t4 h h4 l3 l4 s =
    let w : ℕ = t3 * 4096 + t4 in
    let e : at (set ws i w) i ≡ w = get_or-set_same ws i w 0 h in
    let e3 : at (set ws i w) i / 4096 < n = rw e (omega arith) in
    let e4 : at (set ws i w) i % 4096 < n = rw e (omega arith) in
    record {
      third = λ j hj. split i (at (set ws i w) j / 4096 < n) j hj (λ l. rw (below_set ws i w j l) (s.third j l)) (λ q. rw q e3);
      fourth = λ j hj. split i (at (set ws i w) j % 4096 < n) j hj (λ l. rw (below_set ws i w j l) (s.fourth j l)) (λ q. rw q e4);
    }

-- ---- pushing
push_join : (q us vs : List Stop) → push_all q (us ++ vs) ≡ push_all (push_all q us) vs
unfolding push_all
push_join q [] vs = refl
push_join q (u ∷ us) vs = push_join (push q u) us vs

-- the stops of one word more
pub push_word : (ws : List ℕ) (i : ℕ) (q q₀ q' : List Stop) → q ≡ push_all q₀ (stops_in ws i) → q' ≡ push_all q (at ws i / 4096 ∷ at ws i % 4096 ∷ []) → q' ≡ push_all q₀ (stops_in ws (i + 1))
push_word ws i q q₀ q' e f =
    f ∙ ap (λ (l : List Stop). push_all l (at ws i / 4096 ∷ at ws i % 4096 ∷ [])) e ∙ sym (push_join q₀ (stops_in ws i) (at ws i / 4096 ∷ at ws i % 4096 ∷ []))
    ∙ ap (push_all q₀) (sym (stops_more ws i))
