-- Each stop once: every rewriting, and entries in range carried out or taken back, keep how often a stop is in the round.
use Prim.Native.Nat.{◌+◌, ◌-◌, ◌<◌, suc, zero, ℕ}
use mathlib.Core.Path.{◌∙◌, ◌≡◌, ap, refl}
use mathlib.Core.Logic.{◌≢◌}
use mathlib.Core.Bool.{◌&&◌, true}
use mathlib.Core.List.{List, [], ◌++◌, ◌∷◌, reverse, reverse-cons}
use native.Mathlib.Decide.{ℕ_discrete}
use native.Mathlib.Nat.{le_of_suc-le-suc, not-suc-le-zero}
use native.Mathlib.Omega.{arith}
use lib.Dec.{eqb}
use lib.ListN.{drop, length, length-set, set, take, take-append-drop}
use lib.Seq.{get_or-set_other, get_or-set_same}
use borrow.Author.Tests.{eq-eqb, ne_eqb}
use Rattle.rules.specs.Journal.{Entry, carry_out, in_range, reversal, rotation, swap, take_back, undo_all}
use Rattle.rules.specs.Lists.{at, every, one, rising, tally}
use Rattle.rules.specs.Rewrite.{exchange_front, from, reverse_at, reverse_front, rotate_at, swap_at}
use Rattle.rules.specs.Ring.{is_round, turn}
use Rattle.rules.specs.Words.{Place, Round, Stop}
use Rattle.laws.proofs.ChoiceLaws.{both_true}
use Rattle.laws.proofs.JournalLaws.{carry_out_length, take_back_length, undo_all_length}
use Rattle.laws.proofs.RangeLaws.{swap_in}
use Rattle.laws.proofs.RewriteLaws.{parts}

-- a stop counts for itself alone
pub one_same : {x v : Stop} → x ≡ v → one x v ≡ 1
unfolding one
one_same {x} {v} e = rw (eq-eqb x v e)

pub one_other : {x v : Stop} → x ≢ v → one x v ≡ 0
unfolding one
one_other {x} {v} ne = rw (ne_eqb x v ne)

module _ (v : Stop) where
  -- of two lists
  pub tally_join : (A B : List Stop) → tally (A ++ B) v ≡ tally A v + tally B v
  unfolding tally
  tally_join [] B = omega arith
  tally_join (a ∷ A) B = omega (arith, tally_join A B)

  -- backwards
  pub tally_reverse : (l : List Stop) → tally (reverse l) v ≡ tally l v
  unfolding tally
  tally_reverse [] = refl
  tally_reverse (a ∷ l) = omega (arith, ap (λ x. tally x v) (reverse-cons a l), tally_join (reverse l) (a ∷ []), tally_reverse l)

  tally_turn : (k : Place) (r : Round) → tally (turn k r) v ≡ tally r v
  unfolding turn
  tally_turn k r = omega (arith, tally_join (drop k r) (take k r), tally_join (take k r) (drop k r), ap (λ x. tally x v) (take-append-drop k r))

  tally_from : (s : Place) (f : List Stop → List Stop) (r : Round) → tally (f (turn s r)) v ≡ tally (turn s r) v → tally (from s f r) v ≡ tally r v
  unfolding from
  tally_from s f r e = tally_turn (length r - s) (f (turn s r)) ∙ e ∙ tally_turn s r

  -- each rewriting
  pub tally_reverse_at : (s : Place) (len : ℕ) (r : Round) → tally (reverse_at s len r) v ≡ tally r v
  unfolding reverse_at reverse_front
  tally_reverse_at s len r =
      let x = turn s r in
      tally_from s (reverse_front len) r
      (omega (arith, tally_join (reverse (take len x)) (drop len x), tally_reverse (take len x), tally_join (take len x) (drop len x), ap (λ l. tally l v) (take-append-drop len x)))

  pub tally_rotate_at : (s : Place) (a b c : ℕ) (r : Round) → tally (rotate_at s a b c r) v ≡ tally r v
  unfolding rotate_at exchange_front
  tally_rotate_at s a b c r = tally_from s (exchange_front a b c) r (simp tally_join (omega (arith, simp tally_join at (ap (λ l. tally l v) (parts a b c (turn s r))))))

  tally_set : (l : List Stop) (i : Place) (a : Stop) → i < length l → tally (set l i a) v + one (at l i) v ≡ tally l v + one a v
  unfolding tally
  tally_set [] i a h = absurd (not-suc-le-zero h)
  tally_set (x ∷ l) zero a h = omega arith
  tally_set (x ∷ l) (suc i) a h = omega (arith, tally_set l i a (le_of_suc-le-suc h))

  set_read : (l : List Stop) (i j : Place) → i < length l → at (set l i (at l j)) j ≡ at l j
  set_read l i j hi = elim (ℕ_discrete j i) [ yes e ↦ rw e (get_or-set_same l i (at l i) 0 hi) | no ne ↦ get_or-set_other l i j (at l j) 0 ne ]

  pub tally_swap_at : (i j : Place) (r : Round) → i < length r → j < length r → tally (swap_at i j r) v ≡ tally r v
  unfolding swap_at
  tally_swap_at i j r hi hj =
      omega (arith, tally_set (set r i (at r j)) j (at r i) (rw (length-set r i (at r j)) hj), tally_set r i (at r j) hi, ap (λ x. one x v) (set_read r i j hi))

  -- an entry in range, carried out and taken back
  pub tally_carry_out : (e : Entry) (r : Round) → in_range (length r) e ≡ true → tally (carry_out e r) v ≡ tally r v
  unfolding carry_out
  tally_carry_out (reversal s l) r h = tally_reverse_at s l r
  tally_carry_out (rotation s a b c) r h = tally_rotate_at s a b c r
  tally_carry_out (swap i j) r h = let g = swap_in (length r) i j h in tally_swap_at i j r g.0 g.1

  pub tally_take_back : (e : Entry) (r : Round) → in_range (length r) e ≡ true → tally (take_back e r) v ≡ tally r v
  unfolding take_back
  tally_take_back (reversal s l) r h = tally_reverse_at s l r
  tally_take_back (rotation s a b c) r h = tally_rotate_at s c b a r
  tally_take_back (swap i j) r h = let g = swap_in (length r) i j h in tally_swap_at i j r g.0 g.1

  -- entries in range, taken back
  pub tally_undo_all : (es : List Entry) (r : Round) → every (in_range (length r)) es ≡ true → tally (undo_all es r) v ≡ tally r v
  unfolding undo_all every
  tally_undo_all [] r h = refl
  tally_undo_all (e ∷ es) r h =
      let g = both_true (in_range (length r) e) (every (in_range (length r)) es) h in
      tally_undo_all es (take_back e r) (ap (λ n. every (in_range n) es) (take_back_length e r) ∙ g.1) ∙ tally_take_back e r g.0

-- what keeps length and tally keeps a round
pub is_round_kept : (n : ℕ) (r r' : Round) → length r' ≡ length r → ((v : Stop) → tally r' v ≡ tally r v) → is_round n r' ≡ is_round n r
unfolding is_round
is_round_kept n r r' l h = λ i. eqb (l i) n && every (λ v. eqb (h v i) 1) (rising n 0)

-- so do entries in range, carried out
pub is_round_carry_out : (n : ℕ) (e : Entry) (r : Round) → in_range (length r) e ≡ true → is_round n (carry_out e r) ≡ is_round n r
is_round_carry_out n e r h = is_round_kept n r (carry_out e r) (carry_out_length e r) (λ v. tally_carry_out v e r h)

-- and taken back
pub is_round_undo_all : (n : ℕ) (es : List Entry) (r : Round) → every (in_range (length r)) es ≡ true → is_round n (undo_all es r) ≡ is_round n r
is_round_undo_all n es r h = is_round_kept n r (undo_all es r) (undo_all_length es r) (λ v. tally_undo_all v es r h)
