-- A reading that begins at a stop, cut at other stops; what `between` says of it.
use Prim.Native.Nat.{◌+◌, ◌<◌, ◌≤◌, suc, ℕ}
use mathlib.Core.Path.{◌∙◌, ◌≡◌, ap, refl, subst, sym}
use mathlib.Core.Logic.{◌≢◌}
use mathlib.Core.Bool.{Bool, false, true}
use mathlib.Core.List.{List, [], ◌++◌, ◌∷◌, reverse, reverse-append, reverse-reverse}
use native.Mathlib.Decide.{dec_lt, ℕ_discrete}
use native.Mathlib.Nat.{not-suc-le-zero}
use native.Mathlib.Omega.{arith}
use lib.ListN.{get_or-append, length, length-append}
use lib.Seq.{get_or-append-add, get_or-append_seam}
use borrow.Author.Tests.{le-leb, lt-leb}
use Rattle.rules.specs.Lists.{at, tally}
use Rattle.rules.specs.Ring.{ahead, between, on_way, place}
use Rattle.rules.specs.Words.{Round, Stop}
use Rattle.laws.proofs.ChoiceLaws.{true_false}
use Rattle.laws.proofs.PermLaws.{Perm}
use Rattle.laws.proofs.PlaceLaws.{on_zero}
use Rattle.laws.proofs.ReadLaws.{Reads, Turned, reads_tally, turned_length, turned_self, turned_turn}
use Rattle.laws.proofs.SpotLaws.{place_on, reads_join, spot}
use Rattle.laws.proofs.TallyLaws.{one_other, tally_join, tally_reverse}
use Rattle.laws.proofs.TimeLaws.{back, end, end_at, end_join}
use Rattle.laws.proofs.TurnLaws.{On, high, low}

-- ---- where a stop of a list stands
data Cut (x : List Stop) (v : Stop) : Type 0 where
  here : (P Q : List Stop) → x ≡ P ++ (v ∷ Q) → Cut x v

cut : (x : List Stop) (v : Stop) → 0 < tally x v → Cut x v
unfolding tally
cut [] v h = absurd (not-suc-le-zero h)
cut (y ∷ x) v h = elim (ℕ_discrete y v) [ yes e ↦ here [] x (ap (λ w. w ∷ x) e) | no ne ↦ more (cut x v (omega (arith, one_other ne))) ]
  where
    more : Cut x v → Cut (y ∷ x) v
    more (here P Q e) = here (y ∷ P) Q (ap (λ l. y ∷ l) e)

-- a stop of a list from a that is not a: two parts, the second from it
pub data CutAt (a : Stop) (A : List Stop) (v : Stop) : Type 0 where
  at_it : (P Q : List Stop) → A ≡ P ++ (v ∷ Q) → end v Q ≡ end a A → CutAt a A v

pub cut_at : (a : Stop) (A : List Stop) (v : Stop) → 0 < tally (a ∷ A) v → v ≢ a → CutAt a A v
unfolding tally
cut_at a A v h ne = go (cut A v (omega (arith, one_other (λ e. ne (sym e)))))
  where
    go : Cut A v → CutAt a A v
    go (here P Q e) = at_it P Q e (sym (ap (end a) e ∙ end_join a P v Q))

-- a stop of a list from a that is not its last: two parts, the first up to it
pub data CutAfter (a : Stop) (A : List Stop) (v : Stop) : Type 0 where
  after_it : (P : List Stop) (w : Stop) (Q : List Stop) → A ≡ P ++ (w ∷ Q) → end a P ≡ v → end w Q ≡ end a A → CutAfter a A v

pub cut_after : (a : Stop) (A : List Stop) (v : Stop) → 0 < tally (a ∷ A) v → v ≢ end a A → CutAfter a A v
unfolding tally end
cut_after a [] v h ne = absurd (omega (arith, one_other (λ e. ne (sym e))))
cut_after a (b ∷ A) v h ne = elim (ℕ_discrete a v) [ yes e ↦ after_it [] b A refl e refl | no q ↦ more (cut_after b A v (omega (arith, one_other q)) ne) ]
  where
    more : CutAfter b A v → CutAfter a (b ∷ A) v
    more (after_it P w Q e f g) = after_it (b ∷ P) w Q (ap (λ l. b ∷ l) e) f g

-- ---- the reading that a step begins with
pub record Start (o : Bool) (r : Round) (t1 t2 : Stop) : Type 0 where
  pub rest : List Stop
  pub reads : Reads o r (t2 ∷ rest)
  pub ends : end t2 rest ≡ t1

module _ (r : Round) (u : Perm r) where
  from_start : (o : Bool) (t1 a : ℕ) (A : List Stop) → Reads o r (a ∷ A) → end a A ≡ t1 → Start o r t1 (ahead o r t1)
  from_start o t1 a A t e = subst (Start o r t1) (sym (ap (ahead o r) (sym e) ∙ (reads_join r u o a A t).ahead_is)) (record { rest = A; reads = t; ends = e })

  started : (o : Bool) (t1 : Stop) (Z : List Stop) → Turned r (t1 ∷ Z) → Start o r t1 (ahead o r t1)
  unfolding Reads end
  started true t1 [] t = from_start true t1 t1 [] t refl
  started true t1 (z ∷ Z) t = from_start true t1 z (Z ++ (t1 ∷ [])) (turned_turn r (t1 ∷ []) (z ∷ Z) t) (end_join z Z t1 [])
  started false t1 [] t = from_start false t1 t1 [] t refl
  started false t1 (z ∷ Z) t =
      let h = back t1 (z ∷ Z) in
      let q : reverse (end t1 (z ∷ Z) ∷ h.tail) ≡ t1 ∷ z ∷ Z = ap reverse (sym h.is) ∙ reverse-reverse (t1 ∷ z ∷ Z) in
      from_start false t1 (end t1 (z ∷ Z)) h.tail (subst (Turned r) (sym q) t) h.ends

  -- t2 is beside t1: the ring from t2 to t1
  pub start : (o : Bool) (t1 : Stop) → 0 < tally r t1 → Start o r t1 (ahead o r t1)
  start o t1 h = go (cut r t1 h)
    where
      go : Cut r t1 → Start o r t1 (ahead o r t1)
      go (here P Q e) = started o t1 (Q ++ P) (turned_turn r P (t1 ∷ Q) (subst (Turned r) e (turned_self r)))

-- ---- between
on_way_yes : (n k i j p q : ℕ) → k < n → i ≤ j → j < n → On n k i p → On n k j q → on_way k p q ≡ true
unfolding on_way
on_way_yes n k i j p q hk h hj (low a e) (low b f) = let x : k ≤ q = omega arith in let y : k ≤ p = omega arith in let z : p ≤ q = omega arith in rw (le-leb k q x, le-leb k p y, le-leb p q z)
on_way_yes n k i j p q hk h hj (low a e) (high b f) = let x : q < k = omega arith in let y : k ≤ p = omega arith in rw (lt-leb k q x, le-leb k p y)
on_way_yes n k i j p q hk h hj (high a e) (low b f) = absurd (omega arith)
on_way_yes n k i j p q hk h hj (high a e) (high b f) = let x : q < k = omega arith in let y : p < k = omega arith in let z : p ≤ q = omega arith in rw (lt-leb k q x, lt-leb k p y, le-leb p q z)

on_way_no : (n k i j p q : ℕ) → k < n → j < i → i < n → On n k i p → On n k j q → on_way k p q ≡ false
unfolding on_way
on_way_no n k i j p q hk h hj (low a e) (low b f) = let x : k ≤ q = omega arith in let y : k ≤ p = omega arith in let z : q < p = omega arith in rw (le-leb k q x, le-leb k p y, lt-leb p q z)
on_way_no n k i j p q hk h hj (low a e) (high b f) = absurd (omega arith)
on_way_no n k i j p q hk h hj (high a e) (low b f) = let x : k ≤ q = omega arith in let y : p < k = omega arith in rw (le-leb k q x, lt-leb k p y)
on_way_no n k i j p q hk h hj (high a e) (high b f) = let x : q < k = omega arith in let y : p < k = omega arith in let z : q < p = omega arith in rw (lt-leb k q x, lt-leb k p y, lt-leb p q z)

module _ (r : Round) (u : Perm r) where
  -- the place of a stop inside a reading
  place_in : (a : Stop) (A : List Stop) (i v : ℕ) (t : Turned r (a ∷ A)) → i < length r → at (a ∷ A) i ≡ v → On (length r) (place r a) i (place r v)
  place_in a A i v t h g =
      let s = spot r a A t in
      let k : place r a ≡ s.place = on_zero (length r) s.place (place r a) s.below (place_on r (a ∷ A) u s 0 (omega arith)) in
      rw k (rw g at (place_on r (a ∷ A) u s i h))

  module _ (a : Stop) (A W : List Stop) (v : Stop) (t : Turned r ((a ∷ A) ++ W)) where
    way_length : suc (length A) + length W ≡ length r
    way_length = sym (length-append (a ∷ A) W) ∙ turned_length r ((a ∷ A) ++ W) t

    way_first : place r a < length r
    way_first =
        let s = spot r a (A ++ W) t in
        let l = way_length in
        let k : place r a ≡ s.place = on_zero (length r) s.place (place r a) s.below (place_on r ((a ∷ A) ++ W) u s 0 (omega arith)) in
        omega (arith, s.below)

    way_last : On (length r) (place r a) (length A) (place r (end a A))
    way_last =
        let l = way_length in
        place_in a (A ++ W) (length A) (end a A) t (omega arith) (get_or-append (a ∷ A) W 0 (length A) (omega arith) ∙ sym (end_at a A))

    turned_in : 0 < tally (a ∷ A) v → on_way (place r a) (place r v) (place r (end a A)) ≡ true
    turned_in h = go (cut (a ∷ A) v h)
      where
        go : Cut (a ∷ A) v → on_way (place r a) (place r v) (place r (end a A)) ≡ true
        go (here P Q e) =
            let l = way_length in
            let m : suc (length A) ≡ length P + suc (length Q) = ap length e ∙ length-append P (v ∷ Q) in
            let g : at ((a ∷ A) ++ W) (length P) ≡ v = get_or-append (a ∷ A) W 0 (length P) (omega arith) ∙ ap (λ x. at x (length P)) e ∙ get_or-append_seam P v Q 0 in
            on_way_yes (length r) (place r a) (length P) (length A) (place r v) (place r (end a A)) way_first (omega arith) (omega arith) (place_in a (A ++ W) (length P) v t (omega arith) g) way_last

    turned_out : 0 < tally W v → on_way (place r a) (place r v) (place r (end a A)) ≡ false
    turned_out h = go (cut W v h)
      where
        go : Cut W v → on_way (place r a) (place r v) (place r (end a A)) ≡ false
        go (here P Q e) =
            let l = way_length in
            let m : length W ≡ length P + suc (length Q) = ap length e ∙ length-append P (v ∷ Q) in
            let g : at ((a ∷ A) ++ W) (suc (length A) + length P) ≡ v = get_or-append-add (a ∷ A) W (length P) 0 ∙ ap (λ x. at x (length P)) e ∙ get_or-append_seam P v Q 0 in
            on_way_no (length r) (place r a) (suc (length A) + length P) (length A) (place r v) (place r (end a A)) way_first (omega arith) (omega arith) (place_in a (A ++ W) (suc (length A) + length P) v t (omega arith) g) way_last

  backward : (a : Stop) (A W : List Stop) → Turned r (reverse ((a ∷ A) ++ W)) → Turned r (reverse (a ∷ A) ++ reverse W)
  backward a A W t = turned_turn r (reverse W) (reverse (a ∷ A)) (subst (Turned r) (reverse-append (a ∷ A) W) t)

  -- inside the part, and outside it, in either direction
  between_in : (o : Bool) (a : Stop) (A W : List Stop) (v : Stop) → Reads o r ((a ∷ A) ++ W) → 0 < tally (a ∷ A) v → between o r a v (end a A) ≡ true
  unfolding Reads between
  between_in true a A W v t h = turned_in a A W v t h
  between_in false a A W v t h =
      let b = back a A in
      let g = turned_in (end a A) b.tail (reverse W) v (subst (λ x. Turned r (x ++ reverse W)) b.is (backward a A W t)) (omega (arith, tally_reverse v (a ∷ A), ap (λ x. tally x v) b.is)) in
      rw b.ends at g

  between_out : (o : Bool) (a : Stop) (A W : List Stop) (v : Stop) → Reads o r ((a ∷ A) ++ W) → 0 < tally W v → between o r a v (end a A) ≡ false
  unfolding Reads between
  between_out true a A W v t h = turned_out a A W v t h
  between_out false a A W v t h =
      let b = back a A in
      let g = turned_out (end a A) b.tail (reverse W) v (subst (λ x. Turned r (x ++ reverse W)) b.is (backward a A W t)) (omega (arith, tally_reverse v W)) in
      rw b.ends at g

  -- what the test says
  pub in_part : (o : Bool) (a : Stop) (A W : List Stop) (v : Stop) → Reads o r ((a ∷ A) ++ W) → 0 < tally r v → between o r a v (end a A) ≡ true → 0 < tally (a ∷ A) v
  in_part o a A W v t h e = elim (dec_lt 0 (tally W v)) [
    | yes k ↦ absurd (true_false (sym e ∙ between_out o a A W v t k))
    | no k ↦ omega (arith, reads_tally o r ((a ∷ A) ++ W) t v, tally_join v (a ∷ A) W)
  ]

  pub out_part : (o : Bool) (a : Stop) (A W : List Stop) (v : Stop) → Reads o r ((a ∷ A) ++ W) → 0 < tally r v → between o r a v (end a A) ≡ false → 0 < tally W v
  out_part o a A W v t h e = elim (dec_lt 0 (tally (a ∷ A) v)) [
    | yes k ↦ absurd (true_false (sym (between_in o a A W v t k) ∙ e))
    | no k ↦ omega (arith, reads_tally o r ((a ∷ A) ++ W) t v, tally_join v (a ∷ A) W)
  ]
