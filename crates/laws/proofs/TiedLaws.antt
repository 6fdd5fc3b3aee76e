-- 01, number 7, "places its inverse": the round determines its places, stops are read off them, and an exchange of two stops in both keeps
-- them tied.
use Prim.Native.Nat.{◌<◌, ◌≤◌, suc, ℕ}
use mathlib.Core.Path.{◌∙◌, ◌≡◌, ap, subst, sym}
use mathlib.Core.Logic.{◌≢◌}
use mathlib.Core.Bool.{Bool, false, true}
use mathlib.Core.List.{List, [], ◌∷◌}
use native.Mathlib.Decide.{dec_lt, ℕ_discrete}
use native.Mathlib.Omega.{arith}
use lib.ListN.{length, length-set, set}
use lib.Seq.{ext_get_or, get_or-set_other, get_or-set_same}
use Rattle.rules.specs.SharedWords.{Tied}
use Rattle.rules.specs.Lists.{at, when◌then◌else◌, tally}
use Rattle.rules.specs.Rewrite.{swap_at}
use Rattle.rules.specs.Ring.{between, is_round, next, on_way, place, places_of, pred, prev, succ}
use Rattle.rules.specs.Words.{Place, Round, Stop}
use Rattle.laws.proofs.PermLaws.{Perm, perm_at, perm_place, perm_round, round_length, round_perm}
use Rattle.laws.proofs.PlaceLaws.{at_place, place_below, tally_at}
use Rattle.laws.proofs.RewriteLaws.{swap_at_length}
use Rattle.laws.proofs.RisingLaws.{table_at, table_length}
use Rattle.laws.proofs.TallyLaws.{one_other, one_same}

-- the table of places
pub places_of_length : (r : Round) → length (places_of r) ≡ length r
unfolding places_of
places_of_length r = table_length (place r) (length r)

pub places_of_at : (r : Round) (v : Stop) → v < length r → at (places_of r) v ≡ place r v
unfolding places_of
places_of_at r v h = table_at (place r) (length r) v h

-- a round of at most 4096 stops is tied to its places
pub round_tied : (n : ℕ) (r : Round) → is_round n r ≡ true → n ≤ 4096 → Tied r (places_of r)
round_tied n r e few =
    let p = round_perm n r e in
    record {
      few = omega (arith, round_length n r e);
      same = places_of_length r;
      stop = perm_at r p;
      place = λ v h. rw (places_of_at r v h) (place_below r v (p.has v h));
      back = λ i h. places_of_at r (at r i) (perm_at r p i h) ∙ perm_place r p i h;
      forth = λ v h. ap (at r) (places_of_at r v h) ∙ at_place r v (p.has v h);
    }

-- ---- what is tied to a round
-- a list with no stop at two places has each once at most
apart_once : (x : List Stop) → ((i j : Place) → i < length x → j < length x → at x i ≡ at x j → i ≡ j) → (v : Stop) → tally x v ≤ 1
unfolding tally
apart_once [] h v = omega arith
apart_once (a ∷ x) h v =
    let rest = apart_once x (λ i j hi hj e. omega (arith, h (suc i) (suc j) (omega arith) (omega arith) e)) v in
    elim (ℕ_discrete a v) [
      | yes e ↦ elim (dec_lt 0 (tally x v)) [
        | yes k ↦ (let z : suc (place x v) ≡ 0 = h (suc (place x v)) 0 (omega (arith, place_below x v k)) (omega arith) (at_place x v k ∙ sym e) in absurd (omega arith))
        | no k ↦ omega (arith, one_same e)
      ]
      | no ne ↦ omega (arith, one_other ne, rest)
    ]

module _ {r : Round} {places : List Place} (t : Tied r places) where
  -- two places with one stop are one place
  apart : (i j : Place) → i < length r → j < length r → at r i ≡ at r j → i ≡ j
  apart i j hi hj e = sym (t.back i hi) ∙ ap (at places) e ∙ t.back j hj

  -- it holds each stop once
  pub tied_perm : Perm r
  tied_perm = record {
    once = apart_once r apart;
    has = λ v h. subst (λ u. 0 < tally r u) (t.forth v h) (tally_at r (at places v) (t.place v h));
    only = λ v h. subst (λ u. u < length r) (at_place r v h) (t.stop (place r v) (place_below r v h));
  }

  pub tied_round : is_round (length r) r ≡ true
  tied_round = perm_round r tied_perm

  -- the place of a stop
  pub place_tied : (v : Stop) → v < length r → place r v ≡ at places v
  place_tied v h = ap (place r) (sym (t.forth v h)) ∙ perm_place r tied_perm (at places v) (t.place v h)

  -- the places are those that belong to the round
  pub tied_places : places ≡ places_of r
  tied_places =
      ext_get_or 0 places (places_of r) (t.same ∙ sym (places_of_length r)) (λ v h.
      let hv : v < length r = omega (arith, t.same) in sym (places_of_at r v hv ∙ place_tied v hv))

  -- the stops beside a stop, in the ring's direction and against it
  pub succ_tied : (v : Stop) → v < length r → succ r v ≡ at r (next (length r) (at places v))
  unfolding succ
  succ_tied v h = ap (λ p. at r (next (length r) p)) (place_tied v h)

  pub pred_tied : (v : Stop) → v < length r → pred r v ≡ at r (prev (length r) (at places v))
  unfolding pred
  pred_tied v h = ap (λ p. at r (prev (length r) p)) (place_tied v h)

  -- whether a stop lies between two, read off their places
  pub between_tied : (fwd : Bool) (a b c : Stop) → a < length r → b < length r → c < length r
      → between fwd r a b c ≡ (when fwd then on_way (at places a) (at places b) (at places c) else on_way (at places c) (at places b) (at places a))
  unfolding between
  between_tied true a b c ha hb hc = rw (place_tied a ha, place_tied b hb, place_tied c hc)
  between_tied false a b c ha hb hc = rw (place_tied a ha, place_tied b hb, place_tied c hc)

-- ---- an exchange of two stops, in the round and in the places
-- what stands at k after u was stored at p and then w at q
data At2 (l : List ℕ) (p u q w k x : ℕ) : Type 0 where
  at_last : k ≡ q → x ≡ w → At2 l p u q w k x
  at_first : k ≢ q → k ≡ p → x ≡ u → At2 l p u q w k x
  at_other : k ≢ q → k ≢ p → x ≡ at l k → At2 l p u q w k x

at2 : (l : List ℕ) (p u q w k : ℕ) → p < length l → q < length l → At2 l p u q w k (at (set (set l p u) q w) k)
at2 l p u q w k hp hq = go (ℕ_discrete k q) (ℕ_discrete k p)
  where
    hq2 : q < length (set l p u)
    hq2 = simp length-set hq

    go : Dec (k ≡ q) → Dec (k ≡ p) → At2 l p u q w k (at (set (set l p u) q w) k)
    go (yes e) d = at_last e (ap (λ (m : ℕ). at (set (set l p u) q w) m) e ∙ get_or-set_same (set l p u) q w 0 hq2)
    go (no h) (yes e) = at_first h e (get_or-set_other (set l p u) q k w 0 h ∙ ap (λ (m : ℕ). at (set l p u) m) e ∙ get_or-set_same l p u 0 hp)
    go (no h) (no g) = at_other h g (get_or-set_other (set l p u) q k w 0 h ∙ get_or-set_other l p k u 0 g)

module _ (r : Round) (ps : List Place) (i j : Place) (t : Tied r ps) (hi : i < length r) (hj : j < length r) where
  back_go : (k x y : ℕ) → k < length r → At2 r i (at r j) j (at r i) k x → At2 ps (at r j) i (at r i) j x y → y ≡ k
  back_go k x y h (at_last e e') (at_last f f') = cc
  back_go k x y h (at_last e e') (at_first f f' f'') = absurd (f e')
  back_go k x y h (at_last e e') (at_other f f' f'') = absurd (f e')
  back_go k x y h (at_first e e' e'') (at_last f f') = cc (t.back i hi, t.back j hj)
  back_go k x y h (at_first e e' e'') (at_first f f' f'') = cc
  back_go k x y h (at_first e e' e'') (at_other f f' f'') = absurd (f' e'')
  back_go k x y h (at_other e e' e'') (at_last f f') = let q : k ≡ i = cc (t.back i hi, t.back k h) in absurd (e' q)
  back_go k x y h (at_other e e' e'') (at_first f f' f'') = let q : k ≡ j = cc (t.back j hj, t.back k h) in absurd (e q)
  back_go k x y h (at_other e e' e'') (at_other f f' f'') = cc (t.back k h)

  forth_go : (v x y : ℕ) → v < length r → At2 ps (at r j) i (at r i) j v x → At2 r i (at r j) j (at r i) x y → y ≡ v
  forth_go v x y h (at_last e e') (at_last f f') = cc
  forth_go v x y h (at_last e e') (at_first f f' f'') = absurd (f e')
  forth_go v x y h (at_last e e') (at_other f f' f'') = absurd (f e')
  forth_go v x y h (at_first e e' e'') (at_last f f') = cc
  forth_go v x y h (at_first e e' e'') (at_first f f' f'') = cc
  forth_go v x y h (at_first e e' e'') (at_other f f' f'') = absurd (f' e'')
  forth_go v x y h (at_other e e' e'') (at_last f f') = let q : v ≡ at r j = cc (t.forth v h) in absurd (e' q)
  forth_go v x y h (at_other e e' e'') (at_first f f' f'') = let q : v ≡ at r i = cc (t.forth v h) in absurd (e q)
  forth_go v x y h (at_other e e' e'') (at_other f f' f'') = cc (t.forth v h)

  -- what stands after the two stores is below n, where what was stored and what stood are
  below_go : (l : List ℕ) (p u q w k x : ℕ) → At2 l p u q w k x → u < length r → w < length r → at l k < length r → x < length r
  below_go l p u q w k x (at_last e e') hu hw hk = omega arith
  below_go l p u q w k x (at_first e e' e'') hu hw hk = omega arith
  below_go l p u q w k x (at_other e e' e'') hu hw hk = omega arith

  pub tied_swap : Tied (swap_at i j r) (set (set ps (at r j) i) (at r i) j)
  unfolding swap_at
  tied_swap =
      let n_is : length (swap_at i j r) ≡ length r = swap_at_length i j r in
      let ha : at r i < length ps = omega (arith, t.stop i hi, t.same) in
      let hb : at r j < length ps = omega (arith, t.stop j hj, t.same) in
      let rv : (k : ℕ) → At2 r i (at r j) j (at r i) k (at (set (set r i (at r j)) j (at r i)) k) = λ k. at2 r i (at r j) j (at r i) k hi hj in
      let pv : (v : ℕ) → At2 ps (at r j) i (at r i) j v (at (set (set ps (at r j) i) (at r i) j) v) = λ v. at2 ps (at r j) i (at r i) j v hb ha in
      record {
        few = omega (arith, t.few);
        same = simp length-set t.same;
        stop = λ k h. let g : k < length r = omega arith in simp length-set (below_go r _ _ _ _ k _ (rv k) (t.stop j hj) (t.stop i hi) (t.stop k g));
        place = λ v h. let g : v < length r = omega arith in simp length-set (below_go ps _ _ _ _ v _ (pv v) hi hj (t.place v g));
        back = λ k h. let g : k < length r = omega arith in back_go k _ _ g (rv k) (pv _);
        forth = λ v h. let g : v < length r = omega arith in forth_go v _ _ g (pv v) (rv _);
      }
