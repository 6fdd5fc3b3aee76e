-- Where a reading of the ring stands: the place of each of its stops, and the stops beside a stop.
use Prim.Native.Nat.{◌%◌, ◌+◌, ◌-◌, ◌<◌, suc, ℕ}
use mathlib.Core.Path.{◌∙◌, ◌≡◌, ap, refl, sym}
use mathlib.Core.Bool.{Bool, false, true}
use mathlib.Core.List.{List, [], ◌++◌, ◌∷◌, append-nil}
use native.Mathlib.Omega.{arith}
use lib.ListN.{length, length-append}
use lib.Seq.{drop_at, take_at}
use Rattle.rules.specs.Lists.{at}
use Rattle.rules.specs.Ring.{ahead, behind, next, place, pred, prev, succ, turn}
use Rattle.rules.specs.Words.{Place, Round, Stop}
use Rattle.laws.proofs.PermLaws.{Perm, perm_place}
use Rattle.laws.proofs.PlaceLaws.{on_before, on_round, on_zero}
use Rattle.laws.proofs.ReadLaws.{Reads, Turned, reads_turn, turned_length}
use Rattle.laws.proofs.TimeLaws.{back, end, end_at, end_join}
use Rattle.laws.proofs.TurnLaws.{On, low, on_below, on_mod, turn_on}

-- a place from which the ring reads x
pub record Spot (r x : List Stop) : Type 0 where
  pub place : Place
  pub below : place < length r
  pub is : turn place r ≡ x

-- there is one
pub spot : (r : Round) (a : Stop) (A : List Stop) → Turned r (a ∷ A) → Spot r (a ∷ A)
unfolding turn
spot r a A t = go t.rest t.is t.to
  where
    go : (Y : List Stop) → r ≡ t.front ++ Y → a ∷ A ≡ Y ++ t.front → Spot r (a ∷ A)
    go [] p q =
        let e : r ≡ a ∷ A = p ∙ append-nil t.front ∙ sym q in
        let l : length r ≡ suc (length A) = ap length e in
        record { place = 0; below = omega arith; is = append-nil r ∙ e }
    go (y ∷ Y) p q =
        record {
          place = length t.front;
          below = omega (arith, ap length p, length-append t.front (y ∷ Y));
          is = rw p (rw (drop_at t.front (y ∷ Y) (length t.front) refl, take_at t.front (y ∷ Y) (length t.front) refl) (sym q));
        }

module _ (r x : List Stop) (u : Perm r) (s : Spot r x) where
  -- the stop i steps after it is element i, and stands there
  pub at_on : (i : ℕ) (p : Place) → i < length r → On (length r) s.place i p → at r p ≡ at x i
  at_on i p h o = let b : s.place < length r = s.below in sym (turn_on s.place i p r (omega arith) h o) ∙ ap (λ y. at y i) s.is

  pub place_on : (i : ℕ) → i < length r → On (length r) s.place i (place r (at x i))
  place_on i h =
      let p = (s.place + i) % length r in
      let o : On (length r) s.place i p = on_mod (length r) s.place i s.below h in
      let e : place r (at x i) ≡ p = ap (place r) (sym (at_on i p h o)) ∙ perm_place r u p (on_below (length r) s.place i p s.below h o) in
      rw e o

-- ---- the stops beside a stop: w is just after v in the direction
pub record Joined (o : Bool) (r : Round) (v w : Stop) : Type 0 where
  pub ahead_is : ahead o r v ≡ w
  pub behind_is : behind o r w ≡ v

module _ (r : Round) (u : Perm r) where
  -- a reading that begins with a: its last stop is just before a
  turned_join : (a : Stop) (A : List Stop) → Turned r (a ∷ A) → Joined true r (end a A) a
  unfolding ahead behind succ pred
  turned_join a A t =
      let s = spot r a A t in
      let n = length r in
      let l : suc (length A) ≡ n = turned_length r (a ∷ A) t in
      let i : n - 1 ≡ length A = omega arith in
      let b : s.place < n = s.below in
      let first : On n s.place 0 (place r a) = place_on r (a ∷ A) u s 0 (omega arith) in
      let k : place r a ≡ s.place = on_zero n s.place (place r a) b first in
      let last : On n s.place (n - 1) (place r (end a A)) = rw (end_at a A, ← i) (place_on r (a ∷ A) u s (n - 1) (omega arith)) in
      let fwd : next n (place r (end a A)) ≡ s.place = on_round n s.place (place r (end a A)) b last in
      let bwd : prev n s.place ≡ place r (end a A) = on_before n s.place (place r (end a A)) b last in
      let head : at r s.place ≡ a = at_on r (a ∷ A) u s 0 s.place (omega arith) (low (omega arith) (omega arith)) in
      let tail : at r (place r (end a A)) ≡ end a A = at_on r (a ∷ A) u s (n - 1) (place r (end a A)) (omega arith) last ∙ ap (at (a ∷ A)) i ∙ sym (end_at a A) in
      record { ahead_is = ap (at r) fwd ∙ head; behind_is = ap (λ p. at r (prev n p)) k ∙ ap (at r) bwd ∙ tail }

  joined_back : {v w : ℕ} → Joined true r v w → Joined false r w v
  unfolding ahead behind
  joined_back j = record { ahead_is = j.behind_is; behind_is = j.ahead_is }

  -- in either direction
  pub reads_join : (o : Bool) (a : Stop) (A : List Stop) → Reads o r (a ∷ A) → Joined o r (end a A) a
  unfolding Reads
  reads_join true a A t = turned_join a A t
  reads_join false a A t =
      let h = back a A in
      let j = turned_join (end a A) h.tail (rw h.is at t) in
      joined_back (rw h.ends at j)

  -- and inside it
  pub reads_seam : (o : Bool) (a : Stop) (A : List Stop) (b : Stop) (B : List Stop) → Reads o r ((a ∷ A) ++ (b ∷ B)) → Joined o r (end a A) b
  reads_seam o a A b B t = rw end_join at (reads_join o b (B ++ (a ∷ A)) (reads_turn o r (a ∷ A) (b ∷ B) t))
