-- 01, 2 and 6: `reverse` and `flip` as rearrangements of a reading, whichever side is turned.
use Prim.Native.Nat.{◌*◌, ◌+◌, ◌-◌, ◌<◌, ◌≤◌, suc, zero, ℕ}
use mathlib.Core.Path.{◌∙◌, ◌≡◌, ap, ap₂, subst, sym}
use mathlib.Core.Logic.{◌≢◌}
use mathlib.Core.Bool.{Bool, false, true}
use mathlib.Core.List.{List, ◌++◌, ◌∷◌, reverse, reverse-append, reverse-reverse}
use native.Mathlib.Decide.{ℕ_discrete}
use native.Mathlib.Omega.{arith}
use lib.Dec.{eqb, ltb}
use lib.ListN.{get_or-append, length, length-append}
use lib.Seq.{drop_at, get_or-append_seam, take_at}
use borrow.Author.Tests.{eq-eqb, ne_eqb}
use Rattle.rules.specs.Journal.{Track, reversing}
use Rattle.rules.specs.Lists.{at, tally}
use Rattle.rules.specs.Moves.{flip}
use Rattle.rules.specs.Rewrite.{Stretch, from, len_of, reverse_at, reverse_front, stretch}
use Rattle.rules.specs.Ring.{ahead, behind, next, place, pred, prev, succ}
use Rattle.rules.specs.Words.{Round, Stop}
use Rattle.laws.proofs.ChoiceLaws.{either_way}
use Rattle.laws.proofs.PermLaws.{Perm, perm_place}
use Rattle.laws.proofs.PlaceLaws.{next_below, next_inner, next_last, on_next, on_zero, place_below, prev_below, prev_first, prev_inner, tally_at}
use Rattle.laws.proofs.ReadLaws.{Reads, Turned, reads_tally, reads_turn, turn_turned, turned_length, turned_turn}
use Rattle.laws.proofs.SpotLaws.{Spot, at_on, place_on, reads_join, reads_seam, spot}
use Rattle.laws.proofs.StretchLaws.{len_of_is, reversing_is}
use Rattle.laws.proofs.TimeLaws.{back, end, end_at, end_join}
use Rattle.laws.proofs.TurnLaws.{On, on_below}

-- a stretch reversed where the reading begins
reverse_at_turned : (r M W : List Stop) (s : Spot r (M ++ W)) (m : ℕ) → length M ≡ m → Turned (reverse_at s.place m r) (reverse M ++ W)
unfolding reverse_at from reverse_front
reverse_at_turned r M W s m e = rw (s.is, take_at M W m e, drop_at M W m e) (turn_turned (length r - s.place) (reverse M ++ W))

-- a round that reads x in one direction or the other
pub record Either (r x : List Stop) : Type 0 where
  pub way : Bool
  pub reads : Reads way r x

record Stretched (r x : List Stop) (w : Stretch) : Type 0 where
  fits : w.start ≤ length r
  gives : Either (reverse_at w.start w.len r) x

-- from a's place to the place of the last stop before b
module _ (r : Round) (u : Perm r) (a : Stop) (A : List Stop) (b : Stop) (B : List Stop) (t : Turned r ((a ∷ A) ++ (b ∷ B))) where
  stretch_reads : Stretched r (reverse (a ∷ A) ++ (b ∷ B)) (stretch (length r) (place r a) (place r (end a A)))
  unfolding stretch Reads
  stretch_reads =
      let n = length r in
      let M = a ∷ A in
      let W = b ∷ B in
      let s = spot r a (A ++ W) t in
      let z = spot r b (B ++ M) (turned_turn r M W t) in
      let hs : s.place < n = s.below in
      let hz : z.place < n = z.below in
      let m = length M in
      let nn : m + suc (length B) ≡ n = sym (length-append M W) ∙ turned_length r (M ++ W) t in
      let pa : place r a ≡ s.place = on_zero n s.place (place r a) hs (place_on r (M ++ W) u s 0 (omega arith)) in
      let pb : place r b ≡ z.place = on_zero n z.place (place r b) hz (place_on r (W ++ M) u z 0 (omega arith)) in
      let ml : m - 1 ≡ length A = omega arith in
      let at_e : at (M ++ W) (m - 1) ≡ end a A = get_or-append M W 0 (m - 1) (omega arith) ∙ ap (at M) ml ∙ sym (end_at a A) in
      let oe : On n s.place (m - 1) (place r (end a A)) = rw at_e at (place_on r (M ++ W) u s (m - 1) (omega arith)) in
      let len = len_of n (place r a) (place r (end a A)) in
      let be : place r (end a A) < n = on_below n s.place (m - 1) (place r (end a A)) hs (omega arith) oe in
      let il : len ≡ m = len_of_is n (place r a) (place r (end a A)) m (omega arith) be (omega arith) (omega arith) (rw pa oe) in
      let m1 : m - 1 + 1 ≡ m = omega arith in
      let ob : On n s.place m (next n (place r (end a A))) = rw m1 at (on_next n s.place (m - 1) (place r (end a A)) hs (omega arith) oe) in
      let at_b : at (M ++ W) m ≡ b = get_or-append_seam M b B 0 in
      let nb : next n (place r (end a A)) < n = on_below n s.place m (next n (place r (end a A))) hs (omega arith) ob in
      let zb : next n (place r (end a A)) ≡ z.place = sym (perm_place r u (next n (place r (end a A))) nb) ∙ ap (place r) (at_on r (M ++ W) u s m (next n (place r (end a A))) (omega arith) ob ∙ at_b) ∙ pb in
      let lw : length W ≡ n - len = omega arith in
      either_way (Stretched r (reverse M ++ W)) (ltb n (2 * len))
      (record { fits = omega arith; gives = rw zb (record { way = false; reads = rw (reverse-append (reverse M) W, reverse-reverse M) (reverse_at_turned r W M z (n - len) lw) }) })
      (record { fits = omega arith; gives = record { way = true; reads = subst (λ k. Turned (reverse_at k len r) (reverse M ++ W)) (sym pa) (reverse_at_turned r M W s len (sym il)) } })

reversing_reads : (t : Track) → Perm t.round → (a : Stop) (A : List Stop) (b : Stop) (B : List Stop) → Turned t.round ((a ∷ A) ++ (b ∷ B))
    → Either (reversing (place t.round a) (place t.round (end a A)) t).round (reverse (a ∷ A) ++ (b ∷ B))
reversing_reads t u a A b B h =
    let g = stretch_reads t.round u a A b B h in
    rw (reversing_is (place t.round a) (place t.round (end a A)) t g.fits) g.gives

-- ---- on three stops or more the two stops beside a stop differ
next_prev : (n p : ℕ) → 3 ≤ n → p < n → next n p ≢ prev n p
next_prev n zero h hp = let q : zero + 1 ≢ n = omega arith in omega (arith, next_inner n zero q, prev_first n)
next_prev n (suc p) h hp = let z : suc p ≢ 0 = omega arith in elim (ℕ_discrete (suc p + 1) n) [ yes q ↦ omega (arith, next_last n (suc p) q, prev_inner n (suc p) z) | no q ↦ omega (arith, next_inner n (suc p) q, prev_inner n (suc p) z) ]

apart : (r : Round) → Perm r → 3 ≤ length r → (v : Stop) → place r v < length r → succ r v ≢ pred r v
unfolding succ pred
apart r u h v hp e =
    let n = length r in
    let p = place r v in
    next_prev n p h hp (sym (perm_place r u (next n p) (next_below n p hp)) ∙ ap (place r) e ∙ perm_place r u (prev n p) (prev_below n p hp))

-- t1's side: the direction that a step reads off the round
pub tally_end : (a : Stop) (A : List Stop) → 0 < tally (a ∷ A) (end a A)
tally_end a A = rw (end_at a A) (tally_at (a ∷ A) (length A) (omega arith))

module _ (r : Round) (u : Perm r) (h : 3 ≤ length r) where
  pub way_is : (o : Bool) (t2 : Stop) (A : List Stop) → Reads o r (t2 ∷ A) → eqb (succ r (end t2 A)) t2 ≡ o
  unfolding ahead
  way_is true t2 A t = eq-eqb _ _ (reads_join r u true t2 A t).ahead_is
  way_is false t2 A t =
      let p : pred r (end t2 A) ≡ t2 = (reads_join r u false t2 A t).ahead_is in
      let b : place r (end t2 A) < length r = place_below r (end t2 A) (omega (arith, tally_end t2 A, reads_tally false r (t2 ∷ A) t (end t2 A))) in
      ne_eqb _ _ (λ e. apart r u h (end t2 A) b (e ∙ sym p))

-- ---- the 2-opt move, in either direction: t2 .. t4, t3 .. t1 becomes t4 .. t2, t3 .. t1
pub flip_reads : (o : Bool) (t : Track) → Perm t.round → 3 ≤ length t.round → (t2 : Stop) (A : List Stop) (t3 : Stop) (B : List Stop)
    → Reads o t.round ((t2 ∷ A) ++ (t3 ∷ B)) → Either (flip (end t3 B) t2 t3 t).round (reverse (t2 ∷ A) ++ (t3 ∷ B))
unfolding flip Reads behind
flip_reads true t u h t2 A t3 B l =
    let r = t.round in
    let w : eqb (succ r (end t3 B)) t2 ≡ true = rw end_join at (way_is r u h true t2 (A ++ (t3 ∷ B)) l) in
    let p : pred r t3 ≡ end t2 A = (reads_seam r u true t2 A t3 B l).behind_is in
    rw (w, p) (reversing_reads t u t2 A t3 B l)
flip_reads false t u h t2 A t3 B l =
    let r = t.round in
    let w : eqb (succ r (end t3 B)) t2 ≡ false = rw end_join at (way_is r u h false t2 (A ++ (t3 ∷ B)) l) in
    let f = back t3 B in
    let g = back t2 A in
    let l' : Turned r ((end t3 B ∷ f.tail) ++ (end t2 A ∷ g.tail)) = subst (Turned r) (reverse-append (t2 ∷ A) (t3 ∷ B) ∙ ap₂ (λ x y. x ++ y) f.is g.is) l in
    let e : Either (reversing (place r (end t3 B)) (place r t3) t).round (reverse (end t3 B ∷ f.tail) ++ (end t2 A ∷ g.tail)) = rw f.ends at (reversing_reads t u (end t3 B) f.tail (end t2 A) g.tail l') in
    let q : reverse (end t3 B ∷ f.tail) ≡ t3 ∷ B = ap reverse (sym f.is) ∙ reverse-reverse (t3 ∷ B) in
    let e' : Either (reversing (place r (end t3 B)) (place r t3) t).round ((t3 ∷ B) ++ reverse (t2 ∷ A)) = subst (Either (reversing (place r (end t3 B)) (place r t3) t).round) (ap₂ (λ x y. x ++ y) q (sym g.is)) e in
    rw w (record { way = e'.way; reads = reads_turn e'.way (reversing (place r (end t3 B)) (place r t3) t).round (t3 ∷ B) (reverse (t2 ∷ A)) e'.reads })
