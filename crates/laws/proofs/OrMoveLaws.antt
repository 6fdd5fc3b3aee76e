-- 01, 6: `or_move` as a rearrangement of a reading, whichever two of its three paths move.
use Prim.Native.Nat.{◌+◌, ◌-◌, ◌<◌, max, min, suc, ℕ}
use mathlib.Core.Path.{◌∙◌, ◌≡◌, ap, ap₂, refl, subst, sym}
use mathlib.Core.Bool.{Bool, ◌&&◌, false, true}
use mathlib.Core.List.{List, [], ◌++◌, ◌∷◌, append_assoc, reverse, reverse-append}
use native.Mathlib.Omega.{arith}
use lib.Dec.{leb}
use lib.ListN.{length, length-append}
use lib.Seq.{get_or-append_seam}
use Rattle.rules.specs.Journal.{Track, carry_out, doing}
use Rattle.rules.specs.Lists.{at}
use Rattle.rules.specs.Moves.{exchange, or_move}
use Rattle.rules.specs.Rewrite.{from, rotate_at}
use Rattle.rules.specs.Ring.{place, recount}
use Rattle.rules.specs.Words.{Legs, Round, Stop}
use Rattle.laws.proofs.ChoiceLaws.{either_way}
use Rattle.laws.proofs.PermLaws.{Perm}
use Rattle.laws.proofs.PlaceLaws.{on_zero}
use Rattle.laws.proofs.ReadLaws.{Reads, Turned, driven, reads_driven, reads_turn, turn_turned, turned_length, turned_turn}
use Rattle.laws.proofs.RewriteLaws.{exchange_parts}
use Rattle.laws.proofs.SpotLaws.{Spot, place_on, spot}
use Rattle.laws.proofs.TimeLaws.{back, end, exchange3_time}
use Rattle.laws.proofs.TurnLaws.{On, high, low}

-- two segments exchanged where the reading begins
rotate_at_turned : (r X Z W : List Stop) (s : Spot r (X ++ (Z ++ W))) (k a c : ℕ) → k ≡ s.place → length X ≡ a → length Z ≡ c → Turned (rotate_at k a 0 c r) (Z ++ (X ++ W))
unfolding rotate_at from
rotate_at_turned r X Z W s k a c e ha hc =
    rw (e, s.is, exchange_parts X [] Z W a 0 c ha refl hc) (turn_turned (length r - s.place) (Z ++ (X ++ W)))

module _ (r : Round) (u : Perm r) where
  -- the place of the first stop, and of the stop behind a part
  first_place : (a : Stop) (A : List Stop) (t : Turned r (a ∷ A)) → place r a ≡ (spot r a A t).place
  first_place a A t =
      let s = spot r a A t in
      let l : suc (length A) ≡ length r = turned_length r (a ∷ A) t in
      on_zero (length r) s.place (place r a) s.below (place_on r (a ∷ A) u s 0 (omega arith))

  part_place : (a : Stop) (A : List Stop) (b : Stop) (B : List Stop) → Turned r ((a ∷ A) ++ (b ∷ B)) → On (length r) (place r a) (suc (length A)) (place r b)
  part_place a A b B t =
      let s = spot r a (A ++ (b ∷ B)) t in
      let l : suc (length A) + suc (length B) ≡ length r = sym (length-append (a ∷ A) (b ∷ B)) ∙ turned_length r ((a ∷ A) ++ (b ∷ B)) t in
      let e : at ((a ∷ A) ++ (b ∷ B)) (suc (length A)) ≡ b = get_or-append_seam (a ∷ A) b B 0 in
      rw (first_place a (A ++ (b ∷ B)) t) (rw e at (place_on r ((a ∷ A) ++ (b ∷ B)) u s (suc (length A)) (omega arith)))

plus_swap : (p q s : ℕ) → p + q + s ≡ p + s + q
plus_swap p q s = omega arith

on_gap : (n p i q : ℕ) → q < n → i < n → p < q → On n p i q → q - p ≡ i
on_gap n p i q hq hi h (low l e) = omega arith
on_gap n p i q hq hi h (high l e) = absurd (omega arith)

module _ (t : Track) (u : Perm t.round) where
  -- three cuts in rising order
  sorted : (a : Stop) (A : List Stop) (b : Stop) (B : List Stop) (c : Stop) (C : List Stop) → Turned t.round ((a ∷ A) ++ ((b ∷ B) ++ (c ∷ C)))
      → place t.round a < place t.round b → place t.round b < place t.round c
      → Turned (exchange (place t.round a) (place t.round b) (place t.round c) t).round ((b ∷ B) ++ ((a ∷ A) ++ (c ∷ C)))
  unfolding exchange doing carry_out
  sorted a A b B c C h x y =
      let r = t.round in
      let X = a ∷ A in
      let Y = b ∷ B in
      let Z = c ∷ C in
      let n = length r in
      let l : length X + (length Y + length Z) ≡ n = sym (ap (λ k. length X + k) (length-append Y Z)) ∙ sym (length-append X (Y ++ Z)) ∙ turned_length r (X ++ (Y ++ Z)) h in
      let h1 : Turned r (Y ++ (Z ++ X)) = rw append_assoc at (turned_turn r X (Y ++ Z) h) in
      let h2 : Turned r (Z ++ (X ++ Y)) = rw append_assoc at (turned_turn r Y (Z ++ X) h1) in
      let la : length X ≡ suc (length A) = refl in
      let lb : length Y ≡ suc (length B) = refl in
      let lc : length Z ≡ suc (length C) = refl in
      let pc : place r c < n = rw (first_place r u c (C ++ (X ++ Y)) h2) (spot r c (C ++ (X ++ Y)) h2).below in
      let ga : place r b - place r a ≡ suc (length A) = on_gap n (place r a) (suc (length A)) (place r b) (omega arith) (omega arith) x (part_place r u a A b (B ++ Z) h) in
      let gb : place r c - place r b ≡ suc (length B) = on_gap n (place r b) (suc (length B)) (place r c) pc (omega arith) y (part_place r u b B c (C ++ X) h1) in
      let s0 = spot r a (A ++ (Y ++ Z)) h in
      let s1 = spot r b (B ++ (Z ++ X)) h1 in
      let s2 = spot r c (C ++ (X ++ Y)) h2 in
      let ka = place r b - place r a in
      let kb = place r c - place r b in
      let kc = n - (place r c - place r a) in
      let gc : length Z ≡ kc = omega arith in
      either_way (λ (q : Track). Turned q.round (Y ++ (X ++ Z))) (leb ka kc && leb kb kc)
      (rotate_at_turned r X Y Z s0 (place r a) ka kb (first_place r u a (A ++ (Y ++ Z)) h) (sym ga) (sym gb))
      (either_way (λ (q : Track). Turned q.round (Y ++ (X ++ Z))) (leb kb ka)
      (subst (Turned _) (append_assoc Y X Z) (turned_turn _ Z (Y ++ X) (rotate_at_turned r Y Z X s1 (place r b) kb kc (first_place r u b (B ++ (Z ++ X)) h1) (sym gb) gc)))
      (turned_turn _ (X ++ Z) Y (subst (Turned _) (sym (append_assoc X Z Y)) (rotate_at_turned r Z X Y s2 (place r c) kc ka (first_place r u c (C ++ (X ++ Y)) h2) gc (sym ga)))))

  -- three cuts in any order
  exchange_turned : (a : Stop) (A : List Stop) (b : Stop) (B : List Stop) (c : Stop) (C : List Stop) → Turned t.round ((a ∷ A) ++ ((b ∷ B) ++ (c ∷ C)))
      → (lo mid hi : ℕ) → lo ≡ min (place t.round a) (min (place t.round b) (place t.round c)) → hi ≡ max (place t.round a) (max (place t.round b) (place t.round c))
      → mid ≡ place t.round a + place t.round b + place t.round c - lo - hi
      → Turned (exchange lo mid hi t).round ((b ∷ B) ++ ((a ∷ A) ++ (c ∷ C)))
  exchange_turned a A b B c C h lo mid hi el eh em =
      by (part_place r u a A b (B ++ Z) h) (part_place r u b B c (C ++ X) h1)
    where
      r : List Stop
      r = t.round

      X : List Stop
      X = a ∷ A

      Y : List Stop
      Y = b ∷ B

      Z : List Stop
      Z = c ∷ C

      h1 : Turned r (Y ++ (Z ++ X))
      h1 = rw append_assoc at (turned_turn r X (Y ++ Z) h)

      h2 : Turned r (Z ++ (X ++ Y))
      h2 = rw append_assoc at (turned_turn r Y (Z ++ X) h1)

      l : suc (length A) + (suc (length B) + suc (length C)) ≡ length r
      l = sym (ap (λ k. length X + k) (length-append Y Z)) ∙ sym (length-append X (Y ++ Z)) ∙ turned_length r (X ++ (Y ++ Z)) h

      pa : place r a < length r
      pa = rw (first_place r u a (A ++ (Y ++ Z)) h) (spot r a (A ++ (Y ++ Z)) h).below

      ends : (x y z : ℕ) → lo ≡ x → mid ≡ y → hi ≡ z → Turned (exchange x y z t).round (Y ++ (X ++ Z)) → Turned (exchange lo mid hi t).round (Y ++ (X ++ Z))
      ends x y z p q s g = rw (p, q, s) g

      abc : place r a < place r b → place r b < place r c → Turned (exchange lo mid hi t).round (Y ++ (X ++ Z))
      abc x y = ends (place r a) (place r b) (place r c) (omega arith) (omega arith) (omega arith) (sorted a A b B c C h x y)

      bca : place r b < place r c → place r c < place r a → Turned (exchange lo mid hi t).round (Y ++ (X ++ Z))
      bca x y = ends (place r b) (place r c) (place r a) (omega arith) (omega arith) (omega arith) (subst (Turned _) (append_assoc Y X Z) (turned_turn _ Z (Y ++ X) (sorted b B c C a A h1 x y)))

      cab : place r c < place r a → place r a < place r b → Turned (exchange lo mid hi t).round (Y ++ (X ++ Z))
      cab x y = ends (place r c) (place r a) (place r b) (omega arith) (omega arith) (omega arith) (turned_turn _ (X ++ Z) Y (subst (Turned _) (sym (append_assoc X Z Y)) (sorted c C a A b B h2 x y)))

      by : On (length r) (place r a) (suc (length A)) (place r b) → On (length r) (place r b) (suc (length B)) (place r c) → Turned (exchange lo mid hi t).round (Y ++ (X ++ Z))
      by (low p q) (low p' q') = abc (omega arith) (omega arith)
      by (low p q) (high p' q') = cab (omega (arith, l)) (omega arith)
      by (high p q) (low p' q') = bca (omega arith) (omega (arith, l))
      by (high p q) (high p' q') = absurd (omega (arith, l, pa))

  -- the segment move t2 .. t5, t6 .. t3, t4 .. t1 to t6 .. t3, t2 .. t5, t4 .. t1, in either direction
  pub or_move_reads : (o : Bool) (t2 : Stop) (A : List Stop) (t6 : Stop) (B : List Stop) (t4 : Stop) (C : List Stop) → Reads o t.round ((t2 ∷ A) ++ ((t6 ∷ B) ++ (t4 ∷ C)))
      → Reads o (or_move o (end t4 C) t2 (end t2 A) t6 (end t6 B) t4 t).round ((t6 ∷ B) ++ ((t2 ∷ A) ++ (t4 ∷ C)))
  unfolding Reads or_move
  or_move_reads true t2 A t6 B t4 C h = exchange_turned t2 A t6 B t4 C h _ _ _ refl refl refl
  or_move_reads false t2 A t6 B t4 C h =
      let r = t.round in
      let X = t2 ∷ A in
      let Y = t6 ∷ B in
      let Z = t4 ∷ C in
      let x = back t2 A in
      let y = back t6 B in
      let z = back t4 C in
      let p = place r (end t4 C) in
      let q = place r (end t2 A) in
      let s = place r (end t6 B) in
      let lo = min p (min q s) in
      let hi = max p (max q s) in
      let mid = p + q + s - lo - hi in
      let e : reverse (X ++ (Y ++ Z)) ≡ (end t4 C ∷ z.tail) ++ ((end t6 B ∷ y.tail) ++ (end t2 A ∷ x.tail)) =
      reverse-append X (Y ++ Z) ∙ ap (λ k. k ++ reverse X) (reverse-append Y Z) ∙ append_assoc (reverse Z) (reverse Y) (reverse X) ∙ ap₂ (λ k m. k ++ m) z.is (ap₂ (λ k m. k ++ m) y.is x.is) in
      let g : Turned (exchange lo mid hi t).round ((end t6 B ∷ y.tail) ++ ((end t4 C ∷ z.tail) ++ (end t2 A ∷ x.tail))) =
      exchange_turned (end t4 C) z.tail (end t6 B) y.tail (end t2 A) x.tail (subst (Turned r) e h) lo mid hi (omega arith) (omega arith) (ap (λ k. k - lo - hi) (plus_swap p q s)) in
      let e' : (end t6 B ∷ y.tail) ++ ((end t4 C ∷ z.tail) ++ (end t2 A ∷ x.tail)) ≡ reverse ((X ++ Z) ++ Y) =
      sym (reverse-append (X ++ Z) Y ∙ ap (λ k. reverse Y ++ k) (reverse-append X Z) ∙ ap₂ (λ k m. k ++ m) y.is (ap₂ (λ k m. k ++ m) z.is x.is)) in
      reads_turn false (exchange lo mid hi t).round (X ++ Z) Y (subst (Turned (exchange lo mid hi t).round) e' g)

  -- three legs go and three come, each as it is driven; no leg is asked to take as long as its return
  pub or_move_time : (d : Legs) (o : Bool) (t2 : Stop) (A : List Stop) (t6 : Stop) (B : List Stop) (t4 : Stop) (C : List Stop) → Reads o t.round ((t2 ∷ A) ++ ((t6 ∷ B) ++ (t4 ∷ C)))
      → recount d (or_move o (end t4 C) t2 (end t2 A) t6 (end t6 B) t4 t).round + (driven o d (end t4 C) t2 + driven o d (end t2 A) t6 + driven o d (end t6 B) t4)
      ≡ recount d t.round + (driven o d (end t4 C) t6 + driven o d (end t6 B) t2 + driven o d (end t2 A) t4)
  or_move_time d o t2 A t6 B t4 C h =
      omega (
        arith,
        exchange3_time (driven o d) t2 A t6 B t4 C,
        reads_driven d t.round o ((t2 ∷ A) ++ ((t6 ∷ B) ++ (t4 ∷ C))) h,
        reads_driven d (or_move o (end t4 C) t2 (end t2 A) t6 (end t6 B) t4 t).round o ((t6 ∷ B) ++ ((t2 ∷ A) ++ (t4 ∷ C))) (or_move_reads o t2 A t6 B t4 C h),
      )
