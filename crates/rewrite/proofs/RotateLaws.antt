-- `rotate_segments`: three runs of writes come to `rotate_at`, and round and places stay tied.
use Prim.Native.Nat.{ℕ, ◌+◌, ◌-◌, ◌≤◌, ◌<◌}
use mathlib.Core.Path.{◌≡◌, refl, sym, ap, ◌∙◌}
use mathlib.Core.List.{List, ◌++◌, append_assoc}
use native.Mathlib.Omega.{arith}
use native.Mathlib.Nat.{zero-add}
use native.Mathlib.Decide.{dec_lt}
use lib.ListN.{length, take, drop, length-append, length-drop, take-append-drop, get_or-append}
use Rattle.rules.specs.Lists.{at}
use Rattle.rules.specs.Ring.{turn}
use Rattle.rules.specs.Rewrite.{from, exchange_front, rotate_at}
use Rattle.rules.specs.SharedWords.{Tied}
use Rattle.ring.specs.Around.{around}
use Rattle.ring.specs.Legs.{Stops}
use Rattle.ring.proofs.AroundLaws.{around_lt, around_0, around_around}
use Rattle.laws.proofs.TurnLaws.{turn_length, turn_back}
use Rattle.ring.proofs.TurnAtLaws.{at_turn}
use Rattle.rewrite.specs.Writes.{writes, placings}
use Rattle.rewrite.specs.Rewritten.{Rewritten}
use Rattle.rewrite.proofs.WriteLaws.{writes_append, placings_append, length_writes}
use Rattle.rewrite.proofs.WindowLaws.{turn_written, tied_window}
use lib.Seq.{get_or-append-add, get_or-drop, get_or-take, length-take-le, take-append-le, drop-append-le}

-- the j-th stop that is written is the i-th that stood there
data Rot (a b c j i : ℕ) : Type 0 where
  from_z : j < c → i ≡ a + b + j → Rot a b c j i
  from_y : c ≤ j → j < c + b → i + c ≡ a + j → Rot a b c j i
  from_x : c + b ≤ j → j < c + b + a → i + (c + b) ≡ j → Rot a b c j i

rot_old : (a b c j : ℕ) → j < c + (b + a) → (i : ℕ) × Rot a b c j i
rot_old a b c j h = go (dec_lt j c) (dec_lt j (c + b))
  where
    go : Dec (j < c) → Dec (j < c + b) → (i : ℕ) × Rot a b c j i
    go (yes p) q = (a + b + j, from_z p refl)
    go (no p) (yes q) = (a + j - c, from_y (omega arith) q (omega arith))
    go (no p) (no q) = (j - (c + b), from_x (omega arith) (omega arith) (omega arith))

rot_new : (a b c i : ℕ) → i < c + (b + a) → (j : ℕ) × (j < c + (b + a)) × Rot a b c j i
rot_new a b c i h = go (dec_lt i a) (dec_lt i (a + b))
  where
    go : Dec (i < a) → Dec (i < a + b) → (j : ℕ) × (j < c + (b + a)) × Rot a b c j i
    go (yes p) q = (i + (c + b), omega arith, from_x (omega arith) (omega arith) refl)
    go (no p) (yes q) = (i + c - a, omega arith, from_y (omega arith) (omega arith) (omega arith))
    go (no p) (no q) = (i - (a + b), omega arith, from_z (omega arith) (omega arith))

rot_within : (a b c j i : ℕ) → Rot a b c j i → i < c + (b + a)
rot_within a b c j i (from_z p q) = omega arith
rot_within a b c j i (from_y p q r) = omega arith
rot_within a b c j i (from_x p q r) = omega arith

rot_once : (a b c j j' i : ℕ) → Rot a b c j i → Rot a b c j' i → j ≡ j'
rot_once a b c j j' i (from_z p q) (from_z p' q') = omega arith
rot_once a b c j j' i (from_z p q) (from_y p' q' r') = omega arith
rot_once a b c j j' i (from_z p q) (from_x p' q' r') = omega arith
rot_once a b c j j' i (from_y p q r) (from_z p' q') = omega arith
rot_once a b c j j' i (from_y p q r) (from_y p' q' r') = omega arith
rot_once a b c j j' i (from_y p q r) (from_x p' q' r') = omega arith
rot_once a b c j j' i (from_x p q r) (from_z p' q') = omega arith
rot_once a b c j j' i (from_x p q r) (from_y p' q' r') = omega arith
rot_once a b c j j' i (from_x p q r) (from_x p' q' r') = omega arith

-- the three parts of ys, in the order in which they are written
abbrev Z : ℕ → ℕ → ℕ → List ℕ → List ℕ
Z a b c ys = take c (drop (a + b) ys)

abbrev Y : ℕ → ℕ → List ℕ → List ℕ
Y a b ys = take b (drop a ys)

pub length_mid : (a b : ℕ) (ys : List ℕ) → a + b ≤ length ys → length (take b (drop a ys)) ≡ b
length_mid a b ys h = length-take-le b (drop a ys) (simp length-drop (omega arith))

pub at_mid : (a b k : ℕ) (ys : List ℕ) → k < b → at (take b (drop a ys)) k ≡ at ys (a + k)
at_mid a b k ys h = get_or-take b (drop a ys) k 0 h ∙ get_or-drop a ys k 0

module _ (a b c : ℕ) (ys : List ℕ) (h : a + b + c ≤ length ys) where
  three : List ℕ
  three = Z a b c ys ++ (Y a b ys ++ take a ys)

  lz : length (Z a b c ys) ≡ c
  lz = length_mid (a + b) c ys h

  ly : length (Y a b ys) ≡ b
  ly = length_mid a b ys (omega arith)

  lx : length (take a ys) ≡ a
  lx = length-take-le a ys (omega arith)

  l_three : length three ≡ c + (b + a)
  unfolding three
  l_three = simp length-append (omega (arith, lz, ly, lx))

  three_at : (j i : ℕ) → Rot a b c j i → at three j ≡ at ys i
  unfolding three
  three_at j i (from_z p q) =
      get_or-append (Z a b c ys) _ 0 j (omega (arith, lz)) ∙ at_mid (a + b) c j ys p ∙ ap (λ (m : ℕ). at ys m) (sym q)
  three_at j i (from_y p q r) =
      let k : ℕ = j - c in
      let e : j ≡ length (Z a b c ys) + k = omega (arith, lz) in
      let f : a + k ≡ i = omega arith in
      ap (λ (m : ℕ). at (Z a b c ys ++ (Y a b ys ++ take a ys)) m) e ∙ get_or-append-add (Z a b c ys) _ k 0
      ∙ get_or-append (Y a b ys) _ 0 k (omega (arith, ly)) ∙ at_mid a b k ys (omega arith) ∙ ap (λ (m : ℕ). at ys m) f
  three_at j i (from_x p q r) =
      let e : j ≡ length (Z a b c ys) + (length (Y a b ys) + i) = omega (arith, lz, ly) in
      ap (λ (m : ℕ). at (Z a b c ys ++ (Y a b ys ++ take a ys)) m) e ∙ get_or-append-add (Z a b c ys) _ (length (Y a b ys) + i) 0
      ∙ get_or-append-add (Y a b ys) _ i 0 ∙ get_or-take a ys i 0 (omega arith)

-- each stop that is read is below n
pub turn_below : (s k : ℕ) (xs ps : List ℕ) → Tied xs ps → s < length xs → k < length xs → at (turn s xs) k < length xs
turn_below s k xs ps t hs hk = rw (at_turn s k xs hs hk) (t.stop _ (around_lt _ s k hs (omega arith)))

-- a part of the scratch words, which hold the window at their front
pub scratch_part : (t u v : ℕ) (ys d : List ℕ) → t ≤ length ys → u ≤ v → v ≤ t → take (v - u) (drop u (take t ys ++ drop t d)) ≡ take (v - u) (drop u ys)
scratch_part t u v ys d h g f =
    let lt : length (take t ys) ≡ t = length-take-le t ys h in
    let e1 : drop u (take t ys ++ drop t d) ≡ drop u (take t ys) ++ drop t d = drop-append-le u (take t ys) (drop t d) (omega arith) in
    let e2 : drop u ys ≡ drop u (take t ys) ++ drop t ys = ap (drop u) (sym (take-append-drop t ys)) ∙ drop-append-le u (take t ys) (drop t ys) (omega arith) in
    let k : v - u ≤ length (drop u (take t ys)) = simp length-drop (omega arith) in
    rw (e1, e2, take-append-le (v - u) (drop u (take t ys)) (drop t d) k, take-append-le (v - u) (drop u (take t ys)) (drop t ys) k)

-- three runs of writes are one
writes_three : (n s : ℕ) (z y x xs : List ℕ) → s < n → length z + (length y + length x) ≤ n
    → writes n s (z ++ (y ++ x)) xs ≡ writes n (around n (around n s (length z)) (length y)) x (writes n (around n s (length z)) y (writes n s z xs))
writes_three n s z y x xs hs h =
    cc (around_0 n s hs, zero-add (length z), writes_append n s 0 z (y ++ x) xs hs (omega arith), writes_append n s (length z) y x (writes n s z xs) hs (omega arith), around_around n s (length z) (length y) hs (omega arith))

placings_three : (n s : ℕ) (z y x ps : List ℕ) → s < n → length z + (length y + length x) ≤ n
    → placings n s (z ++ (y ++ x)) ps ≡ placings n (around n (around n s (length z)) (length y)) x (placings n (around n s (length z)) y (placings n s z ps))
placings_three n s z y x ps hs h =
    cc (around_0 n s hs, zero-add (length z), placings_append n s 0 z (y ++ x) ps hs (omega arith), placings_append n s (length z) y x (placings n s z ps) hs (omega arith), around_around n s (length z) (length y) hs (omega arith))

-- the window written in the new order
rotated_is : (s a b c : ℕ) (xs : List ℕ) → s < length xs → a + b + c ≤ length xs
    → writes (length xs) s (take c (drop (a + b) (turn s xs)) ++ (take b (drop a (turn s xs)) ++ take a (turn s xs))) xs ≡ rotate_at s a b c xs
unfolding rotate_at from exchange_front
rotated_is s a b c xs hs hl =
    let ys : List ℕ = turn s xs in
    let ln : length ys ≡ length xs = turn_length s xs in
    let z : List ℕ = take c (drop (a + b) ys) in
    let y : List ℕ = take b (drop a ys) in
    let x : List ℕ = take a ys in
    let vs : List ℕ = z ++ (y ++ x) in
    let l : length vs ≡ c + (b + a) = simp length-append (omega (arith, lz a b c ys (omega arith), ly a b c ys (omega arith), lx a b c ys (omega arith))) in
    let r : List ℕ = writes (length xs) s vs xs in
    let lr : length r ≡ length xs = length_writes (length xs) s vs xs in
    let w : turn s r ≡ vs ++ drop (length vs) ys = turn_written s vs xs hs (omega arith) in
    let q : length vs ≡ a + b + c = omega arith in
    let g : vs ++ drop (a + b + c) ys ≡ z ++ (y ++ (x ++ drop (a + b + c) ys)) = simp append_assoc in
    sym (turn_back s r (omega arith)) ∙ ap (λ (k : ℕ). turn (k - s) (turn s r)) lr ∙ ap (turn (length xs - s)) (w ∙ ap (λ (m : ℕ). vs ++ drop m ys) q ∙ g)

rotated_tied : (s a b c : ℕ) (xs ps : List ℕ) → Tied xs ps → s < length xs → a + b + c ≤ length xs → (vs : List ℕ)
    → vs ≡ take c (drop (a + b) (turn s xs)) ++ (take b (drop a (turn s xs)) ++ take a (turn s xs))
    → Tied (writes (length xs) s vs xs) (placings (length xs) s vs ps)
unfolding three
rotated_tied s a b c xs ps t hs hl vs e =
    let ys : List ℕ = turn s xs in
    let ln : length ys ≡ length xs = turn_length s xs in
    let h : a + b + c ≤ length ys = omega arith in
    let l : length vs ≡ c + (b + a) = ap length e ∙ l_three a b c ys h in
    tied_window (Rot a b c) s vs xs ps t (record {
      start = hs;
      short = omega arith;
      old = λ j hj. rot_old a b c j (omega arith);
      new = λ i hi. let r = rot_new a b c i (omega arith) in (r.0, omega (arith, r.1), r.2);
      within = λ j i hj r. omega (arith, rot_within a b c j i r);
      same = λ j i hj r. ap (λ (w : List ℕ). at w j) e ∙ three_at a b c ys h j i r;
      once = rot_once a b c;
    })

pub rotate_done : (s a b c : ℕ) (xs ps z y x r1 p1 r2 p2 r3 p3 : List ℕ) (i j : ℕ) → Tied xs ps → s < length xs → a + b + c ≤ length xs
    → z ≡ take c (drop (a + b) (turn s xs)) → y ≡ take b (drop a (turn s xs)) → x ≡ take a (turn s xs)
    → i ≡ around (length xs) s (length z) → r1 ≡ writes (length xs) s z xs → p1 ≡ placings (length xs) s z ps
    → j ≡ around (length r1) i (length y) → r2 ≡ writes (length r1) i y r1 → p2 ≡ placings (length r1) i y p1
    → r3 ≡ writes (length r2) j x r2 → p3 ≡ placings (length r2) j x p2
    → Rewritten (rotate_at s a b c xs) r3 p3
rotate_done s a b c xs ps z y x r1 p1 r2 p2 r3 p3 i j t hs hl ez ey ex ei er1 ep1 ej er2 ep2 er3 ep3 =
    let n : ℕ = length xs in
    let ys : List ℕ = turn s xs in
    let h : a + b + c ≤ length ys = omega (arith, turn_length s xs) in
    let l1 : length r1 ≡ n = ap length er1 ∙ length_writes n s z xs in
    let l2 : length r2 ≡ n = ap length er2 ∙ length_writes (length r1) i y r1 ∙ l1 in
    let nz : length z ≡ c = ap length ez ∙ lz a b c ys h in
    let ny : length y ≡ b = ap length ey ∙ ly a b c ys h in
    let nx : length x ≡ a = ap length ex ∙ lx a b c ys h in
    let r_is : r3 ≡ writes n s (z ++ (y ++ x)) xs = cc (writes_three n s z y x xs hs (omega arith)) in
    let p_is : p3 ≡ placings n s (z ++ (y ++ x)) ps = cc (placings_three n s z y x ps hs (omega arith)) in
    let e : z ++ (y ++ x) ≡ take c (drop (a + b) ys) ++ (take b (drop a ys) ++ take a ys) = cc in
    record {
      is = r_is ∙ ap (λ (w : List ℕ). writes n s w xs) e ∙ rotated_is s a b c xs hs hl;
      tied = rw (r_is, p_is) (rotated_tied s a b c xs ps t hs hl (z ++ (y ++ x)) e);
    }

-- what `put` asks of a part of the window
pub put_ok : (s u w i : ℕ) (xs ps r p part : List ℕ) → Tied xs ps → s < length xs → length r ≡ length xs → length p ≡ length xs → i < length xs
    → part ≡ take w (drop u (turn s xs)) → u + w ≤ length xs
    → ((length r ≤ 4096) × (length p ≡ length r)) × ((i < length r) × ((length part ≤ length r) × Stops part (length r)))
put_ok s u w i xs ps r p part t hs lr lp hi e h =
    let ln : length (turn s xs) ≡ length xs = turn_length s xs in
    let l : length part ≡ w = ap length e ∙ length_mid u w (turn s xs) (omega arith) in (
      (omega (arith, t.few), lp ∙ sym lr),
      (
        omega arith,
        (
          omega arith,
          record { below = λ k hk. rw (e, lr, at_mid u w k (turn s xs) (omega arith)) (turn_below s (u + k) xs ps t hs (omega arith)) },
        ),
      ),
    )

-- the three parts of the scratch words that are written back
pub parts_of : (a b c : ℕ) (ys d scr : List ℕ) → a + b + c ≤ length ys → scr ≡ take (a + b + c) ys ++ drop (a + b + c) d
    → (take (a + b + c - (a + b)) (drop (a + b) scr) ≡ take c (drop (a + b) ys)) × (take (a + b - a) (drop a scr) ≡ take b (drop a ys)) × (take a scr ≡ take a ys)
parts_of a b c ys d scr h e =
    let t : ℕ = a + b + c in
    let q1 : t - (a + b) ≡ c = omega arith in
    let q2 : a + b - a ≡ b = omega arith in
    let q3 : a - 0 ≡ a = omega arith in
    let w1 : take (t - (a + b)) (drop (a + b) (take t ys ++ drop t d)) ≡ take (t - (a + b)) (drop (a + b) ys) = scratch_part t (a + b) t ys d h (omega arith) (omega arith) in
    let w2 : take (a + b - a) (drop a (take t ys ++ drop t d)) ≡ take (a + b - a) (drop a ys) = scratch_part t a (a + b) ys d h (omega arith) (omega arith) in
    let w3 : take (a - 0) (take t ys ++ drop t d) ≡ take (a - 0) ys = scratch_part t 0 a ys d h (omega arith) (omega arith) in
    (cc (w1, q1, e), cc (w2, q2, e), cc (w3, q3, e))
