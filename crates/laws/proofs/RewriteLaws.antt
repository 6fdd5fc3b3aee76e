-- 01, 2, 3 and 5: each rewriting of the ring keeps its length, and its inverse undoes it.
use Prim.Native.Nat.{◌+◌, ◌-◌, ◌<◌, ◌≤◌, suc, zero, ℕ}
use mathlib.Core.Path.{◌∙◌, ◌≡◌, ap, refl, subst, sym}
use mathlib.Core.Logic.{◌≢◌}
use mathlib.Core.List.{List, [], ◌++◌, ◌∷◌, reverse, reverse-reverse}
use native.Mathlib.Decide.{ℕ_discrete}
use native.Mathlib.Omega.{arith}
use lib.ListN.{drop, length, length-append, length-drop, length-reverse, length-set, length-take, set, take, take-append-drop}
use lib.Seq.{drop_at, drop-drop, get_or-set_other, get_or-set_same, length-take-le, set_comm, set-get_or, set-set, take_at}
use Rattle.rules.specs.Lists.{at}
use Rattle.rules.specs.Rewrite.{exchange_front, from, reverse_at, reverse_front, rotate_at, swap_at}
use Rattle.rules.specs.Ring.{turn}
use Rattle.rules.specs.Words.{Place, Round, Stop}
use Rattle.laws.proofs.TurnLaws.{turn_back, turn_forth, turn_length}

-- a rewriting at the front of the turned ring is undone by one that undoes it there
module _ (s : Place) (f g : List Stop → List Stop) (r : Round) (h : s ≤ length r) (same : length (f (turn s r)) ≡ length r) where
  from_undone : g (f (turn s r)) ≡ turn s r → from s g (from s f r) ≡ r
  unfolding from
  from_undone e =
      let n : length (turn (length r - s) (f (turn s r))) ≡ length r = turn_length (length r - s) (f (turn s r)) ∙ same in
      let back : turn s (turn (length r - s) (f (turn s r))) ≡ f (turn s r) = rw same at (turn_forth s (f (turn s r)) (omega arith)) in
      rw (n, back, e) (turn_back s r h)

-- ---- reversal
front_length : (len : ℕ) (x : List Stop) → length (reverse_front len x) ≡ length x
unfolding reverse_front
front_length len x = simp (length-append, length-reverse, length-take, length-drop) (omega arith)

front_twice : (len : ℕ) (x : List Stop) → len ≤ length x → reverse_front len (reverse_front len x) ≡ x
unfolding reverse_front
front_twice len x h =
    let e : length (reverse (take len x)) ≡ len = length-reverse (take len x) ∙ length-take-le len x h in
    rw (take_at (reverse (take len x)) (drop len x) len e, drop_at (reverse (take len x)) (drop len x) len e, reverse-reverse) (take-append-drop len x)

-- it keeps the length
pub reverse_at_length : (s : Place) (len : ℕ) (r : Round) → length (reverse_at s len r) ≡ length r
unfolding reverse_at from
reverse_at_length s len r = turn_length (length r - s) (reverse_front len (turn s r)) ∙ front_length len (turn s r) ∙ turn_length s r

-- a reversal undoes itself
pub reverse_at_undone : (s : Place) (len : ℕ) (r : Round) → s ≤ length r → len ≤ length r → reverse_at s len (reverse_at s len r) ≡ r
unfolding reverse_at
reverse_at_undone s len r h l =
    from_undone s (reverse_front len) (reverse_front len) r h (front_length len (turn s r) ∙ turn_length s r) (front_twice len (turn s r) (omega (arith, turn_length s r)))

-- "Under 2, nothing moves"
front_short : (len : ℕ) (x : List Stop) → len < 2 → reverse_front len x ≡ x
unfolding reverse_front
front_short zero x h = refl
front_short (suc zero) [] h = refl
front_short (suc zero) (a ∷ x) h = refl
front_short (suc (suc len)) x h = absurd (omega arith)

pub reverse_at_short : (s : Place) (len : ℕ) (r : Round) → s ≤ length r → len < 2 → reverse_at s len r ≡ r
unfolding reverse_at from
reverse_at_short s len r hs h = ap (turn (length r - s)) (front_short len (turn s r) h) ∙ turn_back s r hs

-- ---- rotation: X Y Z W, by their lengths, become Z Y X W
pub exchange_parts : (X Y Z W : List Stop) (a b c : ℕ) → length X ≡ a → length Y ≡ b → length Z ≡ c → exchange_front a b c (X ++ (Y ++ (Z ++ W))) ≡ Z ++ (Y ++ (X ++ W))
unfolding exchange_front
exchange_parts X Y Z W a b c ha hb hc =
    let d_a : drop a (X ++ (Y ++ (Z ++ W))) ≡ Y ++ (Z ++ W) = drop_at X (Y ++ (Z ++ W)) a ha in
    let d_b : drop (a + b) (X ++ (Y ++ (Z ++ W))) ≡ Z ++ W = sym (drop-drop b a (X ++ (Y ++ (Z ++ W)))) ∙ ap (drop b) d_a ∙ drop_at Y (Z ++ W) b hb in
    let d_c : drop (a + b + c) (X ++ (Y ++ (Z ++ W))) ≡ W = sym (drop-drop c (a + b) (X ++ (Y ++ (Z ++ W)))) ∙ ap (drop c) d_b ∙ drop_at Z W c hc in
    rw (d_c, d_b, d_a, take_at X (Y ++ (Z ++ W)) a ha, take_at Y (Z ++ W) b hb, take_at Z W c hc) refl

-- the four parts of a list
pub parts : (a b c : ℕ) (x : List Stop) → take a x ++ (take b (drop a x) ++ (take c (drop (a + b) x) ++ drop (a + b + c) x)) ≡ x
parts a b c x =
    let e2 : drop (a + b) x ≡ drop b (drop a x) = sym (drop-drop b a x) in
    let e3 : drop (a + b + c) x ≡ drop c (drop b (drop a x)) = sym (drop-drop c (a + b) x) ∙ ap (drop c) e2 in
    rw (e3, e2, take-append-drop c (drop b (drop a x)), take-append-drop b (drop a x)) (take-append-drop a x)

-- the first three have their lengths
pub record Lengths (a b c : ℕ) (x : List Stop) : Type 0 where
  pub first : length (take a x) ≡ a
  pub second : length (take b (drop a x)) ≡ b
  pub third : length (take c (drop (a + b) x)) ≡ c

pub lengths : (a b c : ℕ) (x : List Stop) → a + b + c ≤ length x → Lengths a b c x
lengths a b c x h = record {
  first = length-take-le a x (omega arith);
  second = length-take-le b (drop a x) (rw (length-drop a x) (omega arith));
  third = length-take-le c (drop (a + b) x) (rw (length-drop (a + b) x) (omega arith));
}

exchange_length : (a b c : ℕ) (x : List Stop) → length (exchange_front a b c x) ≡ length x
unfolding exchange_front
exchange_length a b c x = simp (length-append, length-take, length-drop) (omega arith)

exchange_undone : (a b c : ℕ) (x : List Stop) → a + b + c ≤ length x → exchange_front c b a (exchange_front a b c x) ≡ x
unfolding exchange_front
exchange_undone a b c x h =
    let l = lengths a b c x h in
    exchange_parts (take c (drop (a + b) x)) (take b (drop a x)) (take a x) (drop (a + b + c) x) c b a l.third l.second l.first ∙ parts a b c x

-- it keeps the length
pub rotate_at_length : (s : Place) (a b c : ℕ) (r : Round) → length (rotate_at s a b c r) ≡ length r
unfolding rotate_at from
rotate_at_length s a b c r = turn_length (length r - s) (exchange_front a b c (turn s r)) ∙ exchange_length a b c (turn s r) ∙ turn_length s r

-- "Undone with the lengths in reverse"
pub rotate_at_undone : (s : Place) (a b c : ℕ) (r : Round) → s ≤ length r → a + b + c ≤ length r → rotate_at s c b a (rotate_at s a b c r) ≡ r
unfolding rotate_at
rotate_at_undone s a b c r h l =
    from_undone s (exchange_front a b c) (exchange_front c b a) r h (exchange_length a b c (turn s r) ∙ turn_length s r) (exchange_undone a b c (turn s r) (omega (arith, turn_length s r)))

-- ---- swap
pub swap_at_length : (i j : Place) (r : Round) → length (swap_at i j r) ≡ length r
unfolding swap_at
swap_at_length i j r = length-set (set r i (at r j)) j (at r i) ∙ length-set r i (at r j)

swap_self : (i : Place) (r : Round) → swap_at i i r ≡ r
unfolding swap_at
swap_self i r = set-set r i (at r i) (at r i) ∙ set-get_or r i 0

swap_apart : (i j : Place) (r : Round) → i < length r → j < length r → i ≢ j → swap_at i j (swap_at i j r) ≡ r
unfolding swap_at
swap_apart i j r hi hj ne =
    let x = at r i in
    let y = at r j in
    let once : Round = set (set r i y) j x in
    let atj : at once j ≡ x = get_or-set_same (set r i y) j x 0 (rw (length-set r i y) hj) in
    let ati : at once i ≡ y = get_or-set_other (set r i y) j i x 0 ne ∙ get_or-set_same r i y 0 hi in
    let one : set once i x ≡ set r j x = sym (set_comm (set r i y) i j x x ne) ∙ ap (λ l. set l j x) (set-set r i y x ∙ set-get_or r i 0) in
    rw (atj, ati, one) (set-set r j x y ∙ set-get_or r j 0)

-- a swap undoes itself
pub swap_at_undone : (i j : Place) (r : Round) → i < length r → j < length r → swap_at i j (swap_at i j r) ≡ r
swap_at_undone i j r hi hj = elim (ℕ_discrete i j) [
  | yes e ↦ subst (λ k. swap_at i k (swap_at i k r) ≡ r) e (rw (swap_self i r) (swap_self i r))
  | no ne ↦ swap_apart i j r hi hj ne
]
