-- The ring read from another of its places: turning it, and turning it back.
use Prim.Native.Nat.{◌%◌, ◌+◌, ◌-◌, ◌<◌, ◌≤◌, ℕ}
use mathlib.Core.Path.{◌∙◌, ◌≡◌, ap, sym}
use mathlib.Core.List.{List, [], ◌++◌, ◌∷◌, append_assoc}
use native.Mathlib.Decide.{dec_lt}
use native.Mathlib.Nat.{mod-eq_of_lt, mod-eq-sub-mod, suc-add, zero-add}
use native.Mathlib.Omega.{arith}
use lib.ListN.{get_or-append, drop, length, length-append, length-drop, length-take, set, take, take-append-drop}
use lib.Seq.{drop-append-add, drop-append-le, drop_at, drop-drop, drop-set-add, drop-set-lt, get_or-append-add, get_or-drop, get_or-take, set-append_left, take-add, take-append-add, take-append-le, take_at, take-set-le, take-set-lt, take-take}
use Rattle.rules.specs.Lists.{at}
use Rattle.rules.specs.Ring.{turn}
use Rattle.rules.specs.Words.{Place, Round}

-- turning moves no stop away
pub turn_length : (k : Place) (r : Round) → length (turn k r) ≡ length r
unfolding turn
turn_length k r = simp (length-append, length-drop, length-take) (omega arith)

-- turned and turned back
pub turn_back : (k : Place) (r : Round) → k ≤ length r → turn (length r - k) (turn k r) ≡ r
unfolding turn
turn_back k r h =
    let e : length (drop k r) ≡ length r - k = length-drop k r in
    rw (drop_at (drop k r) (take k r) (length r - k) e, take_at (drop k r) (take k r) (length r - k) e) (take-append-drop k r)

pub turn_forth : (k : Place) (r : Round) → k ≤ length r → turn k (turn (length r - k) r) ≡ r
turn_forth k r h =
    let e : length r - (length r - k) ≡ k = omega arith in
    rw e at (turn_back (length r - k) r (omega arith))

-- on a ring of n places, place p is i steps after place k
pub data On (n : ℕ) (k : Place) (i : ℕ) (p : Place) : Type 0 where
  low : k + i < n → p ≡ k + i → On n k i p
  high : n ≤ k + i → p + n ≡ k + i → On n k i p

-- it is one of the ring
pub on_below : (n : ℕ) (k : Place) (i : ℕ) (p : Place) → k < n → i < n → On n k i p → p < n
on_below n k i p hk hi (low l e) = omega arith
on_below n k i p hk hi (high l e) = omega arith

-- there is one such place
pub on_mod : (n : ℕ) (k : Place) (i : ℕ) → k < n → i < n → On n k i ((k + i) % n)
on_mod n k i hk hi = elim (dec_lt (k + i) n) [
  | yes h ↦ low h (mod-eq_of_lt h)
  | no h ↦ (let l : n ≤ k + i = omega (arith, h) in let m : k + i - n < n = omega arith in
      let e : (k + i) % n ≡ k + i - n = mod-eq-sub-mod l ∙ mod-eq_of_lt m in high l (omega arith))
]

-- two places that are i and j steps after s: how far one is after the other
pub on_from : (n : ℕ) (s : Place) (i j m : ℕ) (p q : Place) → s < n → i < n → j < n → m < n → On n s i p → On n s j q → On n j m i → On n q m p
on_from n s i j m p q hs hi hj hm (low a e) (low b f) (low c g) = low (omega arith) (omega arith)
on_from n s i j m p q hs hi hj hm (low a e) (low b f) (high c g) = high (omega arith) (omega arith)
on_from n s i j m p q hs hi hj hm (low a e) (high b f) (low c g) = absurd (omega arith)
on_from n s i j m p q hs hi hj hm (low a e) (high b f) (high c g) = low (omega arith) (omega arith)
on_from n s i j m p q hs hi hj hm (high a e) (low b f) (low c g) = high (omega arith) (omega arith)
on_from n s i j m p q hs hi hj hm (high a e) (low b f) (high c g) = absurd (omega arith)
on_from n s i j m p q hs hi hj hm (high a e) (high b f) (low c g) = low (omega arith) (omega arith)
on_from n s i j m p q hs hi hj hm (high a e) (high b f) (high c g) = high (omega arith) (omega arith)

-- element i of the ring read from place k stands i steps after it
pub turn_on : (k i p : ℕ) (r : Round) → k ≤ length r → i < length r → On (length r) k i p → at (turn k r) i ≡ at r p
unfolding turn
turn_on k i p r hk hi (low h e) =
    get_or-append (drop k r) (take k r) 0 i (rw (length-drop k r) (omega arith)) ∙ get_or-drop k r i 0 ∙ ap (at r) (sym e)
turn_on k i p r hk hi (high h e) =
    let q : i ≡ length (drop k r) + p = rw (length-drop k r) (omega arith) in
    ap (at (drop k r ++ take k r)) q ∙ get_or-append-add (drop k r) (take k r) p 0 ∙ get_or-take k r p 0 (omega arith)

-- the same by its remainder
pub turn_mod : (k i : ℕ) (r : Round) → k < length r → i < length r → at (turn k r) i ≡ at r ((k + i) % length r)
turn_mod k i r hk hi = turn_on k i ((k + i) % length r) r (omega arith) hi (on_mod (length r) k i hk hi)

-- a word written i steps after place k, as it is read from there
set_past : (xs ys : List ℕ) (i v : ℕ) → set (xs ++ ys) (length xs + i) v ≡ xs ++ set ys i v
set_past [] ys i v = simp zero-add
set_past (x ∷ xs) ys i v = simp suc-add (ap (λ (l : List ℕ). x ∷ l) (set_past xs ys i v))

pub turn_set : (k i p v : ℕ) (r : Round) → k ≤ length r → i < length r → On (length r) k i p → turn k (set r p v) ≡ set (turn k r) i v
unfolding turn
turn_set k i p v r hk hi (low h e) =
    let l : i < length (drop k r) = rw (length-drop k r) (omega arith) in
    let g : k ≤ k + i = omega arith in
    rw (e, drop-set-add k r i v, take-set-le k r (k + i) v g) (sym (set-append_left (drop k r) (take k r) i v l))
turn_set k i p v r hk hi (high h e) =
    let q : i ≡ length (drop k r) + p = rw (length-drop k r) (omega arith) in
    let g : p < k = omega arith in
    rw (drop-set-lt k r p v g, take-set-lt k r p v g) (sym (ap (λ m. set (drop k r ++ take k r) m v) q ∙ set_past (drop k r) (take k r) p v))

-- read from place k, and that from i steps on
pub turn_turn : (k i p : ℕ) (r : Round) → k ≤ length r → i ≤ length r → On (length r) k i p → turn i (turn k r) ≡ turn p r
unfolding turn
turn_turn k i p r hk hi (low h e) =
    let g : i ≤ length (drop k r) = rw (length-drop k r) (omega arith) in
    rw (e, drop-append-le i (drop k r) (take k r) g, take-append-le i (drop k r) (take k r) g, drop-drop i k r, take-add k i r)
    (append_assoc (drop (k + i) r) (take k r) (take i (drop k r)))
turn_turn k i p r hk hi (high h e) =
    let q : i ≡ length (drop k r) + p = rw (length-drop k r) (omega arith) in
    let g : p ≤ length (take k r) = simp length-take (omega arith) in
    let g' : p ≤ k = omega arith in
    let d1 : drop i (drop k r ++ take k r) ≡ drop p (take k r) = ap (λ m. drop m (drop k r ++ take k r)) q ∙ drop-append-add (drop k r) (take k r) p in
    let t1 : take i (drop k r ++ take k r) ≡ drop k r ++ take p r = ap (λ m. take m (drop k r ++ take k r)) q ∙ take-append-add (drop k r) (take k r) p ∙ ap (λ l. drop k r ++ l) (take-take p k r g') in
    let d2 : drop p r ≡ drop p (take k r) ++ drop k r = ap (drop p) (sym (take-append-drop k r)) ∙ drop-append-le p (take k r) (drop k r) g in
    rw (d1, t1, d2) (sym (append_assoc (drop p (take k r)) (drop k r) (take p r)))
