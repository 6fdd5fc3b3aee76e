-- 01, 3: what `rotate_segments` changes in the time, by places. Three legs of two segments, four of three; no leg is asked to take as long as
-- its return.
use Prim.Native.Nat.{◌+◌, ◌-◌, ◌<◌, suc, ℕ}
use mathlib.Core.Path.{◌∙◌, ◌≡◌, ap, ap₂, refl, subst, sym}
use mathlib.Core.List.{List, [], ◌++◌, ◌∷◌, append_assoc}
use native.Mathlib.Omega.{arith}
use lib.ListN.{get_or-append, drop, length, length-append, length-drop, take}
use lib.Seq.{get_or-append-add, get_or_at}
use Rattle.rules.specs.Lists.{at}
use Rattle.rules.specs.Rewrite.{exchange_front, rotate_at}
use Rattle.rules.specs.Ring.{recount, turn}
use Rattle.rules.specs.Words.{Legs, Place, Round, Stop}
use Rattle.laws.proofs.RewriteLaws.{Lengths, exchange_parts, lengths, parts}
use Rattle.laws.proofs.TimeLaws.{end, end_at, exchange3_time, exchange4_time, from_time, turn_time}
use Rattle.laws.proofs.TurnLaws.{turn_length}

-- ---- a list of parts, each with a first and a last stop
part_last : (P : List Stop) (a : Stop) (A R : List Stop) (k : ℕ) → length P + length A ≡ k → at (P ++ ((a ∷ A) ++ R)) k ≡ end a A
part_last P a A R k e = ap (at (P ++ ((a ∷ A) ++ R))) (sym e) ∙ get_or-append-add P ((a ∷ A) ++ R) (length A) 0 ∙ get_or-append (a ∷ A) R 0 (length A) (omega arith) ∙ sym (end_at a A)

-- a list with a first stop
pub data Cons (l : List Stop) : Type 0 where
  cons : (h : Stop) (t : List Stop) → l ≡ h ∷ t → Cons l

pub some : (l : List Stop) → 0 < length l → Cons l
some [] h = absurd (omega arith)
some (x ∷ l) h = cons x l refl

module _ (d : Legs) where
  -- X Y Z W to Z Y X W, at the front of a list
  abbrev Four : List Stop → List Stop → ℕ → ℕ → ℕ → Type 0
  Four x after a b c =
      recount d after + (d (at x (length x - 1)) (at x 0) + d (at x (a - 1)) (at x a) + d (at x (a + b - 1)) (at x (a + b)) + d (at x (a + b + c - 1)) (at x (a + b + c)))
      ≡ recount d x + (d (at x (length x - 1)) (at x (a + b)) + d (at x (a + b + c - 1)) (at x a) + d (at x (a + b - 1)) (at x 0) + d (at x (a - 1)) (at x (a + b + c)))

  four : (x : Stop) (X : List Stop) (y : Stop) (Y : List Stop) (z : Stop) (Z : List Stop) (w : Stop) (W : List Stop) (a b c : ℕ) → suc (length X) ≡ a → suc (length Y) ≡ b → suc (length Z) ≡ c
      → Four ((x ∷ X) ++ ((y ∷ Y) ++ ((z ∷ Z) ++ (w ∷ W)))) ((z ∷ Z) ++ ((y ∷ Y) ++ ((x ∷ X) ++ (w ∷ W)))) a b c
  four x X y Y z Z w W a b c ea eb ec =
      let A = x ∷ X in
      let B = y ∷ Y in
      let C = z ∷ Z in
      let D = w ∷ W in
      let L = A ++ (B ++ (C ++ D)) in
      let l : length L ≡ a + (b + (c + suc (length W))) = length-append A (B ++ (C ++ D)) ∙ ap₂ (λ p q. p + q) ea (length-append B (C ++ D) ∙ ap₂ (λ p q. p + q) eb (length-append C D ∙ ap (λ p. p + suc (length W)) ec)) in
      let L2 : L ≡ (A ++ B) ++ (C ++ D) = sym (append_assoc A B (C ++ D)) in
      let L3 : L ≡ ((A ++ B) ++ C) ++ D = L2 ∙ sym (append_assoc (A ++ B) C D) in
      let n2 : length (A ++ B) ≡ a + b = length-append A B ∙ ap₂ (λ p q. p + q) ea eb in
      let n3 : length ((A ++ B) ++ C) ≡ a + b + c = length-append (A ++ B) C ∙ ap₂ (λ p q. p + q) n2 ec in
      let x1 : at L (a - 1) ≡ end x X = part_last [] x X (B ++ (C ++ D)) (a - 1) (omega arith) in
      let y0 : at L a ≡ y = get_or_at A y (Y ++ (C ++ D)) 0 a ea in
      let y1 : at L (a + b - 1) ≡ end y Y = part_last A y Y (C ++ D) (a + b - 1) (omega arith) in
      let z0 : at L (a + b) ≡ z = ap (λ v. at v (a + b)) L2 ∙ get_or_at (A ++ B) z (Z ++ D) 0 (a + b) n2 in
      let z1 : at L (a + b + c - 1) ≡ end z Z = ap (λ v. at v (a + b + c - 1)) L2 ∙ part_last (A ++ B) z Z D (a + b + c - 1) (omega arith) in
      let w0 : at L (a + b + c) ≡ w = ap (λ v. at v (a + b + c)) L3 ∙ get_or_at ((A ++ B) ++ C) w W 0 (a + b + c) n3 in
      let k : length L - 1 ≡ length ((A ++ B) ++ C) + length W = omega arith in
      let w1 : at L (length L - 1) ≡ end w W = ap₂ at L3 k ∙ get_or-append-add ((A ++ B) ++ C) D (length W) 0 ∙ sym (end_at w W) in
      omega (
        arith,
        exchange4_time d x X y Y z Z w W,
        ap₂ d w1 (refl {a = x}),
        ap₂ d x1 y0,
        ap₂ d y1 z0,
        ap₂ d z1 w0,
        ap₂ d w1 z0,
        ap₂ d z1 y0,
        ap₂ d y1 (refl {a = x}),
        ap₂ d x1 w0,
      )

  -- X Z W to Z X W
  abbrev Three : List Stop → List Stop → ℕ → ℕ → Type 0
  Three x after a c =
      recount d after + (d (at x (length x - 1)) (at x 0) + d (at x (a - 1)) (at x a) + d (at x (a + c - 1)) (at x (a + c)))
      ≡ recount d x + (d (at x (length x - 1)) (at x a) + d (at x (a + c - 1)) (at x 0) + d (at x (a - 1)) (at x (a + c)))

  three : (x : Stop) (X : List Stop) (z : Stop) (Z : List Stop) (w : Stop) (W : List Stop) (a c : ℕ) → suc (length X) ≡ a → suc (length Z) ≡ c
      → Three ((x ∷ X) ++ ((z ∷ Z) ++ (w ∷ W))) ((z ∷ Z) ++ ((x ∷ X) ++ (w ∷ W))) a c
  three x X z Z w W a c ea ec =
      let A = x ∷ X in
      let C = z ∷ Z in
      let D = w ∷ W in
      let L = A ++ (C ++ D) in
      let l : length L ≡ a + (c + suc (length W)) = length-append A (C ++ D) ∙ ap₂ (λ p q. p + q) ea (length-append C D ∙ ap (λ p. p + suc (length W)) ec) in
      let L2 : L ≡ (A ++ C) ++ D = sym (append_assoc A C D) in
      let n2 : length (A ++ C) ≡ a + c = length-append A C ∙ ap₂ (λ p q. p + q) ea ec in
      let x1 : at L (a - 1) ≡ end x X = part_last [] x X (C ++ D) (a - 1) (omega arith) in
      let z0 : at L a ≡ z = get_or_at A z (Z ++ D) 0 a ea in
      let z1 : at L (a + c - 1) ≡ end z Z = part_last A z Z D (a + c - 1) (omega arith) in
      let w0 : at L (a + c) ≡ w = ap (λ v. at v (a + c)) L2 ∙ get_or_at (A ++ C) w W 0 (a + c) n2 in
      let k : length L - 1 ≡ length (A ++ C) + length W = omega arith in
      let w1 : at L (length L - 1) ≡ end w W = ap₂ at L2 k ∙ get_or-append-add (A ++ C) D (length W) 0 ∙ sym (end_at w W) in
      omega (arith, exchange3_time d x X z Z w W, ap₂ d w1 (refl {a = x}), ap₂ d x1 z0, ap₂ d z1 w0, ap₂ d w1 z0, ap₂ d z1 (refl {a = x}), ap₂ d x1 w0)

  -- at the front of any list that is long enough
  front4 : (a b c : ℕ) (x : List Stop) → 0 < a → 0 < b → 0 < c → a + b + c < length x → Four x (exchange_front a b c x) a b c
  front4 a b c x ha hb hc h =
      let l = lengths a b c x (omega arith) in
      go (some (take a x) (omega (arith, l.first))) (some (take b (drop a x)) (omega (arith, l.second))) (some (take c (drop (a + b) x)) (omega (arith, l.third)))
      (some (drop (a + b + c) x) (omega (arith, length-drop (a + b + c) x))) l
    where
      go : Cons (take a x) → Cons (take b (drop a x)) → Cons (take c (drop (a + b) x)) → Cons (drop (a + b + c) x) → Lengths a b c x → Four x (exchange_front a b c x) a b c
      go (cons p P e) (cons q Q f) (cons r R g) (cons s S k) l =
          let whole : (p ∷ P) ++ ((q ∷ Q) ++ ((r ∷ R) ++ (s ∷ S))) ≡ x = sym (ap₂ (λ v w. v ++ w) e (ap₂ (λ v w. v ++ w) f (ap₂ (λ v w. v ++ w) g k))) ∙ parts a b c x in
          let na : suc (length P) ≡ a = sym (ap length e) ∙ l.first in
          let nb : suc (length Q) ≡ b = sym (ap length f) ∙ l.second in
          let nc : suc (length R) ≡ c = sym (ap length g) ∙ l.third in
          let m : exchange_front a b c x ≡ (r ∷ R) ++ ((q ∷ Q) ++ ((p ∷ P) ++ (s ∷ S))) = ap (exchange_front a b c) (sym whole) ∙ exchange_parts (p ∷ P) (q ∷ Q) (r ∷ R) (s ∷ S) a b c na nb nc in
          subst (λ v. Four v (exchange_front a b c x) a b c) whole (subst (λ v. Four ((p ∷ P) ++ ((q ∷ Q) ++ ((r ∷ R) ++ (s ∷ S)))) v a b c) (sym m) (four p P q Q r R s S a b c na nb nc))

  front3 : (a c : ℕ) (x : List Stop) → 0 < a → 0 < c → a + c < length x → Three x (exchange_front a 0 c x) a c
  front3 a c x ha hc h =
      let l = lengths a 0 c x (omega arith) in
      go (some (take a x) (omega (arith, l.first))) (some (take c (drop (a + 0) x)) (omega (arith, l.third))) (some (drop (a + 0 + c) x) (omega (arith, length-drop (a + 0 + c) x))) l
    where
      go : Cons (take a x) → Cons (take c (drop (a + 0) x)) → Cons (drop (a + 0 + c) x) → Lengths a 0 c x → Three x (exchange_front a 0 c x) a c
      go (cons p P e) (cons r R g) (cons s S k) l =
          let whole : (p ∷ P) ++ ((r ∷ R) ++ (s ∷ S)) ≡ x = sym (ap₂ (λ v w. v ++ w) e (ap₂ (λ v w. v ++ w) g k)) ∙ parts a 0 c x in
          let na : suc (length P) ≡ a = sym (ap length e) ∙ l.first in
          let nc : suc (length R) ≡ c = sym (ap length g) ∙ l.third in
          let m : exchange_front a 0 c x ≡ (r ∷ R) ++ ((p ∷ P) ++ (s ∷ S)) = ap (exchange_front a 0 c) (sym whole) ∙ exchange_parts (p ∷ P) [] (r ∷ R) (s ∷ S) a 0 c na refl nc in
          subst (λ v. Three v (exchange_front a 0 c x) a c) whole (subst (λ v. Three ((p ∷ P) ++ ((r ∷ R) ++ (s ∷ S))) v a c) (sym m) (three p P r R s S a c na nc))

  -- ---- on the ring, from place s on: `w k` is the stop k steps after it
  module _ (r : Round) (s : Place) (hs : s < length r) (w : ℕ → Stop) (w_is : (k : ℕ) → k < length r → at (turn s r) k ≡ w k) where
    last_is : at (turn s r) (length (turn s r) - 1) ≡ w (length r - 1)
    last_is = ap (λ k. at (turn s r) (k - 1)) (turn_length s r) ∙ w_is (length r - 1) (omega arith)

    -- X Z to Z X
    pub rotate2_time : (a c : ℕ) → 0 < a → 0 < c → a + c < length r
        → recount d (rotate_at s a 0 c r) + (d (w (length r - 1)) (w 0) + d (w (a - 1)) (w a) + d (w (a + c - 1)) (w (a + c)))
        ≡ recount d r + (d (w (length r - 1)) (w a) + d (w (a + c - 1)) (w 0) + d (w (a - 1)) (w (a + c)))
    unfolding rotate_at
    rotate2_time a c ha hc h =
        let x = turn s r in
        let g = front3 a c x ha hc (omega (arith, turn_length s r)) in
        let x0 = w_is 0 (omega arith) in
        let x1 = w_is (a - 1) (omega arith) in
        let z0 = w_is a (omega arith) in
        let z1 = w_is (a + c - 1) (omega arith) in
        let q = w_is (a + c) h in
        omega (arith, g, from_time d s (exchange_front a 0 c) r, turn_time d s r, ap₂ d last_is x0, ap₂ d x1 z0, ap₂ d z1 q, ap₂ d last_is z0, ap₂ d z1 x0, ap₂ d x1 q)

    -- X Y Z to Z Y X
    pub rotate3_time : (a b c : ℕ) → 0 < a → 0 < b → 0 < c → a + b + c < length r
        → recount d (rotate_at s a b c r) + (d (w (length r - 1)) (w 0) + d (w (a - 1)) (w a) + d (w (a + b - 1)) (w (a + b)) + d (w (a + b + c - 1)) (w (a + b + c)))
        ≡ recount d r + (d (w (length r - 1)) (w (a + b)) + d (w (a + b + c - 1)) (w a) + d (w (a + b - 1)) (w 0) + d (w (a - 1)) (w (a + b + c)))
    unfolding rotate_at
    rotate3_time a b c ha hb hc h =
        let x = turn s r in
        let g = front4 a b c x ha hb hc (omega (arith, turn_length s r)) in
        let x0 = w_is 0 (omega arith) in
        let x1 = w_is (a - 1) (omega arith) in
        let y0 = w_is a (omega arith) in
        let y1 = w_is (a + b - 1) (omega arith) in
        let z0 = w_is (a + b) (omega arith) in
        let z1 = w_is (a + b + c - 1) (omega arith) in
        let q = w_is (a + b + c) h in
        omega (arith, g, from_time d s (exchange_front a b c) r, turn_time d s r, ap₂ d last_is x0, ap₂ d x1 y0, ap₂ d y1 z0, ap₂ d z1 q, ap₂ d last_is z0, ap₂ d z1 y0, ap₂ d y1 x0, ap₂ d x1 q)
