-- Where legs between stops below n take as long as their return: a reversal takes two legs away and brings two, whichever side is turned.
use Prim.Native.Nat.{◌+◌, ◌-◌, ◌<◌, ℕ}
use mathlib.Core.Path.{◌∙◌, ◌≡◌, ap, ap₂, refl, sym}
use mathlib.Core.List.{List, [], ◌++◌, ◌∷◌, reverse}
use native.Mathlib.Omega.{arith}
use lib.ListN.{get_or-append, drop, length, length-append, length-drop, take, take-append-drop}
use lib.Seq.{get_or-append-add, get_or-append_seam, length-take-le}
use Rattle.rules.specs.Lists.{at}
use Rattle.rules.specs.Rewrite.{reverse_at, reverse_front}
use Rattle.rules.specs.Ring.{along, lap, recount, turn}
use Rattle.rules.specs.Words.{Legs, Place, Round, Stop}
use Rattle.laws.proofs.EveryLaws.{Below, all_drop, all_join, all_take, below_at, more}
use Rattle.laws.proofs.TimeLaws.{along_back, back, end, end_at, from_time, returned, ring1, ring2, turn_time}
use Rattle.laws.proofs.TurnLaws.{On, on_below, on_from, turn_length, turn_on}

-- equal times both ways, between stops below n
abbrev pub Even : Legs → ℕ → Type 0
Even d n = (a b : Stop) → a < n → b < n → d a b ≡ d b a

-- between the places a, s, e and b of a round the legs a-s and e-b go, a-e and s-b come
abbrev pub Reversed : Legs → Round → Place → Place → Place → Place → Round → Type 0
Reversed d r a s e b after = recount d after + (d (at r a) (at r s) + d (at r e) (at r b)) ≡ recount d r + (d (at r a) (at r e) + d (at r s) (at r b))

-- the first and the last stop of a list of stops below n
pub below_head : (n : ℕ) (a : Stop) (A : List Stop) → Below n (a ∷ A) → a < n
below_head n a A (more h b) = h

pub below_end : (n : ℕ) (a : Stop) (A : List Stop) → Below n (a ∷ A) → end a A < n
unfolding end
below_end n a [] (more h b) = h
below_end n a (x ∷ A) (more h b) = below_end n x A b

module _ (d : Legs) (n : ℕ) (even : Even d n) where
  -- a path takes as long as the returns of its legs
  along_even : (a : Stop) (A : List Stop) → Below n (a ∷ A) → along (returned d) a A ≡ along d a A
  unfolding along returned
  along_even a [] (more h b) = refl
  along_even a (x ∷ A) (more h (more k b)) = omega (arith, along_even x A (more k b), even x a k h)

  -- and so does a round
  pub recount_even : (r : Round) → Below n r → recount (returned d) r ≡ recount d r
  unfolding returned recount lap
  recount_even [] b = refl
  recount_even (a ∷ []) b = refl
  recount_even (a ∷ x ∷ A) (more h b) =
      let z = end a (x ∷ A) in
      omega (arith, ring1 (returned d) a (x ∷ A) (omega arith), ring1 d a (x ∷ A) (omega arith), along_even a (x ∷ A) (more h b), even a z h (below_end n a (x ∷ A) (more h b)))

  -- M W to M reversed, W
  pub reverse_time : (a : Stop) (A : List Stop) (b : Stop) (B : List Stop) → Below n (a ∷ A)
      → recount d (reverse (a ∷ A) ++ (b ∷ B)) + (d (end b B) a + d (end a A) b) ≡ recount d ((a ∷ A) ++ (b ∷ B)) + (d (end b B) (end a A) + d a b)
  reverse_time a A b B low =
      let h = back a A in
      let e : recount d (reverse (a ∷ A) ++ (b ∷ B)) ≡ recount d ((end a A ∷ h.tail) ++ (b ∷ B)) = ap (λ l. recount d (l ++ (b ∷ B))) h.is in
      omega (arith, e, ring2 d (end a A) h.tail b B, ring2 d a A b B, along_back d a A, along_even a A low, ap (λ v. d v b) h.ends)

  -- the same of two parts by their first and last stops
  parts_time : (M W : List Stop) → 0 < length M → 0 < length W → Below n M
      → recount d (reverse M ++ W) + (d (at (M ++ W) (length (M ++ W) - 1)) (at (M ++ W) 0) + d (at (M ++ W) (length M - 1)) (at (M ++ W) (length M)))
      ≡ recount d (M ++ W) + (d (at (M ++ W) (length (M ++ W) - 1)) (at (M ++ W) (length M - 1)) + d (at (M ++ W) 0) (at (M ++ W) (length M)))
  parts_time [] W h k low = absurd (omega arith)
  parts_time (a ∷ A) [] h k low = absurd (omega arith)
  parts_time (a ∷ A) (b ∷ B) h k low =
      let x = (a ∷ A) ++ (b ∷ B) in
      let mid : at x (length (a ∷ A)) ≡ b = get_or-append_seam (a ∷ A) b B 0 in
      let l : length (a ∷ A) - 1 ≡ length A = omega arith in
      let lows : at x (length (a ∷ A) - 1) ≡ end a A = ap (at x) l ∙ get_or-append (a ∷ A) (b ∷ B) 0 (length A) (omega arith) ∙ sym (end_at a A) in
      let t : length x - 1 ≡ length (a ∷ A) + length B = omega (arith, length-append (a ∷ A) (b ∷ B)) in
      let top : at x (length x - 1) ≡ end b B = ap (at x) t ∙ get_or-append-add (a ∷ A) (b ∷ B) (length B) 0 ∙ sym (end_at b B) in
      omega (arith, reverse_time a A b B low, ap₂ d top (refl {a = a}), ap₂ d lows mid, ap₂ d top lows, ap₂ d (refl {a = a}) mid)

  module _ (r : Round) (low : Below n r) where
    -- `reverse_positions` of the places from s on: a is the place before them, e the last of them, b the place after
    pub reverse_at_time : (a s e b : Place) (len : ℕ) → s < length r → 0 < len → len < length r
        → On (length r) s (length r - 1) a → On (length r) s (len - 1) e → On (length r) s len b → Reversed d r a s e b (reverse_at s len r)
    unfolding reverse_at reverse_front turn
    reverse_at_time a s e b len hs h k oa oe ob =
        let x = turn s r in
        let z : length x ≡ length r = turn_length s r in
        let pa : at x (length x - 1) ≡ at r a = ap (λ m. at x (m - 1)) z ∙ turn_on s (length r - 1) a r (omega arith) (omega arith) oa in
        let ps : at x 0 ≡ at r s = turn_on s 0 s r (omega arith) (omega arith) (On.low (omega arith) (omega arith)) in
        let pe : at x (len - 1) ≡ at r e = turn_on s (len - 1) e r (omega arith) (omega arith) oe in
        let pb : at x len ≡ at r b = turn_on s len b r (omega arith) k ob in
        let lm : length (take len x) ≡ len = length-take-le len x (omega arith) in
        let lw : 0 < length (drop len x) = rw (length-drop len x) (omega arith) in
        let g = parts_time (take len x) (drop len x) (omega arith) lw (all_take len x (all_join (drop s r) (take s r) (all_drop s r low) (all_take s r low))) in
        let g' = rw (take-append-drop len x, lm) at g in
        omega (arith, g', from_time d s (reverse_front len) r, turn_time d s r, ap₂ d pa ps, ap₂ d pe pb, ap₂ d pa pe, ap₂ d ps pb)

    -- "the complement is reversed instead": the same legs go and come
    pub complement_time : (a s e b : Place) (len : ℕ) → s < length r → 0 < len → len < length r
        → On (length r) s (length r - 1) a → On (length r) s (len - 1) e → On (length r) s len b → Reversed d r a s e b (reverse_at b (length r - len) r)
    complement_time a s e b len hs h k oa oe ob =
        let hb : b < length r = on_below (length r) s len b hs k ob in
        let ha : a < length r = on_below (length r) s (length r - 1) a hs (omega arith) oa in
        let he : e < length r = on_below (length r) s (len - 1) e hs (omega arith) oe in
        let self : On (length r) s 0 s = On.low (omega arith) (omega arith) in
        let oe' : On (length r) b (length r - 1) e = on_from (length r) s (len - 1) len (length r - 1) e b hs (omega arith) k (omega arith) oe ob (On.high (omega arith) (omega arith)) in
        let oa' : On (length r) b (length r - len - 1) a = on_from (length r) s (length r - 1) len (length r - len - 1) a b hs (omega arith) k (omega arith) oa ob (On.low (omega arith) (omega arith)) in
        let os : On (length r) b (length r - len) s = on_from (length r) s 0 len (length r - len) s b hs (omega arith) k (omega arith) self ob (On.high (omega arith) (omega arith)) in
        let g = reverse_at_time e b a s (length r - len) hb (omega arith) (omega arith) oe' oa' os in
        omega (arith, g, even (at r e) (at r a) (below_at n r low e he) (below_at n r low a ha), even (at r b) (at r s) (below_at n r low b hb) (below_at n r low s hs))
