-- The round, packed pair by pair.
use Prim.Native.Nat.{ℕ, zero, suc, ◌+◌, ◌-◌, ◌*◌, ◌/◌, ◌≤◌, ◌<◌}
use mathlib.Core.Path.{◌≡◌, refl, sym, ap, ◌∙◌, subst}
use mathlib.Core.List.{List, [], ◌∷◌, ◌++◌, append-nil}
use native.Mathlib.Omega.{arith}
use native.Mathlib.Numerals.{add-one}
use lib.ListN.{length, get_or, take, drop, length-drop, take-append-drop}
use lib.Seq.{take-add, length-take-le, take_all, drop-cons, drop-drop}
use Rattle.std.proofs.lemmas.List.{get_or-take, get_or-drop}
use Rattle.std.specs.Simd.{first_chunks}
use Rattle.rules.specs.Lists.{each}
use Rattle.rules.specs.Bits.{bits, bytes_of}
use Rattle.laws.proofs.BitLaws.{length_each, each_append, bytes_of_append, bytes_of_none, length_bytes_of}
use Rattle.bits.specs.Write.{Wrote}
use Rattle.bits.proofs.WriteLaws.{wrote_next}
use Rattle.answers.specs.Answers.{Small}

-- ---- the pairs
chunk : (k i : ℕ) (l : List ℕ) → i < k → get_or (first_chunks 2 k l) i [] ≡ take 2 (drop (2 * i) l)
chunk zero i l h = absurd (omega arith)
chunk (suc k) zero l h = refl
chunk (suc k) (suc i) l h =
    let m : i < k = omega arith in
    let e : 2 + 2 * i ≡ 2 * suc i = omega arith in
    chunk k i (drop 2 l) m ∙ ap (take 2) (drop-drop (2 * i) 2 l ∙ ap (λ (z : ℕ). drop z l) e)

-- entry j of pair i
paired : (round : List ℕ) (pairs : List (List ℕ)) (k i j : ℕ) → pairs ≡ first_chunks 2 k round → i < k → j < 2 → get_or (get_or pairs i []) j 0 ≡ get_or round (2 * i + j) 0
paired round pairs k i j e h l = rw e (ap (λ (z : List ℕ). get_or z j 0) (chunk k i round h) ∙ get_or-take 2 (drop (2 * i) round) j 0 l ∙ get_or-drop (2 * i) round j 0)

pub pair_small : (round : List ℕ) (pairs : List (List ℕ)) (i j : ℕ) → Small round → pairs ≡ first_chunks 2 (length round / 2) round → i < length round / 2 → j < 2 → get_or (get_or pairs i []) j 0 < 4096
pair_small round pairs i j z e h l = rw (paired round pairs (length round / 2) i j e h l) (z.stop (2 * i + j))

-- ---- what is written
both : (x y : ℕ) → bits 12 x ++ bits 12 y ≡ each (bits 12) (x ∷ y ∷ [])
unfolding each
both x y = ap (λ (z : List ℕ). bits 12 x ++ z) (sym (append-nil (bits 12 y)))

alone : (x : ℕ) → bits 12 x ≡ each (bits 12) (x ∷ [])
unfolding each
alone x = sym (append-nil (bits 12 x))

pub pack_start : (l : List ℕ) → Wrote l 16 (bytes_of (each (bits 12) [])) l
unfolding each
pack_start l = record { is = rw bytes_of_none (sym (take-append-drop 16 l)) }

module _ (l round r : List ℕ) (i : ℕ) (h : 16 + (12 * length round + 7) / 8 ≤ length l) (w : Wrote l 16 (bytes_of (each (bits 12) (take (2 * i) round))) r) where
  module _ (f : 2 * i ≤ length round) where
    packed : length (each (bits 12) (take (2 * i) round)) ≡ 8 * (3 * i)
    packed = length_each 12 (take (2 * i) round) ∙ omega (arith, length-take-le (2 * i) round f)

    -- what is written next, and the entries it stands for
    follow : (es s : List ℕ) (k : ℕ) → take k round ≡ take (2 * i) round ++ es → Wrote r (16 + 3 * i) (bytes_of (each (bits 12) es)) s → Wrote l 16 (bytes_of (each (bits 12) (take k round))) s
    follow es s k e v =
        let b : length (bytes_of (each (bits 12) (take (2 * i) round))) ≡ 3 * i = length_bytes_of (each (bits 12) (take (2 * i) round)) ∙ omega (arith, packed) in
        let g : bytes_of (each (bits 12) (take k round)) ≡ bytes_of (each (bits 12) (take (2 * i) round)) ++ bytes_of (each (bits 12) es)
        = ap (λ (z : List ℕ). bytes_of (each (bits 12) z)) e ∙ ap bytes_of (each_append (bits 12) (take (2 * i) round) es)
        ∙ bytes_of_append (3 * i) (each (bits 12) (take (2 * i) round)) (each (bits 12) es) packed in
        rw g (wrote_next l 16 (bytes_of (each (bits 12) (take (2 * i) round))) r (16 + 3 * i) (bytes_of (each (bits 12) es)) s (omega (arith, b)) (omega (arith, b)) w v)

  module _ (m : ℕ) (c : m ≡ length round / 2) where
    pub pack_turn : (pairs : List (List ℕ)) (s : List ℕ) → pairs ≡ first_chunks 2 m round → i < m
        → Wrote r (16 + 3 * i) (bytes_of (bits 12 (get_or (get_or pairs i []) 0 0) ++ bits 12 (get_or (get_or pairs i []) 1 0))) s → Wrote l 16 (bytes_of (each (bits 12) (take (2 * (i + 1)) round))) s
    pack_turn pairs s e b v =
        let x : ℕ = get_or (get_or pairs i []) 0 0 in
        let y : ℕ = get_or (get_or pairs i []) 1 0 in
        let z : 2 * i + 0 ≡ 2 * i = omega arith in
        let t : 2 * (i + 1) ≡ 2 * i + 2 = omega arith in
        let p : 2 * i < length round = omega arith in
        let q : suc (2 * i) < length round = omega arith in
        let n : take (2 * (i + 1)) round ≡ take (2 * i) round ++ (x ∷ y ∷ [])
        = rw (t, paired round pairs m i 0 e b (omega arith), paired round pairs m i 1 e b (omega arith), take-add (2 * i) 2 round, drop-cons round (2 * i) 0 p, drop-cons round (suc (2 * i)) 0 q, z, add-one (2 * i)) in
        follow (omega arith) (x ∷ y ∷ []) s (2 * (i + 1)) n (subst (λ (z : List ℕ). Wrote r (16 + 3 * i) (bytes_of z) s) (both x y) v)

    pub pack_last : (last s : List ℕ) → m ≤ i → i ≤ m → last ≡ drop (length round / 2 * 2) round → 1 ≤ length last → length last < 2 → Wrote r (16 + 3 * m) (bytes_of (bits 12 (get_or last 0 0))) s
        → Wrote l 16 (bytes_of (each (bits 12) round)) s
    pack_last last s f g e o u v =
        let e : last ≡ drop (m * 2) round = rw c e in
        let n : length last ≡ length round - m * 2 = rw (e, length-drop) in
        let d : m * 2 + 0 ≡ 2 * i = omega arith in
        let k : 16 + 3 * m ≡ 16 + 3 * i = omega arith in
        let x : get_or last 0 0 ≡ get_or round (2 * i) 0 = ap (λ (z : List ℕ). get_or z 0 0) e ∙ get_or-drop (m * 2) round 0 0 ∙ ap (λ (z : ℕ). get_or round z 0) d in
        let b : 2 * i < length round = omega arith in
        let q : take (2 * i + 1) round ≡ take (2 * i) round ++ (get_or last 0 0 ∷ []) = rw (take-add (2 * i) 1 round, drop-cons round (2 * i) 0 b, x) in
        subst (λ (z : List ℕ). Wrote l 16 (bytes_of (each (bits 12) z)) s) (take_all (2 * i + 1) round (omega arith))
        (follow (omega arith) (get_or last 0 0 ∷ []) s (2 * i + 1) q (subst (λ (z : List ℕ). Wrote r (16 + 3 * i) (bytes_of z) s) (alone (get_or last 0 0)) (subst (λ (z : ℕ). Wrote r z (bytes_of (bits 12 (get_or last 0 0))) s) k v)))
