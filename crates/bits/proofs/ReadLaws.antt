-- What a reader promises, joined and taken apart.
use mathlib.Core.Path.{◌≡◌, refl, sym, ap, ◌∙◌}
use mathlib.Core.List.{List}
use Prim.Native.Nat.{ℕ, ◌+◌, ◌*◌, ◌/◌, ◌%◌, ◌^◌, ◌≤◌, ◌<◌}
use native.Mathlib.Nat.{mod-lt}
use native.Mathlib.Omega.{arith}
use lib.ListN.{length, get_or, take, drop}
use Rattle.std.proofs.lemmas.List.{get_or-take, get_or-drop}
use Rattle.std.proofs.Common.{w16, w32, w64}
use Rattle.std.specs.Int.{from_be_bytes}
use lib.Pow.{pow_pos}
use Rattle.rules.specs.Bits.{field, bits_of}
use Rattle.bits.specs.Read.{Reads}
use Rattle.laws.proofs.BitLaws.{length_bits_of, bits_of_are, field_byte, field_join, field_in, field_lt}

pub reads_byte : (bytes : List ℕ) (q : ℕ) → q < length bytes → get_or bytes q 0 < 256 → Reads bytes (8 * q) 8 (get_or bytes q 0)
reads_byte bytes q l h = record { is = sym (field_byte bytes q l h); below = h }

-- a upper bits at p, b lower ones behind them
pub joins : (bytes : List ℕ) (p a b p' w x y r : ℕ) → p + (a + b) ≤ 8 * length bytes → p' ≡ p + a → w ≡ a + b → r ≡ x * 2 ^ b + y
    → Reads bytes p a x → Reads bytes p' b y → Reads bytes p w r
joins bytes p a b p' w x y r l e f g hx hy =
    let m : p + (a + b) ≤ length (bits_of bytes) = rw length_bits_of l in
    let i : r ≡ field (bits_of bytes) p (a + b)
    = g ∙ ap (λ (z : ℕ). z * 2 ^ b + y) hx.is ∙ ap (λ (z : ℕ). field (bits_of bytes) p a * 2 ^ b + z) (hy.is ∙ ap (λ (z : ℕ). field (bits_of bytes) z b) e)
    ∙ sym (field_join (bits_of bytes) p a b m) in
    rw f (record { is = i; below = rw i (field_lt (bits_of_are bytes) p (a + b) m) })

-- w bits, r bits behind p, s bits before the end
pub inside : (bytes : List ℕ) (p r w s p' all v x : ℕ) → p + all ≤ 8 * length bytes → all ≡ r + w + s → p' ≡ p + r → x ≡ v / 2 ^ s % 2 ^ w
    → Reads bytes p all v → Reads bytes p' w x
inside bytes p r w s p' all v x l e f g h =
    let m : p + (r + w + s) ≤ length (bits_of bytes) = rw (length_bits_of, ← e) l in
    let a : v ≡ field (bits_of bytes) p (r + w + s) = h.is ∙ ap (field (bits_of bytes) p) e in
    let b : x ≡ field (bits_of bytes) (p + r) w = g ∙ ap (λ (z : ℕ). z / 2 ^ s % 2 ^ w) a ∙ sym (field_in (bits_of_are bytes) p r w s m) in
    rw f (record { is = b; below = rw g (mod-lt (v / 2 ^ s) (pow_pos w)) })

-- ---- one for each reader
module _ (s : List ℕ) (h : (i : ℕ) → get_or s i 0 < 256) where
  -- two, four and eight bytes from byte q on
  two : (q : ℕ) → q + 1 < length s → Reads s (8 * q) 16 (get_or s q 0 * 256 + get_or s (q + 1) 0)
  two q l = joins s (8 * q) 8 8 (8 * (q + 1)) 16 _ _ _ (omega arith) (omega arith) refl refl (reads_byte s q (omega arith) (h q)) (reads_byte s (q + 1) l (h (q + 1)))

  four : (q v : ℕ) → q + 3 < length s → v ≡ (get_or s q 0 * 256 + get_or s (q + 1) 0) * 65536 + (get_or s (q + 2) 0 * 256 + get_or s (q + 2 + 1) 0) → Reads s (8 * q) 32 v
  four q v l e = joins s (8 * q) 16 16 (8 * (q + 2)) 32 _ _ v (omega arith) (omega arith) refl e (two q (omega arith)) (two (q + 2) (omega arith))

  module _ (q : ℕ) where
    byte : (n i j : ℕ) → i < n → j ≡ q + i → get_or (take n (drop q s)) i 0 ≡ get_or s j 0
    byte n i j l e = get_or-take n (drop q s) i 0 l ∙ get_or-drop q s i 0 ∙ ap (λ (z : ℕ). get_or s z 0) (sym e)

    module _ (v : ℕ) (l : List ℕ) where
      pub read_16 : q + 1 < length s → l ≡ take 2 (drop q s) → v ≡ from_be_bytes w16 l → Reads s (8 * q) 16 v
      read_16 r e f =
          let g : v ≡ get_or s q 0 * 256 + get_or s (q + 1) 0 = f ∙ (rw e (omega (arith, byte 2 0 q (omega arith) (omega arith), byte 2 1 (q + 1) (omega arith) refl))) in
          rw g (two q r)

      pub read_32 : q + 3 < length s → l ≡ take 4 (drop q s) → v ≡ from_be_bytes w32 l → Reads s (8 * q) 32 v
      read_32 r e f =
          four q v r
          (f
          ∙ (rw e (omega (arith, byte 4 0 q (omega arith) (omega arith), byte 4 1 (q + 1) (omega arith) refl, byte 4 2 (q + 2) (omega arith) refl, byte 4 3 (q + 2 + 1) (omega arith) (omega arith)))))

      pub read_64 : q + 7 < length s → l ≡ take 8 (drop q s) → v ≡ from_be_bytes w64 l → Reads s (8 * q) 64 v
      read_64 r e f =
          joins s (8 * q) 32 32 (8 * (q + 4)) 64 _ _ v (omega arith) (omega arith) refl
          (f
          ∙ (rw e (omega (
            arith,
            byte 8 0 q (omega arith) (omega arith),
            byte 8 1 (q + 1) (omega arith) refl,
            byte 8 2 (q + 2) (omega arith) refl,
            byte 8 3 (q + 2 + 1) (omega arith) (omega arith),
            byte 8 4 (q + 4) (omega arith) refl,
            byte 8 5 (q + 4 + 1) (omega arith) (omega arith),
            byte 8 6 (q + 4 + 2) (omega arith) (omega arith),
            byte 8 7 (q + 4 + 2 + 1) (omega arith) (omega arith),
          ))))
          (four q _ (omega arith) refl) (four (q + 4) _ (omega arith) refl)

pub read_12_even : (s : List ℕ) (p v : ℕ) → p + 12 ≤ 8 * length s → p % 8 ≡ 0 → Reads s (8 * (p / 8)) 16 v → Reads s p 12 (v / 16)
read_12_even s p v l e h = inside s (8 * (p / 8)) 0 12 4 p 16 v (v / 16) (omega arith) refl (omega arith) (omega (arith, h.below)) h

pub read_12_odd : (s : List ℕ) (p v : ℕ) → p + 12 ≤ 8 * length s → p % 4 ≡ 0 → (p % 8 ≡ 0 → ⊥) → Reads s (8 * (p / 8)) 16 v → Reads s p 12 (v % 4096)
read_12_odd s p v l m e h = inside s (8 * (p / 8)) 4 12 0 p 16 v (v % 4096) (omega arith) refl (omega arith) (omega arith) h
