-- The header, from the three words that hold it.
use Prim.Native.Nat.{ℕ, ◌+◌, ◌/◌, ◌%◌, ◌^◌, ◌≤◌, ◌<◌}
use mathlib.Core.Path.{◌≡◌, refl, sym}
use mathlib.Core.List.{List}
use native.Mathlib.Omega.{arith}
use Rattle.std.specs.Int.Bits.{bit_and}
use Rattle.std.proofs.lemmas.Nat.{and_mask}
use lib.ListN.{length}
use Rattle.rules.specs.Bits.{bits_of, field}
use Rattle.rules.specs.Sheets.{header_in}
use Rattle.laws.proofs.BitLaws.{bits_of_are, field_lt, length_bits_of}
use Rattle.bits.specs.Read.{Reads}
use Rattle.bits.proofs.ReadLaws.{inside}

module _ (s : List ℕ) (v b x : ℕ) (l : 16 ≤ length s) (h : Reads s 0 32 v) where
  part : (r w t y : ℕ) → 32 ≡ r + w + t → y ≡ v / 2 ^ t % 2 ^ w → field (bits_of s) (0 + r) w ≡ y
  part r w t y e g = sym (inside s 0 r w t (0 + r) 32 v y (omega arith) e refl g h).is

pub read_head : (s : List ℕ) (v b x : ℕ) → 16 ≤ length s → Reads s 0 32 v → Reads s 32 32 b → Reads s 64 64 x
    → header_in (bits_of s) ≡ record { version = v / 268435456; step = v / 67108864 % 4; stop = v / 33554432 % 2; n = v / 4096 % 8192; k = v / 128 % 32; ka = v / 16 % 8; spare = v % 16; budget = b; seed = x }
unfolding header_in
read_head s v b x l h hb hx =
    rw (
      part s v b x l h 0 4 28 (v / 268435456) refl (omega (arith, h.below)),
      part s v b x l h 4 2 26 (v / 67108864 % 4) refl refl,
      part s v b x l h 6 1 25 (v / 33554432 % 2) refl refl,
      part s v b x l h 7 13 12 (v / 4096 % 8192) refl refl,
      part s v b x l h 20 5 7 (v / 128 % 32) refl refl,
      part s v b x l h 25 3 4 (v / 16 % 8) refl refl,
      part s v b x l h 28 4 0 (v % 16) refl (omega arith),
      ← hb.is,
      ← hx.is,
    )

-- the same, as the code masks the word
pub read_masked : (s : List ℕ) (v b x : ℕ) → 16 ≤ length s → Reads s 0 32 v → Reads s 32 32 b → Reads s 64 64 x
    → header_in (bits_of s)
    ≡ record {
      version = v / 268435456;
      step = bit_and (v / 67108864) 3;
      stop = bit_and (v / 33554432) 1;
      n = bit_and (v / 4096) 8191;
      k = bit_and (v / 128) 31;
      ka = bit_and (v / 16) 7;
      spare = bit_and v 15;
      budget = b;
      seed = x;
    }
read_masked s v b x l h hb hx =
    rw (and_mask (v / 67108864) 2, and_mask (v / 33554432) 1, and_mask (v / 4096) 13, and_mask (v / 128) 5, and_mask (v / 16) 3, and_mask v 4)
    (read_head s v b x l h hb hx)

-- its fields are no wider than their bits
pub header_narrow : (s : List ℕ) → 16 ≤ length s → ((header_in (bits_of s)).k < 32) × ((header_in (bits_of s)).ka < 8)
unfolding header_in
header_narrow s l =
    let room : 28 ≤ length (bits_of s) = rw length_bits_of (omega arith) in
    (field_lt (bits_of_are s) 20 5 (omega arith), field_lt (bits_of_are s) 25 3 (omega arith))
