-- 10: the length of a sheet, and the spare bits at its end.
use Prim.Native.Nat.{ℕ, ◌+◌, ◌-◌, ◌*◌, ◌/◌, ◌%◌, ◌≤◌, ◌<◌}
use mathlib.Core.Path.{◌≡◌, refl, ap, ◌∙◌}
use mathlib.Core.Bool.{true, false, ◌&&◌, ◌||◌}
use mathlib.Core.List.{List}
use native.Mathlib.Omega.{arith}
use native.Mathlib.Decide.{ℕ_discrete}
use borrow.Author.Tests.{eq-eqb, ne_eqb}
use lib.Dec.{eqb}
use lib.ListN.{length, get_or, drop, length-drop, drop_of_length-le}
use lib.Seq.{take_all}
use Rattle.rules.specs.Bits.{bits_of, field, value_from}
use Rattle.rules.specs.Sheets.{Header, near_at, alpha_at, end_at, sheet_length}
use Rattle.laws.proofs.BitLaws.{every_zero, are_drop, bits_of_are, length_bits_of}
use Rattle.bits.specs.Read.{Reads}
use Rattle.bits.proofs.ReadLaws.{reads_byte, inside}
use Rattle.sheets.specs.Sheet.{good_end}

pub end_at_lem : (h : Header) (a b c : ℕ) → a ≡ h.n * (h.n - 1) → b ≡ h.n * h.k → c ≡ h.n * h.ka → 128 + 8 * a + 12 * b + 12 * c ≡ end_at h
unfolding end_at alpha_at near_at
end_at_lem h a b c e f g = rw (e, f, g)

module _ (h : Header) (s : List ℕ) (small : (i : ℕ) → get_or s i 0 < 256) where
  fours : end_at h % 4 ≡ 0
  unfolding end_at alpha_at near_at
  fours = omega arith

  other : (length s ≡ (end_at h + 7) / 8 → ⊥) → good_end h s ≡ false
  unfolding good_end sheet_length
  other l = rw (ne_eqb (length s) ((end_at h + 7) / 8) l)

  module _ (l : length s ≡ (end_at h + 7) / 8) where
    zero_bits : good_end h s ≡ eqb (value_from 0 (drop (end_at h) (bits_of s))) 0
    unfolding good_end sheet_length
    zero_bits = rw (eq-eqb (length s) ((end_at h + 7) / 8) l) (every_zero (drop (end_at h) (bits_of s)) (are_drop (end_at h) (bits_of_are s)))

    whole : end_at h % 8 ≡ 0 → good_end h s ≡ true
    unfolding value_from
    whole z =
        let m : length (bits_of s) ≤ end_at h = omega (arith, length_bits_of s) in
        zero_bits ∙ (rw (drop_of_length-le (bits_of s) m))

    spare : (end_at h % 8 ≡ 0 → ⊥) → good_end h s ≡ eqb (get_or s (end_at h / 8) 0 % 16) 0
    unfolding field
    spare z =
        let m : end_at h % 4 ≡ 0 = fours in
        let q : end_at h / 8 < length s = omega arith in
        let r : Reads s (8 * (end_at h / 8)) 8 (get_or s (end_at h / 8) 0) = reads_byte s (end_at h / 8) q (small (end_at h / 8)) in
        let b : get_or s (end_at h / 8) 0 < 256 = small (end_at h / 8) in
        let x : Reads s (end_at h) 4 (get_or s (end_at h / 8) 0 % 16) = inside s (8 * (end_at h / 8)) 4 4 0 (end_at h) 8 _ _ (omega arith) refl (omega arith) (omega arith) r in
        let k : length (drop (end_at h) (bits_of s)) ≤ 4 = rw (length-drop, length_bits_of) (omega arith) in
        let y : get_or s (end_at h / 8) 0 % 16 ≡ value_from 0 (drop (end_at h) (bits_of s)) = x.is ∙ ap (value_from 0) (take_all 4 (drop (end_at h) (bits_of s)) k) in
        zero_bits ∙ (rw (← y))

  -- the test of the length and of the last byte
  pub end_is : good_end h s ≡ (eqb (length s) ((end_at h + 7) / 8) && (eqb (end_at h % 8) 0 || eqb (get_or s (end_at h / 8) 0 % 16) 0))
  end_is = go (ℕ_discrete (length s) ((end_at h + 7) / 8)) (ℕ_discrete (end_at h % 8) 0)
    where
      go : Dec (length s ≡ (end_at h + 7) / 8) → Dec (end_at h % 8 ≡ 0) → good_end h s ≡ (eqb (length s) ((end_at h + 7) / 8) && (eqb (end_at h % 8) 0 || eqb (get_or s (end_at h / 8) 0 % 16) 0))
      go (no l) d = rw (ne_eqb (length s) ((end_at h + 7) / 8) l) (other l)
      go (yes l) (yes z) = rw (eq-eqb (length s) ((end_at h + 7) / 8) l, eq-eqb (end_at h % 8) 0 z) (whole l z)
      go (yes l) (no z) = rw (eq-eqb (length s) ((end_at h + 7) / 8) l, ne_eqb (end_at h % 8) 0 z) (spare l z)
