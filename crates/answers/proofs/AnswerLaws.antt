-- The whole answer, from its five parts.
use Prim.Native.Nat.{ℕ, ◌+◌, ◌*◌, ◌/◌, ◌%◌, ◌≤◌, ◌<◌}
use mathlib.Core.Path.{◌≡◌, sym, ap, ◌∙◌, subst}
use mathlib.Core.List.{List, ◌++◌, append_assoc}
use native.Mathlib.Nat.{zero-add}
use native.Mathlib.Omega.{arith}
use lib.ListN.{length, drop, length-append}
use Rattle.std.specs.Int.Bits.{bit_or}
use Rattle.std.proofs.lemmas.Nat.{or_shifted}
use Rattle.rules.specs.Lists.{each}
use Rattle.rules.specs.Bits.{bits, bytes_of}
use Rattle.rules.specs.Search.{Answer}
use Rattle.rules.specs.Sheets.{answer_bytes}
use Rattle.laws.proofs.BitLaws.{length_bits, bits_join, bytes_of_append, length_bytes_of}
use Rattle.bits.specs.Write.{Wrote}
use Rattle.bits.proofs.WriteLaws.{wrote_next}
use Rattle.answers.specs.Answers.{Written}

module _ (ended time units kicks : ℕ) (round : List ℕ) (small : ended < 4) (n : length round ≤ 4096) where
  abbrev whole : ℕ → Answer
  whole draw = record { round = round; time = time; units = units; kicks = kicks; ended = ended; draw = draw }

  -- the first word, as the code writes it: 1 << 28 | ended << 26 | n << 13
  abbrev word : ℕ
  word = bit_or (bit_or 268435456 (ended * 67108864 % 4294967296)) (length round * 8192 % 4294967296)

  word_is : word ≡ 1 * 268435456 + (ended * 67108864 + (length round * 8192 + 0))
  word_is =
      let a : bit_or 268435456 (ended * 67108864 % 4294967296) ≡ 268435456 + ended * 67108864 % 4294967296 = or_shifted 1 28 (ended * 67108864 % 4294967296) (omega arith) in
      let b : 268435456 + ended * 67108864 % 4294967296 ≡ (4 + ended) * 67108864 = omega arith in
      rw (a, b) (or_shifted (4 + ended) 26 (length round * 8192 % 4294967296) (omega arith) ∙ omega arith)

  pub word_bits : (rest : List ℕ) → bits 4 1 ++ (bits 2 ended ++ (bits 13 (length round) ++ (bits 13 0 ++ rest))) ≡ bits 32 word ++ rest
  word_bits rest =
      let a : bits 26 (length round * 8192 + 0) ≡ bits 13 (length round) ++ bits 13 0 = bits_join 13 13 (length round) 0 (omega arith) in
      let b : bits 28 (ended * 67108864 + (length round * 8192 + 0)) ≡ bits 2 ended ++ bits 26 (length round * 8192 + 0) = bits_join 2 26 ended (length round * 8192 + 0) (omega arith) in
      let c : bits 32 (1 * 268435456 + (ended * 67108864 + (length round * 8192 + 0))) ≡ bits 4 1 ++ bits 28 (ended * 67108864 + (length round * 8192 + 0))
      = bits_join 4 28 1 (ended * 67108864 + (length round * 8192 + 0)) (omega arith) in
      sym (ap (λ (z : ℕ). bits 32 z ++ rest) word_is ∙ (simp (c, b, a, append_assoc)))

  pub answer_parts : (draw : ℕ) → answer_bytes (whole draw) ≡ (((bytes_of (bits 32 word) ++ bytes_of (bits 32 time)) ++ bytes_of (bits 32 units)) ++ bytes_of (bits 32 kicks)) ++ bytes_of (each (bits 12) round)
  unfolding answer_bytes
  answer_parts draw =
      let e : (v : ℕ) (rest : List ℕ) → bytes_of (bits 32 v ++ rest) ≡ bytes_of (bits 32 v) ++ bytes_of rest = λ v rest. bytes_of_append 4 (bits 32 v) rest (length_bits 32 v) in
      ap bytes_of (simp append_assoc)
      ∙ ap bytes_of (word_bits (bits 32 time ++ (bits 32 units ++ (bits 32 kicks ++ each (bits 12) round))))
      ∙ e word _ ∙ ap (λ (z : List ℕ). bytes_of (bits 32 word) ++ z) (e time _ ∙ ap (λ (z : List ℕ). bytes_of (bits 32 time) ++ z) (e units _ ∙ ap (λ (z : List ℕ). bytes_of (bits 32 units) ++ z) (e kicks (each (bits 12) round))))
      ∙ (simp append_assoc)

  four : (v : ℕ) → length (bytes_of (bits 32 v)) ≡ 4
  four v = length_bytes_of (bits 32 v) ∙ ap (λ (z : ℕ). (z + 7) / 8) (length_bits 32 v)

  pub answer_written : (l a b c d r : List ℕ) → 16 ≤ length l → Wrote l 0 (bytes_of (bits 32 word)) a → Wrote a 4 (bytes_of (bits 32 time)) b → Wrote b 8 (bytes_of (bits 32 units)) c
      → Wrote c 12 (bytes_of (bits 32 kicks)) d → Wrote d 16 (bytes_of (each (bits 12) round)) r → Written round time units kicks ended l r
  answer_written l a b c d r h wa wb wc wd wr =
      let la : length (bytes_of (bits 32 word)) ≡ 4 = four word in
      let lb : length (bytes_of (bits 32 word) ++ bytes_of (bits 32 time)) ≡ 8 = length-append (bytes_of (bits 32 word)) (bytes_of (bits 32 time)) ∙ omega (arith, la, four time) in
      let lc : length ((bytes_of (bits 32 word) ++ bytes_of (bits 32 time)) ++ bytes_of (bits 32 units)) ≡ 12 = length-append (bytes_of (bits 32 word) ++ bytes_of (bits 32 time)) (bytes_of (bits 32 units)) ∙ omega (arith, lb, four units) in
      let ld : length (((bytes_of (bits 32 word) ++ bytes_of (bits 32 time)) ++ bytes_of (bits 32 units)) ++ bytes_of (bits 32 kicks)) ≡ 16
      = length-append ((bytes_of (bits 32 word) ++ bytes_of (bits 32 time)) ++ bytes_of (bits 32 units)) (bytes_of (bits 32 kicks)) ∙ omega (arith, lc, four kicks) in
      let ub : Wrote l 0 (bytes_of (bits 32 word) ++ bytes_of (bits 32 time)) b = wrote_next l 0 _ a 4 _ b (omega (arith, la)) (omega (arith, la)) wa wb in
      let uc : Wrote l 0 ((bytes_of (bits 32 word) ++ bytes_of (bits 32 time)) ++ bytes_of (bits 32 units)) c = wrote_next l 0 _ b 8 _ c (omega (arith, lb)) (omega (arith, lb)) ub wc in
      let ud : Wrote l 0 (((bytes_of (bits 32 word) ++ bytes_of (bits 32 time)) ++ bytes_of (bits 32 units)) ++ bytes_of (bits 32 kicks)) d = wrote_next l 0 _ c 12 _ d (omega (arith, lc)) (omega (arith, lc)) uc wd in
      let ur : Wrote l 0 ((((bytes_of (bits 32 word) ++ bytes_of (bits 32 time)) ++ bytes_of (bits 32 units)) ++ bytes_of (bits 32 kicks)) ++ bytes_of (each (bits 12) round)) r = wrote_next l 0 _ d 16 _ r (omega (arith, ld)) (omega (arith, ld)) ud wr in
      record {
        is = λ draw.
            let us : Wrote l 0 (answer_bytes (whole draw)) r = subst (λ (z : List ℕ). Wrote l 0 z r) (sym (answer_parts draw)) ur in
            us.is ∙ ap (λ (z : ℕ). answer_bytes (whole draw) ++ drop z l) (zero-add (length (answer_bytes (whole draw))));
      }
