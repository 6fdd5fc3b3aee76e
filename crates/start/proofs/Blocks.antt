-- The nearest stop left, by blocks.
use Prim.Native.Nat.{ℕ, ◌+◌, ◌≤◌, ◌<◌, min}
use mathlib.Core.Path.{◌≡◌, ap, ◌∙◌}
use mathlib.Core.List.{List}
use native.Mathlib.Omega.{arith}
use native.Mathlib.Decide.{ℕ_discrete, dec_lt}
use lib.Bits.{bit_or, or_zero_r, or_add_and, and_mask}
use Rattle.rules.specs.Words.{Stop, Time}
use Rattle.rules.specs.Lists.{at}
use Rattle.start.specs.Mask.{Mask, masked}
use Rattle.start.specs.Near.{Nearest, Hit, Lowest, First}
use Rattle.start.proofs.Scans.{one_more}

module _ (f : Stop → Time) where
  -- the least of a block, with one stop more
  pub lowest_next : {i j x x' : ℕ} → i ≤ j → f j ≤ 65535 → x' ≡ min x (f j) → Lowest f i j x → Lowest f i (j + 1) x'
  lowest_next {i} {j} {x} {x'} l few e h =
      record {
        top = omega (arith, h.top);
        short = λ v low high. one_more (λ (u : Stop). f u ≤ 65535) j few v high (h.short v low);
        least = λ v low high. one_more (λ (u : Stop). x' ≤ f u) j (omega arith) v high (λ high'. omega (arith, h.least v low high'));
        hit = λ s. go s (dec_lt (f j) x);
      }
    where
      go : x' < 65535 → Dec (f j < x) → Hit f i (j + 1) x'
      go s (yes q) = record { stop = j; low = l; high = omega arith; is = omega arith }
      go s (no q) =
          let z = h.hit (omega arith) in
          record { stop = z.stop; low = z.low; high = omega (arith, z.high); is = omega (arith, z.is) }

  -- the blocks before stop i: `best` is the least of all, and the first block that has it goes from `start` to `end`
  pub record Blocks (i best start end : ℕ) : Type 0 where
    pub top : best ≤ 65535
    pub short : (v : Stop) → v < i → f v ≤ 65535
    pub least : (v : Stop) → v < i → best ≤ f v
    pub inside : end ≤ i
    pub hit : best < 65535 → Hit f start end best
    pub first : (v : Stop) → v < start → best < f v

-- v is nowhere from i on and before j
module _ (f : Stop → Time) (i x : ℕ) where
  abbrev pub Missed : ℕ → Type 0
  Missed j = (v : Stop) → i ≤ v → v < j → f v ≡ x → ⊥

module _ (row mask : List ℕ) where
  -- a stop left counts with its leg, a visited one with 65535
  pub masked_left : (v : Stop) → at mask v ≡ 0 → masked row mask v ≡ at row v
  unfolding masked
  masked_left v z = ap (bit_or (at row v)) z ∙ or_zero_r (at row v)

  pub masked_gone : (v : Stop) → at mask v ≡ 65535 → 65535 ≤ masked row mask v
  unfolding masked
  masked_gone v z = omega (arith, ap (bit_or (at row v)) z, or_add_and (at row v) 65535, and_mask (at row v) 16)

  -- after the last block
  module _ {n : ℕ} (m : Mask n mask) {i best start end : ℕ}
      (b : Blocks (masked row mask) i best start end) (l : n ≤ i) (h : i ≤ n) where
    -- the first stop of the first block that has the least of all is the nearest
    pub by_blocks : {k : Stop} → best < 65535 → First (masked row mask) start end best k → Nearest (at row) n mask k
    by_blocks {k} s p = go (ℕ_discrete (at mask k) 0)
      where
        below : k < n
        below = omega (arith, p.high, b.inside)

        less : (v : Stop) → v < k → Dec (v < start) → best < masked row mask v
        less v y (yes q) = b.first v q
        less v y (no q) =
            let z : masked row mask v ≡ best → ⊥ = p.before v (omega arith) y in
            omega (arith, b.least v (omega (arith, below)))

        go : Dec (at mask k ≡ 0) → Nearest (at row) n mask k
        go (yes z) =
            let e = masked_left k z in
            record {
              below = below;
              free = z;
              near = λ v y u. omega (arith, e, p.is, masked_left v u, b.least v (omega arith));
              first = λ v y u. omega (arith, e, p.is, masked_left v u, less v y (dec_lt v start));
            }
        go (no z) = absurd (omega (arith, masked_gone k (m.flag k below z), p.is))

    -- where all stops left are at 65535, the first of them is the nearest
    pub by_none : {k : Stop} → best ≡ 65535 → First (at mask) 0 n 0 k → Nearest (at row) n mask k
    by_none {k} e p =
        record {
          below = p.high;
          free = p.is;
          near = λ v y u. omega (arith, masked_left v u, b.least v (omega arith), masked_left k p.is, b.short k (omega (arith, p.high)));
          first = λ v y u. absurd (p.before v (omega arith) y u);
        }
