-- The lowest stop of a set, as the machine finds it and takes it out.
use Prim.Native.Nat.{ℕ, zero, suc, ◌+◌, ◌-◌, ◌*◌, ◌/◌, ◌%◌, ◌^◌, ◌≤◌, ◌<◌, min}
use mathlib.Core.Path.{◌≡◌, refl, ap, ◌∙◌}
use mathlib.Core.Bool.{false}
use native.Mathlib.Decide.{dec_lt}
use native.Mathlib.Numerals.{add-one}
use native.Mathlib.Omega.{arith}
use lib.Bits.{bit_and, and_step, and_self}
use lib.Count.{count_trailing_zeros, under}
use lib.Pow.{pow_mono, pow_pos}
use borrow.Author.Tests.{eq-eqb, ne_eqb, eqb-false}
use Rattle.rules.specs.Words.{Stop}
use Rattle.rules.specs.Table.{member}
use Rattle.laws.proofs.SetLaws.{bit_half, off_fits, bit_set}
use Rattle.exact.specs.Inner.{Lowest, Rest}

-- the lowest bit of s that is set
record Low (s i : ℕ) : Type 0 where
  set : s / 2 ^ i % 2 ≡ 1
  clear : (j : ℕ) → j < i → s / 2 ^ j % 2 ≡ 0

low_half : (s i : ℕ) → s % 2 ≡ 0 → Low (s / 2) i → Low s (suc i)
low_half s i e h = record { set = rw (bit_half s i) h.set; clear = below }
  where
    below : (j : ℕ) → j < suc i → s / 2 ^ j % 2 ≡ 0
    below zero l = omega arith
    below (suc j) l = rw (bit_half s j) (h.clear j (omega arith))

half_low : (s i : ℕ) → Low s (suc i) → (s % 2 ≡ 0) × Low (s / 2) i
half_low s i h =
    let z : s / 1 % 2 ≡ 0 = h.clear 0 (omega arith) in
    (omega arith, record { set = rw (bit_half s i) at h.set; clear = λ j l. rw (bit_half s j) at (h.clear (suc j) (omega arith)) })

trailing : (width s : ℕ) → 0 < s → s < 2 ^ width → Low s (count_trailing_zeros width s)
unfolding count_trailing_zeros
trailing zero s h k = absurd (omega arith)
trailing (suc width) s h k = go (s % 2) refl (trailing width (s / 2))
  where
    go : (r : ℕ) → s % 2 ≡ r → (0 < s / 2 → s / 2 < 2 ^ width → Low (s / 2) (count_trailing_zeros width (s / 2))) → Low s (under r (count_trailing_zeros width (s / 2)))
    go zero e on = low_half s (count_trailing_zeros width (s / 2)) e (on (omega arith) (omega arith))
    go (suc r) e on = record { set = omega arith; clear = λ j l. absurd (omega arith) }

low_few : (s i : ℕ) → s < 16777216 → Low s i → i < 24
low_few s i h l = go (dec_lt i 24)
  where
    go : Dec (i < 24) → i < 24
    go (yes k) = k
    go (no k) = let z : 24 ≤ i = omega arith in absurd (omega (arith, off_fits s i l.set, pow_mono z))

bit_clear : (s j : ℕ) → member s (suc j) ≡ false → s / 2 ^ j % 2 ≡ 0
unfolding member
bit_clear s j h = let z = eqb-false (s / 2 ^ j % 2) 1 h in omega arith

clear_below : (s i : ℕ) → Low s i → (j : Stop) → j < suc i → member s j ≡ false
unfolding member
clear_below s i l zero b = refl
clear_below s i l (suc j) b = ne_eqb (s / 2 ^ j % 2) 1 (omega (arith, l.clear j (omega arith)))

-- the stop of the lowest bit
pub lowest_is : (s : ℕ) → 0 < s → s < 16777216 → (stop : Stop) → stop ≡ count_trailing_zeros 64 s + 1 → Lowest s stop
unfolding member
lowest_is s h k stop e =
    let l = trailing 64 s h (omega arith) in
    rw (e, add-one (count_trailing_zeros 64 s))
    (record {
      low = omega arith;
      high = omega (arith, low_few s (count_trailing_zeros 64 s) k l);
      there = eq-eqb (s / 2 ^ count_trailing_zeros 64 s % 2) 1 l.set;
      first = λ j b. clear_below s (count_trailing_zeros 64 s) l j b;
    })

-- without the lowest bit
and_less : (i s : ℕ) → Low s i → bit_and s (s - 1) ≡ s - 2 ^ i
and_less zero s h =
    let o : s / 1 % 2 ≡ 1 = h.set in
    let e : (s - 1) / 2 ≡ s / 2 = omega arith in
    and_step s (s - 1) ∙ ap (λ x. bit_and (s / 2) x * 2 + min (s % 2) ((s - 1) % 2)) e ∙ ap (λ x. x * 2 + min (s % 2) ((s - 1) % 2)) (and_self (s / 2)) ∙ omega arith
and_less (suc i) s h =
    let z = half_low s i h in
    let b = off_fits (s / 2) i z.1.set in
    let p : 0 < 2 ^ i = pow_pos i in
    let e : (s - 1) / 2 ≡ s / 2 - 1 = omega arith in
    and_step s (s - 1) ∙ ap (λ x. bit_and (s / 2) x * 2 + min (s % 2) ((s - 1) % 2)) e ∙ ap (λ x. x * 2 + min (s % 2) ((s - 1) % 2)) (and_less i (s / 2) z.1) ∙ omega arith

pub rest_is : (s : ℕ) → Rest s (bit_and s (s - 1))
rest_is s = record { is = taken }
  where
    bits : (i : ℕ) → Lowest s (suc i) → Low s i
    bits i l = record { set = bit_set s i l.there; clear = λ j b. bit_clear s j (l.first (suc j) (omega arith)) }

    taken : (k : Stop) → Lowest s k → bit_and s (s - 1) ≡ s - 2 ^ (k - 1)
    taken zero l = absurd (omega (arith, l.low))
    taken (suc i) l = let e : suc i - 1 ≡ i = omega arith in rw e (and_less i s (bits i l))
