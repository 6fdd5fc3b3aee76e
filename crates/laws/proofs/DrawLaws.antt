-- 01, "Draws": the step in the language's own operations, that a state other than 0 never becomes 0, and one draw after another.
use Prim.Native.Nat.{ℕ, zero, suc, ◌+◌, ◌-◌, ◌*◌, ◌/◌, ◌%◌, ◌^◌, ◌≤◌, ◌<◌}
use mathlib.Core.Path.{◌≡◌, refl, sym, ap, ◌∙◌}
use mathlib.Core.List.{List, [], ◌∷◌}
use native.Mathlib.Omega.{arith}
use native.Mathlib.Nat.{mod-lt, pow-suc, mul_right_comm}
use lib.ListN.{length}
use lib.Arith.{mod-mul}
use lib.Pow.{pow_pos}
use lib.Bits.{digits, differ, bit_xor, xor_step, xor_zero_l, xor_lt, xor_add_and, and_le_l, and_le_r}
use Rattle.rules.specs.Draws.{xor64, moved, drawn, Span, draws}

-- `xor64` is the exclusive or of the language on numbers of 64 bits
digits_xor : (k a b : ℕ) → a < 2 ^ k → digits (λ x. x) differ k a b ≡ bit_xor a b
digits_xor zero zero b h = sym (xor_zero_l b)
digits_xor zero (suc a) b h = absurd (omega arith)
digits_xor (suc k) zero b h = sym (xor_zero_l b)
digits_xor (suc k) (suc a) b h = ap (λ x. x * 2 + differ (suc a % 2) (b % 2)) (digits_xor k (suc a / 2) (b / 2) (omega (arith, pow-suc 2 k))) ∙ sym (xor_step (suc a) b)

xor64_is : (a b : ℕ) → a < 2 ^ 64 → xor64 a b ≡ bit_xor a b
unfolding xor64
xor64_is a b h = digits_xor 64 a b h

xor64_below : (a b : ℕ) → a < 2 ^ 64 → b < 2 ^ 64 → xor64 a b < 2 ^ 64
xor64_below a b ha hb = rw (xor64_is a b ha) (xor_lt 64 a b ha hb)

-- equal numbers alone give 0
xor-zero : (a b : ℕ) → bit_xor a b ≡ 0 → a ≡ b
xor-zero a b e = omega (arith, xor_add_and a b, and_le_l a b, and_le_r a b)

xor64_some : (a b : ℕ) → a < 2 ^ 64 → (a ≡ b → a ≡ 0) → 0 < a → 0 < xor64 a b
xor64_some a b ha h p = go (xor64 a b) refl
  where
    go : (r : ℕ) → xor64 a b ≡ r → 0 < r
    go zero e = omega (arith, h (xor-zero a b (sym (xor64_is a b ha) ∙ e)))
    go (suc r) e = omega arith

-- a shift to the left, bits above k dropped, keeps 0 alone
shift_zero : (k s x : ℕ) → x < 2 ^ k → x ≡ x * s * 2 % 2 ^ k → x ≡ 0
shift_zero zero s x h e = omega arith
shift_zero (suc k) s x h e =
    let y = x * s % 2 ^ k in
    let half : x * s * 2 / 2 ≡ x * s = omega arith in
    let twice : x ≡ y * 2 = omega (arith, e, rw pow-suc at e, rw half at (mod-mul (x * s * 2) {m = 2 ^ k} {c = 2} (pow_pos k) (omega arith))) in
    let again : y ≡ y * s * 2 % 2 ^ k = ap (λ v. v * s % 2 ^ k) twice ∙ ap (λ v. v % 2 ^ k) (mul_right_comm y 2 s) in
    omega (arith, twice, shift_zero k s y (mod-lt (x * s) (pow_pos k)) again)

-- r is a state of 64 bits, and other than 0 where x is
pub record Kept (x r : ℕ) : Type 0 where
  pub below : r < 2 ^ 64
  pub some : 0 < x → 0 < r

kept_left : (s x t : ℕ) → x < 2 ^ 64 → t ≡ x * s * 2 % 2 ^ 64 → Kept x (xor64 x t)
kept_left s x t h e =
    record {
      below = xor64_below x t h (omega arith);
      some = xor64_some x t h (λ same. shift_zero 64 s x h (same ∙ e));
    }

kept_right : (x : ℕ) → x < 2 ^ 64 → Kept x (xor64 x (x / 2 ^ 7))
kept_right x h =
    record {
      below = xor64_below x (x / 2 ^ 7) h (omega arith);
      some = xor64_some x (x / 2 ^ 7) h (λ same. omega arith);
    }

-- a state other than 0 never becomes 0
pub moved_kept : (x : ℕ) → x < 2 ^ 64 → Kept x (moved x)
unfolding moved
moved_kept x h =
    let y = xor64 x (x * 2 ^ 13 % 2 ^ 64) in
    let z = xor64 y (y / 2 ^ 7) in
    let ky : Kept x y = kept_left 4096 x (x * 2 ^ 13 % 2 ^ 64) h (omega arith) in
    let kz : Kept y z = kept_right y ky.below in
    let k : Kept z (xor64 z (z * 2 ^ 17 % 2 ^ 64)) = kept_left 65536 z (z * 2 ^ 17 % 2 ^ 64) kz.below (omega arith) in
    record { below = k.below; some = λ p. k.some (kz.some (ky.some p)) }

-- a step as the code takes it
pub moved_is : (x : ℕ) → x < 2 ^ 64
    → moved x ≡ bit_xor (bit_xor (bit_xor x (x * 2 ^ 13 % 2 ^ 64)) (bit_xor x (x * 2 ^ 13 % 2 ^ 64) / 2 ^ 7)) (bit_xor (bit_xor x (x * 2 ^ 13 % 2 ^ 64)) (bit_xor x (x * 2 ^ 13 % 2 ^ 64) / 2 ^ 7) * 2 ^ 17 % 2 ^ 64)
unfolding moved
moved_is x h =
    let y = bit_xor x (x * 2 ^ 13 % 2 ^ 64) in
    let hy : y < 2 ^ 64 = xor_lt 64 x (x * 2 ^ 13 % 2 ^ 64) h (mod-lt (x * 2 ^ 13) (omega arith)) in
    let z = bit_xor y (y / 2 ^ 7) in
    let hz : z < 2 ^ 64 = xor_lt 64 y (y / 2 ^ 7) hy (omega arith) in
    rw (xor64_is x (x * 2 ^ 13 % 2 ^ 64) h, xor64_is y (y / 2 ^ 7) hy, xor64_is z (z * 2 ^ 17 % 2 ^ 64) hz) refl

-- a draw lies from low to high
pub drawn_least : (low high new : ℕ) → low ≤ drawn low high new
unfolding drawn
drawn_least low high new = omega arith

pub drawn_most : (low high new : ℕ) → low ≤ high → drawn low high new ≤ high
unfolding drawn
drawn_most low high new h = omega (arith, mod-lt new {m = high - low + 1} (omega arith))

-- ---- one draw after another
-- spans that hold a number
pub data Wide : List Span → Type 0 where
  none : Wide []
  more : {s : Span} {ss : List Span} → s.low ≤ s.high → Wide ss → Wide (s ∷ ss)

-- values in their spans, one for each
pub data Within : List Span → List ℕ → Type 0 where
  none : Within [] []
  more : {s : Span} {ss : List Span} {v : ℕ} {vs : List ℕ} → s.low ≤ v → v ≤ s.high → Within ss vs → Within (s ∷ ss) (v ∷ vs)

module _ (s : Span) (ss : List Span) (x : ℕ) where
  pub draws_values : (draws (s ∷ ss) x).values ≡ drawn s.low s.high (moved x) ∷ (draws ss (moved x)).values
  unfolding draws
  draws_values = refl

  pub draws_state : (draws (s ∷ ss) x).state ≡ (draws ss (moved x)).state
  unfolding draws
  draws_state = refl

pub draws_within : (ss : List Span) (x : ℕ) → Wide ss → Within ss (draws ss x).values
unfolding draws
draws_within [] x none = none
draws_within (s ∷ ss) x (more h w) = more (drawn_least s.low s.high (moved x)) (drawn_most s.low s.high (moved x) h) (draws_within ss (moved x) w)

pub draws_long : (ss : List Span) (x : ℕ) → length (draws ss x).values ≡ length ss
unfolding draws
draws_long [] x = refl
draws_long (s ∷ ss) x = ap suc (draws_long ss (moved x))

pub draws_kept : (ss : List Span) (x : ℕ) → x < 2 ^ 64 → Kept x (draws ss x).state
unfolding draws
draws_kept [] x h = record { below = h; some = λ p. p }
draws_kept (s ∷ ss) x h =
    let k = moved_kept x h in
    let rest = draws_kept ss (moved x) k.below in
    record { below = rest.below; some = λ p. rest.some (k.some p) }
