-- 01, "Sheets": where a leg stands in the upper triangle, and which legs a sheet's matrix holds.
use Prim.Native.Nat.{◌*◌, ◌+◌, ◌-◌, ◌/◌, ◌<◌, ◌≤◌, ℕ}
use mathlib.Core.Path.{◌∙◌, ◌≡◌, ap, sym}
use mathlib.Core.List.{List}
use native.Mathlib.Nat.{add-mul, max-eq_left, max-eq_right, min-eq_left, min-eq_right, mul-add, mul_assoc, mul_comm, mul-le-mul_left, mul-one, one-mul}
use native.Mathlib.Omega.{arith}
use native.Mathlib.Decide.{dec_lt}
use borrow.Author.Tests.{eq-eqb, ne_eqb}
use Rattle.rules.specs.Lists.{at}
use Rattle.rules.specs.Sheets.{triangle_at, triangle_leg}
use Rattle.rules.specs.Words.{Stop, Time}

-- with m stops above a: what the rows up to a's hold
rows : (a m : ℕ) → (a + m + 1) * (a + m) ≡ a * (a + 2 * m + 1) + m * (m + 1)
rows a m =
    omega (
      arith,
      add-mul (a + m) 1 (a + m),
      add-mul a m (a + m),
      mul-add a a m,
      mul-add m a m,
      mul_comm m a,
      one-mul (a + m),
      mul-add a (a + 2 * m) 1,
      mul-add a a (2 * m),
      mul-one a,
      two,
      mul-add m m 1,
      mul-one m,
    )
  where
    two : a * (2 * m) ≡ 2 * (a * m)
    two = sym (mul_assoc a 2 m) ∙ ap (λ (x : ℕ). x * m) (mul_comm a 2) ∙ mul_assoc 2 a m

halves : (x n y m k : ℕ) → n ≡ x + y → m * 2 ≤ y → k < m → x / 2 + k < n / 2
halves x n y m k p q l = omega arith

between : (n : ℕ) (a b : Stop) → a < b → b < n → b - a - 1 < n - a - 1
between n a b l h = omega arith

-- a leg stands within the triangle
pub triangle_within : (n : ℕ) (a b : Stop) → a < b → b < n → a * (2 * n - a - 1) / 2 + (b - a - 1) < n * (n - 1) / 2
triangle_within n a b l h =
    let e : n ≡ a + (n - a - 1) + 1 = omega arith in
    let f : n - 1 ≡ a + (n - a - 1) = omega arith in
    let g : 2 * n - a - 1 ≡ a + 2 * (n - a - 1) + 1 = omega arith in
    let p : n * (n - 1) ≡ a * (2 * n - a - 1) + (n - a - 1) * (n - a - 1 + 1)
    = ap (λ (x : ℕ). x * (n - 1)) e ∙ ap (λ (x : ℕ). (a + (n - a - 1) + 1) * x) f ∙ rows a (n - a - 1) ∙ ap (λ (x : ℕ). a * x + (n - a - 1) * (n - a - 1 + 1)) (sym g) in
    let q : (n - a - 1) * 2 ≤ (n - a - 1) * (n - a - 1 + 1) = mul-le-mul_left (n - a - 1) (omega arith) in
    halves (a * (2 * n - a - 1)) (n * (n - 1)) ((n - a - 1) * (n - a - 1 + 1)) (n - a - 1) (b - a - 1) p q (between n a b l h)

module _ (n : ℕ) (t : List Time) (a b : Stop) where
  -- the diagonal
  pub leg_same : a ≡ b → 0 ≡ triangle_leg n t a b
  unfolding triangle_leg
  leg_same e = rw (eq-eqb a b e)

  -- above it
  pub leg_up : a < b → triangle_leg n t a b ≡ at t (triangle_at n a b)
  unfolding triangle_leg
  leg_up l =
      let d : a ≡ b → ⊥ = λ e. omega arith in
      let k : a ≤ b = omega arith in
      rw (ne_eqb a b d, min-eq_left k, max-eq_right k)

  -- below it: "a leg and its return are one"
  pub leg_down : b < a → triangle_leg n t a b ≡ at t (triangle_at n b a)
  unfolding triangle_leg
  leg_down l =
      let d : a ≡ b → ⊥ = λ e. omega arith in
      let k : b ≤ a = omega arith in
      rw (ne_eqb a b d, min-eq_right k, max-eq_left k)

-- so it takes as long as its return
pub leg_return : (n : ℕ) (t : List Time) (a b : Stop) → triangle_leg n t a b ≡ triangle_leg n t b a
leg_return n t a b = go (dec_lt a b) (dec_lt b a)
  where
    go : Dec (a < b) → Dec (b < a) → triangle_leg n t a b ≡ triangle_leg n t b a
    go (yes u) v = leg_up n t a b u ∙ sym (leg_down n t b a u)
    go (no u) (yes v) = leg_down n t a b v ∙ sym (leg_up n t b a v)
    go (no u) (no v) = sym (leg_same n t a b (omega arith)) ∙ leg_same n t b a (omega arith)
