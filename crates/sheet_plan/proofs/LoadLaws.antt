-- The triangle's legs, the matrix cell by cell, and a list entry by entry.
use Prim.Native.Nat.{ℕ, ◌+◌, ◌-◌, ◌*◌, ◌/◌, ◌%◌, ◌≤◌, ◌<◌}
use mathlib.Core.Path.{◌≡◌, sym, ap, ◌∙◌}
use mathlib.Core.Logic.{◌≢◌}
use mathlib.Core.List.{List}
use native.Mathlib.Omega.{arith}
use native.Mathlib.Decide.{dec_lt}
use lib.Arith.{digits_div, digits_mod, digits_lt}
use lib.ListN.{length, get_or, drop, set}
use lib.Seq.{get_or-set_same, get_or-set_other, ext_get_or}
use Rattle.rules.specs.Bits.{bits_of, field, fields}
use Rattle.rules.specs.Sheets.{triangle_at, matrix_of}
use Rattle.laws.proofs.BitLaws.{get_d_fields, length_fields, field_drop}
use Rattle.laws.proofs.MatrixLaws.{matrix_is}
use Rattle.laws.proofs.TriangleLaws.{triangle_within}
use Rattle.bits.specs.Read.{Reads}
use Rattle.sheet_plan.specs.Load.{triangle_in}

-- ---- the triangle
module _ (s : List ℕ) (n a b : ℕ) (l : a < b) (h : b < n) where
  pub leg_room : 16 + n * (n - 1) ≤ length s → 16 + 2 * (a * (2 * n - a - 1) / 2 + (b - a - 1)) + 1 < length s
  leg_room r = room (a * (2 * n - a - 1) / 2 + (b - a - 1)) (n * (n - 1)) (length s) (triangle_within n a b l h) r
    where
      room : (x y z : ℕ) → x < y / 2 → 16 + y ≤ z → 16 + 2 * x + 1 < z
      room x y z u v = omega arith

  pub leg_is : (r : ℕ) → Reads s (8 * (16 + 2 * (a * (2 * n - a - 1) / 2 + (b - a - 1)))) 16 r → r ≡ get_or (triangle_in n s) (triangle_at n a b) 0
  unfolding triangle_in triangle_at
  leg_is r x =
      let p : 128 + 16 * (a * (2 * n - a - 1) / 2 + (b - a - 1)) ≡ 8 * (16 + 2 * (a * (2 * n - a - 1) / 2 + (b - a - 1))) = omega arith in
      x.is ∙ ap (λ (z : ℕ). field (bits_of s) z 16) (sym p)
      ∙ sym (get_d_fields 16 (n * (n - 1) / 2) (drop 128 (bits_of s)) (a * (2 * n - a - 1) / 2 + (b - a - 1)) (triangle_within n a b l h)
      ∙ field_drop (bits_of s) 128 (16 * (a * (2 * n - a - 1) / 2 + (b - a - 1))) 16)

-- cell (a, b) is written behind those that hold their legs
pub cell_filled : (n : ℕ) (d : ℕ → ℕ → ℕ) (m : List ℕ) (a b v : ℕ) → b < n → a * n + b < length m → v ≡ d a b → ((k : ℕ) → k < a * n + b → get_or m k 0 ≡ d (k / n) (k % n))
    → (k : ℕ) → k < a * n + (b + 1) → get_or (set m (a * n + b) v) k 0 ≡ d (k / n) (k % n)
cell_filled n d m a b v h l e g k j = go (dec_lt k (a * n + b))
  where
    go : Dec (k < a * n + b) → get_or (set m (a * n + b) v) k 0 ≡ d (k / n) (k % n)
    go (yes u) = let o : k ≢ a * n + b = omega arith in get_or-set_other m (a * n + b) k v 0 o ∙ g k u
    go (no u) =
        let i : k ≡ a * n + b = omega arith in
        rw (i, get_or-set_same m (a * n + b) v 0 l, digits_div a h, digits_mod a h) e

-- a list that holds each leg is the matrix
pub matrix_filled : (n : ℕ) (d : ℕ → ℕ → ℕ) (m : List ℕ) → 1 ≤ n → length m ≡ n * n → ((k : ℕ) → k < length m → get_or m k 0 ≡ d (k / n) (k % n)) → m ≡ matrix_of n d
matrix_filled n d m p l g =
    matrix_is d n m p l (λ a b h k. g (a * n + b) (omega (arith, digits_lt h k, l)) ∙ ap (λ (z : ℕ). d z ((a * n + b) % n)) (digits_div a k) ∙ ap (d a) (digits_mod a k))

-- a list that holds each entry is the list
pub list_filled : (bs list : List ℕ) (at n : ℕ) → length list ≡ n → ((k : ℕ) → k < n → get_or list k 0 ≡ field bs (at + 12 * k) 12) → list ≡ fields 12 n (drop at bs)
list_filled bs list at n l g =
    ext_get_or 0 list (fields 12 n (drop at bs)) (l ∙ sym (length_fields 12 n (drop at bs)))
    (λ x h. g x (omega (arith, l)) ∙ sym (get_d_fields 12 n (drop at bs) x (omega (arith, l)) ∙ field_drop bs at (12 * x) 12))
