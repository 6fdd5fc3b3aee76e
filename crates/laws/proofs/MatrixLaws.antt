-- A matrix of n rows is one list: its legs decide it.
use Prim.Native.Nat.{◌%◌, ◌*◌, ◌+◌, ◌/◌, ◌<◌, ◌≤◌, suc, zero, ℕ}
use mathlib.Core.Path.{◌∙◌, ◌≡◌, ap, sym}
use mathlib.Core.List.{List, map}
use native.Mathlib.Nat.{div-add-mod', div-lt_iff_lt-mul, mod-lt, suc-mul, zero-mul}
use native.Mathlib.Omega.{arith}
use lib.ListN.{get_or-append, length, length-append}
use lib.Seq.{ext_get_or, get_or-append-add}
use Rattle.rules.specs.Lists.{at, each, rising}
use Rattle.rules.specs.Sheets.{matrix_of}
use Rattle.rules.specs.Words.{Legs, Time}
use Rattle.laws.proofs.RisingLaws.{table_at, table_length}

-- rows of n cells each
module _ (n : ℕ) (f : ℕ → List ℕ) (l : (a : ℕ) → length (f a) ≡ n) where
  rows_length : (c a : ℕ) → length (each f (rising c a)) ≡ c * n
  unfolding each rising
  rows_length zero a = sym (zero-mul n)
  rows_length (suc c) a = length-append (f a) (each f (rising c (a + 1))) ∙ omega (arith, l a, rows_length c (a + 1), suc-mul c n)

  rows_at : (c a x y : ℕ) → x < c → y < n → at (each f (rising c a)) (x * n + y) ≡ at (f (a + x)) y
  unfolding each rising
  rows_at zero a x y h k = absurd (omega arith)
  rows_at (suc c) a zero y h k =
      let e : 0 * n + y ≡ y = omega (arith, zero-mul n) in
      let z : a + 0 ≡ a = omega arith in
      rw (e, z) (get_or-append (f a) (each f (rising c (a + 1))) 0 y (omega (arith, l a)))
  rows_at (suc c) a (suc x) y h k =
      let e : suc x * n + y ≡ length (f a) + (x * n + y) = omega (arith, l a, suc-mul x n) in
      let z : a + 1 + x ≡ a + suc x = omega arith in
      let m : x < c = omega arith in
      rw e (get_or-append-add (f a) (each f (rising c (a + 1))) (x * n + y) 0 ∙ rows_at c (a + 1) x y m k ∙ ap (λ (v : ℕ). at (f v) y) z)

module _ (d : Legs) (n : ℕ) where
  -- it has n * n cells
  pub matrix_length : length (matrix_of n d) ≡ n * n
  unfolding matrix_of
  matrix_length = rows_length n (λ a. map (d a) (rising n 0)) (λ a. table_length (d a) n) n 0

  -- each holds its leg
  pub matrix_at : (a b : ℕ) → a < n → b < n → at (matrix_of n d) (a * n + b) ≡ d a b
  unfolding matrix_of
  matrix_at a b u v =
      let z : 0 + a ≡ a = omega arith in
      rows_at n (λ a. map (d a) (rising n 0)) (λ a. table_length (d a) n) n 0 a b u v
      ∙ table_at (d (0 + a)) n b v
      ∙ ap (λ (x : ℕ). d x b) z

  -- and a list that holds each leg is the matrix
  pub matrix_is : (m : List Time) → 1 ≤ n → length m ≡ n * n → ((a b : ℕ) → a < n → b < n → at m (a * n + b) ≡ d a b) → m ≡ matrix_of n d
  matrix_is m p l g = ext_get_or 0 m (matrix_of n d) (l ∙ sym matrix_length) (λ i h. cell i (omega (arith, l)))
    where
      cell : (i : ℕ) → i < n * n → at m i ≡ at (matrix_of n d) i
      cell i h =
          let e : i / n * n + i % n ≡ i = div-add-mod' i n in
          let a : i / n < n = (div-lt_iff_lt-mul p).1 h in
          let b : i % n < n = mod-lt i p in
          ap (at m) (sym e) ∙ g (i / n) (i % n) a b ∙ sym (matrix_at (i / n) (i % n) a b) ∙ ap (at (matrix_of n d)) e
