-- Rows written where they begin, and the table after one more of them.
use Prim.Native.Nat.{ℕ, ◌+◌, ◌-◌, ◌*◌, ◌^◌, ◌≤◌, ◌<◌}
use mathlib.Core.Path.{◌≡◌, sym, ap, subst, ◌∙◌}
use mathlib.Core.List.{List}
use native.Mathlib.Decide.{dec_lt}
use native.Mathlib.Nat.{mul-le-mul_right}
use native.Mathlib.Omega.{arith}
use lib.Arith.{digits_lt}
use lib.ListN.{length, take, drop, length-append, length-take, length-drop, get_or-append, get_or-eq_default}
use lib.Seq.{get_or-take, get_or-drop, get_or-append-add, length-take-le}
use borrow.Rule.Slice.PartMut.{put_mid}
use Rattle.rules.specs.Words.{Stop, Time}
use Rattle.rules.specs.Lists.{at}
use Rattle.rules.specs.Plan.{leg_in}
use Rattle.rules.specs.Table.{table_word}
use Rattle.rules.specs.Calls.{table_left}
use Rattle.laws.proofs.TableLaws.{table_is}
use Rattle.exact.specs.Inner.{Sized, Words, Row, Put}

-- ---- the words of a row that are written
pub row_cut : {matrix : List Time} {n s : ℕ} {row : List Time} → Row matrix n s row → Row matrix n s (take (n - 1) row)
row_cut {n = n} {row = row} o = record { word = λ k low high. get_or-take (n - 1) row (k - 1) 0 (omega arith) ∙ o.word k low high }

-- ---- the table with its part from a on replaced by ys
module _ (t ys : List Time) (a : ℕ) (h : a ≤ length t) (e : length ys ≡ length t - a) where
  abbrev whole : List Time
  whole = put_mid a (length t - a) t ys

  whole_length : length whole ≡ length t
  whole_length =
      length-append (take a t) _ ∙ ap (λ z. length (take a t) + z) (length-append ys _)
      ∙ omega (arith, length-take-le a t h, length-drop (length t - a) (drop a t), length-drop a t)

  whole_before : (i : ℕ) → i < a → at whole i ≡ at t i
  whole_before i l = get_or-append (take a t) _ 0 i (omega (arith, length-take-le a t h)) ∙ get_or-take a t i 0 l

  whole_from : (j : ℕ) → j < length ys → at whole (a + j) ≡ at ys j
  whole_from j l =
      ap (λ z. at whole (z + j)) (sym (length-take-le a t h))
      ∙ get_or-append-add (take a t) _ j 0 ∙ get_or-append ys _ 0 j l

  -- where ys is what stood there, the table is as it was
  whole_same : (j : ℕ) → at ys j ≡ at (take (length t - a) (drop a t)) j → at whole (a + j) ≡ at t (a + j)
  whole_same j same = go (dec_lt j (length ys))
    where
      go : Dec (j < length ys) → at whole (a + j) ≡ at t (a + j)
      go (yes l) = whole_from j l ∙ same ∙ get_or-take (length t - a) (drop a t) j 0 (omega arith) ∙ get_or-drop a t j 0
      go (no l) =
          let x : length whole ≤ a + j = omega (arith, whole_length) in
          let y : length t ≤ a + j = omega arith in
          get_or-eq_default whole 0 x ∙ sym (get_or-eq_default t 0 y)

-- ---- the rows of the sets below s are in the table
pub record Filling (matrix : List Time) (n : ℕ) (table₀ table : List Time) (s : ℕ) : Type 0 where
  pub few : s ≤ 2 ^ (n - 1)
  pub long : length table ≡ length table₀
  pub words : Words matrix n table s
  pub beyond : (i : ℕ) → s * (n - 1) ≤ i → at table i ≡ at table₀ i

module _ {matrix : List Time} {n : ℕ} {table₀ : List Time} (z : Sized n matrix table₀) where
  pub fill_done : {table : List Time} {s : ℕ} → Filling matrix n table₀ table s → s ≡ 2 ^ (n - 1) → table ≡ table_left n matrix table₀
  unfolding table_left
  fill_done {table} f e =
      table_is (leg_in n matrix) (n - 1) table table₀ f.long z.room
      (λ p k l low high. f.words.word p k (omega arith) low (omega (arith, z.low)))
      (λ i l. f.beyond i (omega (arith, ap (λ x. x * (n - 1)) e)))

  module _ {t : List Time} {s : ℕ} (f : Filling matrix n table₀ t s) (b : s < 2 ^ (n - 1)) where
    -- the row ends within the table
    pub row_fits : s * (n - 1) + (n - 1) ≤ length t
    row_fits = omega (arith, mul-le-mul_right (n - 1) b, f.long, z.room)

    pub fill_next : {row ys : List Time} → length row ≡ n - 1 → Row matrix n s row → Put (take (length t - s * (n - 1)) (drop (s * (n - 1)) t)) row ys
        → Filling matrix n table₀ (put_mid (s * (n - 1)) (length t - s * (n - 1)) t ys) (s + 1)
    fill_next {row} {ys} c o p =
        record {
          few = omega arith;
          long = whole_length t ys a at_most same_long ∙ f.long;
          words = record { word = λ q k l low high. word q k low high l (dec_lt q s) };
          beyond = λ i l. let j : a + (i - a) ≡ i = omega arith in
              subst (λ x. at (put_mid a (length t - a) t ys) x ≡ at table₀ x) j
              (whole_same t ys a at_most same_long (i - a) (p.back (i - a) (omega arith)) ∙ f.beyond (a + (i - a)) (omega arith));
        }
      where
        a : ℕ
        a = s * (n - 1)

        at_most : a ≤ length t
        at_most = omega (arith, row_fits)

        same_long : length ys ≡ length t - a
        same_long = p.long ∙ omega (arith, length-take (length t - a) (drop a t), length-drop a t)

        word : (q : ℕ) (k : Stop) → 1 ≤ k → k < n → q < s + 1 → Dec (q < s)
            → at (put_mid a (length t - a) t ys) (q * (n - 1) + (k - 1)) ≡ table_word (leg_in n matrix) (n - 1) q k
        word q k low high l (yes y) =
            let c : k - 1 < n - 1 = omega arith in
            whole_before t ys a at_most same_long (q * (n - 1) + (k - 1)) (digits_lt y c) ∙ f.words.word q k y low high
        word q k low high l (no y) =
            let e : q ≡ s = omega arith in
            ap (λ x. at (put_mid a (length t - a) t ys) (x * (n - 1) + (k - 1))) e
            ∙ whole_from t ys a at_most same_long (k - 1) (omega (arith, row_fits, same_long))
            ∙ p.front (k - 1) (omega arith) ∙ o.word k low high ∙ ap (λ x. table_word (leg_in n matrix) (n - 1) x k) (sym e)
