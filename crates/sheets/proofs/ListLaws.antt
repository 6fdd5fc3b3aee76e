-- 6, entry by entry and stop by stop.
use Prim.Native.Nat.{ℕ, zero, suc, ◌+◌, ◌-◌, ◌*◌, ◌≤◌, ◌<◌}
use mathlib.Core.Path.{◌≡◌, refl, sym, ap, ◌∙◌}
use mathlib.Core.Bool.{Bool, true, false, not, ◌&&◌}
use mathlib.Core.List.{List}
use native.Mathlib.Nat.{mul-le-mul_right, suc-mul}
use native.Mathlib.Omega.{arith}
use lib.Dec.{eqb, ltb}
use lib.ListN.{length, drop}
use lib.Seq.{drop-drop}
use Rattle.std.specs.List.{list_all, range_with_len}
use Rattle.rules.specs.Lists.{every, rising}
use Rattle.rules.specs.Bits.{bits_of, field, fields}
use Rattle.rules.specs.Plan.{list_in, near_of, alpha_of}
use Rattle.rules.specs.Sheets.{Header, near_at, alpha_at, end_at, plan_on}
use Rattle.rules.specs.Numbers.{good_list}
use Rattle.laws.proofs.BitLaws.{fields_part}
use Rattle.sheets.specs.Sheet.{good_row, good_lists}

and_by : (a b c : Bool) → b ≡ c → (a && b) ≡ elim a [ true ↦ c | false ↦ false ]
and_by true b c e = e
and_by false b c e = refl

-- ---- a stop's list: a test of each entry, by the entry's place
entries : (p : ℕ → Bool) (at : ℕ) (bs : List ℕ) (k i : ℕ) → list_all (λ j. p (field bs (at + 12 * j) 12)) (range_with_len i k) ≡ every p (fields 12 k (drop (at + 12 * i) bs))
unfolding every fields field
entries p at bs zero i = refl
entries p at bs (suc k) i =
    let e : at + 12 * (i + 1) ≡ at + 12 * i + 12 = omega arith in
    and_by (p (field bs (at + 12 * i) 12)) _ _ (entries p at bs k (i + 1) ∙ ap (λ (z : ℕ). every p (fields 12 k (drop z bs))) e ∙ ap (λ (x : List ℕ). every p (fields 12 k x)) (sym (drop-drop 12 (at + 12 * i) bs)))

pub row_all : (bs : List ℕ) (at n k v : ℕ) → list_all (λ j. ltb (field bs (at + 12 * j) 12) n && not (eqb (field bs (at + 12 * j) 12) v)) (range_with_len 0 k) ≡ good_row n v (fields 12 k (drop at bs))
unfolding good_row
row_all bs at n k v =
    let z : at + 12 * 0 ≡ at = omega arith in
    entries (λ e. ltb e n && not (eqb e v)) at bs k 0 ∙ (rw z)

-- ---- all lists
module _ (bs : List ℕ) (at n k : ℕ) where
  row_is : (v : ℕ) → v < n → fields 12 k (drop (at + 12 * (v * k)) bs) ≡ list_in k (fields 12 (n * k) (drop at bs)) v
  unfolding list_in
  row_is v l =
      let room : v * k + k ≤ n * k = omega (arith, mul-le-mul_right k l, suc-mul v k) in
      sym (fields_part 12 (n * k) k (v * k) (drop at bs) room ∙ ap (fields 12 k) (drop-drop (12 * (v * k)) at bs))

  rows : (count v : ℕ) → v + count ≤ n →
      list_all (λ u. good_row n u (fields 12 k (drop (at + 12 * (u * k)) bs))) (range_with_len v count) ≡ every (λ u. good_row n u (list_in k (fields 12 (n * k) (drop at bs)) u)) (rising count v)
  unfolding every rising
  rows zero v l = refl
  rows (suc count) v l = rw (row_is v (omega arith)) (and_by (good_row n v (list_in k (fields 12 (n * k) (drop at bs)) v)) _ _ (rows count (v + 1) (omega arith)))

  pub list_is : list_all (λ v. good_row n v (fields 12 k (drop (at + 12 * (v * k)) bs))) (range_with_len 0 n) ≡ good_list n (list_in k (fields 12 (n * k) (drop at bs)))
  unfolding good_list good_row
  list_is = rows n 0 (omega arith)

-- ---- both lists of a sheet
module _ (h : Header) (s : List ℕ) (r : end_at h ≤ 8 * length s) (a b : ℕ) (e : a ≡ h.n * (h.n - 1)) (f : b ≡ h.n * h.k) where
  end_is : end_at h ≡ 128 + 8 * (h.n * (h.n - 1)) + 12 * (h.n * h.k) + 12 * (h.n * h.ka)
  unfolding end_at alpha_at near_at
  end_is = refl

  pub near_room : 128 + 8 * a + 12 * (h.n * h.k) ≤ 8 * length s
  near_room = omega (arith, r, end_is, e, f)

  pub alpha_room : 128 + 8 * a + 12 * b + 12 * (h.n * h.ka) ≤ 8 * length s
  alpha_room = omega (arith, r, end_is, e, f)

  -- the near list fails; it passes, and the alpha list decides
  pub near_bad : false ≡ good_list h.n (list_in h.k (fields 12 (h.n * h.k) (drop (128 + 8 * a) (bits_of s)))) → false ≡ good_lists h s
  unfolding good_lists plan_on near_of alpha_of near_at alpha_at
  near_bad x =
      let y : false ≡ good_list h.n (list_in h.k (fields 12 (h.n * h.k) (drop (128 + 8 * (h.n * (h.n - 1))) (bits_of s)))) = rw (← e) x in
      rw (← y)

  pub alpha_decides : (t : Bool) → true ≡ good_list h.n (list_in h.k (fields 12 (h.n * h.k) (drop (128 + 8 * a) (bits_of s)))) →
      t ≡ good_list h.n (list_in h.ka (fields 12 (h.n * h.ka) (drop (128 + 8 * a + 12 * b) (bits_of s)))) → t ≡ good_lists h s
  unfolding good_lists plan_on near_of alpha_of near_at alpha_at
  alpha_decides t x z =
      let y : true ≡ good_list h.n (list_in h.k (fields 12 (h.n * h.k) (drop (128 + 8 * (h.n * (h.n - 1))) (bits_of s)))) = rw (← e) x in
      let w : t ≡ good_list h.n (list_in h.ka (fields 12 (h.n * h.ka) (drop (128 + 8 * (h.n * (h.n - 1)) + 12 * (h.n * h.k)) (bits_of s)))) = rw (← e, ← f) z in
      rw (← y) w
