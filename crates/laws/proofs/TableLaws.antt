-- 01, 13: the words of the subset table, each by the words of a smaller set, and the table as a whole.
use Prim.Native.Nat.{ℕ, zero, suc, ◌+◌, ◌-◌, ◌*◌, ◌/◌, ◌%◌, ◌^◌, ◌≤◌, ◌<◌}
use mathlib.Core.Path.{◌≡◌, refl, sym, ap, ◌∙◌}
use mathlib.Core.Bool.{true, false}
use mathlib.Core.List.{List, [], ◌∷◌, ◌++◌, map}
use native.Mathlib.Decide.{dec_lt}
use native.Mathlib.Nat.{div-add-mod', div-lt_iff_lt-mul, mod-lt}
use native.Mathlib.Omega.{arith}
use lib.ListN.{length, drop, length-append, length-drop, length-map, get_or-append}
use lib.Seq.{ext_get_or, get_or-append-add, get_or-drop}
use Rattle.rules.specs.Words.{Stop, Time, Legs}
use Rattle.rules.specs.Lists.{at, rising, each}
use Rattle.rules.specs.Start.{without}
use Rattle.rules.specs.Exact.{orders}
use Rattle.rules.specs.Table.{member, members, unreached, table_word, table_of}
use Rattle.laws.proofs.ChoiceLaws.{either_way}
use Rattle.laws.proofs.RisingLaws.{rising_at, rising_length}
use Rattle.laws.proofs.InLaws.{In}
use Rattle.laws.proofs.WithoutLaws.{up_without, length_without}
use Rattle.laws.proofs.SetLaws.{members_up, members_in, members_few}
use Rattle.laws.proofs.OnwardLaws.{onward, lowest, lowest_same, onward_step, Least, onward_least, least_low}

module _ (d : Legs) (m s : ℕ) where
  pub word_out : (k : Stop) → member s k ≡ false → table_word d m s k ≡ unreached
  unfolding table_word
  word_out k h = simp h

  pub word_in : (k : Stop) → member s k ≡ true → table_word d m s k ≡ onward d k (without k (members m s))
  unfolding table_word onward
  word_in k h = simp h

  -- a stop of the set: what the least walk on from it takes
  pub word_least : ((a b : Stop) → d a b ≤ 65535) → m ≤ 24 → (k : Stop) → In k (members m s) → Least d k (without k (members m s)) (table_word d m s k)
  word_least small few k h =
      let u = members_up s m in
      rw (word_in k (members_in s m k h).2)
      (onward_least d small k 1 (without k (members m s)) (up_without k 1 (members m s) u) (omega (arith, length_without k 1 u h, members_few s m)))

  pub word_small : (k : Stop) → table_word d m s k ≤ unreached
  unfolding table_word
  word_small k = either_way (λ (x : Time). x ≤ unreached) (member s k) (least_low d k unreached (orders (length (without k (members m s))) (without k (members m s)))) (omega arith)

  -- from stop k through the set and home, by the set's row
  pub onward_row : (k : Stop) → 0 < length (members m s) → onward d k (members m s) ≡ lowest (λ j. d k j + table_word d m s j) unreached (members m s)
  onward_row k h =
      onward_step d k 1 (members m s) (members_up s m) h
      ∙ lowest_same (λ j. d k j + onward d j (without j (members m s))) (λ j. d k j + table_word d m s j) unreached (members m s)
      (λ j z. ap (λ x. d k j + x) (sym (word_in j (members_in s m j z).2)))

-- ---- rows on end
module _ (f : ℕ → List ℕ) (w : ℕ) (long : (a : ℕ) → length (f a) ≡ w) where
  rows_length : (count a : ℕ) → length (each f (rising count a)) ≡ count * w
  unfolding each rising
  rows_length zero a = omega arith
  rows_length (suc count) a = length-append (f a) (each f (rising count (a + 1))) ∙ omega (arith, long a, rows_length count (a + 1))

  rows_at : (count a p j : ℕ) → p < count → j < w → at (each f (rising count a)) (p * w + j) ≡ at (f (a + p)) j
  unfolding each rising
  rows_at zero a p j h k = absurd (omega arith)
  rows_at (suc count) a zero j h k =
      let e : 0 * w + j ≡ j = omega arith in
      let z : a ≡ a + 0 = omega arith in
      rw e (get_or-append (f a) (each f (rising count (a + 1))) 0 j (omega (arith, long a)) ∙ ap (λ x. at (f x) j) z)
  rows_at (suc count) a (suc p) j h k =
      let e : suc p * w + j ≡ length (f a) + (p * w + j) = omega (arith, long a) in
      let z : a + 1 + p ≡ a + suc p = omega arith in
      rw e (get_or-append-add (f a) (each f (rising count (a + 1))) (p * w + j) 0 ∙ rows_at count (a + 1) p j (omega arith) k ∙ ap (λ x. at (f x) j) z)

some_of : (a w i : ℕ) → i < a * w → 0 < w
some_of a zero i h = absurd (omega arith)
some_of a (suc w) i h = omega arith

map_at : (f : ℕ → ℕ) (l : List ℕ) (i : ℕ) → i < length l → at (map f l) i ≡ f (at l i)
map_at f [] i h = absurd (omega arith)
map_at f (x ∷ l) zero h = refl
map_at f (x ∷ l) (suc i) h = map_at f l i (omega arith)

module _ (d : Legs) (m : ℕ) where
  row_length : (s : ℕ) → length (map (table_word d m s) (rising m 1)) ≡ m
  row_length s = length-map (rising m 1) (table_word d m s) ∙ rising_length m 1

  pub table_length : length (table_of d m) ≡ 2 ^ m * m
  unfolding table_of
  table_length = rows_length (λ s. map (table_word d m s) (rising m 1)) m row_length (2 ^ m) 0

  -- stop k of the set s
  pub table_at : (s : ℕ) (k : Stop) → s < 2 ^ m → 1 ≤ k → k ≤ m → at (table_of d m) (s * m + (k - 1)) ≡ table_word d m s k
  unfolding table_of
  table_at s k h low high =
      let j : k - 1 < m = omega arith in
      let e : 1 + (k - 1) ≡ k = omega arith in
      let z : 0 + s ≡ s = omega arith in
      rows_at (λ x. map (table_word d m x) (rising m 1)) m row_length (2 ^ m) 0 s (k - 1) h j
      ∙ map_at (table_word d m (0 + s)) (rising m 1) (k - 1) (omega (arith, rising_length m 1))
      ∙ ap (table_word d m (0 + s)) (rising_at m 1 (k - 1) j ∙ e) ∙ ap (λ x. table_word d m x k) z

  -- a table whose words are these, and which stayed what it was beyond them
  pub table_is : (t t₀ : List ℕ) → length t ≡ length t₀ → 2 ^ m * m ≤ length t₀
      → ((s : ℕ) (k : Stop) → s < 2 ^ m → 1 ≤ k → k ≤ m → at t (s * m + (k - 1)) ≡ table_word d m s k)
      → ((i : ℕ) → 2 ^ m * m ≤ i → at t i ≡ at t₀ i)
      → t ≡ table_of d m ++ drop (length (table_of d m)) t₀
  table_is t t₀ e room words beyond =
      ext_get_or 0 t (table_of d m ++ drop (length (table_of d m)) t₀)
      (omega (arith, length-append (table_of d m) (drop (length (table_of d m)) t₀), length-drop (length (table_of d m)) t₀, table_length))
      (λ i h. within i (dec_lt i (2 ^ m * m)))
    where
      within : (i : ℕ) → Dec (i < 2 ^ m * m) → at t i ≡ at (table_of d m ++ drop (length (table_of d m)) t₀) i
      within i (yes h) =
          let some : 0 < m = some_of (2 ^ m) m i h in
          let s = i / m in
          let k = i % m + 1 in
          let hs : s < 2 ^ m = (div-lt_iff_lt-mul some).1 h in
          let low : 1 ≤ k = omega arith in
          let high : k ≤ m = omega (arith, mod-lt i some) in
          let p : s * m + (k - 1) ≡ i = omega (arith, div-add-mod' i m) in
          ap (at t) (sym p) ∙ words s k hs low high ∙ sym (table_at s k hs low high) ∙ ap (at (table_of d m)) p
          ∙ sym (get_or-append (table_of d m) (drop (length (table_of d m)) t₀) 0 i (omega (arith, table_length)))
      within i (no h) =
          let p : length (table_of d m) + (i - length (table_of d m)) ≡ i = omega (arith, table_length) in
          beyond i (omega arith)
          ∙ sym (ap (at (table_of d m ++ drop (length (table_of d m)) t₀)) (sym p) ∙ get_or-append-add (table_of d m) (drop (length (table_of d m)) t₀) (i - length (table_of d m)) 0
          ∙ get_or-drop (length (table_of d m)) t₀ (i - length (table_of d m)) 0 ∙ ap (at t₀) p)
