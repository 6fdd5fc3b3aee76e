-- 01, 13: the sets of stops as numbers, a bit for each stop.
use Prim.Native.Nat.{ℕ, zero, suc, ◌-◌, ◌/◌, ◌%◌, ◌^◌, ◌≤◌, ◌<◌}
use mathlib.Core.Path.{◌≡◌, refl, sym, ap, ◌∙◌}
use mathlib.Core.Logic.{◌≢◌}
use mathlib.Core.Bool.{true, false}
use mathlib.Core.List.{List, [], ◌∷◌}
use native.Mathlib.Decide.{dec_le}
use native.Mathlib.Nat.{div-div-eq-div-mul, pow-succ'}
use native.Mathlib.Omega.{arith}
use lib.Dec.{eqb}
use lib.ListN.{length}
use lib.Pow.{pow_pos, pow_mono}
use borrow.Author.Tests.{eq-eqb, ne_eqb, eqb-true}
use Rattle.rules.specs.Words.{Stop}
use Rattle.rules.specs.Lists.{rising}
use Rattle.rules.specs.Start.{without}
use Rattle.rules.specs.Table.{member, members}
use Rattle.laws.proofs.ChoiceLaws.{true_false}
use Rattle.laws.proofs.InLaws.{In, in_keep, keep_in, keep_few, keep_none, keep_all, in_rising, rising_in, Up, up_rising, up_raise, up_keep}
use Rattle.laws.proofs.RisingLaws.{rising_length}
use Rattle.laws.proofs.WithoutLaws.{keep_without, least_first}

-- the bit above the lowest is a bit of the half
pub bit_half : (s j : ℕ) → s / 2 ^ suc j ≡ s / 2 / 2 ^ j
bit_half s j = ap (λ x. s / x) (pow-succ' 2 j) ∙ sym (div-div-eq-div-mul s 2 (2 ^ j))

-- one bit less
pub off_fits : (s i : ℕ) → s / 2 ^ i % 2 ≡ 1 → 2 ^ i ≤ s
off_fits s zero h = omega arith
off_fits s (suc i) h = let z = off_fits (s / 2) i (rw (bit_half s i) at h) in omega arith

pub off_same : (s i : ℕ) → s / 2 ^ i % 2 ≡ 1 → (s - 2 ^ i) / 2 ^ i % 2 ≡ 0
off_same s zero h = omega arith
off_same s (suc i) h =
    let k : s / 2 / 2 ^ i % 2 ≡ 1 = rw (bit_half s i) at h in
    let z = off_fits (s / 2) i k in
    let e : (s - 2 ^ suc i) / 2 ≡ s / 2 - 2 ^ i = omega arith in
    rw (bit_half (s - 2 ^ suc i) i, e) (off_same (s / 2) i k)

pub off_other : (s i j : ℕ) → s / 2 ^ i % 2 ≡ 1 → i ≢ j → (s - 2 ^ i) / 2 ^ j % 2 ≡ s / 2 ^ j % 2
off_other s zero zero h ne = absurd (ne refl)
off_other s zero (suc j) h ne =
    let e : (s - 1) / 2 ≡ s / 2 = omega arith in
    rw (bit_half (s - 1) j, bit_half s j, e)
off_other s (suc i) zero h ne =
    let z = off_fits (s / 2) i (rw (bit_half s i) at h) in
    omega arith
off_other s (suc i) (suc j) h ne =
    let k : s / 2 / 2 ^ i % 2 ≡ 1 = rw (bit_half s i) at h in
    let z = off_fits (s / 2) i k in
    let e : (s - 2 ^ suc i) / 2 ≡ s / 2 - 2 ^ i = omega arith in
    rw (bit_half (s - 2 ^ suc i) j, bit_half s j, e) (off_other (s / 2) i j k (λ q. ne (ap suc q)))

-- ---- the same of stops
-- the bit of a stop
abbrev pub bit_of : Stop → ℕ
bit_of k = 2 ^ (k - 1)

bit_of_lem : (i : ℕ) → bit_of (suc i) ≡ 2 ^ i
bit_of_lem i = let e : suc i - 1 ≡ i = omega arith in ap (λ x. 2 ^ x) e

pub bit_set : (s i : ℕ) → member s (suc i) ≡ true → s / 2 ^ i % 2 ≡ 1
unfolding member
bit_set s i h = eqb-true (s / 2 ^ i % 2) 1 h

pub member_fits : (s : ℕ) (k : Stop) → member s k ≡ true → bit_of k ≤ s
unfolding member
member_fits s zero h = absurd (true_false (sym h))
member_fits s (suc i) h = rw (bit_of_lem i) (off_fits s i (bit_set s i h))

pub member_below : (m s : ℕ) (k : Stop) → s < 2 ^ m → member s k ≡ true → k ≤ m
member_below m s k b h = go (dec_le k m)
  where
    go : Dec (k ≤ m) → k ≤ m
    go (yes l) = l
    go (no l) = let z : m ≤ k - 1 = omega arith in absurd (omega (arith, member_fits s k h, pow_mono z))

-- a set without one of its stops
module _ (s : ℕ) where
  pub less_same : (k : Stop) → member s k ≡ true → member (s - bit_of k) k ≡ false
  unfolding member
  less_same zero h = absurd (true_false (sym h))
  less_same (suc i) h = let e = off_same s i (bit_set s i h) in rw (bit_of_lem i) (ne_eqb ((s - 2 ^ i) / 2 ^ i % 2) 1 (omega arith))

  pub less_other : (k j : Stop) → member s k ≡ true → k ≢ j → member (s - bit_of k) j ≡ member s j
  unfolding member
  less_other zero j h ne = absurd (true_false (sym h))
  less_other (suc i) zero h ne = refl
  less_other (suc i) (suc j) h ne = rw (bit_of_lem i) (ap (λ x. eqb x 1) (off_other s i j (bit_set s i h) (λ q. ne (ap suc q))))

  pub members_less : (m : ℕ) (k : Stop) → member s k ≡ true → members m (s - bit_of k) ≡ without k (members m s)
  unfolding members
  members_less m k h = sym (keep_without (member s) (member (s - bit_of k)) k (less_same k h) (λ v ne. less_other k v h (λ e. ne (sym e))) (rising m 1))

  pub members_up : (m : ℕ) → Up 1 (members m s)
  unfolding members
  members_up m = up_keep (member s) 1 (rising m 1) (up_rising m 1)

  pub members_in : (m : ℕ) (k : Stop) → In k (members m s) → (1 ≤ k) × (k ≤ m) × (member s k ≡ true)
  unfolding members
  members_in m k h =
      let r = keep_in (member s) (rising m 1) h in
      let z = rising_in m 1 r.0 in
      (z.0, omega arith, r.1)

  pub in_members : (m : ℕ) (k : Stop) → 1 ≤ k → k ≤ m → member s k ≡ true → In k (members m s)
  unfolding members
  in_members m k low high h = in_keep (member s) (in_rising m 1 k low (omega arith)) h

  pub members_few : (m : ℕ) → length (members m s) ≤ m
  unfolding members
  members_few m = omega (arith, keep_few (member s) (rising m 1), rising_length m 1)

  -- the lowest stop of a set stands first
  pub members_first : (m : ℕ) (k : Stop) → 1 ≤ k → k ≤ m → member s k ≡ true → ((j : Stop) → j < k → member s j ≡ false)
      → members m s ≡ k ∷ members m (s - bit_of k)
  members_first m k low high h first =
      least_first k (members m s) (up_raise 1 k (members m s) (members_up m) least) (in_members m k low high h)
      ∙ ap (λ (r : List Stop). k ∷ r) (sym (members_less m k h))
    where
      least : (v : Stop) → In v (members m s) → k ≤ v
      least v z = not_below (dec_le k v)
        where
          not_below : Dec (k ≤ v) → k ≤ v
          not_below (yes l) = l
          not_below (no l) = absurd (true_false (sym (members_in m v z).2 ∙ first v (omega arith)))

-- ---- no stop, and all of them
bit_none : (j : ℕ) → 0 / 2 ^ j % 2 ≡ 0
bit_none zero = refl
bit_none (suc j) = rw (bit_half 0 j) (bit_none j)

pub member_none : (k : Stop) → member 0 k ≡ false
unfolding member
member_none zero = refl
member_none (suc j) = rw (bit_none j)

pub members_none : (m : ℕ) → members m 0 ≡ []
unfolding members
members_none m = keep_none (member 0) member_none (rising m 1)

bit_full : (m j : ℕ) → j < m → (2 ^ m - 1) / 2 ^ j % 2 ≡ 1
bit_full zero j h = absurd (omega arith)
bit_full (suc m) zero h = omega (arith, pow_pos m)
bit_full (suc m) (suc j) h =
    let e : (2 ^ suc m - 1) / 2 ≡ 2 ^ m - 1 = omega (arith, pow_pos m) in
    rw (bit_half (2 ^ suc m - 1) j, e) (bit_full m j (omega arith))

pub member_full : (m : ℕ) (k : Stop) → 1 ≤ k → k ≤ m → member (2 ^ m - 1) k ≡ true
unfolding member
member_full m zero low high = absurd (omega arith)
member_full m (suc j) low high = eq-eqb ((2 ^ m - 1) / 2 ^ j % 2) 1 (bit_full m j (omega arith))

pub members_full : (m : ℕ) → members m (2 ^ m - 1) ≡ rising m 1
unfolding members
members_full m = keep_all (member (2 ^ m - 1)) (rising m 1) (λ v h. let z = rising_in m 1 h in member_full m v z.0 (omega arith))
