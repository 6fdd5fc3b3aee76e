-- A word of the table where it is read, and the scan of a set for the cheapest walk through it.
use Prim.Native.Nat.{ℕ, ◌+◌, ◌-◌, ◌*◌, ◌%◌, ◌^◌, ◌≤◌, ◌<◌, min}
use mathlib.Core.Path.{◌≡◌, refl, sym, ap, ◌∙◌}
use mathlib.Core.List.{List, ◌∷◌}
use native.Mathlib.Omega.{arith}
use lib.ListN.{length}
use lib.Count.{count_trailing_zeros}
use lib.Pow.{pow_mono, pow_pos}
use Rattle.rules.specs.Words.{Stop, Time}
use Rattle.rules.specs.Lists.{at}
use Rattle.rules.specs.Plan.{leg_in}
use Rattle.rules.specs.SharedWords.{Square}
use Rattle.rules.specs.Table.{members, unreached, table_word}
use Rattle.laws.proofs.SetLaws.{members_first, members_none, member_below, member_fits}
use Rattle.laws.proofs.OnwardLaws.{onward, onward_home, lowest}
use Rattle.laws.proofs.TableLaws.{word_small, onward_row}
use Rattle.exact.specs.Inner.{Sized, Words, Lowest, Rest, Via}
use Rattle.exact.proofs.Bits.{lowest_is}

pub square : {n : ℕ} {matrix table : List Time} → Sized n matrix table → Square matrix n
square z = record { few = omega (arith, z.high); cells = z.square }

-- sets are few
pub sets_few : (n : ℕ) → n ≤ 25 → 2 ^ (n - 1) ≤ 16777216
sets_few n h = let z : n - 1 ≤ 24 = omega arith in pow_mono z

module _ {matrix : List Time} {n : ℕ} {table : List Time} {sets : ℕ} (words : Words matrix n table sets) {set : ℕ} (b : set < sets) {j : Stop} (low : 1 ≤ j) (high : j < n) where
  cell_is : at table (set * (n - 1) + (j - 1)) ≡ table_word (leg_in n matrix) (n - 1) set j
  cell_is = words.word set j b low high

  pub cell_small : at table (set * (n - 1) + (j - 1)) ≤ 2147483647
  unfolding unreached
  cell_small = rw cell_is (word_small (leg_in n matrix) (n - 1) set j)

  pub via_is : {a : Stop} {leg : Time} → leg ≡ leg_in n matrix a j → leg ≤ 65535 → Via matrix n set a j (leg + at table (set * (n - 1) + (j - 1)))
  via_is is small = record { is = cc (is, cell_is); small = omega (arith, cell_small) }

-- the machine's shift
pub shifted : (n : ℕ) → n ≤ 25 → 1 * 2 ^ (n - 1) % 18446744073709551616 ≡ 2 ^ (n - 1)
shifted n h = omega (arith, sets_few n h)

pub shifted_rows : (n : ℕ) → n ≤ 25 → 1 * 2 ^ (n - 1) % 18446744073709551616 * (n - 1) ≡ 2 ^ (n - 1) * (n - 1)
shifted_rows n h = ap (λ x. x * (n - 1)) (shifted n h)

-- ---- the scan of a set, lowest stop first
module _ (m : ℕ) {s : ℕ} {k : Stop} (b : s < 2 ^ m) (l : Lowest s k) where
  pub lowest_below : k ≤ m
  lowest_below = member_below m s k b l.there

  pub opens : members m s ≡ k ∷ members m (s - 2 ^ (k - 1))
  opens = members_first s m k l.low lowest_below l.there l.first

  pub rest_less : {r : ℕ} → Rest s r → r < s
  rest_less h = omega (arith, h.is k l, member_fits s k l.there, pow_pos (k - 1))

-- a stop of a set is one of the n
pub stop_in : {n s : ℕ} {k : Stop} → 2 ≤ n → s < 2 ^ (n - 1) → Lowest s k → (1 ≤ k) × (k < n)
stop_in {n} two b l = (l.low, omega (arith, lowest_below (n - 1) b l))

-- a set that is not empty has a stop
pub members_some : (m s : ℕ) → m ≤ 24 → s < 2 ^ m → 0 < s → 0 < length (members m s)
members_some m s few b h =
    let f : s < 16777216 = omega (arith, pow_mono few) in
    omega (arith, ap length (opens m b (lowest_is s h f (count_trailing_zeros 64 s + 1) refl)))

-- on from stop k by the stops of a set
abbrev pub on_by : List Time → ℕ → ℕ → Stop → Stop → Time
on_by matrix n set k j = leg_in n matrix k j + table_word (leg_in n matrix) (n - 1) set j

-- the stops of `left` are still to be looked at
pub record Scan (matrix : List Time) (n set : ℕ) (k : Stop) (least : Time) (left : ℕ) : Type 0 where
  pub within : left < 2 ^ (n - 1)
  pub same : lowest (on_by matrix n set k) least (members (n - 1) left) ≡ lowest (on_by matrix n set k) unreached (members (n - 1) set)

pub scan_starts : (matrix : List Time) (n set : ℕ) (k : Stop) → set < 2 ^ (n - 1) → (least : Time) → least ≡ 2147483647 → Scan matrix n set k least set
unfolding unreached
scan_starts matrix n set k b least e = record { within = b; same = ap (λ x. lowest (on_by matrix n set k) x (members (n - 1) set)) e }

module _ {matrix : List Time} {n set : ℕ} {k : Stop} {least : Time} {left : ℕ} (h : Scan matrix n set k least left) where
  pub scan_next : {j : Stop} → Lowest left j → {r : ℕ} → Rest left r → {time : Time} → Via matrix n set k j time → {least' : Time} → least' ≡ min least time
      → Scan matrix n set k least' r
  unfolding lowest
  scan_next {j} l {r} t v e =
      record {
        within = omega (arith, h.within, rest_less (n - 1) h.within l t);
        same = ap (λ x. lowest (on_by matrix n set k) x (members (n - 1) r)) (e ∙ ap (min least) v.is)
            ∙ ap (λ x. lowest (on_by matrix n set k) (min least (on_by matrix n set k j)) (members (n - 1) x)) (t.is j l)
            ∙ sym (ap (lowest (on_by matrix n set k) least) (opens (n - 1) h.within l)) ∙ h.same;
      }

  -- nothing is left: the cheapest is found
  pub scan_done : n ≤ 25 → set < 2 ^ (n - 1) → (set ≡ 0 → ⊥) → left ≡ 0 → least ≡ onward (leg_in n matrix) k (members (n - 1) set)
  unfolding lowest
  scan_done few b some e =
      sym (ap (lowest (on_by matrix n set k) least) (ap (members (n - 1)) e ∙ members_none (n - 1))) ∙ h.same
      ∙ sym (onward_row (leg_in n matrix) (n - 1) set k (members_some (n - 1) set (omega arith) b (omega arith)))

-- the set is empty: home
pub home : (matrix : List Time) (n set : ℕ) (k : Stop) → set ≡ 0 → (leg : Time) → leg ≡ leg_in n matrix k 0 → leg ≤ 65535 → leg ≡ onward (leg_in n matrix) k (members (n - 1) set)
unfolding unreached
home matrix n set k e leg is small =
    is ∙ sym (ap (onward (leg_in n matrix) k) (ap (members (n - 1)) e ∙ members_none (n - 1)) ∙ onward_home (leg_in n matrix) k (omega arith))
