-- The number that is given.
use Prim.Native.Nat.{ℕ, ◌-◌, ◌*◌, ◌^◌, ◌≤◌, ◌<◌}
use mathlib.Core.Path.{◌≡◌, refl, sym, ◌∙◌}
use mathlib.Core.Bool.{Bool, true, false, ◌&&◌}
use mathlib.Core.List.{List}
use mathlib.Core.Logic.{◌≢◌, ◌⊎◌, inl, inr}
use native.Mathlib.Omega.{arith}
use lib.Dec.{leb, eqb}
use lib.ListN.{length}
use borrow.Author.Tests.{le-leb, lt-leb, leb-true, eq-eqb, ne_eqb, eqb-true}
use Rattle.rules.specs.Words.{Time, Round}
use Rattle.rules.specs.Lists.{when◌then◌else◌}
use Rattle.rules.specs.Numbers.{verdict, within, exact_number}
use Rattle.laws.proofs.ChoiceLaws.{and-true}
use Rattle.exact.specs.Inner.{Ready}

-- the three checks
checks : Bool → Bool → Bool → ℕ
checks a b c = when a then (when b then (when c then 0 else 4) else 3) else 1

is_checks : (n : ℕ) (matrix : List Time) (round : Round) (table : List Time)
    → exact_number n matrix round table ≡ checks (leb 1 n && leb n 25) (eqb (length matrix) (n * n) && eqb (length round) n) (leb (2 ^ (n - 1) * (n - 1)) (length table))
unfolding checks exact_number verdict within
is_checks n matrix round table = refl

none_fails : (a b c : Bool) → checks a b c ≡ 0 → (a ≡ true) × (b ≡ true) × (c ≡ true)
unfolding checks
none_fails true true true e = (refl, refl, refl)
none_fails true true false e = absurd (omega arith)
none_fails true false c e = absurd (omega arith)
none_fails false b c e = absurd (omega arith)

-- the number of the first check that fails
module _ (n : ℕ) (matrix : List Time) (round : Round) (table : List Time) where
  pub outside : (n < 1) ⊎ ((1 ≤ n) × (25 < n)) → exact_number n matrix round table ≡ 1
  unfolding checks
  outside (inl h) = is_checks n matrix round table ∙ rw (lt-leb 1 n h)
  outside (inr h) = is_checks n matrix round table ∙ rw (le-leb 1 n h.0, lt-leb n 25 h.1)

  module _ (low : 1 ≤ n) (high : n ≤ 25) where
    pub odd : (length matrix ≢ n * n) ⊎ ((length matrix ≡ n * n) × (length round ≢ n)) → exact_number n matrix round table ≡ 3
    unfolding checks
    odd (inl h) = is_checks n matrix round table ∙ rw (le-leb 1 n low, le-leb n 25 high, ne_eqb (length matrix) (n * n) h)
    odd (inr h) =
        is_checks n matrix round table
        ∙ rw (le-leb 1 n low, le-leb n 25 high, eq-eqb (length matrix) (n * n) h.0, ne_eqb (length round) n h.1)

    module _ (cells : length matrix ≡ n * n) (stops : length round ≡ n) where
      pub small : length table < 2 ^ (n - 1) * (n - 1) → exact_number n matrix round table ≡ 4
      unfolding checks
      small h =
          is_checks n matrix round table
          ∙ rw (le-leb 1 n low, le-leb n 25 high, eq-eqb (length matrix) (n * n) cells, eq-eqb (length round) n stops, lt-leb (2 ^ (n - 1) * (n - 1)) (length table) h)

      pub all_fit : 2 ^ (n - 1) * (n - 1) ≤ length table → exact_number n matrix round table ≡ 0
      unfolding checks
      all_fit h =
          is_checks n matrix round table
          ∙ rw (le-leb 1 n low, le-leb n 25 high, eq-eqb (length matrix) (n * n) cells, eq-eqb (length round) n stops, le-leb (2 ^ (n - 1) * (n - 1)) (length table) h)

-- nothing is refused: the sizes are as they should be
pub ready : (n : ℕ) (matrix : List Time) (round : Round) (table : List Time) → exact_number n matrix round table ≡ 0 → Ready n matrix round table
ready n matrix round table e =
    let z = none_fails (leb 1 n && leb n 25) (eqb (length matrix) (n * n) && eqb (length round) n) (leb (2 ^ (n - 1) * (n - 1)) (length table)) (sym (is_checks n matrix round table) ∙ e) in
    let a = and-true (leb 1 n) (leb n 25) z.0 in
    let b = and-true (eqb (length matrix) (n * n)) (eqb (length round) n) z.1 in
    record {
      low = leb-true 1 n a.0;
      high = leb-true n 25 a.1;
      square = eqb-true (length matrix) (n * n) b.0;
      long = eqb-true (length round) n b.1;
      room = leb-true (2 ^ (n - 1) * (n - 1)) (length table) z.2;
    }
