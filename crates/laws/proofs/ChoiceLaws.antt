-- Choices and tests: what holds of both branches holds of the choice.
use Prim.Native.Nat.{suc, zero, ℕ}
use mathlib.Core.Path.{◌≡◌, refl, subst, sym}
use mathlib.Core.Bool.{Bool, ◌&&◌, ◌||◌, false, not, true}
use mathlib.Core.Logic.{◌⊎◌, inl, inr}
use lib.Dec.{T}
use Rattle.rules.specs.Lists.{when◌then◌else◌}

module _ {A : Type 0} (Q : A → Type 0) where
  -- a choice by a test
  pub either_way : (b : Bool) {x y : A} → Q x → Q y → Q (when b then x else y)
  either_way true h k = h
  either_way false h k = k

  -- the same, with what the test said
  pub either_if : (b : Bool) {x y : A} → (b ≡ true → Q x) → (b ≡ false → Q y) → Q (when b then x else y)
  either_if true h k = h refl
  either_if false h k = k refl

  -- a choice by a gain, 0 or more
  pub by_gain : (m : ℕ) {x : A} {y : ℕ → A} → (m ≡ 0 → Q x) → ((g : ℕ) → m ≡ suc g → Q (y g)) → Q (elim m as (λ i. A) [ zero ↦ x | suc g ↦ y g ])
  by_gain zero h k = h refl
  by_gain (suc g) h k = k g refl

-- a test holds or fails
pub either : (b : Bool) → (b ≡ true) ⊎ (b ≡ false)
either true = inl refl
either false = inr refl

-- true is not false
pub true_false : true ≡ false → ⊥
true_false e = subst T e tt

-- what is not true is false
pub not_so : (t : Bool) → (t ≡ true → ⊥) → t ≡ false
not_so true h = absurd (h refl)
not_so false h = refl

-- two tests that hold together are equal
pub equal_tests : (a b : Bool) → (a ≡ true → b ≡ true) → (b ≡ true → a ≡ true) → a ≡ b
equal_tests true b f g = sym (f refl)
equal_tests false true f g = g refl
equal_tests false false f g = refl

-- two tests that both hold
pub true-and : (a b : Bool) → a ≡ true → b ≡ true → (a && b) ≡ true
true-and true b e f = f
true-and false b e f = e

-- and the other way
pub and-true : (a b : Bool) → (a && b) ≡ true → (a ≡ true) × (b ≡ true)
and-true true b e = (refl, e)
and-true false b e = absurd (true_false (sym e))

-- the same of a test that is only made where another holds
pub both_true : (a b : Bool) → (when a then b else false) ≡ true → (a ≡ true) × (b ≡ true)
both_true true b e = (refl, e)
both_true false b e = absurd (true_false (sym e))

-- two tests of which none does
pub nor_true : (a b : Bool) → not (a || b) ≡ true → (a ≡ false) × (b ≡ false)
nor_true true b e = absurd (true_false (sym e))
nor_true false true e = absurd (true_false (sym e))
nor_true false false e = (refl, refl)

-- or with a known test
pub or-false : (a : Bool) → (a || false) ≡ a
or-false true = refl
or-false false = refl

pub or-true : (a : Bool) → (a || true) ≡ true
or-true true = refl
or-true false = refl
