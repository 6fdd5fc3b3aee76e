-- 5: the upper half of the matrix tells all of it.
use Prim.Native.Nat.{ℕ, ◌+◌, ◌-◌, ◌<◌}
use mathlib.Core.Path.{◌≡◌, refl, sym, ◌∙◌}
use mathlib.Core.Logic.{◌≢◌}
use mathlib.Core.Bool.{true, false}
use native.Mathlib.Omega.{arith}
use native.Mathlib.Decide.{dec_lt}
use borrow.Author.Tests.{eq-eqb, eqb-true}
use lib.Dec.{eqb}
use Rattle.rules.specs.Words.{Legs, Stop}
use Rattle.rules.specs.Lists.{every, rising}
use Rattle.rules.specs.Numbers.{symmetric}
use Rattle.laws.proofs.ChoiceLaws.{not_so, true_false}
use Rattle.laws.proofs.CheckLaws.{symmetric_even}
use Rattle.laws.proofs.RisingLaws.{every_rising, rising_every}
use Rattle.refusals.specs.Refusing.{row_even}

module _ (d : Legs) (n : ℕ) where
  -- ---- a row
  pub row_passes : (a : Stop) → ((b : Stop) → a < b → b < n → d a b ≡ d b a) → true ≡ row_even d n a
  unfolding row_even
  row_passes a h = sym (rising_every (λ b. eqb (d a b) (d b a)) (n - (a + 1)) (a + 1) (λ b l m. eq-eqb (d a b) (d b a) (h b (omega arith) (omega arith))))

  row_told : (a : Stop) → row_even d n a ≡ true → (b : Stop) → a < b → b < n → d a b ≡ d b a
  unfolding row_even
  row_told a e b l m = eqb-true (d a b) (d b a) (every_rising (λ b. eqb (d a b) (d b a)) (n - (a + 1)) (a + 1) e b (omega arith) (omega arith))

  pub row_fails : (a b : Stop) → a < b → b < n → d a b ≢ d b a → false ≡ row_even d n a
  row_fails a b l m h = sym (not_so (row_even d n a) (λ e. h (row_told a e b l m)))

  -- ---- all rows
  pub rows_pass : ((a : Stop) → a < n → row_even d n a ≡ true) → true ≡ symmetric n d
  unfolding symmetric
  rows_pass h =
      sym (rising_every (λ a. every (λ b. eqb (d a b) (d b a)) (rising n 0)) n 0
      (λ a l m. rising_every (λ b. eqb (d a b) (d b a)) n 0 (λ b l' m'. eq-eqb (d a b) (d b a) (go a b (omega arith) (omega arith) (dec_lt a b) (dec_lt b a)))))
    where
      go : (a b : Stop) → a < n → b < n → Dec (a < b) → Dec (b < a) → d a b ≡ d b a
      go a b k j (yes u) z = row_told a (h a k) b u j
      go a b k j (no u) (yes z) = sym (row_told b (h b j) a z k)
      go a b k j (no u) (no z) = let i : a ≡ b = omega arith in rw i refl

  pub rows_fail : (a : Stop) → a < n → row_even d n a ≡ false → false ≡ symmetric n d
  rows_fail a l e = sym (not_so (symmetric n d) (λ s. true_false (row_passes a (λ b u m. symmetric_even d n s a b l m) ∙ e)))

-- what holds of the numbers between a and b, and of b
pub one_further : (P : ℕ → Type 0) (a b : ℕ) → ((x : ℕ) → a < x → x < b → P x) → P b → (x : ℕ) → a < x → x < b + 1 → P x
one_further P a b h p x l m = go (dec_lt x b)
  where
    go : Dec (x < b) → P x
    go (yes u) = h x l u
    go (no u) = let e : x ≡ b = omega arith in rw e p
