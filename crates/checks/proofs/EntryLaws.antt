-- An entry's test, kind by kind.
use Prim.Native.Nat.{ℕ, ◌+◌, ◌*◌, ◌≤◌, ◌<◌}
use mathlib.Core.Path.{◌≡◌, sym}
use mathlib.Core.Logic.{◌≢◌}
use mathlib.Core.Bool.{true, false, ◌&&◌}
use mathlib.Core.List.{List}
use native.Mathlib.Omega.{arith}
use native.Mathlib.Decide.{ℕ_discrete}
use borrow.Author.Tests.{lt-ltb, lt-leb}
use lib.Dec.{ltb, leb}
use Rattle.rules.specs.Lists.{at}
use Rattle.rules.specs.Journal.{in_range, entry_at}
use Rattle.laws.proofs.ChoiceLaws.{and-true, not_so}
use Rattle.laws.proofs.JournalWordLaws.{entry_reversal, entry_rotation, entry_swap}
use Rattle.laws.proofs.RangeLaws.{reversal_in, rotation_in, swap_in}

module _ (n : ℕ) (ws : List ℕ) (i : ℕ) where
  pub start_beyond : n ≤ at ws (5 * i + 1) → false ≡ (leb (at ws (5 * i)) 2 && in_range n (entry_at ws i))
  start_beyond h = sym (not_so (leb (at ws (5 * i)) 2 && in_range n (entry_at ws i)) (λ e. go (and-true (leb (at ws (5 * i)) 2) (in_range n (entry_at ws i)) e).1 (ℕ_discrete (at ws (5 * i)) 0) (ℕ_discrete (at ws (5 * i)) 1)))
    where
      go : in_range n (entry_at ws i) ≡ true → Dec (at ws (5 * i) ≡ 0) → Dec (at ws (5 * i) ≡ 1) → ⊥
      go e (yes k) d = omega (arith, reversal_in n _ _ (rw (entry_reversal ws i k) at e))
      go e (no g) (yes k) = omega (arith, rotation_in n _ _ _ _ (rw (entry_rotation ws i k) at e))
      go e (no g) (no k) = omega (arith, swap_in n _ _ (rw (entry_swap ws i g k) at e))

  pub test_reversal : at ws (5 * i + 1) < n → at ws (5 * i) ≡ 0 → leb (at ws (5 * i + 2)) n ≡ (leb (at ws (5 * i)) 2 && in_range n (entry_at ws i))
  unfolding in_range
  test_reversal h k = rw (entry_reversal ws i k, k) (simp (lt-ltb _ _ h))

  pub test_rotation : at ws (5 * i + 1) < n → at ws (5 * i) ≡ 1 → leb (at ws (5 * i + 2) + at ws (5 * i + 3) + at ws (5 * i + 4)) n ≡ (leb (at ws (5 * i)) 2 && in_range n (entry_at ws i))
  unfolding in_range
  test_rotation h k = rw (entry_rotation ws i k, k) (simp (lt-ltb _ _ h))

  pub test_swap : at ws (5 * i + 1) < n → at ws (5 * i) ≡ 2 → ltb (at ws (5 * i + 2)) n ≡ (leb (at ws (5 * i)) 2 && in_range n (entry_at ws i))
  unfolding in_range
  test_swap h k = rw (entry_swap ws i (λ e. omega arith) (λ e. omega arith), k) (simp (lt-ltb _ _ h))

  pub test_none : at ws (5 * i) ≢ 0 → at ws (5 * i) ≢ 1 → at ws (5 * i) ≢ 2 → false ≡ (leb (at ws (5 * i)) 2 && in_range n (entry_at ws i))
  test_none a b c = let g : 2 < at ws (5 * i) = omega arith in rw (lt-leb (at ws (5 * i)) 2 g)
