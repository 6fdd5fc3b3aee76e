-- 01, 5: a journal entry in range, by its numbers.
use Prim.Native.Nat.{ℕ, ◌+◌, ◌≤◌, ◌<◌}
use mathlib.Core.Path.{◌≡◌}
use mathlib.Core.Bool.{true}
use borrow.Author.Tests.{lt-ltb, le-leb, leb-true, ltb-true}
use lib.Dec.{leb, ltb}
use Rattle.rules.specs.Journal.{reversal, rotation, swap, in_range}
use Rattle.laws.proofs.ChoiceLaws.{and-true, true-and}

-- what "in range" says of each kind
pub reversal_in : (n s l : ℕ) → in_range n (reversal s l) ≡ true → (s < n) × (l ≤ n)
unfolding in_range
reversal_in n s l h = let b = and-true (ltb s n) (leb l n) h in (ltb-true s n b.0, leb-true l n b.1)

pub rotation_in : (n s a b c : ℕ) → in_range n (rotation s a b c) ≡ true → (s < n) × (a + b + c ≤ n)
unfolding in_range
rotation_in n s a b c h = let t = and-true (ltb s n) (leb (a + b + c) n) h in (ltb-true s n t.0, leb-true (a + b + c) n t.1)

pub swap_in : (n p q : ℕ) → in_range n (swap p q) ≡ true → (p < n) × (q < n)
unfolding in_range
swap_in n p q h = let b = and-true (ltb p n) (ltb q n) h in (ltb-true p n b.0, ltb-true q n b.1)

-- and what makes it so
pub in_reversal : (n s l : ℕ) → s < n → l ≤ n → in_range n (reversal s l) ≡ true
unfolding in_range
in_reversal n s l hs hl = true-and (ltb s n) (leb l n) (lt-ltb s n hs) (le-leb l n hl)

pub in_rotation : (n s a b c : ℕ) → s < n → a + b + c ≤ n → in_range n (rotation s a b c) ≡ true
unfolding in_range
in_rotation n s a b c hs hl = true-and (ltb s n) (leb (a + b + c) n) (lt-ltb s n hs) (le-leb (a + b + c) n hl)

pub in_swap : (n p q : ℕ) → p < n → q < n → in_range n (swap p q) ≡ true
unfolding in_range
in_swap n p q hp hq = true-and (ltb p n) (ltb q n) (lt-ltb p n hp) (lt-ltb q n hq)
