-- What the solver's functions ask of each other. Assumes nothing.
use Rattle.std.specs.Prelude.{ℕ, suc, ◌+◌, ◌-◌, ◌*◌, ◌^◌, ◌≤◌, ◌<◌, ◌≡◌, true, false, List, ◌∷◌, length, Option, Some, None}
use Rattle.rules.specs.Words.{Stop, Time, Round}
use Rattle.rules.specs.Lists.{at, rising}
use Rattle.rules.specs.Plan.{leg_in}
use Rattle.rules.specs.Table.{member, members, table_word}
use Rattle.laws.proofs.ExactLaws.{homeward}
use Rattle.laws.proofs.OnwardLaws.{way_on}
use Rattle.legs.specs.declared.Stop as legs

pub record Sized (n : ℕ) (matrix table : List Time) : Type 0 where
  pub low : 2 ≤ n
  pub high : n ≤ 25
  pub square : length matrix ≡ n * n
  pub room : 2 ^ (n - 1) * (n - 1) ≤ length table

-- the table has the words of every set below s: a row begins at its set times n-1, and stop k stands at k-1 in it
pub record Words (matrix : List Time) (n : ℕ) (table : List Time) (s : ℕ) : Type 0 where
  pub word : (p : ℕ) (k : Stop) → p < s → 1 ≤ k → k < n → at table (p * (n - 1) + (k - 1)) ≡ table_word (leg_in n matrix) (n - 1) p k

-- k is the lowest stop of the set s
pub record Lowest (s : ℕ) (k : Stop) : Type 0 where
  pub low : 1 ≤ k
  pub high : k ≤ 24
  pub there : member s k ≡ true
  pub first : (j : Stop) → j < k → member s j ≡ false

-- r is the set s without its lowest stop
pub record Rest (s r : ℕ) : Type 0 where
  pub is : (k : Stop) → Lowest s k → r ≡ s - 2 ^ (k - 1)

-- the stops of the set s give their lowest, and r is left; none is given where the set is empty
abbrev pub Next : ℕ → Option legs.Stop → ℕ → Type 0
Next s None r = s ≡ 0
Next s (Some k) r = Lowest s k.0 × Rest s r

-- on from a to j of the set s, and through the others of s and home
pub record Via (matrix : List Time) (n s : ℕ) (a j : Stop) (r : Time) : Type 0 where
  pub is : r ≡ leg_in n matrix a j + table_word (leg_in n matrix) (n - 1) s j
  pub small : r ≤ 2147549182

-- the words of the set s, n-1 of them
pub record Row (matrix : List Time) (n s : ℕ) (row : List Time) : Type 0 where
  pub word : (k : Stop) → 1 ≤ k → k < n → at row (k - 1) ≡ table_word (leg_in n matrix) (n - 1) s k

-- out is part with row at its front
pub record Put (part row out : List Time) : Type 0 where
  pub long : length out ≡ length part
  pub front : (i : ℕ) → i < length row → at out i ≡ at row i
  pub back : (i : ℕ) → length row ≤ i → at out i ≡ at part i

-- stop k is where the walk goes on from stop a with the set s left
pub record Choice (matrix : List Time) (n s : ℕ) (a k : Stop) : Type 0 where
  pub low : 1 ≤ k
  pub below : k < n
  pub there : member s k ≡ true
  pub goes : (count : ℕ) → way_on (leg_in n matrix) (suc count) a (members (n - 1) s) ≡ k ∷ way_on (leg_in n matrix) count k (members (n - 1) (s - 2 ^ (k - 1)))

-- the round that the walk from stop 0 makes, and what it takes
pub record Walked (matrix : List Time) (n : ℕ) (round : Round) (time : Time) : Type 0 where
  pub goes : round ≡ 0 ∷ way_on (leg_in n matrix) (n - 1) 0 (rising (n - 1) 1)
  pub takes : time ≡ homeward (leg_in n matrix) 0 (way_on (leg_in n matrix) (n - 1) 0 (rising (n - 1) 1))

-- what is left where nothing is refused
pub record Ready (n : ℕ) (matrix : List Time) (round : Round) (table : List Time) : Type 0 where
  pub low : 1 ≤ n
  pub high : n ≤ 25
  pub square : length matrix ≡ n * n
  pub long : length round ≡ n
  pub room : 2 ^ (n - 1) * (n - 1) ≤ length table
