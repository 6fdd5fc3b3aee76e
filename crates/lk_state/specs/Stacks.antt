-- What the words of the stacks stand for. Assumes nothing.
use Rattle.std.specs.Prelude.{ℕ, zero, suc, ◌/◌, ◌%◌, ◌<◌, ◌≡◌, List, [], ◌∷◌, ◌++◌}
use Rattle.rules.specs.Words.{Stop}
use Rattle.rules.specs.Lists.{at}
use Rattle.rules.specs.Ring.{Leg, leg}

-- the leg that a word stands for
unfoldable pub leg_is : ℕ → Leg
leg_is w = record { low = w / 4096; high = w % 4096 }

-- the legs of the first words, newest first
unfoldable pub legs_in : List ℕ → ℕ → List Leg
legs_in ws zero = []
legs_in ws (suc i) = leg_is (at ws i) ∷ legs_in ws i

-- the stops of the first words, oldest first
unfoldable pub stops_in : List ℕ → ℕ → List Stop
stops_in ws zero = []
stops_in ws (suc i) = stops_in ws i ++ (at ws i / 4096 ∷ at ws i % 4096 ∷ [])

-- both stops of each of the first words are below n
pub record Stepping (ws : List ℕ) (len n : ℕ) : Type 0 where
  pub third : (i : ℕ) → i < len → at ws i / 4096 < n
  pub fourth : (i : ℕ) → i < len → at ws i % 4096 < n

-- r is the word of the leg a-b
pub record LegWord (a b : Stop) (r : ℕ) : Type 0 where
  pub is : leg_is r ≡ leg a b
  pub small : r < 16777216
