-- What the rewritings of a round promise. Assumes nothing.
use Rattle.std.specs.Prelude.{ℕ, ◌*◌, ◌≤◌, ◌<◌, ◌≡◌, List, length}
use Rattle.rules.specs.Words.{Place, Round}
use Rattle.rules.specs.Rewrite.{stretch}
use Rattle.rules.specs.SharedWords.{Tied}

-- the round is left as `goal`, and the places are its inverse
pub record Rewritten (goal round : Round) (places : List Place) : Type 0 where
  pub is : round ≡ goal
  pub tied : Tied round places

-- the stretch of places that a reversal of `old` from s to e takes
pub record Took (old : Round) (s e start : Place) (len : ℕ) : Type 0 where
  pub is : record { start = start; len = len } ≡ stretch (length old) s e
  pub below : start < length old
  pub short : 2 * len ≤ length old
