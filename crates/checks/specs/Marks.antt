-- What marking the stops of a queue says. Assumes nothing.
use Rattle.std.specs.Prelude.{ℕ, ◌≡◌, Bool, true, ◌&&◌, List, ltb, take}
use Rattle.rules.specs.Words.{Stop}
use Rattle.rules.specs.Lists.{once, every}
use Rattle.rules.specs.Queue.{flags_of}

-- the stops of q are below n, each once, and then marked
pub record Marked (n : ℕ) (q : List Stop) (good : Bool) (marks : List ℕ) : Type 0 where
  pub is : good ≡ (every (λ v. ltb v n) q && once q)
  pub marks_are : good ≡ true → take n marks ≡ flags_of n q
