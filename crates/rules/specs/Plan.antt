-- 01, "Sizes and numbers": what a search is given and never changes. Assumes nothing.
use Rattle.std.specs.Prelude.{ℕ, ◌+◌, ◌*◌, List, take, drop}
use Rattle.rules.specs.Words.{Stop, Time, Legs}
use Rattle.rules.specs.Lists.{at}

-- "Matrix: n times n numbers of 16 bits, row by row"; "Near list: k per stop"; "Alpha list: ka per stop"
pub record Plan : Type 0 where
  pub n : ℕ
  pub matrix : List Time
  pub k : ℕ
  pub near : List Stop
  pub ka : ℕ
  pub alpha : List Stop

-- the legs of a matrix of n rows
unfoldable pub leg_in : ℕ → List Time → Legs
leg_in n matrix a b = at matrix (a * n + b)

-- the `count` entries of a stop's list
unfoldable pub list_in : ℕ → List Stop → Stop → List Stop
list_in count entries v = take count (drop (v * count) entries)

-- a plan's legs and lists
unfoldable pub leg_of : Plan → Legs
leg_of p = leg_in p.n p.matrix

unfoldable pub near_of : Plan → Stop → List Stop
near_of p = list_in p.k p.near

unfoldable pub alpha_of : Plan → Stop → List Stop
alpha_of p = list_in p.ka p.alpha
