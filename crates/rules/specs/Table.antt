-- 01, "The port", 13: the words of the subset table. Row s is for a set of the stops 1 to m, stop k in it where bit k-1 of s is set.
-- Assumes nothing.
use Rattle.std.specs.Prelude.{ℕ, zero, suc, ◌/◌, ◌%◌, ◌^◌, min, Bool, false, List, [], ◌∷◌, ◌++◌, map, eqb, length}
use Rattle.rules.specs.Words.{Stop, Time, Legs}
use Rattle.rules.specs.Lists.{when◌then◌else◌, rising, each, keep}
use Rattle.rules.specs.Ring.{along}
use Rattle.rules.specs.Start.{without}
use Rattle.rules.specs.Exact.{orders}

-- stop k is in the set s
unfoldable pub member : ℕ → Stop → Bool
member s zero = false
member s (suc j) = eqb (s / 2 ^ j % 2) 1

-- the stops of the set s, of the stops 1 to m
unfoldable pub members : ℕ → ℕ → List Stop
members m s = keep (member s) (rising m 1)

-- the source's `INF`
unfoldable pub unreached : Time
unreached = 2147483647

-- the least of `so` and what a list's orders take from stop k on and home to stop 0
unfoldable pub least_of : Legs → Stop → Time → List (List Stop) → Time
least_of d k so [] = so
least_of d k so (o ∷ os) = least_of d k (min so (along d k (o ++ (0 ∷ [])))) os

-- the word of set s and stop k: what the cheapest walk from k through the others of s and home takes
unfoldable pub table_word : Legs → ℕ → ℕ → Stop → Time
table_word d m s k =
    let others = without k (members m s) in
    when member s k then least_of d k unreached (orders (length others) others) else unreached

-- "Each set's row is written into the table where it begins": m words for each of the 2^m sets
unfoldable pub table_of : Legs → ℕ → List Time
table_of d m = each (λ s. map (table_word d m s) (rising m 1)) (rising (2 ^ m) 0)
