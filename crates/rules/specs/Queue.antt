-- 01, "The port", 4: the stops that wait. The first of the list is taken next. Assumes nothing.
use Rattle.std.specs.Prelude.{ℕ, List, [], ◌∷◌, ◌++◌, map, take}
use Rattle.rules.specs.Words.{Stop}
use Rattle.rules.specs.Lists.{when◌then◌else◌, has, rising}
use Rattle.rules.specs.Ring.{turn}

-- "a stop waits once, in order of arrival"
unfoldable pub push : List Stop → Stop → List Stop
push q v = when has q v then q else (q ++ (v ∷ []))

-- `push_all`
unfoldable pub push_all : List Stop → List Stop → List Stop
push_all q [] = q
push_all q (v ∷ vs) = push_all (push q v) vs

-- "a ring of n places": the stops that n lent words with a head and a count hold
unfoldable pub waiting : List ℕ → ℕ → ℕ → List Stop
waiting ws head count = take count (turn head ws)

-- the n flags that agree with a queue: 1 for each stop that waits, 0 for the others
unfoldable pub flags_of : ℕ → List Stop → List ℕ
flags_of n q = map (λ v. when has q v then 1 else 0) (rising n 0)
