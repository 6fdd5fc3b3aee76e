-- 01, "The port", 12: the start round, which both of the source's functions give. Assumes nothing.
use Rattle.std.specs.Prelude.{ℕ, zero, suc, ◌-◌, not, List, [], ◌∷◌, ltb, eqb}
use Rattle.rules.specs.Words.{Stop, Time, Round, Legs}
use Rattle.rules.specs.Lists.{when◌then◌else◌, rising, keep}

-- "ties to the lowest stop": of `so` and the stops of a list, the first that none is nearer than
unfoldable pub nearest : (Stop → Time) → Stop → List Stop → Stop
nearest f so [] = so
nearest f so (v ∷ vs) = nearest f (when ltb (f v) (f so) then v else so) vs

-- the stops but one
unfoldable pub without : Stop → List Stop → List Stop
without v l = keep (λ u. not (eqb u v)) l

-- on from `last` over `count` stops that are left, in rising order, always to the nearest; "all left at 65535, the first left"
unfoldable pub start_from : Legs → ℕ → Stop → List Stop → List Stop
start_from d zero last left = []
start_from d (suc count) last left =
    elim left [
      | [] ↦ []
      | v ∷ vs ↦
          let w = nearest (d last) v vs in
          w ∷ start_from d count w (without w (v ∷ vs))
    ]

-- "From stop 0"
unfoldable pub start_round : Legs → ℕ → Round
start_round d n = 0 ∷ start_from d (n - 1) 0 (rising (n - 1) 1)
