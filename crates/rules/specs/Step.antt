-- 01, "The port", 8 and 9, what both Lin-Kernighan steps share. A trial that is given up leaves nothing behind: to roll back is to go on
-- with the track as it was, and that the journal leads back there is a law. Assumes nothing.
use Rattle.std.specs.Prelude.{ℕ, Bool, true, false, ◌&&◌, List, [], ◌∷◌, ◌++◌, ltb, eqb, take}
use Rattle.rules.specs.Words.{Stop}
use Rattle.rules.specs.Ring.{Leg, leg}
use Rattle.rules.specs.Journal.{Track}
use Rattle.rules.specs.Improve.{Trial}

-- `LkState`: the track so far, the stops of the moves made, the legs added and removed, newest first
pub record Step : Type 0 where
  pub track : Track
  pub stops : List Stop
  pub added : List Leg
  pub removed : List Leg

-- a leg is among those
unfoldable pub among : List Leg → Leg → Bool
among [] e = false
among (x ∷ xs) e = elim (eqb x.low e.low && eqb x.high e.high) [ true ↦ true | false ↦ among xs e ]

-- the leg t1-t2 goes first
unfoldable pub begin : Track → Stop → Stop → Step
begin t t1 t2 = record { track = t; stops = []; added = []; removed = leg t1 t2 ∷ [] }

-- a move carried out: its track, its stops, the legs that it adds and those that it removes
unfoldable pub going : Step → Track → List Stop → List Leg → List Leg → Step
going s t stops added removed =
    record { track = t; stops = s.stops ++ stops; added = added ++ s.added; removed = removed ++ s.removed }

-- into a list that falls by the partial gain, behind the equal ones
unfoldable pub insert : Trial → List Trial → List Trial
insert x [] = x ∷ []
insert x (y ∷ ys) = elim (ltb y.partial x.partial) [ true ↦ x ∷ y ∷ ys | false ↦ y ∷ insert x ys ]

-- the `breadth` best of `kept` and the trials, best first, the earlier of equals first
unfoldable pub best : ℕ → List Trial → List Trial → List Trial
best breadth kept [] = kept
best breadth kept (x ∷ xs) = best breadth (take breadth (insert x kept)) xs
