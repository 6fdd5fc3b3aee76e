-- Stops written round the ring. Assumes nothing.
use Rattle.std.specs.Prelude.{ℕ, List, [], ◌∷◌, set}
use Rattle.rules.specs.Words.{Stop, Place, Round}
use Rattle.rules.specs.Ring.{next}

-- stops written from place i on, round a ring of n
unfoldable pub writes : ℕ → Place → List Stop → Round → Round
writes n i [] r = r
writes n i (v ∷ vs) r = writes n (next n i) vs (set r i v)

-- and their places
unfoldable pub placings : ℕ → Place → List Stop → List Place → List Place
placings n i [] ps = ps
placings n i (v ∷ vs) ps = placings n (next n i) vs (set ps v i)
