-- The words of 01. Stops and places are both numbers below n: each signature says which of them it means. Assumes nothing.
use Rattle.std.specs.Prelude.{ℕ, List}

-- a stop's number
abbrev pub Stop : Type 0
Stop = ℕ

-- a place in the round
abbrev pub Place : Type 0
Place = ℕ

abbrev pub Time : Type 0
Time = ℕ

-- a round: the stops by place
abbrev pub Round : Type 0
Round = List Stop

-- what the leg from one stop to another takes
abbrev pub Legs : Type 0
Legs = Stop → Stop → Time
