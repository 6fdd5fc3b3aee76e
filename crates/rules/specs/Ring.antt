-- 01, "The port", 1: the ring of n places, the round on it, its legs and its time. Assumes nothing.
use Rattle.std.specs.Prelude.{ℕ, zero, suc, ◌+◌, ◌-◌, Bool, true, false, ◌&&◌, ◌||◌, List, [], ◌∷◌, ◌++◌, map, leb, ltb, eqb, length, take, drop}
use Rattle.rules.specs.Words.{Stop, Place, Time, Round, Legs}
use Rattle.rules.specs.Lists.{when◌then◌else◌, at, rising, tally, every}

-- ---- places
-- `next`: the place after i on a ring of n
unfoldable pub next : ℕ → Place → Place
next n i = when eqb (i + 1) n then 0 else i + 1

-- `prev`: the place before it
unfoldable pub prev : ℕ → Place → Place
prev n i = when eqb i 0 then n - 1 else i - 1

-- the place of a stop; the length where the round doesn't have it
unfoldable pub place : Round → Stop → Place
place [] v = zero
place (x ∷ xs) v = elim (eqb x v) [ true ↦ zero | false ↦ suc (place xs v) ]

-- "places its inverse" (number 7): the table of places that belongs to a round
unfoldable pub places_of : Round → List Place
places_of r = map (place r) (rising (length r) 0)

-- "the round holds each stop once": a permutation of the stops 0 to n-1 (number 7)
unfoldable pub is_round : ℕ → Round → Bool
is_round n r = eqb (length r) n && every (λ v. eqb (tally r v) 1) (rising n 0)

-- the ring read from place s on
unfoldable pub turn : Place → List ℕ → List ℕ
turn s r = drop s r ++ take s r

-- ---- stops of a round
-- `succ`, `pred`: the stop after and before a stop
unfoldable pub succ : Round → Stop → Stop
succ r v = at r (next (length r) (place r v))

unfoldable pub pred : Round → Stop → Stop
pred r v = at r (prev (length r) (place r v))

-- `next_dir`, `prev_dir`: the same in a direction, true for the ring's own
unfoldable pub ahead : Bool → Round → Stop → Stop
ahead fwd r v = when fwd then succ r v else pred r v

unfoldable pub behind : Bool → Round → Stop → Stop
behind fwd r v = when fwd then pred r v else succ r v

-- one or the other
unfoldable pub beside : Bool → Round → Bool → Stop → Stop
beside fwd r after v = when after then ahead fwd r v else behind fwd r v

-- place b lies on the way forward from a to c, ends included
unfoldable pub on_way : Place → Place → Place → Bool
on_way a b c = when leb a c then leb a b && leb b c else (leb a b || leb b c)

-- `between_dir`: stop b lies on the way from stop a to stop c in a direction
unfoldable pub between : Bool → Round → Stop → Stop → Stop → Bool
between true r a b c = on_way (place r a) (place r b) (place r c)
between false r a b c = on_way (place r c) (place r b) (place r a)

-- ---- legs and time
-- `edge`: a leg in either direction, the smaller stop first
pub record Leg : Type 0 where
  pub low : Stop
  pub high : Stop

unfoldable pub leg : Stop → Stop → Leg
leg a b = when ltb a b then record { low = a; high = b } else record { low = b; high = a }

-- the legs from a stop along a list of stops
unfoldable pub along : Legs → Stop → List Stop → Time
along d a [] = 0
along d a (b ∷ l) = d a b + along d b l

-- the legs between the stops of a list
unfoldable pub path : Legs → List Stop → Time
path d [] = 0
path d (a ∷ l) = along d a l

-- `path_cost`: so many legs of the round, from a place on
unfoldable pub path_cost : Legs → Place → ℕ → Round → Time
path_cost d start legs r = path d (take (legs + 1) (turn start r))

-- "Round time: the sum of the n legs, return leg included"; "a round of one stop takes 0"
unfoldable pub lap : Legs → Stop → List Stop → Time
lap d a [] = 0
lap d a (b ∷ l) = along d a ((b ∷ l) ++ (a ∷ []))

-- `cost`, the plain recount
unfoldable pub recount : Legs → Round → Time
recount d [] = 0
recount d (a ∷ l) = lap d a l
