-- The loops that push: what is left of a list, pushed from here, gives the goal.
use Prim.Native.Nat.{ℕ, ◌+◌, ◌≤◌, ◌<◌}
use mathlib.Core.Path.{◌≡◌, ◌∙◌}
use mathlib.Core.List.{List}
use native.Mathlib.Numerals.{add-one}
use native.Mathlib.Omega.{arith}
use lib.ListN.{length, take, drop, drop_of_length-le}
use lib.Seq.{drop-cons, get_or-take, length-take-le}
use Rattle.rules.specs.Words.{Stop, Place, Round}
use Rattle.rules.specs.Lists.{at}
use Rattle.rules.specs.Ring.{turn}
use Rattle.rules.specs.Queue.{push, push_all}
use Rattle.ring.specs.Around.{around}
use Rattle.laws.proofs.TurnLaws.{turn_length}
use Rattle.ring.proofs.TurnAtLaws.{at_turn}

pub push_turn : (q q' l : List Stop) (i : ℕ) (goal : List Stop) → i < length l → q' ≡ push q (at l i) → push_all q (drop i l) ≡ goal → push_all q' (drop (i + 1) l) ≡ goal
unfolding push_all
push_turn q q' l i goal h e g = rw (add-one i, e) (rw (drop-cons l i 0 h) at g)

pub push_done : (q l : List Stop) (i : ℕ) (goal : List Stop) → length l ≤ i → push_all q (drop i l) ≡ goal → q ≡ goal
unfolding push_all
push_done q l i goal h g = rw (drop_of_length-le l h) at g

-- the stops of so many places from s on
module _ (s : Place) (places : ℕ) (r : Round) (hs : s < length r) (hp : places ≤ length r) where
  pub length_places : length (take places (turn s r)) ≡ places
  length_places = length-take-le places (turn s r) (omega (arith, turn_length s r))

  pub at_places : (i : ℕ) → i < places → at (take places (turn s r)) i ≡ at r (around (length r) s i)
  at_places i h = get_or-take places (turn s r) i 0 h ∙ at_turn s i r hs (omega arith)
