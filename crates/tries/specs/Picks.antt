-- The move that a scan chooses, as the code holds it. Assumes nothing.
use Rattle.std.specs.Prelude.{ℕ, ◌-◌, ◌<◌, ◌≡◌, Bool, true, false, List, [], ◌∷◌, ltb}
use Rattle.rules.specs.Words.{Stop, Time, Legs, Round}
use Rattle.rules.specs.Lists.{keep_while}
use Rattle.rules.specs.Improve.{Trial, twos, sixths}
use Rattle.rules.specs.Plan.{leg_in}
use Rattle.legs.specs.declared.plan.Plan.{Plan}
use Rattle.moves.specs.Moves.{number_of}
use Rattle.moves.specs.declared.moves.Move.{Move}

-- the number of its case, its gain, t3 to t6
pub data Pick : Type 0 where
  pick : ℕ → Time → Stop → Stop → Stop → Stop → Pick

unfoldable pub none : Pick
none = pick 0 0 0 0 0 0

-- the first of some trials that closes with a gain
unfoldable pub first_of : Legs → Stop → List Trial → Pick
first_of add t1 [] = none
first_of add t1 (x ∷ xs) =
    elim (ltb (add x.t6 t1) x.partial) [
      | true ↦ pick (number_of x.case) (x.partial - add x.t6 t1) x.t3 x.t4 x.t5 x.t6
      | false ↦ first_of add t1 xs
    ]

-- the moves of one t4 and of one t5 read no list
unfoldable pub no_list : Stop → List Stop
no_list v = []

-- the first that closes of the trials of a t4, and of those of a t5
unfoldable pub tried_two : Legs → Bool → Stop → Stop → Stop → Time → Pick
unfolding no_list
tried_two d after t1 t3 t4 g2 = first_of d t1 (twos d d no_list keep_while true [] t1 t1 after t3 t4 g2)

unfoldable pub tried_fifth : Legs → Bool → Round → Bool → Stop → Stop → Stop → Stop → Stop → Time → Pick
unfolding no_list
tried_fifth d fwd r after t1 t2 t3 t4 t5 g3 = first_of d t1 (sixths d d no_list keep_while fwd r t1 t2 after t3 t4 t5 g3)

-- a move that is p, of stops of n
pub record Chosen (n : ℕ) (p : Pick) (case : ℕ) (gain : Time) (t3 t4 t5 t6 : Stop) : Type 0 where
  pub is : pick case gain t3 t4 t5 t6 ≡ p
  pub low3 : t3 < n
  pub low4 : t4 < n
  pub low5 : t5 < n
  pub low6 : t6 < n

-- the same of the move that is there
abbrev pub ChosenMove : ℕ → Pick → Move → Type 0
ChosenMove n p m = Chosen n p m.case m.gain m.t3.0 m.t4.0 m.t5.0 m.t6.0

-- the legs of the plan that is lent
abbrev pub legs_in : Plan → Legs
legs_in p = leg_in p.matrix.n p.matrix.times.now

-- what the tries are handed: stops of n
pub record Tries (n : ℕ) (t1 t2 t3 t4 t5 : Stop) : Type 0 where
  pub low1 : t1 < n
  pub low2 : t2 < n
  pub low3 : t3 < n
  pub low4 : t4 < n
  pub low5 : t5 < n
