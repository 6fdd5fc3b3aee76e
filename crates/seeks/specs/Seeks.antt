-- What a level of LK3 seeks among its trials, as the code holds it. Assumes nothing.
use Rattle.std.specs.Prelude.{ℕ, ◌-◌, ◌≤◌, ◌<◌, ◌≡◌, Bool, true, false, not, ◌&&◌, ◌||◌, List, [], ◌∷◌, ltb}
use Rattle.rules.specs.Words.{Stop, Time, Round, Legs}
use Rattle.rules.specs.Lists.{keep}
use Rattle.rules.specs.Ring.{Leg, leg}
use Rattle.rules.specs.Improve.{Trial, sixths}
use Rattle.rules.specs.Step.{among}
use Rattle.rules.specs.Lk3.{may_go_on}
use Rattle.legs.specs.declared.plan.Plan.{Plan}
use Rattle.moves.specs.Moves.{number_of, case_of}
use Rattle.moves.specs.declared.moves.Move.{Move}
use Rattle.tries.specs.Picks.{Pick, pick, no_list}
use Rattle.lk_state.specs.declared.LkState.{LkState}
use Rattle.lk_state.specs.Stacks.{legs_in}
use Rattle.seeks.specs.declared.Sought.{Sought as SoughtIn}

-- a trial that closes and the gain it closes with, or the best so far to go on with and its partial gain
pub data Sought : Type 0 where
  sought : Bool → Pick → Sought

unfoldable pub gain_of : Pick → Time
gain_of (pick c g t3 t4 t5 t6) = g

-- a trial to go on with
unfoldable pub open_of : Trial → Pick
open_of x = pick (number_of x.case) x.partial x.t3 x.t4 x.t5 x.t6

-- the better of the best so far and a trial; the earlier of equals
unfoldable pub better_of : (Trial → Bool) → Pick → Trial → Pick
unfolding open_of gain_of
better_of may so x = elim (ltb (gain_of so) x.partial && may x) [ true ↦ open_of x | false ↦ so ]

-- the first of some trials that closes with a gain; else the best to go on with
unfoldable pub seek_of : Legs → Stop → (Trial → Bool) → Pick → List Trial → Sought
unfolding better_of
seek_of add t1 may so [] = sought false so
seek_of add t1 may so (x ∷ xs) =
    elim (ltb (add x.t6 t1) x.partial) [
      | true ↦ sought true (pick (number_of x.case) (x.partial - add x.t6 t1) x.t3 x.t4 x.t5 x.t6)
      | false ↦ seek_of add t1 may (better_of may so x) xs
    ]

-- a move as the trial that it is, its gain the partial one
unfoldable pub move_trial : ℕ → Time → Stop → Stop → Stop → Stop → Trial
move_trial c g t3 t4 t5 t6 = record { case = case_of c; t3 = t3; t4 = t4; t5 = t5; t6 = t6; partial = g }

-- what may be gone on with where another level is left, the matrix, the near lists and the legs added and removed given
unfoldable pub may_in : ℕ → List Time → ℕ → List Stop → List Leg → List Leg → Bool → Stop → Trial → Bool
may_in n matrix k near added removed deeper t2 x =
    deeper &&
    may_go_on (record { n = n; matrix = matrix; k = k; near = near; ka = 0; alpha = [] })
    (record { track = record { round = []; journal = [] }; stops = []; added = added; removed = removed }) t2 x

-- no leg is added that this step removed, none removed that it added
unfoldable pub unbarred : List Leg → List Leg → Stop → Stop → Stop → Stop → Stop → Bool
unbarred added removed t2 t3 t4 t5 t6 = not (among removed (leg t2 t3) || among removed (leg t4 t5) || among added (leg t3 t4) || among added (leg t5 t6))

-- the trials of a t5 seen
unfoldable pub sought_fifth : Legs → (Trial → Bool) → Pick → Bool → Round → Bool → Stop → Stop → Stop → Stop → Stop → Time → Sought
unfolding no_list
sought_fifth d may so fwd r after t1 t2 t3 t4 t5 g3 = seek_of d t1 may so (sixths d d no_list keep fwd r t1 t2 after t3 t4 t5 g3)

-- what a level's scan is handed: near lists with an entry at least, and counts of legs added and removed that the stacks hold
pub record Barring (p : Plan) (st : LkState) : Type 0 where
  pub some : 1 ≤ p.near.count
  pub few_added : st.added_len ≤ 98
  pub few_removed : st.removed_len ≤ 99

-- t3 to t6 are stops of n
pub record Lasts (n : ℕ) (t3 t4 t5 t6 : Stop) : Type 0 where
  pub low3 : t3 < n
  pub low4 : t4 < n
  pub low5 : t5 < n
  pub low6 : t6 < n

-- what was sought is w, with a gain of at most `most`
pub record Seeks (n : ℕ) (most : Time) (w : Sought) (closed : Bool) (case : ℕ) (gain : Time) (t3 t4 t5 t6 : Stop) : Type 0 where
  pub is : sought closed (pick case gain t3 t4 t5 t6) ≡ w
  pub lasts : Lasts n t3 t4 t5 t6
  pub small : gain ≤ most

-- ---- the same of what is lent
-- a move as it stands there, and as the trial that it is
abbrev pub pick_in : Move → Pick
pick_in m = pick m.case m.gain m.t3.0 m.t4.0 m.t5.0 m.t6.0

abbrev pub trial_in : Move → Trial
trial_in m = move_trial m.case m.gain m.t3.0 m.t4.0 m.t5.0 m.t6.0

-- what may be gone on with after the legs that a state added and removed
abbrev pub may_at : Plan → LkState → Bool → Stop → Trial → Bool
may_at p st deeper t2 = may_in p.matrix.n p.matrix.times.now p.near.count p.near.entries.now (legs_in st.added st.added_len) (legs_in st.removed st.removed_len) deeper t2

-- a move's stops are stops of n
abbrev pub LastsIn : ℕ → Move → Type 0
LastsIn n m = Lasts n m.t3.0 m.t4.0 m.t5.0 m.t6.0

-- what was sought is w
abbrev pub SeeksIn : ℕ → Time → Sought → SoughtIn → Type 0
SeeksIn n most w s = Seeks n most w s.closed s.mv.case s.mv.gain s.mv.t3.0 s.mv.t4.0 s.mv.t5.0 s.mv.t6.0
