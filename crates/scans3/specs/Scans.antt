-- What the scan of a level of LK3 asks and finds. Assumes nothing.
use Rattle.std.specs.Prelude.{ℕ, ◌≡◌, ◌≤◌, ◌<◌, Bool, ◌||◌, List, leb, eqb, length}
use Rattle.rules.specs.Words.{Stop, Time, Round as RoundOf}
use Rattle.rules.specs.Lists.{keep}
use Rattle.rules.specs.Ring.{Leg}
use Rattle.rules.specs.Plan.{leg_in, list_in}
use Rattle.rules.specs.Improve.{trials}
use Rattle.legs.specs.declared.plan.Plan.{Plan}
use Rattle.ring.specs.declared.round.Round.{Round}
use Rattle.tries.specs.Picks.{none}
use Rattle.lk_state.specs.declared.LkState.{LkState}
use Rattle.lk_state.specs.Stacks.{legs_in}
use Rattle.seeks.specs.Seeks.{Sought, seek_of, may_in, Barring}

-- what a level is handed: a round as long as the plan, near lists and counts of legs added and removed, and a gain that leaves room
pub record Scanned (p : Plan) (r : Round) (st : LkState) (t1 t2 : Stop) (g : Time) : Type 0 where
  pub size : p.matrix.n ≡ length r.stops.now
  pub bars : Barring p st
  pub low1 : t1 < p.matrix.n
  pub low2 : t2 < p.matrix.n
  pub room : g ≤ 6619035

-- an entry is skipped: its partial gain is 0 or less, or it is one of the stops that are barred
unfoldable pub out3 : Time → Time → Stop → Stop → Stop → Bool
out3 g d23 t3 t1 next = leb g d23 || (eqb t3 t1 || eqb t3 next)

unfoldable pub out5 : Time → Time → Stop → Stop → Stop → Stop → Bool
out5 g2 d45 t5 t1 next prev = leb g2 d45 || (eqb t5 t1 || (eqb t5 next || eqb t5 prev))

-- what a level's scan over alpha lists finds
unfoldable pub scan_of : ℕ → List Time → ℕ → List Stop → ℕ → List Stop → List Leg → List Leg → Bool → Bool → RoundOf → Stop → Stop → Time → Sought
scan_of n matrix k near ka alpha added removed deeper fwd r t1 t2 g =
    let d = leg_in n matrix in
    seek_of d t1 (may_in n matrix k near added removed deeper t2) none (trials d d (list_in ka alpha) keep fwd r t1 t2 g)

-- and over what is lent, after the legs that a state added and removed
abbrev pub scan_at : Plan → LkState → Bool → Bool → RoundOf → Stop → Stop → Time → Sought
scan_at p st deeper fwd r t1 t2 g = scan_of p.matrix.n p.matrix.times.now p.near.count p.near.entries.now p.alpha.count p.alpha.entries.now (legs_in st.added st.added_len) (legs_in st.removed st.removed_len) deeper fwd r t1 t2 g
