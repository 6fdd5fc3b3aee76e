-- 01, "The port", 7: the moves that are tried from t1, in their order, and `improve`. No number is ever negative: what is taken away is
-- compared first. Assumes nothing.
use Rattle.std.specs.Prelude.{zero, suc, ◌+◌, ◌-◌, Bool, true, false, not, ◌||◌, List, [], ◌∷◌, ◌++◌, ltb, eqb}
use Rattle.rules.specs.Words.{Stop, Time, Round, Legs}
use Rattle.rules.specs.Lists.{when◌then◌else◌, each, keep, keep_while}
use Rattle.rules.specs.Ring.{succ, pred, ahead, behind, beside, between}
use Rattle.rules.specs.Journal.{Track}
use Rattle.rules.specs.Moves.{Case, two, flips, segment, inner, seq3}
use Rattle.rules.specs.Plan.{Plan, leg_of, near_of}

-- a move that is tried; t6 is its last stop, so a 2-opt move has t4 for t5 and t6. `partial` is the gain before the closing leg t6-t1
pub record Trial : Type 0 where
  pub case : Case
  pub t3 : Stop
  pub t4 : Stop
  pub t5 : Stop
  pub t6 : Stop
  pub partial : Time

-- the ends of the legs that it changes, t1 and t2 aside
unfoldable pub ends_of : Trial → List Stop
ends_of x =
    let ends = x.t3 ∷ x.t4 ∷ x.t5 ∷ x.t6 ∷ [] in
    elim x.case [ two ↦ x.t3 ∷ x.t4 ∷ [] | flips ↦ ends | segment ↦ ends | inner ↦ ends ]

-- t3 may be neither t1 nor beside t2; t5 neither t1 nor beside t4
unfoldable pub free3 : Bool → Round → Stop → Stop → Stop → Bool
free3 fwd r t1 t2 t3 = not (eqb t3 t1 || eqb t3 (ahead fwd r t2))

unfoldable pub free5 : Round → Stop → Stop → Stop → Bool
free5 r t1 t4 t5 = not (eqb t5 t1 || (eqb t5 (succ r t4) || eqb t5 (pred r t4)))

-- how a list is scanned: a near list "ends at the first entry whose partial gain is 0 or less", an alpha list skips it
abbrev pub Scan : Type 0
Scan = (Stop → Bool) → List Stop → List Stop

-- `add` reads a leg that comes, `cut` one that goes, the stops in the order t1 .. t6: both are the matrix here, and differ only where a
-- leg and its return do (Q-5)
module _ (add cut : Legs) (list : Stop → List Stop) (scan : Scan) (fwd : Bool) (r : Round) (t1 t2 : Stop) where
  -- "2-opt": tried where t4 is before t3
  unfoldable pub twos : Bool → Stop → Stop → Time → List Trial
  twos true t3 t4 g2 = []
  twos false t3 t4 g2 = record { case = two; t3 = t3; t4 = t4; t5 = t4; t6 = t4; partial = g2 } ∷ []

  -- "then its 3-opt cases": the choices of t6 for a t5, in order; g3 is the gain before the leg t5-t6 goes
  unfoldable pub sixths : Bool → Stop → Stop → Stop → Time → List Trial
  sixths false t3 t4 t5 g3 =
      let t6 = beside fwd r (between fwd r t2 t5 t4) t5 in
      record { case = flips; t3 = t3; t4 = t4; t5 = t5; t6 = t6; partial = g3 + cut t5 t6 } ∷ []
  sixths true t3 t4 t5 g3 =
      let after = ahead fwd r t5 in
      let before = behind fwd r t5 in
      when between fwd r t2 t5 t3 then
      record { case = segment; t3 = t3; t4 = t4; t5 = t5; t6 = after; partial = g3 + cut t5 after } ∷
      (when eqb t5 t2 then [] else (record { case = inner; t3 = t3; t4 = t4; t5 = t5; t6 = before; partial = g3 + cut t5 before } ∷ []))
      else []

  -- one side of t3, "t4 before, then after t3"; "t5 from t4's list"; g1 is the gain before the leg t3-t4 goes
  unfoldable pub side : Stop → Time → Bool → List Trial
  side t3 g1 after =
      let t4 = beside fwd r after t3 in
      let g2 = g1 + cut t3 t4 in
      twos after t3 t4 g2 ++ each (λ t5. sixths after t3 t4 t5 (g2 - add t4 t5)) (keep (free5 r t1 t4) (scan (λ t5. ltb (add t4 t5) g2) (list t4)))

  -- all trials, "t3 from t2's near list", at a gain g so far
  unfoldable pub trials : Time → List Trial
  trials g =
      each (λ t3. side t3 (g - add t2 t3) false ++ side t3 (g - add t2 t3) true) (keep (free3 fwd r t1 t2) (scan (λ t3. ltb (add t2 t3) g) (list t2)))

-- what a step finds: its gain, 0 where it finds nothing; the track after it; the stops that it queues, in order
pub record Found : Type 0 where
  pub gain : Time
  pub track : Track
  pub touched : List Stop

unfoldable pub nothing : Track → Found
nothing t = record { gain = 0; track = t; touched = [] }

-- "The first gain above 0 is applied": the first trial that closes with a gain, carried out
unfoldable pub first_closing : Legs → Bool → Stop → Stop → Track → List Trial → Found
first_closing add fwd t1 t2 t [] = nothing t
first_closing add fwd t1 t2 t (x ∷ xs) =
    elim (ltb (add x.t6 t1) x.partial) [
      | true ↦ record { gain = x.partial - add x.t6 t1; track = seq3 fwd x.case t1 t2 x.t3 x.t4 x.t5 x.t6 t; touched = ends_of x }
      | false ↦ first_closing add fwd t1 t2 t xs
    ]

-- the same with more stops queued first, where it gains
unfoldable pub touching : List Stop → Found → Found
touching vs f = elim f.gain [ zero ↦ f | suc g ↦ record { gain = suc g; track = f.track; touched = vs ++ f.touched } ]

-- `improve`: "t2 is next to t1 in the direction"
unfoldable pub improve : Plan → Bool → Stop → Track → Found
improve p fwd t1 t =
    let t2 = ahead fwd t.round t1 in
    touching (t1 ∷ t2 ∷ []) (first_closing (leg_of p) fwd t1 t2 t (trials (leg_of p) (leg_of p) (near_of p) keep_while fwd t.round t1 t2 (leg_of p t1 t2)))

-- the first of two steps that gains
unfoldable pub or_else : Found → (Track → Found) → Found
or_else f other = elim f.gain [ zero ↦ other f.track | suc g ↦ f ]

-- "`improve`, forward then backward"
unfoldable pub improve_both : Plan → Stop → Track → Found
improve_both p t1 t = or_else (improve p true t1 t) (improve p false t1)
