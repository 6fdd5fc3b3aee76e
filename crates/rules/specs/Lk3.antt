-- 01, "The port", 9: `lk3_from`, `lk3_level`, `lk3_level_dir`. Assumes nothing.
use Rattle.std.specs.Prelude.{ℕ, zero, suc, ◌-◌, Bool, true, false, not, ◌&&◌, ◌||◌, List, [], ◌∷◌, ltb, eqb, length, get_or}
use Rattle.rules.specs.Words.{Stop, Time}
use Rattle.rules.specs.Lists.{when◌then◌else◌, at, keep}
use Rattle.rules.specs.Ring.{leg, succ, ahead}
use Rattle.rules.specs.Journal.{Track}
use Rattle.rules.specs.Moves.{two, flips, segment, inner, seq3}
use Rattle.rules.specs.Plan.{Plan, leg_of, near_of, alpha_of}
use Rattle.rules.specs.Improve.{Trial, ends_of, trials, Found, nothing, touching, first_closing, or_else}
use Rattle.rules.specs.Step.{Step, among, begin, going, best}

-- "for LK3 1, 1, then 1"
unfoldable pub breadth3 : ℕ → ℕ
breadth3 level = get_or (1 ∷ 1 ∷ []) level 1

-- some t7 could keep the gain above 0, as the first entry of t6's near list tells; no leg is added that this step removed, none removed
-- that it added
unfoldable pub may_move : Plan → Step → Stop → Trial → Bool
may_move p s t2 x =
    ltb (leg_of p x.t6 (at (near_of p x.t6) 0)) x.partial &&
    not (among s.removed (leg t2 x.t3) || among s.removed (leg x.t4 x.t5) || among s.added (leg x.t3 x.t4) || among s.added (leg x.t5 x.t6))

-- what may be gone on with: a 3-opt move that may be made
unfoldable pub may_go_on : Plan → Step → Stop → Trial → Bool
may_go_on p s t2 x =
    let ok = may_move p s t2 x in
    elim x.case [ two ↦ false | flips ↦ ok | segment ↦ ok | inner ↦ ok ]

-- the step gone on with by a 3-opt move
unfoldable pub moved3 : Bool → Stop → Stop → Step → Trial → Step
moved3 fwd t1 t2 s x =
    going s (seq3 fwd x.case t1 t2 x.t3 x.t4 x.t5 x.t6 s.track) (ends_of x) (leg x.t4 x.t5 ∷ leg t2 x.t3 ∷ []) (leg x.t5 x.t6 ∷ leg x.t3 x.t4 ∷ [])

-- the continuations one after another, until one has led to a gain; `deeper` is the next level, from the new t2 and partial gain
unfoldable pub try_each3 : Bool → Stop → Stop → Step → (Step → Stop → Time → Found) → List Trial → Found
try_each3 fwd t1 t2 s deeper [] = nothing s.track
try_each3 fwd t1 t2 s deeper (x ∷ xs) =
    let f = deeper (moved3 fwd t1 t2 s x) x.t6 x.partial in
    elim f.gain [ zero ↦ try_each3 fwd t1 t2 s deeper xs | suc g ↦ f ]

-- `lk3_level` and `lk3_level_dir`: "Up to 50 levels; the level chooses the direction"; "Alpha scans skip a failing entry and go on". The
-- first trial that closes with a gain ends the step; else the best that may be gone on with are tried, where another level is left
unfoldable pub level3 : Plan → Stop → ℕ → Step → Stop → Time → Found
level3 p t1 zero s t2 g = nothing s.track
level3 p t1 (suc levels) s t2 g =
    let fwd = eqb (succ s.track.round t1) t2 in
    let tried = trials (leg_of p) (leg_of p) (alpha_of p) keep fwd s.track.round t1 t2 g in
    let f = first_closing (leg_of p) fwd t1 t2 s.track tried in
    elim f.gain [
      | zero ↦ try_each3 fwd t1 t2 s (level3 p t1 levels) (when eqb levels 0 then [] else best (breadth3 (49 - levels)) [] (keep (may_go_on p s t2) tried))
      | suc k ↦ touching s.stops f
    ]

-- t2 on one side of t1
unfoldable pub lk3_side : Plan → Stop → Bool → Track → Found
lk3_side p t1 fwd t =
    let t2 = ahead fwd t.round t1 in
    touching (t1 ∷ t2 ∷ []) (level3 p t1 50 (begin t t1 t2) t2 (leg_of p t1 t2))

-- `lk3_from`: 0 below 5 stops; t2 after t1, then before it
unfoldable pub lk3_from : Plan → Stop → Track → Found
lk3_from p t1 t = when ltb (length t.round) 5 then nothing t else or_else (lk3_side p t1 true t) (lk3_side p t1 false)
