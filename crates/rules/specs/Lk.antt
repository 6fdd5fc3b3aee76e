-- 01, "The port", 8: `lk_from`, `lk_deepen`. Assumes nothing.
use Rattle.std.specs.Prelude.{ℕ, zero, suc, ◌+◌, ◌-◌, Bool, true, false, not, ◌||◌, List, [], ◌∷◌, map, ltb, eqb, length, get_or}
use Rattle.rules.specs.Words.{Stop, Time}
use Rattle.rules.specs.Lists.{when◌then◌else◌, keep, keep_while}
use Rattle.rules.specs.Ring.{leg, succ, ahead, behind}
use Rattle.rules.specs.Journal.{Track}
use Rattle.rules.specs.Moves.{two, flip}
use Rattle.rules.specs.Plan.{Plan, leg_of, near_of}
use Rattle.rules.specs.Improve.{Trial, ends_of, free3, Found, nothing, or_else}
use Rattle.rules.specs.Step.{Step, among, begin, going, best}

-- "Breadth by level is a small table: 3, 1, then 1"
unfoldable pub breadth : ℕ → ℕ
breadth level = get_or (3 ∷ 1 ∷ []) level 1

-- t3 with t4 behind it; `partial` is the gain g - d23 + d34 before the closing leg
unfoldable pub cont_of : Plan → Bool → Step → Stop → Time → Stop → Trial
cont_of p fwd s t2 g t3 =
    let t4 = behind fwd s.track.round t3 in
    record { case = two; t3 = t3; t4 = t4; t5 = t4; t6 = t4; partial = (g - leg_of p t2 t3) + leg_of p t3 t4 }

-- no leg is added that this step removed, none removed that it added
unfoldable pub may_flip : Step → Stop → Trial → Bool
may_flip s t2 x = not (among s.removed (leg t2 x.t3) || among s.added (leg x.t3 x.t4))

-- the continuations of one level, t3 from t2's near list
unfoldable pub conts : Plan → Bool → Step → Stop → Stop → Time → List Trial
conts p fwd s t1 t2 g =
    let thirds = keep (free3 fwd s.track.round t1 t2) (keep_while (λ t3. ltb (leg_of p t2 t3) g) (near_of p t2)) in
    keep (may_flip s t2) (map (cont_of p fwd s t2 g) thirds)

-- "Keeps the best closed gain": 0 for none, and the step as it then was
pub record Best : Type 0 where
  pub gain : Time
  pub step : Step

unfoldable pub better : Best → Step → Time → Time → Best
better b s partial closing = when ltb (closing + b.gain) partial then record { gain = partial - closing; step = s } else b

-- the step gone on with by a flip
unfoldable pub flipped : Stop → Stop → Step → Trial → Step
flipped t1 t2 s x = going s (flip t1 t2 x.t3 s.track) (ends_of x) (leg t2 x.t3 ∷ []) (leg x.t3 x.t4 ∷ [])

-- the continuations one after another, until one has led to a gain; `deeper` is the next level, from the new t2 and partial gain
unfoldable pub try_each : Plan → Stop → Stop → Step → Best → (Step → Stop → Time → Best → Best) → List Trial → Best
try_each p t1 t2 s b deeper [] = b
try_each p t1 t2 s b deeper (x ∷ xs) =
    let s' = flipped t1 t2 s x in
    let b' = deeper s' x.t4 x.partial (better b s' x.partial (leg_of p x.t4 t1)) in
    elim b'.gain [ zero ↦ try_each p t1 t2 s b deeper xs | suc g ↦ b' ]

-- `lk_deepen`: "Up to 25 levels", of which so many are left
unfoldable pub deepen : Plan → Stop → ℕ → Step → Stop → Time → Best → Best
deepen p t1 zero s t2 g b = b
deepen p t1 (suc levels) s t2 g b =
    let fwd = eqb (succ s.track.round t1) t2 in
    try_each p t1 t2 s b (deepen p t1 levels) (best (breadth (24 - levels)) [] (conts p fwd s t1 t2 g))

-- "and rolls back to it": the step as it was at the best closed gain
unfoldable pub lk_side : Plan → Stop → Bool → Track → Found
lk_side p t1 fwd t =
    let t2 = ahead fwd t.round t1 in
    let s = begin t t1 t2 in
    let b = deepen p t1 25 s t2 (leg_of p t1 t2) (record { gain = 0; step = s }) in
    elim b.gain [ zero ↦ nothing t | suc g ↦ record { gain = suc g; track = b.step.track; touched = t1 ∷ t2 ∷ b.step.stops } ]

-- `lk_from`: "0 below 5 stops"; t2 after t1, then before it
unfoldable pub lk_from : Plan → Stop → Track → Found
lk_from p t1 t = when ltb (length t.round) 5 then nothing t else or_else (lk_side p t1 true t) (lk_side p t1 false)
