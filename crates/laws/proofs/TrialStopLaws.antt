-- 01, 7: every stop of a trial is a stop of the round, whatever the legs are.
use Prim.Native.Nat.{◌+◌, ◌<◌, ℕ}
use mathlib.Core.Path.{◌≡◌}
use mathlib.Core.Logic.{◌≢◌}
use mathlib.Core.Bool.{Bool, false, true}
use mathlib.Core.List.{List, [], ◌∷◌}
use lib.Dec.{eqb, ltb}
use lib.ListN.{length}
use Rattle.rules.specs.Improve.{Scan, Trial, ends_of, side, sixths, trials, twos}
use Rattle.rules.specs.Moves.{Case, flips, inner, segment, two}
use Rattle.rules.specs.Ring.{beside, between}
use Rattle.rules.specs.Words.{Legs, Round, Stop, Time}
use Rattle.laws.proofs.ChoiceLaws.{either_way}
use Rattle.laws.proofs.EveryLaws.{All, Below, all_each, all_join, all_keep, more, none}
use Rattle.laws.proofs.PermLaws.{Perm, ahead_below, behind_below}
use Rattle.laws.proofs.TrialLaws.{GoodList, Scans}

-- t3 to t6 are stops below n
pub record Stops (n : ℕ) (x : Trial) : Type 0 where
  pub third : x.t3 < n
  pub fourth : x.t4 < n
  pub fifth : x.t5 < n
  pub sixth : x.t6 < n

-- and so are the stops that it queues
pub ends_below : (n : ℕ) (x : Trial) → Stops n x → Below n (ends_of x)
unfolding ends_of
ends_below n x s = go x.case
  where
    all : Below n (x.t3 ∷ x.t4 ∷ x.t5 ∷ x.t6 ∷ [])
    all = more s.third (more s.fourth (more s.fifth (more s.sixth none)))

    go : (c : Case) → Below n (elim c as (λ z. List Stop) [ two ↦ x.t3 ∷ x.t4 ∷ [] | flips ↦ x.t3 ∷ x.t4 ∷ x.t5 ∷ x.t6 ∷ [] | segment ↦ x.t3 ∷ x.t4 ∷ x.t5 ∷ x.t6 ∷ [] | inner ↦ x.t3 ∷ x.t4 ∷ x.t5 ∷ x.t6 ∷ [] ])
    go two = more s.third (more s.fourth none)
    go flips = all
    go segment = all
    go inner = all

module _ (add cut : Legs) (list : Stop → List Stop) (scan : Scan) (scans : Scans scan) (fwd : Bool) (r : Round) (pm : Perm r) (good : GoodList (length r) list) (t1 t2 : Stop) where
  beside_below : (after : Bool) (v : Stop) → v < length r → beside fwd r after v < length r
  unfolding beside
  beside_below after v h = either_way (λ w. w < length r) after (ahead_below r pm fwd v h) (behind_below r pm fwd v h)

  sixths_stops : (after : Bool) (t3 t4 t5 : Stop) (g : Time) → t3 < length r → t4 < length r → t5 < length r → All (Stops (length r)) (sixths add cut list scan fwd r t1 t2 after t3 t4 t5 g)
  unfolding sixths
  sixths_stops false t3 t4 t5 g h3 h4 h5 = more (record { third = h3; fourth = h4; fifth = h5; sixth = beside_below (between fwd r t2 t5 t4) t5 h5 }) none
  sixths_stops true t3 t4 t5 g h3 h4 h5 =
      either_way (All (Stops (length r))) (between fwd r t2 t5 t3)
      (more (record { third = h3; fourth = h4; fifth = h5; sixth = ahead_below r pm fwd t5 h5 })
      (either_way (All (Stops (length r))) (eqb t5 t2) none (more (record { third = h3; fourth = h4; fifth = h5; sixth = behind_below r pm fwd t5 h5 }) none)))
      none

  twos_stops : (after : Bool) (t3 t4 : Stop) (g : Time) → t3 < length r → t4 < length r → All (Stops (length r)) (twos add cut list scan fwd r t1 t2 after t3 t4 g)
  unfolding twos
  twos_stops true t3 t4 g h3 h4 = none
  twos_stops false t3 t4 g h3 h4 = more (record { third = h3; fourth = h4; fifth = h4; sixth = h4 }) none

  side_stops : (t3 : Stop) (g : Time) (after : Bool) → t3 < length r → All (Stops (length r)) (side add cut list scan fwd r t1 t2 t3 g after)
  unfolding side
  side_stops t3 g after h3 =
      let t4 = beside fwd r after t3 in
      let h4 = beside_below after t3 h3 in
      all_join _ _ (twos_stops after t3 t4 _ h3 h4)
      (all_each {P = λ t5. (((t5 < length r) × (t5 ≢ t4)) × (ltb (add t4 t5) (g + cut t3 t4) ≡ true)) × _} _ _ (λ t5 f. sixths_stops after t3 t4 t5 _ h3 h4 f.0.0.0) (all_keep _ _ (scans _ _ _ (good t4 h4))))

  -- of every trial
  pub trials_stops : (g : Time) → t2 < length r → All (Stops (length r)) (trials add cut list scan fwd r t1 t2 g)
  unfolding trials
  trials_stops g h2 =
      all_each {P = λ t3. (((t3 < length r) × (t3 ≢ t2)) × (ltb (add t2 t3) g ≡ true)) × _} _ _
      (λ t3 f. all_join _ _ (side_stops t3 _ false f.0.0.0) (side_stops t3 _ true f.0.0.0)) (all_keep _ _ (scans _ _ _ (good t2 h2)))
