-- 01, "Sizes and numbers": legs of 16 bits keep every time within 32 bits: "at most 268,431,360" for a round, and a few legs for a gain.
use Prim.Native.Nat.{◌*◌, ◌+◌, ◌-◌, ◌<◌, ◌≤◌, ℕ}
use mathlib.Core.Path.{◌≡◌}
use mathlib.Core.Bool.{Bool, false, true}
use mathlib.Core.List.{List, [], ◌++◌, ◌∷◌}
use native.Mathlib.Decide.{dec_lt}
use native.Mathlib.Omega.{arith}
use lib.Dec.{eqb, ltb}
use lib.ListN.{get_or-eq_default, length, length-append, length-take, take}
use Rattle.rules.specs.Improve.{Scan, Trial, free3, side, sixths, trials, twos}
use Rattle.rules.specs.Lists.{at, keep, keep_while}
use Rattle.rules.specs.Lk.{cont_of, conts, may_flip}
use Rattle.rules.specs.Plan.{Plan, leg_in, leg_of, near_of}
use Rattle.rules.specs.Ring.{ahead, along, behind, beside, between, lap, path, path_cost, recount, turn}
use Rattle.rules.specs.Step.{Step}
use Rattle.rules.specs.Words.{Legs, Place, Round, Stop, Time}
use Rattle.laws.proofs.ChoiceLaws.{either_way}
use Rattle.laws.proofs.EveryLaws.{All, all_any, all_each, all_image, all_join, all_keep, all_map, more, none}

-- no leg takes more than 65535
abbrev pub Short : Legs → Type 0
Short d = (a b : Stop) → d a b ≤ 65535

pub leg_in_short : (n : ℕ) (matrix : List Time) → ((i : ℕ) → i < length matrix → at matrix i ≤ 65535) → Short (leg_in n matrix)
unfolding leg_in
leg_in_short n matrix h a b = elim (dec_lt (a * n + b) (length matrix)) [
  | yes k ↦ h (a * n + b) k
  | no k ↦ (let l : length matrix ≤ a * n + b = omega (arith, k) in rw (get_or-eq_default matrix 0 l) (omega arith))
]

module _ (d : Legs) (short : Short d) where
  along_bound : (a : Stop) (l : List Stop) → along d a l ≤ length l * 65535
  unfolding along
  along_bound a [] = omega arith
  along_bound a (b ∷ l) = omega (arith, short a b, along_bound b l)

  -- the time of a round
  pub recount_bound : (r : Round) → recount d r ≤ length r * 65535
  unfolding recount lap
  recount_bound [] = omega arith
  recount_bound (a ∷ []) = omega arith
  recount_bound (a ∷ b ∷ l) = omega (arith, along_bound a ((b ∷ l) ++ (a ∷ [])), length-append (b ∷ l) (a ∷ []))

  path_bound : (legs : ℕ) (l : List Stop) → length l ≤ legs + 1 → path d l ≤ legs * 65535
  unfolding path
  path_bound legs [] h = omega arith
  path_bound legs (a ∷ l) h = omega (arith, along_bound a l)

  -- of so many legs
  pub path_cost_bound : (start : Place) (legs : ℕ) (r : Round) → path_cost d start legs r ≤ legs * 65535
  unfolding path_cost
  path_cost_bound start legs r = path_bound legs (take (legs + 1) (turn start r)) (omega (arith, length-take (legs + 1) (turn start r)))

  one : (a b : Stop) (g most : Time) → g + 65535 ≤ most → g + d a b ≤ most
  one a b g most h = omega (arith, short a b)

  -- a trial adds two legs at most to the gain so far
  module _ (list : Stop → List Stop) (scan : Scan) (fwd : Bool) (r : Round) (t1 t2 : Stop) where
    sixths_bound : (after : Bool) (t3 t4 t5 : Stop) (g most : Time) → g + 65535 ≤ most → All (λ x. x.partial ≤ most) (sixths d d list scan fwd r t1 t2 after t3 t4 t5 g)
    unfolding sixths
    sixths_bound false t3 t4 t5 g most h = more (one t5 (beside fwd r (between fwd r t2 t5 t4) t5) g most h) none
    sixths_bound true t3 t4 t5 g most h =
        either_way (All (λ (x : Trial). x.partial ≤ most)) (between fwd r t2 t5 t3)
        (more (one t5 (ahead fwd r t5) g most h) (either_way (All (λ (x : Trial). x.partial ≤ most)) (eqb t5 t2) none (more (one t5 (behind fwd r t5) g most h) none)))
        none

    twos_bound : (after : Bool) (t3 t4 : Stop) (g most : Time) → g ≤ most → All (λ x. x.partial ≤ most) (twos d d list scan fwd r t1 t2 after t3 t4 g)
    unfolding twos
    twos_bound true t3 t4 g most h = none
    twos_bound false t3 t4 g most h = more h none

    side_bound : (t3 : Stop) (g most : Time) (after : Bool) → g + 131070 ≤ most → All (λ x. x.partial ≤ most) (side d d list scan fwd r t1 t2 t3 g after)
    unfolding side
    side_bound t3 g most after h =
        let t4 = beside fwd r after t3 in
        let k = short t3 t4 in
        all_join _ _ (twos_bound after t3 t4 (g + d t3 t4) most (omega arith))
        (all_each {P = λ t5. Unit} _ _ (λ t5 u. sixths_bound after t3 t4 t5 (g + d t3 t4 - d t4 t5) most (omega arith)) (all_any _))

    pub trials_bound : (g : Time) → All (λ x. x.partial ≤ g + 131070) (trials d d list scan fwd r t1 t2 g)
    unfolding trials
    trials_bound g =
        all_each {P = λ t3. Unit} _ _ (λ t3 u. all_join _ _ (side_bound t3 (g - d t2 t3) (g + 131070) false (omega arith)) (side_bound t3 (g - d t2 t3) (g + 131070) true (omega arith))) (all_any _)

-- a flip one
cont_bound : (p : Plan) → Short (leg_of p) → (fwd : Bool) (s : Step) (t2 : Stop) (g : Time) (t3 : Stop) → (cont_of p fwd s t2 g t3).partial ≤ g + 65535
unfolding cont_of
cont_bound p short fwd s t2 g t3 = one (leg_of p) short t3 (behind fwd s.track.round t3) (g - leg_of p t2 t3) (g + 65535) (omega arith)

pub conts_bound : (p : Plan) → Short (leg_of p) → (fwd : Bool) (s : Step) (t1 t2 : Stop) (g : Time) → All (λ x. x.partial ≤ g + 65535) (conts p fwd s t1 t2 g)
unfolding conts
conts_bound p short fwd s t1 t2 g =
    let thirds = keep (free3 fwd s.track.round t1 t2) (keep_while (λ t3. ltb (leg_of p t2 t3) g) (near_of p t2)) in
    all_map {P = λ x. (x.partial ≤ g + 65535) × (may_flip s t2 x ≡ true)} _ (λ x q. q.0)
    (all_keep _ _ (all_image {P = λ t3. Unit} (cont_of p fwd s t2 g) thirds (λ t3 u. cont_bound p short fwd s t2 g t3) (all_any thirds)))
