-- What the scans of a level find. Assumes nothing.
use Rattle.std.specs.Prelude.{ℕ, zero, suc, ◌+◌, ◌≤◌, ◌<◌, ◌≡◌, List, [], ◌∷◌, eqb, take}
use Rattle.rules.specs.Words.{Stop, Time, Round}
use Rattle.rules.specs.Ring.{Leg, succ}
use Rattle.rules.specs.Moves.{two}
use Rattle.rules.specs.Improve.{Trial}
use Rattle.rules.specs.Step.{Step, insert}
use Rattle.rules.specs.Lk.{conts}
use Rattle.legs.specs.declared.plan.Plan.{Plan}
use Rattle.ring.specs.declared.round.Round.{Round as RoundOf}
use Rattle.improve.specs.Steps.{near_plan}
use Rattle.lk_scans.specs.declared.Pick.{Pick}
use Rattle.lk_scans.specs.declared.Picks.{Picks}

-- a step that only its round and its legs are asked of
unfoldable pub step_in : Round → List Leg → List Leg → Step
step_in r added removed = record { track = record { round = r; journal = [] }; stops = []; added = added; removed = removed }

-- the continuations of a level, over what is lent
unfoldable pub conts_in : ℕ → List Time → ℕ → List Stop → Round → List Leg → List Leg → Stop → Stop → Time → List Trial
conts_in n matrix k near r added removed t1 t2 g = conts (near_plan n matrix k near) (eqb (succ r t1) t2) (step_in r added removed) t1 t2 g

-- the same of a plan and a round that are lent
abbrev pub conts_on : Plan → RoundOf → List Leg → List Leg → Stop → Stop → Time → List Trial
conts_on p r added removed t1 t2 g = conts_in p.matrix.n p.matrix.times.now p.near.count p.near.entries.now r.stops.now added removed t1 t2 g

-- a continuation as a trial
unfoldable pub cont_is : Time → Stop → Stop → Trial
cont_is partial t3 t4 = record { case = two; t3 = t3; t4 = t4; t5 = t4; t6 = t4; partial = partial }

-- in front of a list; no partial gain: there is none, and none behind it
unfoldable pub shown : Trial → List Trial → List Trial
shown x l = elim x.partial [ zero ↦ [] | suc g ↦ x ∷ l ]

-- those of a struct, from the i-th on
unfoldable pub trial_in : Pick → Trial
unfolding cont_is
trial_in p = cont_is p.partial p.t3.0 p.t4.0

unfoldable pub shown_from : ℕ → Picks → List Trial
unfolding shown
shown_from zero ps = shown (trial_in ps.a) (shown (trial_in ps.b) (shown (trial_in ps.c) []))
shown_from (suc zero) ps = shown (trial_in ps.b) (shown (trial_in ps.c) [])
shown_from (suc (suc zero)) ps = shown (trial_in ps.c) []
shown_from (suc (suc (suc i))) ps = []

-- stops of n, and a partial gain of one leg more than g at most
pub record Fine (n : ℕ) (g partial : Time) (t3 t4 : Stop) : Type 0 where
  pub low3 : t3 < n
  pub low4 : t4 < n
  pub small : partial ≤ g + 65535

-- the one that is chosen of a list of at most one
pub record Picked (n : ℕ) (g : Time) (xs : List Trial) (partial : Time) (t3 t4 : Stop) : Type 0 where
  pub is : shown (cont_is partial t3 t4) [] ≡ xs
  pub fine : Fine n g partial t3 t4

-- the same of three
pub record Fines (n : ℕ) (g : Time) (ps : Picks) : Type 0 where
  pub fine_a : Fine n g ps.a.partial ps.a.t3.0 ps.a.t4.0
  pub fine_b : Fine n g ps.b.partial ps.b.t3.0 ps.b.t4.0
  pub fine_c : Fine n g ps.c.partial ps.c.t3.0 ps.c.t4.0

-- the three that are chosen
pub record Firsts (n : ℕ) (g : Time) (xs : List Trial) (ps : Picks) : Type 0 where
  pub is : shown_from 0 ps ≡ xs
  pub fines : Fines n g ps

-- they fall
pub record Falling (ps : Picks) : Type 0 where
  pub second : ps.b.partial ≤ ps.a.partial
  pub third : ps.c.partial ≤ ps.b.partial

-- p put among ps
pub record Placed (ps : Picks) (p : Pick) (r : Picks) : Type 0 where
  pub is : Falling ps → shown_from 0 r ≡ take 3 (insert (trial_in p) (shown_from 0 ps))
  pub falls : Falling ps → Falling r
  pub fines : (n : ℕ) (g : Time) → Fines n g ps → Fine n g p.partial p.t3.0 p.t4.0 → Fines n g r

-- p is the i-th of ps; none from 3 on
pub record IsAt (ps : Picks) (i : ℕ) (p : Pick) : Type 0 where
  pub is : shown_from i ps ≡ shown (trial_in p) (shown_from (i + 1) ps)
  pub last : 3 ≤ i → p.partial ≡ 0
  pub fine : (n : ℕ) (g : Time) → Fines n g ps → Fine n g p.partial p.t3.0 p.t4.0
