-- What the levels of LK3 ask and promise. Assumes nothing.
use Rattle.std.specs.Prelude.{ℕ, ◌+◌, ◌-◌, ◌*◌, ◌≤◌, ◌<◌, ◌≡◌, List, [], ◌∷◌, ◌++◌, length}
use Rattle.rules.specs.Words.{Stop, Time}
use Rattle.rules.specs.Ring.{leg}
use Rattle.rules.specs.Journal.{Track as TrackOf}
use Rattle.rules.specs.Plan.{Plan as PlanOf}
use Rattle.rules.specs.Improve.{Found, ends_of, touching}
use Rattle.rules.specs.Step.{going}
use Rattle.rules.specs.Lk3.{level3}
use Rattle.legs.specs.declared.plan.Plan.{Plan}
use Rattle.work.specs.declared.work.Work.{Work}
use Rattle.improve.specs.Steps.{trial_of}
use Rattle.lk_state.specs.declared.LkState.{LkState}
use Rattle.lk_state.specs.Stacks.{Stepping, stops_in}
use Rattle.lk_state.specs.States.{step_of, Roomy}

-- the stacks at a level: two steps, two legs added and two removed for each level above it, and first the leg t1-t2
pub record Stacked (n level : ℕ) (st : LkState) : Type 0 where
  pub room : Roomy st
  pub steps_are : st.steps_len ≡ 2 * level
  pub added_are : st.added_len ≡ 2 * level
  pub removed_are : st.removed_len ≡ 2 * level + 1
  pub stepping : Stepping st.steps st.steps_len n
  pub first_low : st.first < n

-- a state with the move of t2 to t6 behind it
pub record Grown (st : LkState) (t2 t3 t4 t5 t6 : Stop) (st' : LkState) : Type 0 where
  pub room : Roomy st'
  pub steps_more : st'.steps_len ≡ st.steps_len + 2
  pub added_more : st'.added_len ≡ st.added_len + 2
  pub removed_more : st'.removed_len ≡ st.removed_len + 2
  pub first_same : st'.first ≡ st.first
  pub stepping : (n : ℕ) → t3 < n → t4 < n → t5 < n → t6 < n → Stepping st.steps st.steps_len n → Stepping st'.steps st'.steps_len n
  pub is : (t t' : TrackOf) → step_of st' t' ≡ going (step_of st t) t' (t3 ∷ t4 ∷ t5 ∷ t6 ∷ []) (leg t4 t5 ∷ leg t2 t3 ∷ []) (leg t5 t6 ∷ leg t3 t4 ∷ [])

-- what a step from t1 is handed: a plan with near lists, and memory for as many stops
pub record Step3 (p : Plan) (w : Work) (t1 : Stop) : Type 0 where
  pub size : p.matrix.n ≡ length w.track.now.stops.now
  pub some : 1 ≤ p.near.count
  pub low1 : t1 < length w.track.now.stops.now

-- and what a level of it is
pub record Level3 (w : Work) (st : LkState) (t2 : Stop) (g : Time) (level : ℕ) : Type 0 where
  pub above : level < 50
  pub room : 5 * (w.track.now.held + 2 * (50 - level)) ≤ length w.track.now.journal.now
  pub stacks : Stacked (length w.track.now.stops.now) level st
  pub low2 : t2 < length w.track.now.stops.now
  pub small : g ≤ 65535 * (2 * level + 1)

-- what a level finds, with t1 and the first t2 queued first
unfoldable pub found_at : PlanOf → Stop → LkState → TrackOf → Stop → Time → ℕ → Found
found_at p t1 st t t2 g level = touching (t1 ∷ st.first ∷ []) (level3 p t1 (50 - level) (step_of st t) t2 g)

-- the stops that a step queues that closes by a move: t1, the first t2, those of the moves before, its own
unfoldable pub queued_by : Stop → Stop → List ℕ → ℕ → ℕ → Stop → Stop → Stop → Stop → List Stop
queued_by t1 first steps len c t3 t4 t5 t6 = (t1 ∷ first ∷ []) ++ (stops_in steps len ++ ends_of (trial_of c t3 t4 t5 t6))
