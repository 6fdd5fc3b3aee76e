-- What the state stands for. Assumes nothing.
use Rattle.std.specs.Prelude.{◌≡◌, length}
use Rattle.rules.specs.Words.{Stop}
use Rattle.rules.specs.Journal.{Track}
use Rattle.rules.specs.Step.{Step, begin}
use Rattle.lk_state.specs.declared.LkState.{LkState}
use Rattle.lk_state.specs.Stacks.{legs_in, stops_in}

-- the step that a state stands for, with its track
unfoldable pub step_of : LkState → Track → Step
unfolding legs_in stops_in
step_of st t = record { track = t; stops = stops_in st.steps st.steps_len; added = legs_in st.added st.added_len; removed = legs_in st.removed st.removed_len }

-- the stacks have their room
pub record Roomy (st : LkState) : Type 0 where
  pub steps_long : length st.steps ≡ 100
  pub added_long : length st.added ≡ 98
  pub removed_long : length st.removed ≡ 99

-- a step begun
pub record Begun (t1 t2 : Stop) (st : LkState) : Type 0 where
  pub room : Roomy st
  pub steps_none : st.steps_len ≡ 0
  pub added_none : st.added_len ≡ 0
  pub removed_one : st.removed_len ≡ 1
  pub first_is : st.first ≡ t2
  pub is : (t : Track) → step_of st t ≡ begin t t1 t2
