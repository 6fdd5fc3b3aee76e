-- A state with a move behind it stands for the step gone on with.
use Prim.Native.Nat.{ℕ, ◌+◌, ◌*◌, ◌≤◌, ◌<◌}
use mathlib.Core.Path.{◌≡◌, refl, ap, ◌∙◌}
use mathlib.Core.List.{List, [], ◌∷◌, ◌++◌, append_assoc}
use native.Mathlib.Omega.{arith}
use lib.ListN.{length, set, length-set}
use Rattle.rules.specs.Words.{Stop}
use Rattle.rules.specs.Ring.{Leg, leg}
use Rattle.rules.specs.Step.{going}
use Rattle.lk_state.specs.declared.LkState.{LkState}
use Rattle.lk_state.specs.Stacks.{legs_in, stops_in, Stepping, LegWord}
use Rattle.lk_state.specs.States.{step_of, Roomy}
use Rattle.lk_state.proofs.StackLaws.{leg_push, stops_push, stepping_push}
use Rattle.seeks.specs.Seeks.{Lasts}
use Rattle.lk3.specs.Levels.{Grown}

-- two words more
legs_two : (ws : List ℕ) (i w w' : ℕ) (a b c d : Stop) → i + 2 ≤ length ws → LegWord a b w → LegWord c d w' → legs_in (set (set ws i w) (i + 1) w') (i + 2) ≡ leg c d ∷ leg a b ∷ legs_in ws i
legs_two ws i w w' a b c d h l l' =
    let q : i + 2 ≡ i + 1 + 1 = omega arith in
    let long : i + 1 < length (set ws i w) = simp length-set (omega arith) in
    ap (legs_in (set (set ws i w) (i + 1) w')) q ∙ leg_push (set ws i w) (i + 1) w' c d long l' ∙ ap (λ (ls : List Leg). leg c d ∷ ls) (leg_push ws i w a b (omega arith) l)

stops_two : (ws : List ℕ) (i : ℕ) (t3 t4 t5 t6 : Stop) → i + 2 ≤ length ws → t4 < 4096 → t6 < 4096 → stops_in (set (set ws i (t3 * 4096 + t4)) (i + 1) (t5 * 4096 + t6)) (i + 2) ≡ stops_in ws i ++ (t3 ∷ t4 ∷ t5 ∷ t6 ∷ [])
stops_two ws i t3 t4 t5 t6 h h4 h6 =
    let w : ℕ = t3 * 4096 + t4 in
    let q : i + 2 ≡ i + 1 + 1 = omega arith in
    let long : i + 1 < length (set ws i w) = simp length-set (omega arith) in
    ap (stops_in (set (set ws i w) (i + 1) (t5 * 4096 + t6))) q ∙ stops_push (set ws i w) (i + 1) t5 t6 long h6 ∙ ap (λ (l : List Stop). l ++ (t5 ∷ t6 ∷ [])) (stops_push ws i t3 t4 (omega arith) h4)
    ∙ append_assoc (stops_in ws i) (t3 ∷ t4 ∷ []) (t5 ∷ t6 ∷ [])

stepping_two : (ws : List ℕ) (i n : ℕ) (t3 t4 t5 t6 : Stop) → i + 2 ≤ length ws → t4 < 4096 → t6 < 4096 → t3 < n → t4 < n → t5 < n → t6 < n → Stepping ws i n
    → Stepping (set (set ws i (t3 * 4096 + t4)) (i + 1) (t5 * 4096 + t6)) (i + 2) n
stepping_two ws i n t3 t4 t5 t6 h h4 h6 l3 l4 l5 l6 s =
    let w : ℕ = t3 * 4096 + t4 in
    let q : i + 2 ≡ i + 1 + 1 = omega arith in
    let long : i + 1 < length (set ws i w) = simp length-set (omega arith) in
    rw q (stepping_push (set ws i w) (i + 1) n t5 t6 long h6 l5 l6 (stepping_push ws i n t3 t4 (omega arith) h4 l3 l4 s))

module _ (st : LkState) (t2 t3 t4 t5 t6 : Stop) (room : Roomy st) (few_steps : st.steps_len ≤ 98) (few_added : st.added_len ≤ 96) (few_removed : st.removed_len ≤ 97)
    (low : Lasts 4096 t3 t4 t5 t6) (w23 w45 w34 w56 : ℕ) (l23 : LegWord t2 t3 w23) (l45 : LegWord t4 t5 w45) (l34 : LegWord t3 t4 w34) (l56 : LegWord t5 t6 w56) where
  -- the state as the code leaves it
  unfoldable pub after : LkState
  after = record {
    steps = set (set st.steps st.steps_len (t3 * 4096 + t4)) (st.steps_len + 1) (t5 * 4096 + t6);
    steps_len = st.steps_len + 2;
    added = set (set st.added st.added_len w23) (st.added_len + 1) w45;
    added_len = st.added_len + 2;
    removed = set (set st.removed st.removed_len w34) (st.removed_len + 1) w56;
    removed_len = st.removed_len + 2;
    first = st.first;
  }

  pub grown : Grown st t2 t3 t4 t5 t6 after
  unfolding after step_of going
  grown =
      let fits : st.steps_len + 2 ≤ length st.steps = omega (arith, room.steps_long) in
      let fits_added : st.added_len + 2 ≤ length st.added = omega (arith, room.added_long) in
      let fits_removed : st.removed_len + 2 ≤ length st.removed = omega (arith, room.removed_long) in
      let stops = stops_two st.steps st.steps_len t3 t4 t5 t6 fits low.low4 low.low6 in
      let adds = legs_two st.added st.added_len w23 w45 t2 t3 t4 t5 fits_added l23 l45 in
      let cuts = legs_two st.removed st.removed_len w34 w56 t3 t4 t5 t6 fits_removed l34 l56 in
      record {
        room = record { steps_long = simp length-set room.steps_long; added_long = simp length-set room.added_long; removed_long = simp length-set room.removed_long };
        steps_more = refl;
        added_more = refl;
        removed_more = refl;
        first_same = refl;
        stepping = λ n l3 l4 l5 l6 s. stepping_two st.steps st.steps_len n t3 t4 t5 t6 fits low.low4 low.low6 l3 l4 l5 l6 s;
        is = λ t t' i. record { track = t'; stops = stops i; added = adds i; removed = cuts i };
      }
