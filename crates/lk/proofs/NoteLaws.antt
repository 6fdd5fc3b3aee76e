-- One move more in the state's stacks.
use Prim.Native.Nat.{ℕ, ◌+◌, ◌*◌, ◌≤◌, ◌<◌}
use mathlib.Core.Path.{◌≡◌, sym, ap, ◌∙◌}
use mathlib.Core.List.{List, [], ◌∷◌, ◌++◌}
use native.Mathlib.Omega.{arith}
use lib.ListN.{length, set, length-set}
use Rattle.rules.specs.Words.{Stop}
use Rattle.rules.specs.Ring.{leg}
use Rattle.lk_state.specs.Stacks.{legs_in, stops_in, Stepping, LegWord}
use Rattle.lk_state.specs.States.{Roomy}
use Rattle.lk_state.specs.declared.LkState.{LkState}
use Rattle.lk_state.proofs.StackLaws.{legs_set, stops_set, leg_push, stops_push, stepping_push}

-- a move more in a state of `len` moves
pub record Noted (st : LkState) (len : ℕ) (t2 t3 t4 : Stop) (st' : LkState) : Type 0 where
  pub room : Roomy st'
  pub stops_old : (i : ℕ) → i ≤ len → stops_in st'.steps i ≡ stops_in st.steps i
  pub added_old : (i : ℕ) → i ≤ len → legs_in st'.added i ≡ legs_in st.added i
  pub removed_old : (i : ℕ) → i ≤ len + 1 → legs_in st'.removed i ≡ legs_in st.removed i
  pub stops_new : stops_in st'.steps (len + 1) ≡ stops_in st.steps len ++ (t3 ∷ t4 ∷ [])
  pub added_new : legs_in st'.added (len + 1) ≡ leg t2 t3 ∷ legs_in st.added len
  pub removed_new : legs_in st'.removed (len + 2) ≡ leg t3 t4 ∷ legs_in st.removed (len + 1)
  pub below : (n : ℕ) → t3 < n → t4 < n → Stepping st.steps len n → Stepping st'.steps (len + 1) n

pub noted : (st st' : LkState) (len : ℕ) (t2 t3 t4 : Stop) (come gone : ℕ) → Roomy st → len < 25 → t4 < 4096 → LegWord t2 t3 come → LegWord t3 t4 gone
    → st'.steps ≡ set st.steps len (t3 * 4096 + t4) → st'.added ≡ set st.added len come → st'.removed ≡ set st.removed (len + 1) gone → Noted st len t2 t3 t4 st'
noted st st' len t2 t3 t4 come gone r h h4 lc lg es ea er =
    let q : len + 1 + 1 ≡ len + 2 = omega arith in
    let ls : len < length st.steps = omega (arith, r.steps_long) in
    let la : len < length st.added = omega (arith, r.added_long) in
    let lr : len + 1 < length st.removed = omega (arith, r.removed_long) in
    record {
      room = record {
        steps_long = ap length es ∙ length-set st.steps len (t3 * 4096 + t4) ∙ r.steps_long;
        added_long = ap length ea ∙ length-set st.added len come ∙ r.added_long;
        removed_long = ap length er ∙ length-set st.removed (len + 1) gone ∙ r.removed_long;
      };
      stops_old = λ i hi. ap (λ (w : List ℕ). stops_in w i) es ∙ stops_set st.steps i len (t3 * 4096 + t4) hi;
      added_old = λ i hi. ap (λ (w : List ℕ). legs_in w i) ea ∙ legs_set st.added i len come hi;
      removed_old = λ i hi. ap (λ (w : List ℕ). legs_in w i) er ∙ legs_set st.removed i (len + 1) gone hi;
      stops_new = ap (λ (w : List ℕ). stops_in w (len + 1)) es ∙ stops_push st.steps len t3 t4 ls h4;
      added_new = ap (λ (w : List ℕ). legs_in w (len + 1)) ea ∙ leg_push st.added len come t2 t3 la lc;
      removed_new = ap (legs_in st'.removed) (sym q) ∙ ap (λ (w : List ℕ). legs_in w (len + 1 + 1)) er ∙ leg_push st.removed (len + 1) gone t3 t4 lr lg;
      below = λ n k3 k4 s. rw es (stepping_push st.steps len n t3 t4 ls h4 k3 k4 s);
    }
