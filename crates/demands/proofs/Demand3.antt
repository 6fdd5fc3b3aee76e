-- Demand 3: "after any sequence of kicks, descents, commits and undos, refused ones included".
use Prim.Native.Nat.{zero, suc, ℕ}
use mathlib.Core.Path.{◌∙◌, ◌≡◌, ap, ap₂, refl, subst, sym}
use mathlib.Core.Bool.{Bool, false, true}
use mathlib.Core.List.{List, [], ◌∷◌}
use native.Mathlib.Omega.{arith}
use lib.Dec.{eqb-suc-zero}
use lib.ListN.{length}
use Rattle.rules.specs.Calls.{Done}
use Rattle.rules.specs.Journal.{entries_of, good_journal, undo_all}
use Rattle.rules.specs.Lists.{when◌then◌else◌}
use Rattle.rules.specs.Memory.{Carried, Lent}
use Rattle.rules.specs.Numbers.{agree, load_number}
use Rattle.rules.specs.Plan.{leg_in}
use Rattle.rules.specs.Ring.{is_round, places_of, recount}
use Rattle.rules.specs.Words.{Time}
use Rattle.laws.proofs.AcceptLaws.{lendable}
use Rattle.promises.specs.Promises.{Stands}
use Rattle.demands.specs.Demands.{Call, Committed, Demand3, Made, Run, Untouched, begun, commit, commits, committed, descended, descent, kick, kicked, last_commit, load, loaded, onward, search, searched, undo, undone}
use Rattle.demands.proofs.HoldsLaws.{Holds, as_left, commit_holds, descent_holds, kick_holds, load_holds, refused_holds, search_holds, undo_back, undo_holds}

-- memory that nobody touched holds the same
pub untouched_holds : (n : ℕ) (matrix : List Time) (l m : Lent) (c : Carried) (k : Committed) → Untouched matrix l m → Holds n matrix l c k → Holds n matrix m c k
untouched_holds n matrix l m c k u h = record {
  cells = h.cells;
  carried = h.carried ∙ ap (recount (leg_in n matrix)) (sym u.same_round);
  once = ap (is_round n) u.same_round ∙ h.once;
  inverse = u.same_places ∙ h.inverse ∙ ap places_of (sym u.same_round);
  agrees = ap₂ (λ (w f : List ℕ). agree n w f c.head c.count) u.same_queue u.same_flags ∙ h.agrees;
  ranged = ap (λ (js : List ℕ). good_journal n js c.held) u.same_journal ∙ h.ranged;
  back = ap₂ undo_all (ap (λ (js : List ℕ). entries_of js c.held) u.same_journal) u.same_round ∙ h.back;
  back_time = h.back_time;
}

-- ---- one more call
module _ (n : ℕ) (matrix : List Time) (m : Lent) (c : Carried) (l' : Lent) (c' : Carried) (matrix_is : m.matrix ≡ matrix) (k : Committed) (h : Holds n matrix m c k) where
  -- not refused
  done_call : (q : Call) → Made m c 0 l' c' q → Holds n matrix l' c' (when commits q 0 then as_left l' c' else k)
  unfolding commits
  done_call (load start) (loaded p) = load_holds n matrix m c l' c' matrix_is h.cells start p
  done_call (kick kind x) (kicked p) = kick_holds n matrix m c l' c' matrix_is h.cells k h kind x _ _ p
  done_call (descent true step budget) (descended p) = descent_holds n matrix m c l' c' matrix_is h.cells k h true step budget _ _ _ p
  done_call (descent false step budget) (descended p) = descent_holds n matrix m c l' c' matrix_is h.cells k h false step budget _ _ _ p
  done_call commit (committed p) = commit_holds n matrix m c l' c' matrix_is h.cells p
  done_call undo (undone p) = undo_holds n matrix m c l' c' matrix_is h.cells k h p
  done_call (search b step kind stop budget x) (searched p) = search_holds n matrix m c l' c' matrix_is h.cells b step kind stop budget x _ _ _ _ _ _ p

-- no refused call commits
refused_commits : (j : ℕ) (q : Call) → commits q (suc j) ≡ false
unfolding commits
refused_commits j (load start) = eqb-suc-zero j
refused_commits j (kick kind x) = refl
refused_commits j (descent true step budget) = refl
refused_commits j (descent false step budget) = eqb-suc-zero j
refused_commits j commit = eqb-suc-zero j
refused_commits j undo = refl
refused_commits j (search b step kind stop budget x) = eqb-suc-zero j

module _ (n : ℕ) (matrix : List Time) (m : Lent) (c : Carried) (l' : Lent) (c' : Carried) (matrix_is : m.matrix ≡ matrix) (k : Committed) (h : Holds n matrix m c k) where
  -- refused
  still : {done : Done} (j : ℕ) → Stands (suc j) done m c l' c' → Holds n matrix l' c' k
  still {done} j s = refused_holds n matrix m c l' c' matrix_is h.cells done (suc j) k s (λ e. omega arith) h

  refused_call : (j : ℕ) (q : Call) → Made m c (suc j) l' c' q → Holds n matrix l' c' k
  refused_call j (load start) (loaded p) = still j p.stands
  refused_call j (kick kind x) (kicked p) = still j p.stands
  refused_call j (descent keeps step budget) (descended p) = still j p.stands
  refused_call j commit (committed p) = still j p.stands
  refused_call j undo (undone p) = still j p.stands
  refused_call j (search b step kind stop budget x) (searched p) = still j p.stands

  call_holds : (number : ℕ) (q : Call) → Made m c number l' c' q → Holds n matrix l' c' (when commits q number then as_left l' c' else k)
  call_holds zero q made = done_call n matrix m c l' c' matrix_is k h q made
  call_holds (suc j) q made = subst (λ (b : Bool). Holds n matrix l' c' (when b then as_left l' c' else k)) (sym (refused_commits j q)) (refused_call j q made)

  -- an undo that is not refused
  undo_made : Made m c 0 l' c' undo → (l'.round ≡ k.round) × (c'.time ≡ k.time)
  undo_made (undone p) = undo_back n matrix m c l' c' matrix_is h.cells k h p

-- a whole run
pub run_holds : (n : ℕ) (matrix : List Time) (l : Lent) (c : Carried) (run : Run n matrix l c) → Holds n matrix l c (last_commit run)
unfolding last_commit load_number
run_holds n matrix l c (begun {l = m} {c = d} {start = start} n_is matrix_is (loaded p)) =
    let a = (lendable m true (length start ∷ []) _ (sym p.number_is)).0 in
    load_holds n matrix m d l c matrix_is (ap length (sym matrix_is) ∙ a.cells ∙ rw n_is) start p
run_holds n matrix l c (onward {l = l₀} {c = c₀} {m = m} {number = number} run u q made) =
    call_holds n matrix m c₀ l c u.same_matrix (last_commit run) (untouched_holds n matrix l₀ m c₀ (last_commit run) u (run_holds n matrix l₀ c₀ run)) number q made

pub demand_3 : {n : ℕ} {matrix : List Time} {l : Lent} {c : Carried} (run : Run n matrix l c) → Demand3 run
demand_3 {n} {matrix} {l} {c} run =
    let h = run_holds n matrix l c run in
    record {
      time_is_recount = h.carried;
      each_stop_once = h.once;
      places_inverse = h.inverse;
      undo_gives = λ m l' c' u made. undo_made n matrix m c l' c' u.same_matrix (last_commit run) (untouched_holds n matrix l m c (last_commit run) u h) made;
    }
