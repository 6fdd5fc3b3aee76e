-- What every call keeps: the carried time is the recount, the round holds each stop once, the places are its inverse, queue and flags agree,
-- the journal's entries are in range and lead back to the last commit.
use Prim.Native.Nat.{◌*◌, ◌<◌, ℕ}
use mathlib.Core.Path.{◌∙◌, ◌≡◌, ap, ap₂, refl, subst, sym}
use mathlib.Core.Logic.{◌≢◌}
use mathlib.Core.Bool.{Bool, true, false, ◌&&◌}
use mathlib.Core.List.{List, [], ◌∷◌}
use native.Mathlib.Omega.{arith}
use lib.IntN.{ℤ}
use lib.ListN.{length}
use Rattle.rules.specs.Lists.{every, when◌then◌else◌, once}
use Rattle.rules.specs.Calls.{Done, commit_done, descend_done, kick_done, leaving, load_done, search_done, settings_in, undo_done}
use Rattle.rules.specs.Descend.{Manner, committed, descend, kept}
use Rattle.rules.specs.Journal.{cleared, entries_of, good_journal, in_range, track_of, undo_all}
use Rattle.rules.specs.Kicks.{kick, kicked_state}
use Rattle.rules.specs.Memory.{Carried, Leaves, Lent, plan_in, room_in, state_in}
use Rattle.rules.specs.Numbers.{◌or◌, agree, call_checks, commit_number, descend_number, good_kick, good_step, kick_number, lent_checks, load_number, search_number, undo_number}
use Rattle.rules.specs.Plan.{leg_in, leg_of}
use Rattle.rules.specs.Queue.{waiting}
use Rattle.rules.specs.Ring.{is_round, places_of, recount}
use Rattle.rules.specs.Search.{search}
use Rattle.rules.specs.State.{State, commit, load, undo}
use Rattle.rules.specs.Words.{Place, Round, Time}
use Rattle.laws.proofs.AcceptLaws.{Lendable, callable, lendable, one_root}
use Rattle.laws.proofs.CheckLaws.{Passed}
use Rattle.laws.proofs.DescendLaws.{Sound, descend_sound}
use Rattle.laws.proofs.JournalLaws.{Past}
use Rattle.laws.proofs.KickedLaws.{kick_kicks, kick_sound}
use Rattle.laws.proofs.LeavesLaws.{emptied_good, entries_emptied, entries_grown, grown_good, left_agrees}
use Rattle.laws.proofs.NewerLaws.{past_undo_all}
use Rattle.laws.proofs.PermLaws.{perm_round, round_length, round_perm}
use Rattle.laws.proofs.QueueLaws.{push_all_once}
use Rattle.laws.proofs.RunLaws.{committed_empty, descend_queue, kept_past, kept_ranged}
use Rattle.laws.proofs.SearchTimeLaws.{search_answers}
use Rattle.laws.proofs.SinceLaws.{since_ranged}
use Rattle.laws.proofs.StateLaws.{commit_sound, load_sound, undo_stands}
use Rattle.laws.proofs.VerdictLaws.{first_held}
use Rattle.promises.specs.Promises.{Commits, Descends, KicksOnce, Loads, Searches, Stands, Undoes}
use Rattle.demands.specs.Demands.{Committed}

-- k is the last commit
pub record Holds (n : ℕ) (matrix : List Time) (l : Lent) (c : Carried) (k : Committed) : Type 0 where
  pub cells : length matrix ≡ n * n
  pub carried : c.time ≡ recount (leg_in n matrix) l.round
  pub once : is_round n l.round ≡ true
  pub inverse : l.places ≡ places_of l.round
  pub agrees : agree n l.queue l.flags c.head c.count ≡ true
  pub ranged : good_journal n l.journal c.held ≡ true
  pub back : undo_all (entries_of l.journal c.held) l.round ≡ k.round
  pub back_time : k.time ≡ recount (leg_in n matrix) k.round

-- round and time, committed as they are
abbrev pub as_left : Lent → Carried → Committed
as_left l c = record { round = l.round; time = c.time }

-- nobody waits twice where nobody waits
once_none : once [] ≡ true
unfolding once
once_none = refl

-- ---- a call on the matrix leaves l' and c'
module _ (n : ℕ) (matrix : List Time) (m : Lent) (c : Carried) (l' : Lent) (c' : Carried) (matrix_is : m.matrix ≡ matrix) (cells : length matrix ≡ n * n) where
  -- a refusal changes nothing
  pub refused_holds : (done : Done) (number : ℕ) (k : Committed) → Stands number done m c l' c' → number ≢ 0 → Holds n matrix m c k → Holds n matrix l' c' k
  refused_holds done number k s r h = subst (λ (x : Carried). Holds n matrix l' x k) (sym (s.state_refused r)) (subst (λ (y : Lent). Holds n matrix y c k) (sym (s.lent_refused r)) h)

  module _ (lent : Lendable m) where
    n_is : m.n ≡ n
    n_is = one_root m.n n (sym lent.cells ∙ ap length matrix_is ∙ cells)

    legs_are : leg_of (plan_in m) ≡ leg_in n matrix
    unfolding leg_of plan_in
    legs_are = ap₂ leg_in n_is matrix_is

    module _ (s : State) (head : Place) (left : Leaves m c s head l' c') (sound : Sound (leg_of (plan_in m)) m.n s) (low : head < m.n) (each : once s.queue ≡ true) where
      time_left : c'.time ≡ recount (leg_in n matrix) l'.round
      time_left = left.time_left ∙ sound.carried ∙ ap₂ recount legs_are (sym left.round_left)

      once_left : is_round n l'.round ≡ true
      once_left = ap₂ is_round (sym (sound.stands.size ∙ n_is)) left.round_left ∙ perm_round s.track.round sound.stands.perm

      inverse_left : l'.places ≡ places_of l'.round
      inverse_left = left.places_left ∙ ap places_of (sym left.round_left)

      agrees_left : agree n l'.queue l'.flags c'.head c'.count ≡ true
      agrees_left = subst (λ (x : ℕ). agree x l'.queue l'.flags c'.head c'.count ≡ true) n_is (left_agrees m c s head l' c' left low each sound.stands.queued)

      -- the last commit stays
      pub stays : (k : Committed) → k.time ≡ recount (leg_in n matrix) k.round → good_journal m.n l'.journal c'.held ≡ true → entries_of l'.journal c'.held ≡ s.track.journal
          → undo_all s.track.journal s.track.round ≡ k.round → Holds n matrix l' c' k
      stays k t g e u = record {
        cells = cells;
        carried = time_left;
        once = once_left;
        inverse = inverse_left;
        agrees = agrees_left;
        ranged = subst (λ (x : ℕ). good_journal x l'.journal c'.held ≡ true) n_is g;
        back = ap₂ undo_all e left.round_left ∙ u;
        back_time = t;
      }

      -- the call commits
      pub commits_holds : s.track.journal ≡ [] → Holds n matrix l' c' (as_left l' c')
      unfolding undo_all
      commits_holds e = stays (as_left l' c') time_left (emptied_good m c s head l' c' left e) (entries_emptied m c s head l' c' left e) (ap (λ js. undo_all js s.track.round) e ∙ sym left.round_left)

      -- newer entries lead back to where the call began
      pub grown_holds : (k : Committed) → Passed m c → Holds n matrix m c k → Past (state_in m c).track s.track → every (in_range m.n) s.track.journal ≡ true → Holds n matrix l' c' k
      unfolding state_in track_of
      grown_holds k passed h past ranged =
          let good : good_journal m.n m.journal c.held ≡ true = subst (λ (x : ℕ). good_journal x m.journal c.held ≡ true) (sym n_is) h.ranged in
          stays k h.back_time (grown_good m c s head l' c' left past.newer good past.grown ranged) (entries_grown m c s head l' c' left past.newer passed.fits past.grown) (past_undo_all past ∙ h.back)

  -- ---- the calls that are not refused
  pub load_holds : (start : Round) → Loads m c start l' c' 0 → Holds n matrix l' c' (as_left l' c')
  unfolding load_number load_done leaving load once
  load_holds start p =
      let a = lendable m true (length start ∷ []) ((is_round m.n start or 7) ∷ []) (sym p.number_is) in
      let r = (first_held (is_round m.n start) 6 [] a.1).0 in
      commits_holds a.0 (load (recount (leg_of (plan_in m))) start) 0 (p.stands.left refl) (load_sound (leg_of (plan_in m)) m.n start (round_perm m.n start r) (round_length m.n start r)) (omega (arith, a.0.low)) refl refl

  -- a search leaves its best round loaded
  pub search_holds : (b : Round) (step kind : ℕ) (stop : Bool) (budget x : ℕ) (b' : Round) (x' : ℕ) (time : Time) (units kicks ended : ℕ)
      → Searches m c b step kind stop budget x l' c' b' x' 0 time units kicks ended → Holds n matrix l' c' (as_left l' c')
  unfolding search_number search_done settings_in load plan_in lent_checks once
  search_holds b step kind stop budget x b' x' time units kicks ended p =
      let a = (lendable m (good_step m.ka step && good_kick kind x) (length b ∷ []) [] (sym p.number_is)).0 in
      let o = settings_in m step kind stop budget x in
      let r = (search_answers (plan_in m) o (omega (arith, a.low)) a.fit (omega (arith, a.room))).whole in
      let best = (search (plan_in m) o).round in
      commits_holds a (load (recount (leg_of (plan_in m))) best) 0 (p.stands.left refl) (load_sound (leg_of (plan_in m)) m.n best (round_perm m.n best r) (round_length m.n best r)) (omega (arith, a.low)) refl refl

  pub commit_holds : Commits m c l' c' 0 → Holds n matrix l' c' (as_left l' c')
  unfolding commit_number commit_done leaving commit cleared call_checks lent_checks state_in
  commit_holds p =
      let a = callable m c true [] (sym p.number_is) in
      commits_holds a.0 (commit (state_in m c)) c.head (p.stands.left refl) (commit_sound (leg_of (plan_in m)) m.n (state_in m c) a.1.sound) a.1.agrees.head_below a.1.agrees.each_once refl

  module _ (k : Committed) (h : Holds n matrix m c k) where
    pub kick_holds : (kind x x' : ℕ) (change : ℤ) → KicksOnce m c kind x l' c' x' 0 change → Holds n matrix l' c' k
    unfolding kick_number kick_done kicked_state state_in
    kick_holds kind x x' change p =
        let a = callable m c (good_kick kind x) _ (sym p.number_is) in
        let d = leg_of (plan_in m) in
        let s = state_in m c in
        let sound = a.1.sound in
        let made = kick_kicks d s.track sound.stands.perm (omega (arith, sound.stands.size, a.0.low)) kind x in
        let touched = (kick d kind x s.track).made.touched in
        grown_holds a.0 (kicked_state (kick d kind x s.track).made s) c.head (p.stands.left refl) (kick_sound d m.n kind x s (omega (arith, a.0.low)) sound) a.1.agrees.head_below
        (push_all_once (waiting m.queue c.head c.count) touched a.1.agrees.each_once) k a.1 h made.since.past (since_ranged made.since m.n sound.stands.size a.1.ranged)

    -- a kept descent leads back; a committed one commits
    pub descent_holds : (keeps : Bool) (step budget : ℕ) (gain : Time) (units ended : ℕ) → Descends m c keeps step budget l' c' 0 gain units ended
        → Holds n matrix l' c' (when keeps then k else as_left l' c')
    unfolding descend_number descend_done call_checks lent_checks
    descent_holds keeps step budget gain units ended p = go keeps (p.stands.left refl)
      where
        a : Lendable m × Passed m c
        a = callable m c (good_step m.ka step) [] (sym p.number_is)

        empties : (way : Manner) → once (descend (plan_in m) step way budget (state_in m c)).state.queue ≡ true
        empties way = ap once (descend_queue (plan_in m) step way budget (state_in m c)) ∙ once_none

        go : (b : Bool) → Leaves m c (descend_done m c b step budget).state 0 l' c' → Holds n matrix l' c' (when b then k else as_left l' c')
        go true left =
            grown_holds a.0 (descend (plan_in m) step (kept (room_in m)) budget (state_in m c)).state 0 left (descend_sound (plan_in m) step (kept (room_in m)) m.n a.0.fit budget (state_in m c) a.1.sound)
            (omega (arith, a.0.low)) (empties (kept (room_in m))) k a.1 h
            (kept_past (plan_in m) step m.n a.0.fit.lists (room_in m) budget (state_in m c) a.1.sound.stands)
            (kept_ranged (plan_in m) step m.n a.0.fit.lists (room_in m) budget (state_in m c) a.1.sound.stands a.1.ranged)
        go false left =
            commits_holds a.0 (descend (plan_in m) step committed budget (state_in m c)).state 0 left (descend_sound (plan_in m) step committed m.n a.0.fit budget (state_in m c) a.1.sound)
            (omega (arith, a.0.low)) (empties committed)
            (committed_empty (plan_in m) step budget (state_in m c))

    pub undo_holds : Undoes m c l' c' 0 → Holds n matrix l' c' k
    unfolding undo_number undo_done leaving undo load state_in track_of call_checks lent_checks undo_all once
    undo_holds p =
        let a = callable m c true [] (sym p.number_is) in
        let d = leg_of (plan_in m) in
        let s = undo (recount d) (state_in m c) in
        let left = p.stands.left refl in
        let sound : Sound d m.n s = record { stands = undo_stands m.n (recount d) (state_in m c) a.1.sound.stands a.1.ranged; carried = refl } in
        stays a.0 s 0 left sound (omega (arith, a.0.low)) refl k h.back_time (emptied_good m c s 0 l' c' left refl) (entries_emptied m c s 0 l' c' left refl) h.back

    -- "gives back the last commit's round and time"
    pub undo_back : Undoes m c l' c' 0 → (l'.round ≡ k.round) × (c'.time ≡ k.time)
    unfolding undo_done leaving undo load state_in track_of
    undo_back p =
        let g = undo_holds p in
        let r : l'.round ≡ k.round = (p.stands.left refl).round_left ∙ h.back in
        (r, g.carried ∙ ap (recount (leg_in n matrix)) r ∙ sym h.back_time)
