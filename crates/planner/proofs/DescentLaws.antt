-- What a descent asks and leaves.
use Prim.Native.Nat.{ℕ, zero, suc, ◌-◌, ◌*◌, ◌/◌, ◌≤◌}
use mathlib.Core.Path.{◌≡◌, refl, sym, ap, ap₂, ◌∙◌}
use mathlib.Core.Logic.{◌≢◌}
use mathlib.Core.Bool.{Bool, true, false, ◌||◌}
use mathlib.Core.List.{List, [], ◌∷◌}
use native.Mathlib.Nat.{le_refl}
use native.Mathlib.Omega.{arith}
use borrow.Author.Tests.{leb-true}
use lib.Dec.{leb, eqb}
use lib.ListN.{length, take}
use Rattle.rules.specs.Words.{Stop, Time}
use Rattle.rules.specs.Lists.{when◌then◌else◌}
use Rattle.rules.specs.Ring.{places_of}
use Rattle.rules.specs.Queue.{waiting, flags_of, push_all}
use Rattle.rules.specs.Journal.{Track, track_of, entries_of}
use Rattle.rules.specs.Plan.{Plan}
use Rattle.rules.specs.State.{State}
use Rattle.rules.specs.Descend.{Manner, kept, committed, Ran, step_from, short, journalled, leave, descending, descend}
use Rattle.rules.specs.Memory.{Lent, Carried, room_in, plan_in, state_in, words_left, Leaves}
use Rattle.rules.specs.Numbers.{verdict, good_step, call_checks, descend_number}
use Rattle.rules.specs.Calls.{descend_done}
use Rattle.laws.proofs.ChoiceLaws.{and-true, either_way}
use Rattle.laws.proofs.GainLaws.{Fit}
use Rattle.laws.proofs.JournalLaws.{entries_of_length}
use Rattle.laws.proofs.JournalWordLaws.{good_room}
use Rattle.laws.proofs.RunLaws.{descend_left, descend_queue}
use Rattle.laws.proofs.TiedLaws.{tied_places}
use Rattle.laws.proofs.WaitLaws.{waiting_length}
use Rattle.improve.specs.Steps.{plan_of}
use Rattle.descent.specs.Handed.{manner_of, Descended}
use Rattle.promises.specs.Promises.{given, Descends}
use Rattle.refusals.specs.Passed.{CallPassed}
use Rattle.refusals.proofs.PassLaws.{call_passed}
use Rattle.planner.proofs.LeaveLaws.{stands_refused, stands_done, words_none, words_grew}
use Rattle.planner.proofs.PromiseLaws.{given_refused}

-- what 2 asked
pub step_good : (ka step : ℕ) → good_step ka step ≡ true → step ≤ 2
unfolding good_step
step_good ka step e = leb-true step 2 (and-true (leb step 2) (eqb step 0 || leb 1 ka) e).0

-- ---- the time never rises
module _ (p : Plan) (kind : ℕ) (m : Manner) where
  descending_time : (left : ℕ) (q : List Stop) (t : Track) (time : Time) → (descending p kind m left q t time).state.time ≤ time
  unfolding descending leave
  descending_time zero [] t time = le_refl time
  descending_time (suc left) [] t time = le_refl time
  descending_time zero (v ∷ vs) t time = le_refl time
  descending_time (suc left) (v ∷ vs) t time =
      let f = step_from p kind v (journalled m t) in
      let k = descending_time left (push_all vs f.touched) f.track (time - f.gain) in
      either_way (λ (g : Ran). g.state.time ≤ time) (short m t) (le_refl time) (omega arith)

  pub descend_time : (budget : ℕ) (s : State) → (descend p kind m budget s).state.time ≤ s.time
  unfolding descend
  descend_time budget s = descending_time budget s.queue s.track s.time

-- ---- memory that passed is what a descent is handed
module _ (l : Lent) (c : Carried) (told : Bool) (p : CallPassed l c told) where
  pub descent_room : 2560 ≤ length l.journal
  unfolding room_in
  descent_room = omega (arith, p.lent.room)

  pub descent_fits : Fit (plan_of l.n l.matrix l.k l.near l.ka l.alpha) l.n
  unfolding plan_in
  descent_fits = p.lent.fits

-- ---- what it leaves
module _ (l l' : Lent) (c c' : Carried) (told : Bool) (p : CallPassed l c told) (keeps : Bool) (step budget left ended : ℕ) (same : length l'.queue ≡ length l.queue)
    (d : Descended (descend (plan_of l.n l.matrix l.k l.near l.ka l.alpha) step (manner_of keeps (length l.journal / 5)) budget
    (record { track = track_of l.round l.journal c.held; queue = waiting l.queue c.head c.count; time = c.time })) keeps l.journal c.held
    l'.round l'.places l'.queue l'.flags l'.journal c'.held c'.head c'.count c'.time left ended) where
  ran : Ran
  ran = descend (plan_in l) step (when keeps then kept (room_in l) else committed) budget (state_in l c)

  own : Descended ran keeps l.journal c.held l'.round l'.places l'.queue l'.flags l'.journal c'.held c'.head c'.count c'.time left ended
  unfolding ran plan_in state_in room_in manner_of
  own = d

  nobody : ran.state.queue ≡ []
  unfolding ran
  nobody = descend_queue (plan_in l) step (when keeps then kept (room_in l) else committed) budget (state_in l c)

  entries : entries_of l'.journal c'.held ≡ ran.state.track.journal
  unfolding track_of
  entries = ap (λ (t : Track). t.journal) own.track_is

  words : (k : Bool) → keeps ≡ k → take (5 * c'.held) l'.journal ≡ words_left l c ran.state
  unfolding entries_of
  words true e = words_grew l c ran.state l'.journal c'.held (sym entries) (good_room l.n l.journal c.held p.journal) (own.grew e)
  words false e =
      let z : c'.held ≡ 0 = own.none e in
      ap (λ (k : ℕ). take (5 * k) l'.journal) z ∙ words_none l c ran.state (sym entries ∙ ap (entries_of l'.journal) z)

  pub descend_leaves : Leaves l c (descend_done l c keeps step budget).state 0 l' c'
  unfolding descend_done ran track_of
  descend_leaves =
      let r : l'.round ≡ ran.state.track.round = ap (λ (t : Track). t.round) own.track_is in
      let q : waiting l'.queue c'.head c'.count ≡ ran.state.queue = own.waits.is ∙ sym nobody in
      record {
        round_left = r;
        places_left = tied_places own.tied ∙ ap places_of r;
        queue_left = q;
        flags_left = own.waits.line.agreed ∙ ap₂ flags_of (same ∙ p.lent.queue_long) q;
        journal_left = words keeps refl;
        head_left = own.waits.head_is;
        count_left = sym (waiting_length l'.queue c'.head c'.count own.waits.line.room) ∙ ap length q;
        held_left = sym (entries_of_length l'.journal c'.held) ∙ ap length entries;
        time_left = own.time_is;
      }

  pub gain_told : c.time - c'.time ≡ (descend_done l c keeps step budget).gain
  unfolding descend_done ran
  gain_told = ap (λ (t : Time). c.time - t) own.time_is

  pub units_told : budget - left ≡ (descend_done l c keeps step budget).units
  unfolding descend_done ran
  units_told = ap (λ (k : ℕ). budget - k) own.left_is

  pub ended_told : ended ≡ (descend_done l c keeps step budget).ended
  unfolding descend_done ran
  ended_told = own.ended_is

  -- what the code subtracts is there
  pub time_falls : c'.time ≤ c.time
  unfolding ran state_in
  time_falls = omega (arith, own.time_is, descend_time (plan_in l) step (when keeps then kept (room_in l) else committed) budget (state_in l c))

  pub units_left : left ≤ budget
  unfolding ran
  units_left = omega (arith, own.left_is, descend_left (plan_in l) step (when keeps then kept (room_in l) else committed) budget (state_in l c))

-- ---- the promise
module _ (l : Lent) (c : Carried) (keeps : Bool) (step budget number : ℕ) (is : number ≡ verdict (call_checks l c (good_step l.ka step))) where
  pub descend_refuses : number ≢ 0 → Descends l c keeps step budget l c number 0 0 0
  unfolding descend_number
  descend_refuses h =
      record {
        number_is = is;
        stands = stands_refused number (descend_done l c keeps step budget) l c h;
        gain_is = sym (given_refused number (descend_done l c keeps step budget).gain 0 h);
        units_is = sym (given_refused number (descend_done l c keeps step budget).units 0 h);
        ended_is = sym (given_refused number (descend_done l c keeps step budget).ended 0 h);
      }

  pub descend_does : number ≡ 0 → (l' : Lent) (c' : Carried) (left ended : ℕ) → length l'.queue ≡ length l.queue
      → Descended (descend (plan_of l.n l.matrix l.k l.near l.ka l.alpha) step (manner_of keeps (length l.journal / 5)) budget
      (record { track = track_of l.round l.journal c.held; queue = waiting l.queue c.head c.count; time = c.time })) keeps l.journal c.held
      l'.round l'.places l'.queue l'.flags l'.journal c'.held c'.head c'.count c'.time left ended
      → Descends l c keeps step budget l' c' 0 (c.time - c'.time) (budget - left) ended
  unfolding descend_number given descend_done
  descend_does e l' c' left ended same d =
      let told : Bool = good_step l.ka step in
      let p = call_passed l c told (sym is ∙ e) in
      record {
        number_is = sym e ∙ is;
        stands = stands_done 0 (descend_done l c keeps step budget) l c l' c' refl (descend_leaves l l' c c' told p keeps step budget left ended same d);
        gain_is = gain_told l l' c c' told p keeps step budget left ended same d;
        units_is = units_told l l' c c' told p keeps step budget left ended same d;
        ended_is = ended_told l l' c c' told p keeps step budget left ended same d;
      }
