-- A restart is the rule's.
use Prim.Native.Nat.{ℕ, ◌≤◌}
use mathlib.Core.Path.{◌≡◌, sym, ap, ap₂, subst, ◌∙◌}
use mathlib.Core.Bool.{false}
use mathlib.Core.List.{List, []}
use native.Mathlib.Omega.{arith}
use lib.Dec.{ltb}
use lib.ListN.{length}
use Rattle.rules.specs.Words.{Time, Round, Place}
use Rattle.rules.specs.Lists.{when◌then◌else◌, tally}
use Rattle.rules.specs.Ring.{recount}
use Rattle.rules.specs.Queue.{waiting, flags_of}
use Rattle.rules.specs.Plan.{leg_in, leg_of}
use Rattle.rules.specs.Journal.{track_of}
use Rattle.rules.specs.State.{State, load, activated}
use Rattle.rules.specs.Descend.{Ran, committed, descend}
use Rattle.rules.specs.Search.{Shaken, shaken, restarted}
use Rattle.rules.specs.Calls.{settings_in}
use Rattle.rules.specs.Memory.{Lent, Carried, room_in, plan_in, state_in}
use Rattle.rules.specs.SharedWords.{Tied}
use Rattle.laws.proofs.ChoiceLaws.{either_way}
use Rattle.laws.proofs.DescendLaws.{Sound, descend_sound}
use Rattle.laws.proofs.JournalWordLaws.{good_fewer, good_all}
use Rattle.laws.proofs.PermLaws.{Perm}
use Rattle.laws.proofs.RunLaws.{committed_empty, descend_queue}
use Rattle.laws.proofs.TiedLaws.{tied_perm}
use Rattle.queue.specs.Lines.{InLine}
use Rattle.loads.specs.Lying.{Lies}
use Rattle.descent.specs.Handed.{manner_of}
use Rattle.refusals.specs.Lending.{carrying}
use Rattle.walks.specs.Walking.{Tally, tallying, begun, renewed, Given, Desk, Works, Holds, Rests, bare, walk_in, Goes, told, Shook, Dives}
use Rattle.walks.proofs.HoldLaws.{after, given_after, works_full, works_loaded, holds_sound}
use Rattle.walks.proofs.JudgeLaws.{empty_loads}

-- nobody waits
pub none_wait : (queue flags : List ℕ) (n : ℕ) → 1 ≤ length queue → length queue ≤ 4096 → length queue ≡ n → flags ≡ flags_of n [] → InLine queue flags 0 0
unfolding waiting tally
none_wait queue flags n some few long e =
    record {
      few = few;
      start = omega arith;
      room = omega arith;
      stops = record { below = λ i h. absurd (omega arith) };
      single = λ v. omega arith;
      agreed = e ∙ ap (λ (m : ℕ). flags_of m []) (sym long);
    }

-- a round that was laid into memory
pub lies_works : (l : Lent) → Desk l → (start : Round) (time : Time) → length start ≡ l.n → Lies l.matrix start l.round l.places l.flags time → Works l (carrying 0 0 0 time)
lies_works l d start time long k =
    record {
      desk = d;
      tied = subst (λ (u : Round). Tied u l.places) (sym k.laid.round_is) k.laid.tied;
      line = none_wait l.queue l.flags l.n (omega (arith, d.two, d.queue_long)) (omega (arith, d.square.few, d.queue_long)) d.queue_long (k.flags_are ∙ ap (λ (m : ℕ). flags_of m []) long);
      good = good_all l.n l.journal 0 (omega arith) (λ i h. absurd (omega arith));
      carried = k.takes.is ∙ ap₂ (λ (m : ℕ) (u : Round). recount (leg_in m l.matrix) u) long (sym k.laid.round_is);
    }

-- shaken from the round that was laid
pub lies_shook : (l : Lent) (time : Time) (w : Works l (carrying 0 0 0 time)) (best : Round) → l.round ≡ best → (x : ℕ) {l' : Lent} {c : Carried} {x' : ℕ}
    → Shook (shaken (leg_in l.n l.matrix) 32 0 (state_in l (carrying 0 0 0 time)) x) l' c x' → Shook (shaken (leg_in l.n l.matrix) 32 0 (load (recount (leg_in l.n l.matrix)) best) x) l' c x'
unfolding leg_of plan_in
lies_shook l time w best e x {l'} {c} {x'} k =
    let q : state_in l (carrying 0 0 0 time) ≡ load (recount (leg_in l.n l.matrix)) best = works_loaded l time w ∙ ap (load (recount (leg_in l.n l.matrix))) e in
    subst (λ (s : State). Shook (shaken (leg_in l.n l.matrix) 32 0 s x) l' c x') q k

-- ---- a committed descent leaves a loaded round
module _ (l : Lent) (g : Given l) (step budget : ℕ) (s : State) (h : Sound (leg_of (plan_in l)) l.n s) where
  ran : Ran
  ran = descend (plan_in l) step committed budget s

  ran_sound : Sound (leg_of (plan_in l)) l.n ran.state
  unfolding ran
  ran_sound = descend_sound (plan_in l) step committed l.n g.fits budget s h

  ran_loads : ran.state ≡ load (recount (leg_of (plan_in l))) ran.state.track.round
  unfolding ran
  ran_loads = empty_loads (recount (leg_of (plan_in l))) ran.state (committed_empty (plan_in l) step budget s) (descend_queue (plan_in l) step committed budget s) ran_sound.carried

-- nothing counts as journalled any more
works_emptied : (l : Lent) (c : Carried) → Works l c → c.head ≡ 0 → c.count ≡ 0 → Works l (carrying 0 0 0 c.time)
works_emptied l c w h k =
    record {
      desk = w.desk;
      tied = w.tied;
      line = subst (λ (m : Place). InLine l.queue l.flags m 0) h (subst (λ (m : ℕ). InLine l.queue l.flags c.head m) k w.line);
      good = good_fewer l.n l.journal c.held 0 (omega arith) w.good;
      carried = w.carried;
    }

module _ (l : Lent) (best : Round) (t : Tally) (r : Rests l best t.time) (step x : ℕ)
    (round₁ : Round) (places₁ : List Place) (queue₁ flags₁ scratch₁ journal₁ : List ℕ) {c₁ : Carried} {x₁ : ℕ}
    (k : Shook (shaken (leg_in l.n l.matrix) 32 0 (load (recount (leg_in l.n l.matrix)) best) x) (bare l.n l.matrix round₁ places₁ queue₁ flags₁ scratch₁ journal₁) c₁ x₁)
    (round : Round) (places : List Place) (queue flags scratch journal : List ℕ) {c : Carried} {left : ℕ}
    (d : Dives (descend (plan_in (after l round₁ places₁ queue₁ flags₁ scratch₁ journal₁)) step (manner_of false (room_in (after l round₁ places₁ queue₁ flags₁ scratch₁ journal₁))) t.left (state_in (after l round₁ places₁ queue₁ flags₁ scratch₁ journal₁) c₁)) x₁ (after l round places queue flags scratch journal) c left x₁)
    (best' : Round) (eb : best' ≡ (when ltb c.time t.best then round else best)) (t' : Tally) (et : t' ≡ renewed c.time left t) where
  shook : Shaken
  shook = shaken (leg_of (plan_in l)) 32 0 (load (recount (leg_of (plan_in l))) best) x

  shook_is : state_in (after l round₁ places₁ queue₁ flags₁ scratch₁ journal₁) c₁ ≡ shook.state
  unfolding shook leg_of plan_in state_in
  shook_is = k.holds.is

  shook_sound : Sound (leg_of (plan_in l)) l.n shook.state
  unfolding plan_in
  shook_sound = subst (Sound (leg_of (plan_in l)) l.n) shook_is (holds_sound (after l round₁ places₁ queue₁ flags₁ scratch₁ journal₁) c₁ (works_full (after l round₁ places₁ queue₁ flags₁ scratch₁ journal₁) c₁ k.holds.works))

  went : Ran
  went = descend (plan_in l) step committed t.left shook.state

  went_is : descend (plan_in (after l round₁ places₁ queue₁ flags₁ scratch₁ journal₁)) step (manner_of false (room_in (after l round₁ places₁ queue₁ flags₁ scratch₁ journal₁))) t.left (state_in (after l round₁ places₁ queue₁ flags₁ scratch₁ journal₁) c₁) ≡ went
  unfolding went manner_of plan_in
  went_is = ap (descend (plan_in l) step committed t.left) shook_is

  state_is : state_in (after l round places queue flags scratch journal) c ≡ went.state
  state_is = d.holds.is ∙ ap (λ (u : Ran). u.state) went_is

  round_is : round ≡ went.state.track.round
  unfolding state_in track_of
  round_is = ap (λ (u : State). u.track.round) state_is

  time_is : c.time ≡ went.state.time
  unfolding state_in
  time_is = ap (λ (u : State). u.time) state_is

  left_is : left ≡ went.left
  left_is = d.left_is ∙ ap (λ (u : Ran). u.left) went_is

  restart_is : walk_in (after l round places queue flags scratch journal) best' t' x₁ ≡ restarted (plan_in l) (told l step 0 false) (walk_in l best t x)
  unfolding walk_in restarted told settings_in shook went plan_in leg_of renewed ran
  restart_is =
      let count : Round → Time = recount (leg_of (plan_in l)) in
      let z : t' ≡ renewed went.state.time went.left t = et ∙ ap₂ (λ (a b : ℕ). renewed a b t) time_is left_is in
      let b : best' ≡ (when ltb went.state.time t.best then went.state.track.round else best) = eb ∙ ap₂ (λ (a : Time) (u : Round). (when ltb a t.best then u else best)) time_is round_is in
      let st : load count round ≡ went.state = ap (load count) round_is ∙ sym (ran_loads l r.given step t.left shook.state shook_sound) in
      λ i. record {
        state = st i;
        best = b i;
        best_time = (z i).best;
        walk_best = (z i).walk;
        walk_fails = (z i).stale;
        fails = (z i).fails;
        kicks = (z i).kicks;
        draw = k.draw_is i;
        left = (z i).left;
      }

  restart_rests : Rests (after l round places queue flags scratch journal) best' t'.time
  unfolding renewed
  restart_rests =
      let v = d.holds.works in
      let w : Works (after l round places queue flags scratch journal) (carrying 0 0 0 c.time) = works_emptied (after l round places queue flags scratch journal) c v d.head_is d.count_is in
      let e : c.time ≡ t'.time = ap (λ (u : Tally). u.time) (sym et) in
      record {
        works = subst (λ (m : Time). Works (after l round places queue flags scratch journal) (carrying 0 0 0 m)) e w;
        given = given_after l r.given round places queue flags scratch journal;
        best_perm = subst Perm (sym eb) (either_way Perm (ltb c.time t.best) (tied_perm v.tied) r.best_perm);
        best_long = ap length eb ∙ either_way (λ (u : Round). length u ≡ l.n) (ltb c.time t.best) v.desk.round_long r.best_long;
      }

  pub restart_goes : Goes (restarted (plan_in l) (told l step 0 false) (walk_in l best t x)) (after l round places queue flags scratch journal) best' t' x₁
  restart_goes = record { is = restart_is; rests = restart_rests }

-- ---- the first descent
module _ (l : Lent) (g : Given l) (start : Round) (step budget : ℕ)
    {c₁ : Carried} (h : Holds (activated (load (recount (leg_of (plan_in l))) start)) l c₁)
    (round : Round) (places : List Place) (queue flags scratch journal : List ℕ) {c : Carried} {left x₀ : ℕ}
    (d : Dives (descend (plan_in l) step (manner_of false (room_in l)) budget (state_in l c₁)) x₀ (after l round places queue flags scratch journal) c left x₀)
    (best : Round) (eb : best ≡ round) where
  start_sound : Sound (leg_of (plan_in l)) l.n (activated (load (recount (leg_of (plan_in l))) start))
  start_sound = subst (Sound (leg_of (plan_in l)) l.n) h.is (holds_sound l c₁ h.works)

  gone : Ran
  gone = descend (plan_in l) step committed budget (activated (load (recount (leg_of (plan_in l))) start))

  gone_is : descend (plan_in l) step (manner_of false (room_in l)) budget (state_in l c₁) ≡ gone
  unfolding gone manner_of
  gone_is = ap (descend (plan_in l) step committed budget) h.is

  first_state : state_in (after l round places queue flags scratch journal) c ≡ gone.state
  first_state = d.holds.is ∙ ap (λ (u : Ran). u.state) gone_is

  first_round : round ≡ gone.state.track.round
  unfolding state_in track_of
  first_round = ap (λ (u : State). u.track.round) first_state

  first_time : c.time ≡ gone.state.time
  unfolding state_in
  first_time = ap (λ (u : State). u.time) first_state

  pub first_goes : (x : ℕ) → Goes (begun (plan_in l) step budget x start) (after l round places queue flags scratch journal) best (tallying c.time c.time c.time 0 0 0 left) x
  unfolding walk_in begun gone ran plan_in
  first_goes x =
      let count : Round → Time = recount (leg_of (plan_in l)) in
      let v = d.holds.works in
      let st : load count round ≡ gone.state = ap (load count) first_round ∙ sym (ran_loads l g step budget (activated (load count start)) start_sound) in
      record {
        is = λ i. record {
          state = st i;
          best = (eb ∙ first_round) i;
          best_time = first_time i;
          walk_best = first_time i;
          walk_fails = 0;
          fails = 0;
          kicks = 0;
          draw = x;
          left = (d.left_is ∙ ap (λ (u : Ran). u.left) gone_is) i;
        };
        rests = record {
          works = works_emptied (after l round places queue flags scratch journal) c v d.head_is d.count_is;
          given = given_after l g round places queue flags scratch journal;
          best_perm = subst Perm (sym eb) (tied_perm v.tied);
          best_long = ap length eb ∙ v.desk.round_long;
        };
      }
