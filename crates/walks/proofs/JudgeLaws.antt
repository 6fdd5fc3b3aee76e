-- A kick and its descent judged is the rule's turn.
use Prim.Native.Nat.{ℕ, ◌+◌, ◌-◌, ◌≤◌}
use mathlib.Core.Path.{◌≡◌, refl, sym, ap, subst, ◌∙◌}
use mathlib.Core.Bool.{Bool, true, false}
use mathlib.Core.List.{List, []}
use native.Mathlib.Omega.{arith}
use borrow.Author.Tests.{leb-true, le-leb, ltb-false}
use lib.Dec.{leb, ltb}
use lib.ListN.{length}
use Rattle.rules.specs.Words.{Time, Round, Place}
use Rattle.rules.specs.Lists.{when◌then◌else◌}
use Rattle.rules.specs.Ring.{recount}
use Rattle.rules.specs.Plan.{leg_in, leg_of}
use Rattle.rules.specs.Journal.{track_of, cleared, entries_of, undo_all}
use Rattle.rules.specs.State.{State, load, commit, undo}
use Rattle.rules.specs.Descend.{Ran, kept, descend}
use Rattle.rules.specs.Search.{kicked_once}
use Rattle.rules.specs.Calls.{settings_in}
use Rattle.rules.specs.Memory.{Lent, Carried, room_in, plan_in, state_in}
use Rattle.rules.specs.SharedWords.{Tied}
use Rattle.laws.proofs.ChoiceLaws.{either_way, either_if, equal_tests}
use Rattle.laws.proofs.DescendLaws.{Sound}
use Rattle.laws.proofs.JournalLaws.{past_undone}
use Rattle.laws.proofs.JournalWordLaws.{good_fewer}
use Rattle.laws.proofs.PermLaws.{Perm}
use Rattle.laws.proofs.RunLaws.{descend_queue}
use Rattle.queue.specs.Lines.{InLine}
use Rattle.loads.specs.Lying.{Laid}
use Rattle.walks.specs.Walking.{Tally, tallying, judged, Rests, walk_in, Goes, told, kind_of, kick_of, Dives, Judges}
use Rattle.walks.proofs.HoldLaws.{after, desk_after, given_after}
use Rattle.walks.proofs.DiveLaws.{dive_sound, dive_past}

-- with nobody waiting, a commit loads
pub commit_loads : (count : Round → Time) (s : State) → s.queue ≡ [] → s.time ≡ count s.track.round → commit s ≡ load count s.track.round
unfolding commit load cleared
commit_loads count s e f = λ i. record { track = record { round = s.track.round; journal = [] }; queue = e i; time = f i }

-- a state with nothing journalled and nobody waiting is loaded
pub empty_loads : (count : Round → Time) (s : State) → s.track.journal ≡ [] → s.queue ≡ [] → s.time ≡ count s.track.round → s ≡ load count s.track.round
unfolding load
empty_loads count s g e f = λ i. record { track = record { round = s.track.round; journal = g i }; queue = e i; time = f i }

settled : (count : Round → Time) (s : State) → s.queue ≡ [] → s.time ≡ count s.track.round → (b : Bool)
    → load count (when b then s.track.round else undo_all s.track.journal s.track.round) ≡ (when b then commit s else undo count s)
unfolding undo
settled count s e f true = sym (commit_loads count s e f)
settled count s e f false = refl

timed : (count : Round → Time) (time old : Time) (round back : Round) → time ≡ count round → old ≡ count back → (b : Bool) → (when b then time else old) ≡ count (when b then round else back)
timed count time old round back e f true = e
timed count time old round back e f false = f

module _ (l : Lent) (best : Round) (t : Tally) (r : Rests l best t.time) (step kind slack x : ℕ)
    (round₁ : Round) (places₁ : List Place) (queue flags scratch₁ journal : List ℕ) {c : Carried} {left new : ℕ}
    (d : Dives (descend (plan_in l) step (kept (room_in l)) t.left (kick_of (plan_in l) kind l.round x).state) (kick_of (plan_in l) kind l.round x).draw (after l round₁ places₁ queue flags scratch₁ journal) c left new)
    (round : Round) (places : List Place) (scratch : List ℕ) (best' : Round) (t' : Tally)
    (er : length round ≡ length round₁) (ep : length places ≡ length places₁) (es : length scratch ≡ length scratch₁)
    (j : Judges slack c.time left t round₁ (undo_all (entries_of journal c.held) round₁) best round places best' t') where
  ran : Ran
  ran = descend (plan_in l) step (kept (room_in l)) t.left (kick_of (plan_in l) kind l.round x).state

  -- judged as the rule's state
  judges : Judges slack ran.state.time ran.left t ran.state.track.round (undo_all ran.state.track.journal ran.state.track.round) best round places best' t'
  unfolding ran state_in track_of
  judges =
      let e : state_in (after l round₁ places₁ queue flags scratch₁ journal) c ≡ ran.state = d.holds.is in
      let a : Judges slack ran.state.time left t ran.state.track.round (undo_all ran.state.track.journal ran.state.track.round) best round places best' t'
      = subst (λ (s : State). Judges slack s.time left t s.track.round (undo_all s.track.journal s.track.round) best round places best' t') e j in
      subst (λ (m : ℕ). Judges slack ran.state.time m t ran.state.track.round (undo_all ran.state.track.journal ran.state.track.round) best round places best' t') d.left_is a

  sound : Sound (leg_of (plan_in l)) l.n ran.state
  unfolding ran
  sound = dive_sound l t.time r.works kind x r.given step t.left

  walk_record : Time
  walk_record = when ltb ran.state.time t.walk then ran.state.time else t.walk

  pub turn_is : walk_in (after l round places queue flags scratch journal) best' t' new ≡ kicked_once (plan_in l) (told l step kind false) slack (walk_in l best t x)
  unfolding walk_in kicked_once told settings_in kick_of kind_of ran plan_in judged walk_record
  turn_is =
      let s : State = ran.state in
      let count : Round → Time = recount (leg_of (plan_in l)) in
      let q : s.queue ≡ [] = descend_queue (plan_in l) step (kept (room_in l)) t.left (kick_of (plan_in l) kind l.round x).state in
      let z : t' ≡ judged slack s.time ran.left t = judges.tally_is in
      let st : load count round ≡ (when leb s.time (walk_record + slack) then commit s else undo count s) = ap (load count) judges.laid.round_is ∙ settled count s q sound.carried (leb s.time (walk_record + slack)) in
      λ i. record {
        state = st i;
        best = judges.best_is i;
        best_time = (z i).best;
        walk_best = (z i).walk;
        walk_fails = (z i).stale;
        fails = (z i).fails;
        kicks = (z i).kicks;
        draw = d.draw_is i;
        left = (z i).left;
      }

  back_is : undo_all ran.state.track.journal ran.state.track.round ≡ l.round
  unfolding ran
  back_is = past_undone (dive_past l t.time r.works kind x r.given step t.left) refl

  carries : t'.time ≡ recount (leg_in l.n l.matrix) round
  unfolding judged walk_record leg_of plan_in
  carries =
      let s : State = ran.state in
      let count : Round → Time = recount (leg_in l.n l.matrix) in
      let b : Bool = leb s.time (walk_record + slack) in
      let back : Round = undo_all s.track.journal s.track.round in
      let old : t.time ≡ count back = r.works.carried ∙ ap count (sym back_is) in
      ap (λ (u : Tally). u.time) judges.tally_is ∙ timed count s.time t.time s.track.round back sound.carried old b ∙ ap count (sym judges.laid.round_is)

  pub turn_rests : Rests (after l round places queue flags scratch journal) best' t'.time
  turn_rests =
      let v = d.holds.works in
      let rule : Round = ran.state.track.round in
      let p : Perm best' = subst Perm (sym judges.best_is) (either_way Perm (ltb ran.state.time t.best) sound.stands.perm r.best_perm) in
      let z : length best' ≡ l.n = ap length judges.best_is ∙ either_way (λ (u : Round). length u ≡ l.n) (ltb ran.state.time t.best) sound.stands.size r.best_long in
      record {
        works = record {
          desk = desk_after (after l round₁ places₁ queue flags scratch₁ journal) v.desk round places queue flags scratch journal (record { round_same = er; places_same = ep; queue_same = refl; flags_same = refl; scratch_same = es; journal_same = refl });
          tied = subst (λ (u : Round). Tied u places) (sym judges.laid.round_is) judges.laid.tied;
          line = subst (λ (h : Place). InLine queue flags h 0) d.head_is (subst (λ (m : ℕ). InLine queue flags c.head m) d.count_is v.line);
          good = good_fewer l.n journal c.held 0 (omega arith) v.good;
          carried = carries;
        };
        given = given_after l r.given round places queue flags scratch journal;
        best_perm = p;
        best_long = z;
      }

  pub turn_goes : Goes (kicked_once (plan_in l) (told l step kind false) slack (walk_in l best t x)) (after l round places queue flags scratch journal) best' t' new
  turn_goes = record { is = turn_is; rests = turn_rests }

-- ---- what `judge` does
pub lesser_low : (a b : Time) → (when ltb a b then a else b) ≤ a
lesser_low a b = either_if (λ (c : Time). c ≤ a) (ltb a b) (λ y. omega arith) (λ y. ltb-false a b y)

-- within the margin, told without a sum
accept_is : (now walk slack : ℕ) → walk ≤ now → leb (now - walk) slack ≡ leb now (walk + slack)
accept_is now walk slack h = equal_tests (leb (now - walk) slack) (leb now (walk + slack)) (λ e. let f : now - walk ≤ slack = leb-true (now - walk) slack e in le-leb now (walk + slack) (omega arith)) (λ e. let f : now ≤ walk + slack = leb-true now (walk + slack) e in le-leb (now - walk) slack (omega arith))

pub judge_done : (slack now left : ℕ) (t : Tally) (round back best round' : Round) (places' : List Place) (best' : Round) (walk time₂ best₂ stale₂ fails₂ : ℕ)
    → walk ≡ (when ltb now t.walk then now else t.walk) → best' ≡ (when ltb now t.best then round else best) → Laid (when leb (now - walk) slack then round else back) round' places'
    → time₂ ≡ (when leb (now - walk) slack then now else t.time) → best₂ ≡ (when ltb now t.best then now else t.best)
    → stale₂ ≡ (when ltb now t.walk then 0 else t.stale + 1) → fails₂ ≡ (when ltb now t.best then 0 else t.fails + 1)
    → Judges slack now left t round back best round' places' best' (tallying time₂ best₂ walk stale₂ fails₂ (t.kicks + 1) left)
unfolding judged
judge_done slack now left t round back best round' places' best' walk time₂ best₂ stale₂ fails₂ ew eb la et e₂ es ef =
    let low : walk ≤ now = omega (arith, lesser_low now t.walk) in
    let ac : leb (now - walk) slack ≡ leb now ((when ltb now t.walk then now else t.walk) + slack) = accept_is now walk slack low ∙ ap (λ (z : ℕ). leb now (z + slack)) ew in
    let tm : time₂ ≡ (when leb now ((when ltb now t.walk then now else t.walk) + slack) then now else t.time) = et ∙ ap (λ (z : Bool). (when z then now else t.time)) ac in
    record {
      best_is = eb;
      laid = subst (λ (z : Bool). Laid (when z then round else back) round' places') ac la;
      tally_is = λ i. record { time = tm i; best = e₂ i; walk = ew i; stale = es i; fails = ef i; kicks = t.kicks + 1; left = left };
    }
