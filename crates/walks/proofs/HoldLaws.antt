-- Memory that stands for a state, through kicks and descents.
use Prim.Native.Nat.{ℕ, ◌+◌, ◌-◌, ◌/◌, ◌≤◌, ◌<◌}
use mathlib.Core.Path.{◌≡◌, refl, sym, ap, subst, ◌∙◌}
use mathlib.Core.Bool.{Bool, true}
use mathlib.Core.List.{List, []}
use native.Mathlib.Omega.{arith}
use lib.ListN.{length}
use Rattle.rules.specs.Words.{Time, Round, Place}
use Rattle.rules.specs.Lists.{at}
use Rattle.rules.specs.Ring.{recount}
use Rattle.rules.specs.Queue.{waiting}
use Rattle.rules.specs.Journal.{Track, track_of, entries_of, good_journal}
use Rattle.rules.specs.Plan.{leg_in, leg_of}
use Rattle.rules.specs.State.{load}
use Rattle.rules.specs.Kicks.{kick, kicked_state}
use Rattle.rules.specs.Descend.{Ran, descend}
use Rattle.rules.specs.Search.{shaken}
use Rattle.rules.specs.Memory.{Lent, Carried, room_in, plan_in, state_in}
use Rattle.laws.proofs.BoundLaws.{leg_in_short, recount_bound}
use Rattle.laws.proofs.DescendLaws.{Sound, descend_sound}
use Rattle.laws.proofs.EveryLaws.{at_below}
use Rattle.laws.proofs.RunLaws.{descend_queue}
use Rattle.laws.proofs.TiedLaws.{tied_perm}
use Rattle.laws.proofs.WaitLaws.{waiting_length, flags_of_length}
use Rattle.legs.specs.declared.matrix.Matrix.{Matrix}
use Rattle.legs.specs.declared.plan.Plan.{Plan}
use Rattle.queue.specs.Queues.{waiting_in}
use Rattle.work.specs.declared.work.Work.{Work}
use Rattle.work.specs.Works.{SameWork}
use Rattle.improve.specs.Steps.{plan_of}
use Rattle.kicks.specs.Kicking.{Kicks}
use Rattle.kicks.proofs.CountedLaws.{kick_recount}
use Rattle.descent.specs.Handed.{Descended, manner_of}
use Rattle.refusals.specs.Lending.{lending, carrying}
use Rattle.walks.specs.Walking.{Given, Desk, Works, bare, Shook, Dives}
use Rattle.walks.specs.Standing.{lent_in, bare_in, carried_in, Idle}

-- the same lists and numbers, over other memory
abbrev pub after : Lent → Round → List Place → List ℕ → List ℕ → List ℕ → List ℕ → Lent
after l round places queue flags scratch journal = lending l.n l.k l.ka l.matrix l.near l.alpha round places queue flags scratch journal

-- each as long as it was
pub record Same (l : Lent) (round : Round) (places : List Place) (queue flags scratch journal : List ℕ) : Type 0 where
  pub round_same : length round ≡ length l.round
  pub places_same : length places ≡ length l.places
  pub queue_same : length queue ≡ length l.queue
  pub flags_same : length flags ≡ length l.flags
  pub scratch_same : length scratch ≡ length l.scratch
  pub journal_same : length journal ≡ length l.journal

-- so is what is worked on in place
flags_long : (w : Work) → length w.queue.now.flags.now ≡ length w.queue.now.words.now
flags_long w = let q = w.queue.now in ap length q.in_line.agreed ∙ flags_of_length (length q.words.now) (waiting_in q)

words_same : {a b : Work} → SameWork a b → length b.queue.now.words.now ≡ length a.queue.now.words.now
words_same {a} {b} s = b.queue_fits ∙ s.size ∙ sym a.queue_fits

pub same_bare : (m : Matrix) {a b : Work} → SameWork a b → Same (bare_in m a) b.track.now.stops.now b.track.now.places.now b.queue.now.words.now b.queue.now.flags.now b.scratch.now b.track.now.journal.now
same_bare m {a} {b} s =
    record {
      round_same = s.size;
      places_same = b.track.now.tied.same ∙ s.size ∙ sym a.track.now.tied.same;
      queue_same = words_same s;
      flags_same = flags_long b ∙ words_same s ∙ sym (flags_long a);
      scratch_same = b.scratch_fits ∙ s.size ∙ sym a.scratch_fits;
      journal_same = s.room;
    }

pub same_lent : (p : Plan) {a b : Work} → SameWork a b → Same (lent_in p a) b.track.now.stops.now b.track.now.places.now b.queue.now.words.now b.queue.now.flags.now b.scratch.now b.track.now.journal.now
same_lent p s =
    let e = same_bare p.matrix s in
    record { round_same = e.round_same; places_same = e.places_same; queue_same = e.queue_same; flags_same = e.flags_same; scratch_same = e.scratch_same; journal_same = e.journal_same }

-- nothing is journalled and nobody waits
pub idle_is : {w : Work} (time : Time) → Idle w → carried_in w time ≡ carrying 0 0 0 time
idle_is time e = λ i. carrying (e.begins i) (e.nobody i) (e.none_held i) time

pub desk_after : (l : Lent) → Desk l → (round : Round) (places : List Place) (queue flags scratch journal : List ℕ) → Same l round places queue flags scratch journal → Desk (after l round places queue flags scratch journal)
desk_after l w round places queue flags scratch journal e =
    record {
      two = w.two;
      square = w.square;
      short = w.short;
      round_long = e.round_same ∙ w.round_long;
      places_long = e.places_same ∙ w.places_long;
      queue_long = e.queue_same ∙ w.queue_long;
      flags_long = e.flags_same ∙ w.flags_long;
      scratch_long = e.scratch_same ∙ w.scratch_long;
      room = omega (arith, w.room, e.journal_same);
    }

pub given_after : (l : Lent) → Given l → (round : Round) (places : List Place) (queue flags scratch journal : List ℕ) → Given (after l round places queue flags scratch journal)
unfolding plan_in
given_after l g round places queue flags scratch journal = record { some_near = g.some_near; near_listed = g.near_listed; alpha_listed = g.alpha_listed; fits = g.fits }

-- kicks read no lists
desk_bare : (l : Lent) → Desk l → Desk (bare l.n l.matrix l.round l.places l.queue l.flags l.scratch l.journal)
desk_bare l w = record { two = w.two; square = w.square; short = w.short; round_long = w.round_long; places_long = w.places_long; queue_long = w.queue_long; flags_long = w.flags_long; scratch_long = w.scratch_long; room = w.room }

desk_full : (l : Lent) → Desk (bare l.n l.matrix l.round l.places l.queue l.flags l.scratch l.journal) → Desk l
desk_full l w = record { two = w.two; square = w.square; short = w.short; round_long = w.round_long; places_long = w.places_long; queue_long = w.queue_long; flags_long = w.flags_long; scratch_long = w.scratch_long; room = w.room }

pub works_bare : (l : Lent) (c : Carried) → Works l c → Works (bare l.n l.matrix l.round l.places l.queue l.flags l.scratch l.journal) c
works_bare l c w = record { desk = desk_bare l w.desk; tied = w.tied; line = w.line; good = w.good; carried = w.carried }

pub works_full : (l : Lent) (c : Carried) → Works (bare l.n l.matrix l.round l.places l.queue l.flags l.scratch l.journal) c → Works l c
works_full l c w = record { desk = desk_full l w.desk; tied = w.tied; line = w.line; good = w.good; carried = w.carried }

-- "at most 268,431,360"
pub time_small : (l : Lent) (c : Carried) → Works l c → c.time ≤ 268431360
time_small l c w =
    let b = recount_bound (leg_in l.n l.matrix) (leg_in_short l.n l.matrix w.desk.short) l.round in
    omega (arith, w.carried, w.desk.round_long, w.desk.square.few)

pub holds_sound : (l : Lent) (c : Carried) → Works l c → Sound (leg_of (plan_in l)) l.n (state_in l c)
unfolding state_in track_of leg_of plan_in
holds_sound l c w =
    record {
      stands = record { perm = tied_perm w.tied; size = w.desk.round_long; queued = at_below l.n (waiting l.queue c.head c.count) (λ i h. subst (λ (m : ℕ). at (waiting l.queue c.head c.count) i < m) w.desk.queue_long (w.line.stops.below i h)) };
      carried = w.carried;
    }

-- nothing journalled, nobody waiting
pub works_loaded : (l : Lent) (time : Time) → Works l (carrying 0 0 0 time) → state_in l (carrying 0 0 0 time) ≡ load (recount (leg_of (plan_in l))) l.round
unfolding state_in track_of entries_of waiting load leg_of plan_in
works_loaded l time w = λ i. record { track = record { round = l.round; journal = [] }; queue = []; time = w.carried i }

-- ---- kicks
module _ (l : Lent) (c : Carried) (w : Works l c) where
  module _ (round : Round) (places : List Place) (queue flags scratch journal : List ℕ) (e : Same l round places queue flags scratch journal)
      (kind x : ℕ) {held : ℕ} {head : Place} {count added removed new : ℕ}
      (k : Kicks (kick (leg_in l.n l.matrix) kind x (track_of l.round l.journal c.held)) x 30 35 (waiting l.queue c.head c.count) c.head l.journal c.held round places journal held queue flags head count added removed new) where
    pub kick_counts : recount (leg_in l.n l.matrix) round + removed ≡ c.time + added
    kick_counts = omega (arith, w.carried, kick_recount (leg_in l.n l.matrix) kind x {r = l.round} (omega (arith, w.desk.two, w.desk.round_long)) w.tied k)

    kicked_works : Works (after l round places queue flags scratch journal) (carrying head count held (c.time + added - removed))
    kicked_works =
        record {
          desk = desk_after l w.desk round places queue flags scratch journal e;
          tied = k.made.moved.tied;
          line = k.made.waits.line;
          good = subst (λ (m : ℕ). good_journal m journal held ≡ true) (e.round_same ∙ w.desk.round_long) k.made.moved.good;
          carried = omega (arith, kick_counts);
        }

    pub kick_shook : Shook (shaken (leg_in l.n l.matrix) 1 kind (state_in l c) x) (after l round places queue flags scratch journal) (carrying head count held (c.time + added - removed)) new
    unfolding shaken state_in kicked_state track_of
    kick_shook =
        record {
          holds = record {
            works = kicked_works;
            is = λ i. record { track = k.made.moved.is i; queue = k.made.waits.is i; time = c.time + k.made.added_is.is i - k.made.removed_is.is i };
          };
          draw_is = k.state;
        }

-- ---- descents
module _ (l : Lent) (c : Carried) (w : Works l c) (g : Given l) where
  module _ (round : Round) (places : List Place) (queue flags scratch journal : List ℕ) (e : Same l round places queue flags scratch journal)
      (step : ℕ) (keeps : Bool) (budget : ℕ) {held : ℕ} {head : Place} {count : ℕ} {time : Time} {left ended : ℕ}
      (d : Descended (descend (plan_of l.n l.matrix l.k l.near l.ka l.alpha) step (manner_of keeps (length l.journal / 5)) budget (record { track = track_of l.round l.journal c.held; queue = waiting l.queue c.head c.count; time = c.time })) keeps l.journal c.held round places queue flags journal held head count time left ended) where
    mine : Descended (descend (plan_in l) step (manner_of keeps (room_in l)) budget (state_in l c)) keeps l.journal c.held round places queue flags journal held head count time left ended
    unfolding plan_in room_in state_in
    mine = d

    ran : Ran
    ran = descend (plan_in l) step (manner_of keeps (room_in l)) budget (state_in l c)

    sound : Sound (leg_of (plan_in l)) l.n ran.state
    unfolding ran
    sound = descend_sound (plan_in l) step (manner_of keeps (room_in l)) l.n g.fits budget (state_in l c) (holds_sound l c w)

    descended_works : Works (after l round places queue flags scratch journal) (carrying head count held time)
    unfolding ran track_of leg_of plan_in
    descended_works =
        let t : round ≡ ran.state.track.round = ap (λ (u : Track). u.round) mine.track_is in
        record {
          desk = desk_after l w.desk round places queue flags scratch journal e;
          tied = mine.tied;
          line = mine.waits.line;
          good = subst (λ (m : ℕ). good_journal m journal held ≡ true) (e.round_same ∙ w.desk.round_long) mine.good;
          carried = mine.time_is ∙ sound.carried ∙ ap (recount (leg_in l.n l.matrix)) (sym t);
        }

    pub descend_dives : (x : ℕ) → Dives (descend (plan_in l) step (manner_of keeps (room_in l)) budget (state_in l c)) x (after l round places queue flags scratch journal) (carrying head count held time) left x
    unfolding ran state_in
    descend_dives x =
        record {
          holds = record {
            works = descended_works;
            is = λ i. record { track = mine.track_is i; queue = (mine.waits.is ∙ sym (descend_queue (plan_in l) step (manner_of keeps (room_in l)) budget (state_in l c))) i; time = mine.time_is i };
          };
          head_is = mine.waits.head_is;
          count_is = sym (waiting_length queue head count mine.waits.line.room) ∙ ap length mine.waits.is;
          left_is = mine.left_is;
          draw_is = refl;
        }
