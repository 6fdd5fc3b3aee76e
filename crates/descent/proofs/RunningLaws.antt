-- What a descent keeps while it runs: what is left to do from here gives what the whole gives.
use Prim.Native.Nat.{ℕ, suc, ◌+◌, ◌-◌, ◌≤◌, ◌<◌}
use mathlib.Core.Path.{◌≡◌, refl, sym, ap, subst, ◌∙◌}
use mathlib.Core.Bool.{Bool, true, false}
use mathlib.Core.List.{List, []}
use native.Mathlib.Omega.{arith}
use lib.Dec.{ltb}
use lib.ListN.{length}
use Rattle.rules.specs.Words.{Place, Time, Round}
use Rattle.rules.specs.Lists.{when◌then◌else◌}
use Rattle.rules.specs.Ring.{recount}
use Rattle.rules.specs.Queue.{push_all}
use Rattle.rules.specs.Journal.{Track as TrackOf, track_of}
use Rattle.rules.specs.Plan.{Plan, leg_of}
use Rattle.rules.specs.Descend.{Manner, Ran, journalled, leave, descending, descend, step_from}
use Rattle.laws.proofs.ChoiceLaws.{true_false}
use Rattle.laws.proofs.DescendLaws.{step_time}
use Rattle.laws.proofs.GainLaws.{Fit}
use Rattle.laws.proofs.JournalWordLaws.{good_room}
use Rattle.laws.proofs.TiedLaws.{tied_perm}
use Rattle.laws.proofs.WaitLaws.{waiting_length}
use Rattle.journal.specs.declared.track.Track.{Track}
use Rattle.journal.specs.Journalled.{Grew}
use Rattle.journal.specs.Tracks.{track_in, SameTrack}
use Rattle.journal.proofs.GrewLaws.{grew_self, grew_grew}
use Rattle.queue.specs.declared.queue.Queue.{Queue}
use Rattle.queue.specs.Lines.{Waits}
use Rattle.queue.specs.Queues.{waiting_in}
use Rattle.work.specs.declared.work.Work.{Work}
use Rattle.work.specs.Works.{SameWork}
use Rattle.work.proofs.SameLaws.{work_through}
use Rattle.descent.specs.Handed.{manner_of, Ended, Descended}
use Rattle.descent.specs.Descents.{Keeps, Takes, room_of, state_at, Ends}
use Rattle.descent.proofs.TurnLaws.{journalled_is, short_is, emptied_before, goes, ends_empty, ends_out, ends_short}

-- b, which a has become: what is held, and no way to end met yet
pub record Running (p : Plan) (kind : ℕ) (keeps : Bool) (goal : Ran) (a b : Work) (left : ℕ) (carried : Time) (ended : ℕ) : Type 0 where
  pub same : SameWork a b
  pub grew : keeps ≡ true → Grew a.track.now.journal.now a.track.now.held b.track.now.journal.now b.track.now.held
  pub none : keeps ≡ false → b.track.now.held ≡ 0
  pub time_is : carried ≡ recount (leg_of p) b.track.now.stops.now
  pub leads : descending p kind (manner_of keeps (room_of a)) left (waiting_in b.queue.now) (track_in b.track.now) carried ≡ goal
  pub not_yet : ended ≡ 0

-- ---- the entries that are kept
-- but for the track, nothing is touched
pub kept_work : {a b : Work} → b.track.ghost_name ≡ a.track.ghost_name → SameTrack a.track.now b.track.now → b.queue ≡ a.queue → b.scratch ≡ a.scratch → SameWork a b
kept_work {a} {b} t s q c =
    record {
      same_track = t;
      same_queue = ap (λ x. x.ghost_name) q;
      same_scratch = ap (λ x. x.ghost_name) c;
      same_stops = s.same_stops;
      same_places = s.same_places;
      same_journal = s.same_journal;
      same_words = ap (λ x. x.now.words.ghost_name) q;
      same_flags = ap (λ x. x.now.flags.ghost_name) q;
      size = s.size;
      room = s.room;
    }

kept_none : (keeps : Bool) (held : ℕ) → keeps ≡ false → (when keeps then held else 0) ≡ 0
kept_none true held e = cc
kept_none false held e = refl

kept_all : (keeps : Bool) (held : ℕ) → keeps ≡ true → (when keeps then held else 0) ≡ held
kept_all true held e = refl
kept_all false held e = absurd (true_false (sym e))

stays_kept : (keeps : Bool) {h : ℕ} → (keeps ≡ false → h ≡ 0) → (when keeps then h else 0) ≡ h
stays_kept true f = refl
stays_kept false f = sym (f refl)

module _ {keeps : Bool} {s t : Track} (k : Keeps keeps s t) where
  kept_is : (room : ℕ) → track_in t ≡ journalled (manner_of keeps room) (track_in s)
  unfolding track_of
  kept_is room = (λ i. track_of (k.stops_stay i) (k.journal_stays i) (k.held_is i)) ∙ sym (journalled_is keeps room s.stops.now s.journal.now s.held)

  kept_grew : {journal : List ℕ} {held : ℕ} → keeps ≡ true → Grew journal held s.journal.now s.held → Grew journal held t.journal.now t.held
  kept_grew {journal} {held} y g =
      subst (λ ws. Grew journal held ws t.held) (sym k.journal_stays) (subst (Grew journal held s.journal.now) (sym (k.held_is ∙ kept_all keeps s.held y)) g)

module _ {p : Plan} {kind : ℕ} {keeps : Bool} {a : Work} where
  -- ---- it starts
  pub starts : {b : Work} {left : ℕ} {time : Time} {ended : ℕ} → SameWork a b → Keeps keeps a.track.now b.track.now → waiting_in b.queue.now ≡ waiting_in a.queue.now
      → time ≡ recount (leg_of p) a.track.now.stops.now → ended ≡ 0
      → Running p kind keeps (descend p kind (manner_of keeps (room_of a)) left (state_at a time)) a b left time ended
  unfolding descend
  starts {b} {left} {time} e k w t z =
      let m = manner_of keeps (room_of a) in
      record {
        same = e;
        grew = λ y. kept_grew k y (grew_self a.track.now.journal.now a.track.now.held);
        none = λ n. k.held_is ∙ kept_none keeps a.track.now.held n;
        time_is = t ∙ ap (recount (leg_of p)) (sym k.stops_stay);
        leads = (λ i. descending p kind m left (w i) (kept_is k (room_of a) i) time) ∙ emptied_before p kind m left (waiting_in a.queue.now) (track_in a.track.now) time;
        not_yet = z;
      }

  module _ {goal : Ran} {b : Work} {left : ℕ} {carried : Time} {ended : ℕ} (run : Running p kind keeps goal a b left carried ended) where
    abbrev m : Manner
    m = manner_of keeps (room_of a)

    abbrev t : Track
    t = b.track.now

    abbrev q : Queue
    q = b.queue.now

    -- the entries held fit the room
    pub within_room : t.held ≤ room_of a
    within_room = omega (arith, good_room (length t.stops.now) t.journal.now t.held t.good, run.same.room)

    -- ---- it goes on
    module _ (fit : Fit p (length a.track.now.stops.now)) (c : Work) {gain : Time} (took : Takes p kind b c gain) where
      fell : recount (leg_of p) (step_from p kind took.v (track_in t)).track.round + (step_from p kind took.v (track_in t)).gain ≡ recount (leg_of p) t.stops.now
      unfolding track_of
      fell = step_time p (track_in t) (tied_perm t.tied) (subst (Fit p) (sym run.same.size) fit) took.v took.below kind

      -- the gain is part of the time
      pub affords : gain ≤ carried
      affords = omega (arith, fell, took.gain_is, run.time_is)

      round_is : (step_from p kind took.v (track_in t)).track.round ≡ c.track.now.stops.now
      unfolding track_of
      round_is = ap (λ (u : TrackOf). u.round) (sym took.made.is)

      on_leads : (less : ℕ) → left ≡ suc less → (when keeps then ltb (room_of a - t.held) 100 else false) ≡ false
          → descending p kind m less (waiting_in c.queue.now) (journalled m (track_in c.track.now)) (carried - gain) ≡ goal
      on_leads less e n =
          let f = step_from p kind took.v (track_in t) in
          let w = waiting_in c.queue.now in
          let now_empty : journalled m (track_in t) ≡ track_in t = journalled_is keeps (room_of a) t.stops.now t.journal.now t.held ∙ ap (track_of t.stops.now t.journal.now) (stays_kept keeps run.none) in
          emptied_before p kind m less w (track_in c.track.now) (carried - gain)
          ∙ (λ i. descending p kind m less (took.waits i) (took.made.is i) (carried - took.gain_is i))
          ∙ ap (λ (u : TrackOf). let g = step_from p kind took.v u in descending p kind m less (push_all took.vs g.touched) g.track (carried - g.gain)) (sym now_empty)
          ∙ sym (goes p kind m less took.v took.vs (track_in t) carried (sym (short_is keeps (room_of a) t.stops.now t.journal.now t.held) ∙ n))
          ∙ (λ i. descending p kind m (sym e i) (sym took.is i) (track_in t) carried)
          ∙ run.leads

      -- a stop taken, and the journal emptied where it is to be
      pub turns : {d : Work} (full : Bool) (less : ℕ) → left ≡ suc less → full ≡ (when keeps then ltb (room_of a - t.held) 100 else false) → full ≡ false
          → SameWork b d → Keeps keeps c.track.now d.track.now → waiting_in d.queue.now ≡ waiting_in c.queue.now
          → Running p kind keeps goal a d less (carried - gain) ended
      turns {d} full less e f n s k w =
          record {
            same = work_through run.same s;
            grew = λ y. kept_grew k y (grew_grew (run.grew y) took.made.grew);
            none = λ z. k.held_is ∙ kept_none keeps c.track.now.held z;
            time_is = omega (arith, fell, took.gain_is, run.time_is, ap (recount (leg_of p)) round_is, ap (recount (leg_of p)) k.stops_stay);
            leads = (λ i. descending p kind m less (w i) (kept_is k (room_of a) i) (carried - gain)) ∙ on_leads less e (sym f ∙ n);
            not_yet = run.not_yet;
          }

    -- ---- it ends
    ended_as : (how : ℕ) → descending p kind m left (waiting_in q) (track_in t) carried ≡ leave m how left (track_in t) carried → Ends goal keeps a b carried left how
    ended_as how e = record { is = sym run.leads ∙ e; tied = t.tied; good = t.good; grew = run.grew; none = run.none; line = q.in_line }

    waiting_long : length (waiting_in q) ≡ q.count
    waiting_long = let l = q.in_line in waiting_length q.words.now q.head q.count l.room

    pub empty_ends : q.count ≤ 0 → Ends goal keeps a b carried left ended
    empty_ends z = subst (Ends goal keeps a b carried left) (sym run.not_yet) (ended_as 0 (ends_empty p kind m left (waiting_in q) (track_in t) carried (omega (arith, waiting_long))))

    pub out_ends : 0 < q.count → left ≡ 0 → Ends goal keeps a b carried left 1
    out_ends c e =
        ended_as 1
        (ap (λ i. descending p kind m i (waiting_in q) (track_in t) carried) e
        ∙ ends_out p kind m (waiting_in q) (track_in t) carried (omega (arith, waiting_long))
        ∙ ap (λ i. leave m 1 i (track_in t) carried) (sym e))

    pub short_ends : (full : Bool) → 0 < q.count → 0 < left → full ≡ (when keeps then ltb (room_of a - t.held) 100 else false) → full ≡ true → Ends goal keeps a b carried left 2
    short_ends full c l f y = ended_as 2 (ends_short p kind m left (waiting_in q) (track_in t) carried (omega (arith, waiting_long)) l (sym (short_is keeps (room_of a) t.stops.now t.journal.now t.held) ∙ sym f ∙ y))

-- ---- and nobody waits any more
left_track : (keeps : Bool) (room how left : ℕ) (r : Round) (ws : List ℕ) (held : ℕ) (time : Time) → (keeps ≡ false → held ≡ 0)
    → track_of r ws held ≡ (leave (manner_of keeps room) how left (track_of r ws held) time).state.track
unfolding leave
left_track keeps room how left r ws held time none = ap (track_of r ws) (sym (stays_kept keeps none)) ∙ sym (journalled_is keeps room r ws held)

pub descended : {ran : Ran} {journal : List ℕ} {held : ℕ} {round : Round} {places : List Place} {queue flags queue' flags' journal' : List ℕ} {held' : ℕ} {head head' : Place} {count count' : ℕ} {time : Time} {left ended : ℕ} (keeps : Bool) (room : ℕ)
    → Ended ran (manner_of keeps room) keeps journal held round places queue flags journal' held' head count time left ended → Waits [] 0 queue' flags' head' count'
    → Descended ran keeps journal held round places queue' flags' journal' held' head' count' time left ended
unfolding leave
descended {round = round} {journal' = journal'} {held' = held'} {time = time} {left} {ended} keeps room e w =
    record {
      track_is = left_track keeps room ended left round journal' held' time e.none ∙ ap (λ (g : Ran). g.state.track) (sym e.is);
      time_is = ap (λ (g : Ran). g.state.time) (sym e.is);
      left_is = ap (λ (g : Ran). g.left) (sym e.is);
      ended_is = ap (λ (g : Ran). g.ended) (sym e.is);
      tied = e.tied;
      good = e.good;
      grew = e.grew;
      none = e.none;
      waits = w;
    }
