-- A walk down the levels: what the state, the mark and the journal stand for, and that what is left to do leads to the goal.
use Prim.Native.Nat.{ℕ, suc, ◌+◌, ◌-◌, ◌*◌, ◌≤◌, ◌<◌}
use mathlib.Core.Path.{◌≡◌, refl, sym, ap, subst, ◌∙◌}
use mathlib.Core.Bool.{Bool, true}
use mathlib.Core.List.{List, [], ◌∷◌}
use native.Mathlib.Omega.{arith}
use borrow.Author.Tests.{ltb-true, ltb-false}
use lib.Dec.{ltb, eqb}
use lib.ListN.{length}
use Rattle.rules.specs.Words.{Stop, Time, Round}
use Rattle.rules.specs.Ring.{leg, succ}
use Rattle.rules.specs.Journal.{track_of, rollback}
use Rattle.rules.specs.Moves.{flip}
use Rattle.rules.specs.Plan.{Plan as PlanOf, leg_in, leg_of, near_of}
use Rattle.rules.specs.Improve.{Trial, ends_of}
use Rattle.rules.specs.Step.{Step, begin, going, best}
use Rattle.rules.specs.Lk.{Best, better, flipped, deepen, conts, cont_of, may_flip}
use Rattle.laws.proofs.ChoiceLaws.{either_if}
use Rattle.laws.proofs.JournalLaws.{Past, past_length, past_deeper, rollback_done, entries_of_length}
use Rattle.laws.proofs.SinceLaws.{since_flip}
use Rattle.laws.proofs.TiedLaws.{tied_perm}
use Rattle.legs.specs.declared.plan.Plan.{Plan}
use Rattle.ring.specs.declared.round.Round.{Round as Shown}
use Rattle.journal.specs.declared.track.Track.{Track}
use Rattle.journal.specs.Tracks.{track_in}
use Rattle.journal.specs.Journalled.{Grew}
use Rattle.journal.proofs.GrewLaws.{grew_self, grew_grew}
use Rattle.moves.specs.Moves.{MadeOn}
use Rattle.improve.specs.Steps.{near_plan, plan_with}
use Rattle.lk_state.specs.Stacks.{legs_in, stops_in, Stepping}
use Rattle.lk_state.specs.States.{step_of, Roomy, Begun}
use Rattle.lk_state.specs.declared.LkState.{LkState}
use Rattle.lk_state.proofs.StackLaws.{stepping_less}
use Rattle.lk_scans.specs.Picked.{step_in, conts_in, conts_on, cont_is, trial_in, shown, Fine}
use Rattle.lk_scans.specs.declared.Pick.{Pick}
use Rattle.lk.specs.declared.Mark.{Mark}
use Rattle.lk.specs.Walks.{led, step_at, best_at, Closed, Leveled, Walked}
use Rattle.lk.proofs.NoteLaws.{Noted}
use Rattle.lk.proofs.OnLaws.{onward, onward_none, onward_some, level_on}

held_length : (r : Round) (j : List ℕ) (h : ℕ) → length (track_of r j h).journal ≡ h
unfolding track_of
held_length r j h = entries_of_length j h

-- back to all that is held: nothing
pub held_back : (r : Round) (j : List ℕ) (h : ℕ) → rollback h (track_of r j h) ≡ track_of r j h
held_back r j h = rollback_done h (track_of r j h) (omega (arith, held_length r j h))

pub less_or : (a b : ℕ) (Q : Type 0) → (a < b → Q) → (b ≤ a → Q) → Q
less_or a b Q f g = either_if (λ (c : Bool). Q) (ltb a b) {x = true} {y = true} (λ y. f (ltb-true a b y)) (λ y. g (ltb-false a b y))

-- ---- what is kept from level to level, of a track a that has come to t
pub record Going (a t : Track) (st : LkState) (m : Mark) (level : ℕ) : Type 0 where
  pub size : length t.stops.now ≡ length a.stops.now
  pub grew : Grew a.journal.now a.held t.journal.now t.held
  pub most : t.held ≤ a.held + level
  pub low : a.held ≤ m.held
  pub high : m.held ≤ t.held
  pub few : m.len ≤ level
  pub room : Roomy st
  pub below : Stepping st.steps level (length t.stops.now)
  pub back : rollback a.held (track_in t) ≡ track_in a
  pub none : m.gain ≡ 0 → m.held ≡ a.held
  pub small : m.gain ≤ 65535 * (level + 1)

-- at the start
pub going_start : {t1 t2 : Stop} (a : Track) {st : LkState} → Begun t1 t2 st → Going a a st (record { gain = 0; len = 0; held = a.held }) 0
going_start a b = record {
  size = refl;
  grew = grew_self a.journal.now a.held;
  most = omega arith;
  low = omega arith;
  high = omega arith;
  few = omega arith;
  room = b.room;
  below = record { third = λ i h. absurd (omega arith); fourth = λ i h. absurd (omega arith) };
  back = held_back a.stops.now a.journal.now a.held;
  none = λ e. refl;
  small = omega arith;
}

module _ (p : PlanOf) (t1 : Stop) where
  pub on_start : (t2 : Stop) (a : Track) (st : LkState) (x : Trial) → Begun t1 t2 st → 0 < x.partial
      → onward p t1 24 (step_at st 0 (track_in a)) t2 x (best_at st 0 0 a.held (track_in a)) ≡ led p t1 t2 (track_in a) x
  unfolding led step_at best_at step_of stops_in legs_in
  on_start t2 a st x b h =
      let t = track_in a in
      let e1 : step_at st 0 t ≡ begin t t1 t2 = (λ i. record { track = t; stops = stops_in st.steps (sym b.steps_none i); added = legs_in st.added (sym b.added_none i); removed = legs_in st.removed (sym b.removed_one i) }) ∙ b.is t in
      let e2 : best_at st 0 0 a.held t ≡ record { gain = 0; step = begin t t1 t2 }
      = (λ i. record { gain = 0; step = step_at st 0 (held_back a.stops.now a.journal.now a.held i) }) ∙ (λ i. record { gain = 0; step = e1 i }) in
      (λ i. onward p t1 24 (e1 i) t2 x (e2 i)) ∙ onward_some p t1 24 (begin t t1 t2) t2 x (record { gain = 0; step = begin t t1 t2 }) h

-- ---- one move
module _ {a t : Track} {st : LkState} {m : Mark} {level : ℕ} (w : Going a t st m level) (t1 end t3 t4 : Stop)
    (h1 : t1 < length a.stops.now) (he : end < length a.stops.now) (h3 : t3 < length a.stops.now) (h4 : t4 < length a.stops.now) (partial closing : Time) (fit : partial ≤ 65535 * (level + 2))
    (t' : Track) {st' : LkState} {m' : Mark} (made : MadeOn 1 (flip t1 end t3 (track_in t)) t t') (nt : Noted st level end t3 t4 st') (cl : Closed m.gain m.len m.held partial closing (level + 1) t'.held m'.gain m'.len m'.held) where
  past : Past (track_in t) (track_in t')
  unfolding track_of
  past =
      let e = w.size in
      subst (Past (track_in t)) (sym made.is) (since_flip (track_in t) (tied_perm t.tied) t1 end t3 (omega (arith, e, h1)) (omega (arith, e, he)) (omega (arith, e, h3))).past

  same_back : (i : ℕ) → i ≤ t.held → rollback i (track_in t') ≡ rollback i (track_in t)
  same_back i l = past_deeper i past (omega (arith, held_length t.stops.now t.journal.now t.held))

  same_size : length t'.stops.now ≡ length t.stops.now
  unfolding track_of
  same_size = past_length past

  -- the journal has no less
  more_held : t.held ≤ t'.held
  more_held = omega (arith, made.grew.more)

  closes : (Q : Type 0) → (closing + m.gain < partial → Q) → (partial ≤ closing + m.gain → Q) → Q
  closes Q f g = either_if (λ (b : Bool). Q) (ltb (closing + m.gain) partial) {x = true} {y = true} (λ y. f (ltb-true (closing + m.gain) partial y)) (λ y. g (ltb-false (closing + m.gain) partial y))

  pub going_turn : Going a t' st' m' (level + 1)
  going_turn =
      let l : t.held ≤ t'.held = more_held in
      let f : a.held ≤ m.held = w.low in
      let b : m.held ≤ t.held = w.high in
      let s : length t'.stops.now ≡ length a.stops.now = same_size ∙ w.size in
      record {
        size = s;
        grew = grew_grew w.grew made.grew;
        most = omega (arith, w.most, made.high);
        low = closes (a.held ≤ m'.held) (λ q. omega (arith, (cl.new q).1.1)) (λ q. omega (arith, (cl.old q).1.1));
        high = closes (m'.held ≤ t'.held) (λ q. omega (arith, (cl.new q).1.1)) (λ q. omega (arith, (cl.old q).1.1));
        few = closes (m'.len ≤ level + 1) (λ q. omega (arith, (cl.new q).1.0)) (λ q. omega (arith, (cl.old q).1.0, w.few));
        room = nt.room;
        below = nt.below (length t'.stops.now) (omega (arith, s, h3)) (omega (arith, s, h4)) (subst (Stepping st.steps level) (sym same_size) w.below);
        back = same_back a.held (omega arith) ∙ w.back;
        none = λ e. closes (m'.held ≡ a.held) (λ q. let g = (cl.new q).0 in absurd (omega arith)) (λ q. (cl.old q).1.1 ∙ w.none (sym (cl.old q).0 ∙ e));
        small = closes (m'.gain ≤ 65535 * (level + 1 + 1)) (λ q. omega (arith, (cl.new q).0, fit)) (λ q. omega (arith, (cl.old q).0, w.small));
      }

  step_is : step_at st' (level + 1) (track_in t') ≡ flipped t1 end (step_at st level (track_in t)) (cont_is partial t3 t4)
  unfolding step_at flipped going ends_of cont_is
  step_is =
      let q : level + 1 + 1 ≡ level + 2 = omega arith in
      let r : legs_in st'.removed (level + 1 + 1) ≡ leg t3 t4 ∷ legs_in st.removed (level + 1) = ap (legs_in st'.removed) q ∙ nt.removed_new in
      λ i. record { track = made.is i; stops = nt.stops_new i; added = nt.added_new i; removed = r i }

  best_new : closing + m.gain < partial → best_at st' m'.gain m'.len m'.held (track_in t') ≡ record { gain = partial - closing; step = flipped t1 end (step_at st level (track_in t)) (cont_is partial t3 t4) }
  unfolding best_at
  best_new q =
      let c = cl.new q in
      (λ i. best_at st' (c.0 i) (c.1.0 i) (c.1.1 i) (track_in t')) ∙ (λ i. record { gain = partial - closing; step = step_at st' (level + 1) (held_back t'.stops.now t'.journal.now t'.held i) }) ∙ (λ i. record { gain = partial - closing; step = step_is i })

  best_old : partial ≤ closing + m.gain → best_at st' m'.gain m'.len m'.held (track_in t') ≡ best_at st m.gain m.len m.held (track_in t)
  unfolding best_at step_at
  best_old q =
      let c = cl.old q in
      let f : m.len ≤ level = w.few in
      let b = same_back m.held w.high in
      (λ i. best_at st' (c.0 i) (c.1.0 i) (c.1.1 i) (track_in t'))
      ∙ (λ i. record { gain = m.gain; step = record { track = b i; stops = nt.stops_old m.len f i; added = nt.added_old m.len f i; removed = nt.removed_old (m.len + 1) (omega arith) i } })

  module _ (p : PlanOf) (e : closing ≡ leg_of p t4 t1) where
    best_is : best_at st' m'.gain m'.len m'.held (track_in t') ≡ better (best_at st m.gain m.len m.held (track_in t)) (flipped t1 end (step_at st level (track_in t)) (cont_is partial t3 t4)) partial (leg_of p t4 t1)
    unfolding better best_at
    best_is =
        subst (λ (d : Time). best_at st' m'.gain m'.len m'.held (track_in t') ≡ better (best_at st m.gain m.len m.held (track_in t)) (flipped t1 end (step_at st level (track_in t)) (cont_is partial t3 t4)) partial d) e
        (either_if (λ (z : Best). best_at st' m'.gain m'.len m'.held (track_in t') ≡ z) (ltb (closing + m.gain) partial)
        (λ y. best_new (ltb-true (closing + m.gain) partial y))
        (λ y. best_old (ltb-false (closing + m.gain) partial y)))

    -- the move is made: what is left is the level after
    pub on_turn : (goal : Best) → 0 < partial → onward p t1 (24 - level) (step_at st level (track_in t)) end (cont_is partial t3 t4) (best_at st m.gain m.len m.held (track_in t)) ≡ goal
        → deepen p t1 (24 - level) (step_at st' (level + 1) (track_in t')) t4 partial (best_at st' m'.gain m'.len m'.held (track_in t')) ≡ goal
    unfolding cont_is
    on_turn goal some on =
        (λ i. deepen p t1 (24 - level) (step_is i) t4 partial (best_is i))
        ∙ sym (onward_some p t1 (24 - level) (step_at st level (track_in t)) end (cont_is partial t3 t4) (best_at st m.gain m.len m.held (track_in t)) some)
        ∙ on

-- ---- the level after
module _ (p : Plan) (ka : ℕ) (alpha : List Stop) (t1 t4 : Stop) (partial : Time) (st : LkState) (level : ℕ) (t : Track) (b goal : Best) where
  scans_same : conts (plan_with p ka alpha) (eqb (succ t.stops.now t1) t4) (step_at st (level + 1) (track_in t)) t1 t4 partial
      ≡ conts_in p.matrix.n p.matrix.times.now p.near.count p.near.entries.now t.stops.now (legs_in st.added (level + 1)) (legs_in st.removed (level + 1 + 1)) t1 t4 partial
  unfolding conts_in conts cont_of may_flip step_in near_plan step_at track_of leg_of near_of
  scans_same = refl

  -- its scan has picked a continuation, or none; the 25th was the last
  pub on_next : {partial' : Time} {t3' t4' : Stop} (r : Shown) → r.stops.now ≡ t.stops.now → level ≤ 24
      → Leveled p.matrix.n partial (level + 1) (best 1 [] (conts_on p r (legs_in st.added (level + 1)) (legs_in st.removed (level + 1 + 1)) t1 t4 partial)) partial' t3' t4'
      → deepen (plan_with p ka alpha) t1 (24 - level) (step_at st (level + 1) (track_in t)) t4 partial b ≡ goal
      → onward (plan_with p ka alpha) t1 (24 - (level + 1)) (step_at st (level + 1) (track_in t)) t4 (cont_is partial' t3' t4') b ≡ goal
  unfolding cont_is deepen step_at track_of
  on_next {partial'} {t3'} {t4'} r er hl lv e =
      let q : PlanOf = plan_with p ka alpha in
      let s : Step = step_at st (level + 1) (track_in t) in
      less_or level 24 (onward q t1 (24 - (level + 1)) s t4 (cont_is partial' t3' t4') b ≡ goal)
      (λ l.
      let d : 24 - level ≡ suc (24 - (level + 1)) = omega arith in
      let c : shown (cont_is partial' t3' t4') [] ≡ best 1 [] (conts q (eqb (succ t.stops.now t1) t4) s t1 t4 partial)
      = lv.on (omega arith) ∙ ap (λ (v : Round). best 1 [] (conts_in p.matrix.n p.matrix.times.now p.near.count p.near.entries.now v (legs_in st.added (level + 1)) (legs_in st.removed (level + 1 + 1)) t1 t4 partial)) er ∙ sym (ap (best 1 []) scans_same) in
      sym (level_on q t1 (24 - (level + 1)) s t4 partial b (cont_is partial' t3' t4') (omega arith) c) ∙ sym (ap (λ (m : ℕ). deepen q t1 m s t4 partial b) d) ∙ e)
      (λ l.
      let d : 24 - level ≡ 0 = omega arith in
      let z : partial' ≡ 0 = lv.last (omega arith) in
      onward_none q t1 (24 - (level + 1)) s t4 (cont_is partial' t3' t4') b (omega arith) ∙ sym (ap (λ (m : ℕ). deepen q t1 m s t4 partial b) d) ∙ e)

-- ---- before a level: the continuation c that it goes on with, and that what is left leads to the goal
pub record Ahead (p : Plan) (a : Track) (t1 t2 : Stop) (x : Trial) (t : Track) (st : LkState) (m : Mark) (c : Pick) (end : Stop) (level : ℕ) : Type 0 where
  pub kept : Going a t st m level
  pub within : level ≤ 25
  pub some : 0 < c.partial → level ≤ 24
  pub end_low : end < p.matrix.n
  pub fine : Fine p.matrix.n (65535 * (level + 1)) c.partial c.t3.0 c.t4.0
  pub leads : (ka : ℕ) (alpha : List Stop)
      → onward (plan_with p ka alpha) t1 (24 - level) (step_at st level (track_in t)) end (cont_is c.partial c.t3.0 c.t4.0) (best_at st m.gain m.len m.held (track_in t)) ≡ led (plan_with p ka alpha) t1 t2 (track_in a) x

pub ahead_start : (p : Plan) (a : Track) {t1 t2 : Stop} {st : LkState} (c : Pick) → Begun t1 t2 st → t2 < p.matrix.n → 0 < c.partial → Fine p.matrix.n 65535 c.partial c.t3.0 c.t4.0
    → Ahead p a t1 t2 (trial_in c) a st (record { gain = 0; len = 0; held = a.held }) c t2 0
unfolding cont_is trial_in
ahead_start p a {t1} {t2} {st} c b h2 s f = record {
  kept = going_start a b;
  within = omega arith;
  some = λ z. omega arith;
  end_low = h2;
  fine = record { low3 = f.low3; low4 = f.low4; small = omega (arith, f.small) };
  leads = λ ka alpha. on_start (plan_with p ka alpha) t1 t2 a st (cont_is c.partial c.t3.0 c.t4.0) b s;
}

module _ {p : Plan} {a : Track} {t1 t2 : Stop} {x : Trial} {t : Track} {st : LkState} {m : Mark} {c : Pick} {end : Stop} {level : ℕ} (w : Ahead p a t1 t2 x t st m c end level) where
  pub ahead_turn : p.matrix.n ≡ length a.stops.now → t1 < p.matrix.n → 0 < c.partial
      → (t' : Track) {st' : LkState} {m' : Mark} {closing : Time} → MadeOn 1 (flip t1 end c.t3.0 (track_in t)) t t' → Noted st level end c.t3.0 c.t4.0 st' → Closed m.gain m.len m.held c.partial closing (level + 1) t'.held m'.gain m'.len m'.held
      → closing ≡ leg_in p.matrix.n p.matrix.times.now c.t4.0 t1
      → (r : Shown) → r.stops.now ≡ t'.stops.now → {c' : Pick} → Leveled p.matrix.n c.partial (level + 1) (best 1 [] (conts_on p r (legs_in st'.added (level + 1)) (legs_in st'.removed (level + 1 + 1)) t1 c.t4.0 c.partial)) c'.partial c'.t3.0 c'.t4.0
      → Ahead p a t1 t2 x t' st' m' c' c.t4.0 (level + 1)
  unfolding leg_of
  ahead_turn n h1 s t' {st'} {m'} {closing} made nt cl ec r er {c'} lv =
      let f = w.fine in
      let l : level ≤ 24 = w.some s in
      let fit : c.partial ≤ 65535 * (level + 2) = omega (arith, f.small) in
      let l1 : t1 < length a.stops.now = omega (arith, n, h1) in
      let le : end < length a.stops.now = omega (arith, n, w.end_low) in
      let l3 : c.t3.0 < length a.stops.now = omega (arith, n, f.low3) in
      let l4 : c.t4.0 < length a.stops.now = omega (arith, n, f.low4) in
      record {
        kept = going_turn w.kept t1 end c.t3.0 c.t4.0 l1 le l3 l4 c.partial closing fit t' made nt cl;
        within = omega arith;
        some = λ z. less_or (level + 1) 25 (level + 1 ≤ 24) (λ q. omega arith) (λ q. let e = lv.last q in absurd (omega arith));
        end_low = f.low4;
        fine = record { low3 = lv.fine.low3; low4 = lv.fine.low4; small = omega (arith, lv.fine.small, fit) };
        leads = λ ka alpha.
            let goal : Best = led (plan_with p ka alpha) t1 t2 (track_in a) x in
            on_next p ka alpha t1 c.t4.0 c.partial st' level t' (best_at st' m'.gain m'.len m'.held (track_in t')) goal r er l lv
            (on_turn w.kept t1 end c.t3.0 c.t4.0 l1 le l3 l4 c.partial closing fit t' made nt cl (plan_with p ka alpha) ec goal s (w.leads ka alpha));
      }

  -- there is no continuation: the walk is over
  pub ahead_over : c.partial ≤ 0 → (ka : ℕ) (alpha : List Stop)
      → Walked (led (plan_with p ka alpha) t1 t2 (track_in a) x) (track_in a) a.journal.now a.held t.stops.now t.places.now t.journal.now t.held m.gain st.steps m.len m.held
  unfolding cont_is best_at step_at
  ahead_over z ka alpha =
      let k = w.kept in
      let goal : Best = led (plan_with p ka alpha) t1 t2 (track_in a) x in
      let e : best_at st m.gain m.len m.held (track_in t) ≡ goal
      = sym (onward_none (plan_with p ka alpha) t1 (24 - level) (step_at st level (track_in t)) end (cont_is c.partial c.t3.0 c.t4.0) (best_at st m.gain m.len m.held (track_in t)) z) ∙ w.leads ka alpha in
      let is = ap (λ (b : Best). b.step.track) e in
      record {
        gain_is = ap (λ (b : Best). b.gain) e;
        track_is = is;
        stops_is = ap (λ (b : Best). b.step.stops) e;
        none = λ y. sym is ∙ ap (λ (i : ℕ). rollback i (track_in t)) (k.none y) ∙ k.back;
        tied = t.tied;
        good = t.good;
        grew = k.grew;
        low = k.low;
        high = k.high;
        most = omega (arith, k.most, w.within);
        few = omega (arith, k.few, w.within);
        below = stepping_less st.steps level m.len (length t.stops.now) k.few k.below;
      }
