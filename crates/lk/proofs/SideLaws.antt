-- 01, 8, "Keeps the best closed gain and rolls back to it": a walk's end, the continuations of the first level, and both sides of t1.
use Prim.Native.Nat.{ℕ, suc, ◌+◌, ◌*◌, ◌≤◌, ◌<◌}
use mathlib.Core.Path.{◌≡◌, refl, sym, ap, subst, ◌∙◌}
use mathlib.Core.Bool.{Bool, true, false}
use mathlib.Core.List.{List, [], ◌∷◌}
use native.Mathlib.Omega.{arith}
use borrow.Author.Tests.{lt-ltb, le-ltb}
use lib.ListN.{length}
use Rattle.rules.specs.Words.{Stop, Place, Time, Round}
use Rattle.rules.specs.Ring.{leg, ahead}
use Rattle.rules.specs.Journal.{Track, track_of}
use Rattle.rules.specs.Queue.{push_all, waiting}
use Rattle.rules.specs.Plan.{Plan as PlanOf, leg_in, leg_of, near_of}
use Rattle.legs.specs.declared.plan.Plan.{Plan}
use Rattle.ring.specs.declared.round.Round.{Round as Shown}
use Rattle.journal.specs.declared.track.Track.{Track as Kept}
use Rattle.journal.specs.Tracks.{track_in}
use Rattle.rules.specs.Improve.{Trial, Found, nothing, or_else}
use Rattle.rules.specs.Step.{begin, best}
use Rattle.rules.specs.Lk.{Best, breadth, deepen, try_each, conts, cont_of, may_flip, lk_side, lk_from}
use Rattle.laws.proofs.ChoiceLaws.{by_gain}
use Rattle.laws.proofs.JournalLaws.{entries_of_length}
use Rattle.journal.specs.Journalled.{Grew, Back}
use Rattle.journal.proofs.GrewLaws.{grew_grew, grew_back}
use Rattle.queue.specs.Lines.{InLine, Waits}
use Rattle.moves.specs.Moves.{Made}
use Rattle.work.specs.declared.work.Work.{Work}
use Rattle.improve.specs.Steps.{near_plan, plan_with, Stepped, Steps}
use Rattle.improve.proofs.StepLaws.{stepped_none, stepped_some}
use Rattle.lk_state.specs.Stacks.{stops_in}
use Rattle.lk_scans.specs.Picked.{step_in, conts_in, conts_on, cont_is, trial_in, shown_from, Firsts, IsAt}
use Rattle.lk_scans.specs.declared.Pick.{Pick}
use Rattle.lk_scans.specs.declared.Picks.{Picks}
use Rattle.lk_scans.proofs.ShownLaws.{shown_none, shown_some, shown_last}
use Rattle.lk.specs.Walks.{led, found_of, Walked}

-- ---- what a best closed gain is as what is found
module _ (t1 t2 : Stop) (t : Track) (b : Best) where
  pub found_none : b.gain ≡ 0 → found_of t1 t2 t b ≡ nothing t
  unfolding found_of
  found_none e =
      by_gain (λ (f : Found). f ≡ nothing t) b.gain {x = nothing t} {y = λ g. record { gain = suc g; track = b.step.track; touched = t1 ∷ t2 ∷ b.step.stops }} (λ z. refl) (λ g z. absurd (omega arith))

  pub found_some : 0 < b.gain → found_of t1 t2 t b ≡ record { gain = b.gain; track = b.step.track; touched = t1 ∷ t2 ∷ b.step.stops }
  unfolding found_of
  found_some h =
      by_gain (λ (f : Found). f ≡ record { gain = b.gain; track = b.step.track; touched = t1 ∷ t2 ∷ b.step.stops }) b.gain {x = nothing t} {y = λ g. record { gain = suc g; track = b.step.track; touched = t1 ∷ t2 ∷ b.step.stops }}
      (λ z. absurd (omega arith)) (λ g z i. record { gain = sym z i; track = b.step.track; touched = t1 ∷ t2 ∷ b.step.stops })

  pub found_gain : (found_of t1 t2 t b).gain ≡ b.gain
  unfolding found_of nothing
  found_gain = by_gain (λ (f : Found). f.gain ≡ b.gain) b.gain {x = nothing t} {y = λ g. record { gain = suc g; track = b.step.track; touched = t1 ∷ t2 ∷ b.step.stops }} (λ z. sym z) (λ g z. sym z)

-- ---- a walk's end, rolled back
module _ {goal : Best} {t : Track} {j : List ℕ} {held : ℕ} {r : Round} {ps : List Place} {j' : List ℕ} {h : ℕ} {gain : Time} {steps : List ℕ} {len mark : ℕ} (w : Walked goal t j held r ps j' h gain steps len mark) (fits : 5 * held ≤ length j)
    {r' : Round} {ps' : List Place} {j'' : List ℕ} {h' : ℕ} (bk : Back (track_of r j' h) mark r' ps' j'' h') (same : j'' ≡ j') where
  made_back : Made 25 goal.step.track j held r' ps' j'' h'
  made_back = record {
    is = bk.is ∙ w.track_is;
    tied = bk.tied;
    good = bk.good;
    grew = subst (λ (k : List ℕ). Grew j held k h') (sym same) (subst (Grew j held j') (sym bk.to_mark) (grew_back j j' held h mark fits w.low w.high w.grew));
    high = omega (arith, bk.to_mark, w.high, w.most);
  }

  pub deep_none : (t1 t2 : Stop) {queue flags : List ℕ} {head : Place} {count : ℕ} → gain ≡ 0 → InLine queue flags head count → Stepped 25 (found_of t1 t2 t goal) queue head count j held r' ps' queue flags j'' 0 h' head count
  unfolding nothing push_all
  deep_none t1 t2 z l =
      let m = made_back in
      rw (found_none t1 t2 t goal (sym w.gain_is ∙ z))
      (record {
        gain_is = refl;
        made = record { is = m.is ∙ w.none z; tied = m.tied; good = m.good; grew = m.grew; high = m.high };
        waits = record { is = refl; head_is = refl; line = l };
      })

  pub deep_some : (t1 t2 : Stop) {queue queue' flags' : List ℕ} {head head' : Place} {count count' : ℕ} → 0 < gain → Waits (push_all (waiting queue head count) (t1 ∷ t2 ∷ stops_in steps len)) head queue' flags' head' count'
      → Stepped 25 (found_of t1 t2 t goal) queue head count j held r' ps' queue' flags' j'' gain h' head' count'
  deep_some t1 t2 z q =
      stepped_some
      (found_some t1 t2 t goal (omega (arith, w.gain_is)) ∙ (λ i. record { gain = sym w.gain_is i; track = goal.step.track; touched = t1 ∷ t2 ∷ sym w.stops_is i }))
      made_back q

-- ---- one step after another: the first found nothing
module _ (a b : Work) {most : ℕ} {gain' : Time} (s : Steps most (nothing (track_in a.track.now)) a b gain') where
  pub none_track : track_in b.track.now ≡ track_in a.track.now
  unfolding nothing
  none_track = s.made.is

  pub none_held : b.track.now.held ≡ a.track.now.held
  unfolding track_of
  none_held = sym (entries_of_length b.track.now.journal.now b.track.now.held) ∙ ap (λ (t : Track). length t.journal) none_track ∙ entries_of_length a.track.now.journal.now a.track.now.held

  pub stepped_after : (f : Track → Found) (c : Work) {gain'' : Time} → Steps most (f (track_in b.track.now)) b c gain'' → Steps most (f (track_in a.track.now)) a c gain''
  unfolding nothing push_all
  stepped_after f c u =
      let e = none_track in
      record {
        gain_is = u.gain_is ∙ ap (λ (t : Track). (f t).gain) e;
        made = record {
          is = u.made.is ∙ ap (λ (t : Track). (f t).track) e;
          tied = u.made.tied;
          good = u.made.good;
          grew = grew_grew s.made.grew u.made.grew;
          high = omega (arith, none_held, u.made.high);
        };
        waits = record {
          is = u.waits.is ∙ (λ i. push_all (s.waits.is i) (f (e i)).touched);
          head_is = u.waits.head_is ∙ s.waits.head_is;
          line = u.waits.line;
        };
      }

-- ---- the continuations of the first level
module _ (p : PlanOf) (t1 t2 : Stop) (t : Track) where
  -- what some of them lead to
  unfoldable pub side_from : List Trial → Found
  side_from xs = found_of t1 t2 t (try_each p t1 t2 (begin t t1 t2) (record { gain = 0; step = begin t t1 t2 }) (deepen p t1 24) xs)

  pub side_none : side_from [] ≡ nothing t
  unfolding side_from found_of try_each
  side_none = refl

  pub side_miss : (x : Trial) (xs : List Trial) → (led p t1 t2 t x).gain ≡ 0 → side_from (x ∷ xs) ≡ side_from xs
  unfolding side_from try_each led
  side_miss x xs e =
      ap (found_of t1 t2 t)
      (by_gain (λ (b : Best). b ≡ try_each p t1 t2 (begin t t1 t2) (record { gain = 0; step = begin t t1 t2 }) (deepen p t1 24) xs) (led p t1 t2 t x).gain
      {x = try_each p t1 t2 (begin t t1 t2) (record { gain = 0; step = begin t t1 t2 }) (deepen p t1 24) xs} {y = λ g. led p t1 t2 t x} (λ z. refl) (λ g z. absurd (omega arith)))

  pub side_hit : (x : Trial) (xs : List Trial) → 0 < (led p t1 t2 t x).gain → side_from (x ∷ xs) ≡ found_of t1 t2 t (led p t1 t2 t x)
  unfolding side_from try_each led
  side_hit x xs e =
      ap (found_of t1 t2 t)
      (by_gain (λ (b : Best). b ≡ led p t1 t2 t x) (led p t1 t2 t x).gain
      {x = try_each p t1 t2 (begin t t1 t2) (record { gain = 0; step = begin t t1 t2 }) (deepen p t1 24) xs} {y = λ g. led p t1 t2 t x} (λ z. absurd (omega arith)) (λ g z. refl))

-- the first level has breadth 3
pub side_all : (p : Plan) (ka : ℕ) (alpha : List Stop) (t1 t2 : Stop) (fwd : Bool) (a : Kept) (r : Shown) {g : Time} {ps : Picks} → r.stops.now ≡ a.stops.now → t2 ≡ ahead fwd r.stops.now t1 → g ≡ leg_in p.matrix.n p.matrix.times.now t1 t2
    → Firsts p.matrix.n g (best 3 [] (conts_on p r [] (leg t1 t2 ∷ []) t1 t2 g)) ps
    → side_from (plan_with p ka alpha) t1 t2 (track_in a) (shown_from 0 ps) ≡ lk_side (plan_with p ka alpha) t1 fwd (track_in a)
unfolding side_from lk_side deepen breadth found_of track_of conts_in conts cont_of may_flip step_in near_plan leg_of near_of begin
side_all p ka alpha t1 t2 fwd a r {g} {ps} er e2 eg f =
    let d : Stop → Stop → Time = leg_in p.matrix.n p.matrix.times.now in
    let firsts : Round → Stop → Time → List Trial = λ v w x. best 3 [] (conts_in p.matrix.n p.matrix.times.now p.near.count p.near.entries.now v [] (leg t1 w ∷ []) t1 w x) in
    ap (side_from (plan_with p ka alpha) t1 t2 (track_in a)) (f.is ∙ ap (firsts r.stops.now t2) eg ∙ ap (λ (v : Round). firsts v t2 (d t1 t2)) er)
    ∙ ap (λ (v : Stop). side_from (plan_with p ka alpha) t1 v (track_in a) (firsts a.stops.now v (d t1 v))) (e2 ∙ ap (λ (v : Round). ahead fwd v t1) er)

-- ---- before the i-th of them: nothing is found yet, and those that are left lead to what the side finds
pub record Trying (p : Plan) (fwd : Bool) (t1 t2 : Stop) (a : Work) (ps : Picks) (b : Work) (i : ℕ) : Type 0 where
  pub yet : Steps 25 (nothing (track_in a.track.now)) a b 0
  pub leads : (ka : ℕ) (alpha : List Stop) → side_from (plan_with p ka alpha) t1 t2 (track_in a.track.now) (shown_from i ps) ≡ lk_side (plan_with p ka alpha) t1 fwd (track_in a.track.now)

module _ {p : Plan} {fwd : Bool} {t1 t2 : Stop} {a : Work} {ps : Picks} {b : Work} {i : ℕ} (w : Trying p fwd t1 t2 a ps b i) where
  -- none is left
  try_none : shown_from i ps ≡ [] → (ka : ℕ) (alpha : List Stop) → Steps 25 (lk_side (plan_with p ka alpha) t1 fwd (track_in a.track.now)) a b 0
  try_none z ka alpha =
      let q : PlanOf = plan_with p ka alpha in
      let t : Track = track_in a.track.now in
      let e : lk_side q t1 fwd t ≡ nothing t = sym (w.leads ka alpha) ∙ ap (side_from q t1 t2 t) z ∙ side_none q t1 t2 t in
      subst (λ (f : Found). Steps 25 f a b 0) (sym e) w.yet

  pub try_over : 3 ≤ i → (ka : ℕ) (alpha : List Stop) → Steps 25 (lk_side (plan_with p ka alpha) t1 fwd (track_in a.track.now)) a b 0
  try_over h = try_none (shown_last i ps h)

  module _ {c : Pick} (is_at : IsAt ps i c) where
    pub try_end : c.partial ≡ 0 → (ka : ℕ) (alpha : List Stop) → Steps 25 (lk_side (plan_with p ka alpha) t1 fwd (track_in a.track.now)) a b 0
    unfolding trial_in cont_is
    try_end z = try_none (is_at.is ∙ shown_none (trial_in c) (shown_from (i + 1) ps) (omega (arith, z)))

    module _ (s : 0 < c.partial) (b' : Work) {gain : Time}
        (d : (ka : ℕ) (alpha : List Stop) → Steps 25 (found_of t1 t2 (track_in b.track.now) (led (plan_with p ka alpha) t1 t2 (track_in b.track.now) (trial_in c))) b b' gain) where
      head_of : shown_from i ps ≡ trial_in c ∷ shown_from (i + 1) ps
      unfolding trial_in cont_is
      head_of = is_at.is ∙ shown_some (trial_in c) (shown_from (i + 1) ps) s

      -- from the start on
      whole : (ka : ℕ) (alpha : List Stop) → Steps 25 (found_of t1 t2 (track_in a.track.now) (led (plan_with p ka alpha) t1 t2 (track_in a.track.now) (trial_in c))) a b' gain
      whole ka alpha = stepped_after a b w.yet (λ t. found_of t1 t2 t (led (plan_with p ka alpha) t1 t2 t (trial_in c))) b' (d ka alpha)

      led_gain : (ka : ℕ) (alpha : List Stop) → (led (plan_with p ka alpha) t1 t2 (track_in a.track.now) (trial_in c)).gain ≡ gain
      led_gain ka alpha = sym (found_gain t1 t2 (track_in a.track.now) (led (plan_with p ka alpha) t1 t2 (track_in a.track.now) (trial_in c))) ∙ sym (whole ka alpha).gain_is

      -- it has led to a gain
      pub try_hit : 0 < gain → (ka : ℕ) (alpha : List Stop) → Steps 25 (lk_side (plan_with p ka alpha) t1 fwd (track_in a.track.now)) a b' gain
      try_hit z ka alpha =
          let q : PlanOf = plan_with p ka alpha in
          let t : Track = track_in a.track.now in
          let y : (led q t1 t2 t (trial_in c)).gain ≡ gain = led_gain ka alpha in
          let e : lk_side q t1 fwd t ≡ found_of t1 t2 t (led q t1 t2 t (trial_in c)) = sym (w.leads ka alpha) ∙ ap (side_from q t1 t2 t) head_of ∙ side_hit q t1 t2 t (trial_in c) (shown_from (i + 1) ps) (omega arith) in
          subst (λ (f : Found). Steps 25 f a b' gain) (sym e) (whole ka alpha)

      -- it has not: the next one
      pub try_miss : gain ≤ 0 → Trying p fwd t1 t2 a ps b' (i + 1)
      try_miss z =
          let z' : gain ≡ 0 = omega arith in
          let t : Track = track_in a.track.now in
          let e0 = found_none t1 t2 t (led (plan_with p 0 []) t1 t2 t (trial_in c)) (led_gain 0 [] ∙ z') in
          record {
            yet = subst (λ (g : Time). Steps 25 (nothing t) a b' g) z' (subst (λ (f : Found). Steps 25 f a b' gain) e0 (whole 0 []));
            leads = λ ka alpha.
                let q : PlanOf = plan_with p ka alpha in
                sym (ap (side_from q t1 t2 t) head_of ∙ side_miss q t1 t2 t (trial_in c) (shown_from (i + 1) ps) (led_gain ka alpha ∙ z')) ∙ w.leads ka alpha;
          }

-- ---- both sides
module _ (p : PlanOf) (t1 : Stop) (t : Track) where
  from_few : length t.round < 5 → lk_from p t1 t ≡ nothing t
  unfolding lk_from
  from_few h = rw (lt-ltb (length t.round) 5 h)

  both : 5 ≤ length t.round → lk_from p t1 t ≡ or_else (lk_side p t1 true t) (lk_side p t1 false)
  unfolding lk_from
  both h = rw (le-ltb (length t.round) 5 h)

  side_nothing : (fwd : Bool) → (lk_side p t1 fwd t).gain ≡ 0 → lk_side p t1 fwd t ≡ nothing t
  unfolding lk_side found_of
  side_nothing fwd e =
      let t2 : Stop = ahead fwd t.round t1 in
      let b : Best = deepen p t1 25 (begin t t1 t2) t2 (leg_of p t1 t2) (record { gain = 0; step = begin t t1 t2 }) in
      found_none t1 t2 t b (sym (found_gain t1 t2 t b) ∙ e)

else_first : (f : Found) (other : Track → Found) → 0 < f.gain → or_else f other ≡ f
unfolding or_else
else_first f other h = by_gain (λ (z : Found). z ≡ f) f.gain {x = other f.track} {y = λ g. f} (λ e. absurd (omega arith)) (λ g e. refl)

-- too few stops: nothing is done
pub from_none : (p : PlanOf) (t1 : Stop) (a : Work) → length a.track.now.stops.now < 5 → Steps 25 (lk_from p t1 (track_in a.track.now)) a a 0
unfolding track_of
from_none p t1 a h = stepped_none (from_few p t1 (track_in a.track.now) h) refl a.track.now.tied a.track.now.good a.queue.now.in_line

module _ (p : PlanOf) (t1 : Stop) (a b : Work) (long : 5 ≤ length a.track.now.stops.now) {gain : Time} (s : Steps 25 (lk_side p t1 true (track_in a.track.now)) a b gain) where
  -- the first side gains
  pub from_first : 0 < gain → Steps 25 (lk_from p t1 (track_in a.track.now)) a b gain
  unfolding track_of
  from_first h =
      let t : Track = track_in a.track.now in
      subst (λ (f : Found). Steps 25 f a b gain) (sym (both p t1 t long ∙ else_first (lk_side p t1 true t) (lk_side p t1 false) (omega (arith, s.gain_is)))) s

  -- it finds nothing, and all is as it was
  pub first_none : gain ≤ 0 → Steps 25 (nothing (track_in a.track.now)) a b gain
  first_none h = subst (λ (f : Found). Steps 25 f a b gain) (side_nothing p t1 (track_in a.track.now) true (let e = s.gain_is in omega arith)) s

  -- then the other
  pub from_second : gain ≤ 0 → (c : Work) {gain'' : Time} → Steps 25 (lk_side p t1 false (track_in b.track.now)) b c gain'' → Steps 25 (lk_from p t1 (track_in a.track.now)) a c gain''
  unfolding track_of or_else nothing
  from_second h c {gain''} u =
      let t : Track = track_in a.track.now in
      let e : lk_from p t1 t ≡ lk_side p t1 false t = both p t1 t long ∙ ap (λ (f : Found). or_else f (lk_side p t1 false)) (side_nothing p t1 t true (let e = s.gain_is in omega arith)) in
      subst (λ (f : Found). Steps 25 f a c gain'') (sym e) (stepped_after a b (first_none h) (lk_side p t1 false) c u)
