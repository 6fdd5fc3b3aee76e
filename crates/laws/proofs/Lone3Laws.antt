-- 01, 9, "for LK3 1, 1, then 1": a level of `lk3_level` closes, or tries one continuation, the best, or gives up.
use Prim.Native.Nat.{◌-◌, ◌<◌, suc, zero, ℕ}
use mathlib.Core.Path.{◌∙◌, ◌≡◌, ap, refl, sym}
use mathlib.Core.Bool.{Bool}
use mathlib.Core.List.{List, [], ◌∷◌, ◌++◌}
use native.Mathlib.Omega.{arith}
use lib.Dec.{eqb}
use lib.ListN.{get_or-eq_default}
use borrow.Author.Tests.{ne_eqb}
use Rattle.rules.specs.Improve.{Found, Trial, first_closing, nothing, touching, trials}
use Rattle.rules.specs.Journal.{Track}
use Rattle.rules.specs.Lists.{when◌then◌else◌, keep}
use Rattle.rules.specs.Lk3.{breadth3, level3, may_go_on, moved3, try_each3}
use Rattle.rules.specs.Plan.{Plan, alpha_of, leg_of}
use Rattle.rules.specs.Ring.{succ}
use Rattle.rules.specs.Step.{Step, best}
use Rattle.rules.specs.Words.{Stop, Time}
use Rattle.laws.proofs.ChoiceLaws.{by_gain, either_way}

-- at every level
pub breadth3_one : (level : ℕ) → breadth3 level ≡ 1
unfolding breadth3
breadth3_one zero = refl
breadth3_one (suc zero) = refl
breadth3_one (suc (suc level)) = get_or-eq_default (1 ∷ 1 ∷ []) 1 {n = suc (suc level)} (omega arith)

-- stops queued first, where there is a gain
pub touching_some : (vs : List Stop) (f : Found) → 0 < f.gain → touching vs f ≡ record { gain = f.gain; track = f.track; touched = vs ++ f.touched }
unfolding touching
touching_some vs f = by_gain (λ (z : Found). 0 < f.gain → z ≡ record { gain = f.gain; track = f.track; touched = vs ++ f.touched }) f.gain (λ e h. absurd (omega arith)) (λ g e h. ap (λ (x : ℕ). record { gain = x; track = f.track; touched = vs ++ f.touched }) (sym e))

-- what a level goes on with leads to: a gain, or none
pub lone3 : (fwd : Bool) (t1 t2 : Stop) (s : Step) (deeper : Step → Stop → Time → Found) (x : Trial) → (deeper (moved3 fwd t1 t2 s x) x.t6 x.partial).gain ≡ 0
    → try_each3 fwd t1 t2 s deeper (x ∷ []) ≡ nothing s.track
unfolding try_each3
lone3 fwd t1 t2 s deeper x = by_gain (λ (z : Found). (deeper (moved3 fwd t1 t2 s x) x.t6 x.partial).gain ≡ 0 → z ≡ nothing s.track) (deeper (moved3 fwd t1 t2 s x) x.t6 x.partial).gain (λ e h. refl) (λ g e h. absurd (omega arith))

pub lone3_gains : (fwd : Bool) (t1 t2 : Stop) (s : Step) (deeper : Step → Stop → Time → Found) (x : Trial) → 0 < (deeper (moved3 fwd t1 t2 s x) x.t6 x.partial).gain
    → try_each3 fwd t1 t2 s deeper (x ∷ []) ≡ deeper (moved3 fwd t1 t2 s x) x.t6 x.partial
unfolding try_each3
lone3_gains fwd t1 t2 s deeper x = by_gain (λ (z : Found). 0 < (deeper (moved3 fwd t1 t2 s x) x.t6 x.partial).gain → z ≡ deeper (moved3 fwd t1 t2 s x) x.t6 x.partial) (deeper (moved3 fwd t1 t2 s x) x.t6 x.partial).gain (λ e h. absurd (omega arith)) (λ g e h. refl)

-- no continuation, and one, where another level is left
none_left : (levels : ℕ) (xs : List Trial) → levels ≡ 0 → (when eqb levels 0 then [] else xs) ≡ []
none_left levels xs e = rw e

some_left : (levels : ℕ) (xs : List Trial) → 0 < levels → (when eqb levels 0 then [] else xs) ≡ xs
some_left levels xs h = rw (ne_eqb levels 0 (λ e. omega arith))

module _ (p : Plan) (t1 : Stop) (levels : ℕ) (s : Step) (t2 : Stop) (g : Time) (fwd : Bool) where
  -- the trials of a level
  unfoldable pub tried3 : List Trial
  tried3 = trials (leg_of p) (leg_of p) (alpha_of p) keep fwd s.track.round t1 t2 g

  -- a level, from what closes first
  unfoldable after : Found → Found
  after f = elim f.gain [
    | zero ↦ try_each3 fwd t1 t2 s (level3 p t1 levels) (when eqb levels 0 then [] else best (breadth3 (49 - levels)) [] (keep (may_go_on p s t2) tried3))
    | suc k ↦ touching s.stops f
  ]

  level3_is : fwd ≡ eqb (succ s.track.round t1) t2 → level3 p t1 (suc levels) s t2 g ≡ after (first_closing (leg_of p) fwd t1 t2 s.track tried3)
  unfolding level3 tried3 after
  level3_is way = rw way

  module _ (way : fwd ≡ eqb (succ s.track.round t1) t2) where
    -- one closes with a gain
    pub level3_closes : (f : Found) → first_closing (leg_of p) fwd t1 t2 s.track tried3 ≡ f → 0 < f.gain → level3 p t1 (suc levels) s t2 g ≡ record { gain = f.gain; track = f.track; touched = s.stops ++ f.touched }
    unfolding after
    level3_closes f e h =
        level3_is way ∙ ap after e
        ∙ by_gain (λ (z : Found). z ≡ record { gain = f.gain; track = f.track; touched = s.stops ++ f.touched }) f.gain (λ q. absurd (omega arith)) (λ k q. touching_some s.stops f h)

    module _ (none : first_closing (leg_of p) fwd t1 t2 s.track tried3 ≡ nothing s.track) where
      goes_on : level3 p t1 (suc levels) s t2 g ≡ try_each3 fwd t1 t2 s (level3 p t1 levels) (when eqb levels 0 then [] else best 1 [] (keep (may_go_on p s t2) tried3))
      unfolding after nothing
      goes_on = level3_is way ∙ ap after none ∙ ap (λ (b : ℕ). try_each3 fwd t1 t2 s (level3 p t1 levels) (when eqb levels 0 then [] else best b [] (keep (may_go_on p s t2) tried3))) (breadth3_one (49 - levels))

      pub level3_last : levels ≡ 0 → level3 p t1 (suc levels) s t2 g ≡ nothing s.track
      unfolding try_each3
      level3_last e = goes_on ∙ ap (try_each3 fwd t1 t2 s (level3 p t1 levels)) (none_left levels _ e)

      pub level3_off : best 1 [] (keep (may_go_on p s t2) tried3) ≡ [] → level3 p t1 (suc levels) s t2 g ≡ nothing s.track
      unfolding try_each3
      level3_off e = goes_on ∙ ap (try_each3 fwd t1 t2 s (level3 p t1 levels)) (ap (λ (l : List Trial). when eqb levels 0 then [] else l) e ∙ either_way (λ (l : List Trial). l ≡ []) (eqb levels 0) refl refl)

      module _ (x : Trial) (is : best 1 [] (keep (may_go_on p s t2) tried3) ≡ x ∷ []) (more : 0 < levels) where
        on : level3 p t1 (suc levels) s t2 g ≡ try_each3 fwd t1 t2 s (level3 p t1 levels) (x ∷ [])
        on = goes_on ∙ ap (try_each3 fwd t1 t2 s (level3 p t1 levels)) (some_left levels _ more ∙ is)

        -- it leads to a gain, or to none
        pub level3_gains : 0 < (level3 p t1 levels (moved3 fwd t1 t2 s x) x.t6 x.partial).gain → level3 p t1 (suc levels) s t2 g ≡ level3 p t1 levels (moved3 fwd t1 t2 s x) x.t6 x.partial
        level3_gains h = on ∙ lone3_gains fwd t1 t2 s (level3 p t1 levels) x h

        pub level3_fails : (level3 p t1 levels (moved3 fwd t1 t2 s x) x.t6 x.partial).gain ≡ 0 → level3 p t1 (suc levels) s t2 g ≡ nothing s.track
        level3_fails h = on ∙ lone3 fwd t1 t2 s (level3 p t1 levels) x h

-- more stops queued change no gain, and nothing where there is none
pub touching_gain : (vs : List Stop) (f : Found) → (touching vs f).gain ≡ f.gain
unfolding touching
touching_gain vs f = by_gain (λ (z : Found). z.gain ≡ f.gain) f.gain {x = f} {y = λ g. record { gain = suc g; track = f.track; touched = vs ++ f.touched }} (λ e. refl) (λ g e. sym e)

pub touching_none : (vs : List Stop) (f : Found) (t : Track) → f ≡ nothing t → touching vs f ≡ nothing t
unfolding touching nothing
touching_none vs f t e = rw e

-- ---- a level that gains nothing leaves the track as it was
module _ (p : Plan) (t1 : Stop) where
  each_none : (fwd : Bool) (t2 : Stop) (s : Step) (deeper : Step → Stop → Time → Found) (xs : List Trial) → (try_each3 fwd t1 t2 s deeper xs).gain ≡ 0 → try_each3 fwd t1 t2 s deeper xs ≡ nothing s.track
  unfolding try_each3
  each_none fwd t2 s deeper [] e = refl
  each_none fwd t2 s deeper (x ∷ xs) e =
      let f = deeper (moved3 fwd t1 t2 s x) x.t6 x.partial in
      by_gain (λ (z : Found). z.gain ≡ 0 → z ≡ nothing s.track) f.gain {x = try_each3 fwd t1 t2 s deeper xs} {y = λ g. f} (λ q. each_none fwd t2 s deeper xs) (λ g q z. absurd (omega arith)) e

  pub level3_none : (levels : ℕ) (s : Step) (t2 : Stop) (g : Time) → (level3 p t1 levels s t2 g).gain ≡ 0 → level3 p t1 levels s t2 g ≡ nothing s.track
  unfolding level3
  level3_none zero s t2 g e = refl
  level3_none (suc levels) s t2 g e =
      let fwd = eqb (succ s.track.round t1) t2 in
      let tried = trials (leg_of p) (leg_of p) (alpha_of p) keep fwd s.track.round t1 t2 g in
      let f = first_closing (leg_of p) fwd t1 t2 s.track tried in
      let xs = (when eqb levels 0 then [] else best (breadth3 (49 - levels)) [] (keep (may_go_on p s t2) tried)) in
      by_gain (λ (z : Found). z.gain ≡ 0 → z ≡ nothing s.track) f.gain {x = try_each3 fwd t1 t2 s (level3 p t1 levels) xs} {y = λ k. touching s.stops f}
      (λ q. each_none fwd t2 s (level3 p t1 levels) xs) (λ k q z. absurd (omega (arith, touching_gain s.stops f))) e
