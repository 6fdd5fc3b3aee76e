-- 01, 7 to 9: "A lasting step takes at most 100 journal entries", all in range; a step that fails leaves the track as it was. The legs may be any.
use Prim.Native.Nat.{◌*◌, ◌+◌, ◌-◌, ◌<◌, ◌≤◌, suc, zero, ℕ}
use mathlib.Core.Path.{◌≡◌, refl, subst, sym}
use mathlib.Core.Logic.{◌≢◌}
use mathlib.Core.Bool.{Bool, false, true}
use mathlib.Core.List.{List, [], ◌∷◌}
use native.Mathlib.Omega.{arith}
use lib.Dec.{eqb, ltb}
use lib.ListN.{length}
use borrow.Author.Tests.{ltb-true}
use Rattle.rules.specs.Descend.{step_from}
use Rattle.rules.specs.Improve.{Found, Trial, ends_of, first_closing, free3, improve, improve_both, nothing, or_else, touching, trials}
use Rattle.rules.specs.Journal.{Track}
use Rattle.rules.specs.Lists.{when◌then◌else◌, keep, keep_while}
use Rattle.rules.specs.Lk.{Best, better, cont_of, conts, deepen, flipped, lk_from, lk_side, may_flip, try_each}
use Rattle.rules.specs.Lk3.{breadth3, level3, lk3_from, lk3_side, may_go_on, moved3, try_each3}
use Rattle.rules.specs.Plan.{Plan, alpha_of, leg_of, near_of}
use Rattle.rules.specs.Ring.{ahead, behind, succ}
use Rattle.rules.specs.Step.{Step, begin, best, going}
use Rattle.rules.specs.Words.{Legs, Stop, Time}
use Rattle.laws.proofs.ChoiceLaws.{by_gain, either_if, either_way}
use Rattle.laws.proofs.EveryLaws.{All, Below, all_image, all_join, all_keep, all_map, all_while, more, none}
use Rattle.laws.proofs.PermLaws.{Perm, ahead_below, behind_below}
use Rattle.laws.proofs.SinceLaws.{Since, since_flip, since_length, since_more, since_perm, since_refl, since_seq3, since_since}
use Rattle.laws.proofs.StepLaws.{all_best}
use Rattle.laws.proofs.TrialLaws.{GoodList, Lists}
use Rattle.laws.proofs.TrialStopLaws.{Stops, ends_below, trials_stops}

-- what a step from t finds
pub record Steps (t : Track) (most : ℕ) (f : Found) : Type 0 where
  pub since : Since t most f.track
  pub stays : f.gain ≡ 0 → f.track ≡ t
  pub stops : Below (length t.round) f.touched

steps_nothing : (t : Track) (most : ℕ) → Steps t most (nothing t)
unfolding nothing
steps_nothing t most = record { since = since_refl most t; stays = λ e. refl; stops = none }

steps_more : {t : Track} (k most : ℕ) (f : Found) → Steps t k f → k ≤ most → Steps t most f
steps_more k most f s h = record { since = since_more k most s.since h; stays = s.stays; stops = s.stops }

steps_touching : {t : Track} {most : ℕ} (vs : List Stop) (f : Found) → Below (length t.round) vs → Steps t most f → Steps t most (touching vs f)
unfolding touching
steps_touching {t} {most} vs f b s = by_gain (Steps t most) f.gain (λ e. s) (λ g e. record { since = s.since; stays = λ q. absurd (omega arith); stops = all_join vs f.touched b s.stops })

steps_or_else : {t : Track} {most : ℕ} (f : Found) (other : Track → Found) → Steps t most f → Steps t most (other t) → Steps t most (or_else f other)
unfolding or_else
steps_or_else {t} {most} f other s k = by_gain (Steps t most) f.gain (λ e. subst (λ u. Steps t most (other u)) (sym (s.stays e)) k) (λ g e. s)

steps_closing : (add : Legs) (fwd : Bool) (t1 t2 : Stop) (t : Track) → Perm t.round → t1 < length t.round → t2 < length t.round → (xs : List Trial) → All (Stops (length t.round)) xs
    → Steps t 2 (first_closing add fwd t1 t2 t xs)
unfolding first_closing
steps_closing add fwd t1 t2 t pm h1 h2 [] none = steps_nothing t 2
steps_closing add fwd t1 t2 t pm h1 h2 (x ∷ xs) (more s a) =
    either_if (Steps t 2) (ltb (add x.t6 t1) x.partial)
    (λ y. let k : add x.t6 t1 < x.partial = ltb-true (add x.t6 t1) x.partial y in record { since = since_seq3 fwd t pm t1 t2 h1 h2 x s; stays = λ e. absurd (omega arith); stops = ends_below (length t.round) x s })
    (λ y. steps_closing add fwd t1 t2 t pm h1 h2 xs a)

-- ---- `improve`
module _ (p : Plan) (t : Track) (pm : Perm t.round) (near : GoodList (length t.round) (near_of p)) (t1 : Stop) (h1 : t1 < length t.round) where
  -- two entries at most
  pub steps_improve : (fwd : Bool) → Steps t 2 (improve p fwd t1 t)
  unfolding improve
  steps_improve fwd =
      let r = t.round in
      let t2 = ahead fwd r t1 in
      let h2 = ahead_below r pm fwd t1 h1 in
      steps_touching (t1 ∷ t2 ∷ []) _ (more h1 (more h2 none)) (steps_closing (leg_of p) fwd t1 t2 t pm h1 h2 _ (trials_stops (leg_of p) (leg_of p) (near_of p) keep_while (λ P. all_while) fwd r pm near t1 t2 (leg_of p t1 t2) h2))

  -- forward, then backward
  pub steps_both : Steps t 2 (improve_both p t1 t)
  unfolding improve_both
  steps_both = steps_or_else (improve p true t1 t) (improve p false t1) (steps_improve true) (steps_improve false)

-- ---- a Lin-Kernighan step on its way
record Way (t : Track) (k : ℕ) (s : Step) : Type 0 where
  since : Since t k s.track
  stops : Below (length t.round) s.stops

way_more : {t : Track} (k most : ℕ) (s : Step) → Way t k s → k ≤ most → Way t most s
way_more k most s w h = record { since = since_more k most w.since h; stops = w.stops }

begun : (t : Track) (t1 t2 : Stop) (k : ℕ) → Way t k (begin t t1 t2)
unfolding begin
begun t t1 t2 k = record { since = since_refl k t; stops = none }

-- ---- `lk_from`: a level flips once
module _ (p : Plan) (t : Track) (pm : Perm t.round) (near : GoodList (length t.round) (near_of p)) (t1 : Stop) (h1 : t1 < length t.round) where
  conts_stops : {k : ℕ} (fwd : Bool) (s : Step) (t2 : Stop) (g : Time) → Way t k s → t2 < length t.round → All (Stops (length t.round)) (conts p fwd s t1 t2 g)
  unfolding conts cont_of
  conts_stops fwd s t2 g m h2 =
      let r = s.track.round in
      let e : length r ≡ length t.round = since_length m.since in
      all_map {P = λ x. Stops (length t.round) x × (may_flip s t2 x ≡ true)} _ (λ x q. q.0) (all_keep _ _
      (all_image {P = λ t3. (((t3 < length t.round) × (t3 ≢ t2)) × (ltb (leg_of p t2 t3) g ≡ true)) × (free3 fwd r t1 t2 t3 ≡ true)} _ _
      (λ t3 f.
      let h3 : t3 < length t.round = f.0.0.0 in
      let h4 : behind fwd r t3 < length t.round = omega (arith, behind_below r (since_perm m.since pm) fwd t3 (omega arith)) in
      record { third = h3; fourth = h4; fifth = h4; sixth = h4 })
      (all_keep _ _ (all_while _ _ (near t2 h2)))))

  way_flipped : {k : ℕ} (s : Step) (t2 : Stop) (x : Trial) → Way t k s → t2 < length t.round → Stops (length t.round) x → Way t (k + 1) (flipped t1 t2 s x)
  unfolding flipped going
  way_flipped s t2 x m h2 st =
      let e : length s.track.round ≡ length t.round = since_length m.since in
      record {
        since = since_since m.since (since_flip s.track (since_perm m.since pm) t1 t2 x.t3 (omega arith) (omega arith) (omega (arith, st.third)));
        stops = all_join s.stops (ends_of x) m.stops (ends_below (length t.round) x st);
      }

  try_each_way : {k : ℕ} (t2 : Stop) (s : Step) (b : Best) (deeper : Step → Stop → Time → Best → Best) (xs : List Trial) → Way t k s → k + 1 ≤ 25 → t2 < length t.round → Way t 25 b.step
      → ((s' : Step) (t2' : Stop) (g' : Time) (b' : Best) → Way t (k + 1) s' → t2' < length t.round → Way t 25 b'.step → Way t 25 (deeper s' t2' g' b').step)
      → All (Stops (length t.round)) xs → Way t 25 (try_each p t1 t2 s b deeper xs).step
  unfolding try_each better
  try_each_way t2 s b deeper [] h few h2 k m none = k
  try_each_way {k = k} t2 s b deeper (x ∷ xs) h few h2 kb m (more st a) =
      let s' = flipped t1 t2 s x in
      let f = way_flipped s t2 x h h2 st in
      let b₁ = better b s' x.partial (leg_of p x.t4 t1) in
      let k₁ : Way t 25 b₁.step = either_way (λ (g : Best). Way t 25 g.step) (ltb (leg_of p x.t4 t1 + b.gain) x.partial) (way_more (k + 1) 25 s' f few) kb in
      let b' = deeper s' x.t4 x.partial b₁ in
      by_gain (λ (g : Best). Way t 25 g.step) b'.gain {x = try_each p t1 t2 s b deeper xs} {y = λ g. b'} (λ e. try_each_way t2 s b deeper xs h few h2 kb m a) (λ q e. m s' x.t4 x.partial b₁ f st.fourth k₁)

  deepen_way : (levels k : ℕ) → k + levels ≤ 25 → (s : Step) (t2 : Stop) (g : Time) (b : Best) → Way t k s → t2 < length t.round → Way t 25 b.step → Way t 25 (deepen p t1 levels s t2 g b).step
  unfolding deepen
  deepen_way zero k l s t2 g b h h2 kb = kb
  deepen_way (suc levels) k l s t2 g b h h2 kb =
      try_each_way t2 s b (deepen p t1 levels) _ h (omega arith) h2 kb (deepen_way levels (k + 1) (omega arith))
      (all_best (Stops (length t.round)) _ [] _ none (conts_stops (eqb (succ s.track.round t1) t2) s t2 g h h2))

  steps_lk_side : (fwd : Bool) → Steps t 25 (lk_side p t1 fwd t)
  unfolding lk_side
  steps_lk_side fwd =
      let t2 = ahead fwd t.round t1 in
      let h2 = ahead_below t.round pm fwd t1 h1 in
      let s = begin t t1 t2 in
      let b₀ : Best = record { gain = 0; step = s } in
      let b = deepen p t1 25 s t2 (leg_of p t1 t2) b₀ in
      let w = deepen_way 25 0 (omega arith) s t2 (leg_of p t1 t2) b₀ (begun t t1 t2 0) h2 (begun t t1 t2 25) in
      by_gain (Steps t 25) b.gain {x = nothing t} {y = λ g. record { gain = suc g; track = b.step.track; touched = t1 ∷ t2 ∷ b.step.stops }} (λ e. steps_nothing t 25)
      (λ g e. record { since = w.since; stays = λ q. absurd (omega arith); stops = more h1 (more h2 w.stops) })

  -- 25 levels, an entry each
  pub steps_lk_from : Steps t 25 (lk_from p t1 t)
  unfolding lk_from
  steps_lk_from = either_way (Steps t 25) (ltb (length t.round) 5) (steps_nothing t 25) (steps_or_else (lk_side p t1 true t) (lk_side p t1 false) (steps_lk_side true) (steps_lk_side false))

-- ---- `lk3_from`: a level moves by two entries at most
module _ (p : Plan) (t : Track) (pm : Perm t.round) (alpha : GoodList (length t.round) (alpha_of p)) (t1 : Stop) (h1 : t1 < length t.round) where
  way_moved3 : {k : ℕ} (fwd : Bool) (s : Step) (t2 : Stop) (x : Trial) → Way t k s → t2 < length t.round → Stops (length t.round) x → Way t (k + 2) (moved3 fwd t1 t2 s x)
  unfolding moved3 going
  way_moved3 fwd s t2 x m h2 st =
      let e : length s.track.round ≡ length t.round = since_length m.since in
      record {
        since = since_since m.since (since_seq3 fwd s.track (since_perm m.since pm) t1 t2 (omega arith) (omega arith) x (subst (λ n. Stops n x) (sym e) st));
        stops = all_join s.stops (ends_of x) m.stops (ends_below (length t.round) x st);
      }

  -- what a level finds, from the step that it was given
  record Level (s : Step) (f : Found) : Type 0 where
    within : Since t 100 f.track
    stays : f.gain ≡ 0 → f.track ≡ s.track
    stops : Below (length t.round) f.touched

  try_each3_level : {k : ℕ} (fwd : Bool) (t2 : Stop) (s : Step) (deeper : Step → Stop → Time → Found) (xs : List Trial) → Way t k s → k ≤ 100 → t2 < length t.round
      → ((s' : Step) (t2' : Stop) (g' : Time) → Way t (k + 2) s' → t2' < length t.round → Level s' (deeper s' t2' g'))
      → All (Stops (length t.round)) xs → Level s (try_each3 fwd t1 t2 s deeper xs)
  unfolding try_each3 nothing
  try_each3_level {k = k} fwd t2 s deeper [] h few h2 m none = record { within = since_more k 100 h.since few; stays = λ e. refl; stops = none }
  try_each3_level {k = k} fwd t2 s deeper (x ∷ xs) h few h2 m (more st a) =
      let s' = moved3 fwd t1 t2 s x in
      let f = deeper s' x.t6 x.partial in
      let c = m s' x.t6 x.partial (way_moved3 fwd s t2 x h h2 st) st.sixth in
      by_gain (Level s) f.gain {x = try_each3 fwd t1 t2 s deeper xs} {y = λ g. f} (λ q. try_each3_level fwd t2 s deeper xs h few h2 m a)
      (λ g q. record { within = c.within; stays = λ z. absurd (omega arith); stops = c.stops })

  level3_level : (levels k : ℕ) → k + 2 * levels ≤ 100 → (s : Step) (t2 : Stop) (g : Time) → Way t k s → t2 < length t.round → Level s (level3 p t1 levels s t2 g)
  unfolding level3 nothing
  level3_level zero k l s t2 g h h2 = record { within = since_more k 100 h.since (omega arith); stays = λ e. refl; stops = none }
  level3_level (suc levels) k l s t2 g h h2 =
      let r = s.track.round in
      let e : length r ≡ length t.round = since_length h.since in
      let pm' : Perm r = since_perm h.since pm in
      let fwd = eqb (succ r t1) t2 in
      let tried = trials (leg_of p) (leg_of p) (alpha_of p) keep fwd r t1 t2 g in
      let stops : All (Stops (length r)) tried = trials_stops (leg_of p) (leg_of p) (alpha_of p) keep (λ P. all_keep) fwd r pm' (subst (λ n. GoodList n (alpha_of p)) (sym e) alpha) t1 t2 g (omega arith) in
      let f = first_closing (leg_of p) fwd t1 t2 s.track tried in
      let c : Steps s.track 2 (touching s.stops f) = steps_touching s.stops f (subst (λ n. Below n s.stops) (sym e) h.stops) (steps_closing (leg_of p) fwd t1 t2 s.track pm' (omega arith) (omega arith) tried stops) in
      let on = keep (may_go_on p s t2) tried in
      let most = (when eqb levels 0 then [] else best (breadth3 (49 - levels)) [] on) in
      let goes : All (Stops (length t.round)) on = all_map {P = λ x. Stops (length r) x × (may_go_on p s t2 x ≡ true)} _ (λ x q. subst (λ n. Stops n x) e q.0) (all_keep (may_go_on p s t2) tried stops) in
      by_gain (Level s) f.gain {x = try_each3 fwd t1 t2 s (level3 p t1 levels) most} {y = λ k. touching s.stops f}
      (λ q. try_each3_level fwd t2 s (level3 p t1 levels) most h (omega arith) h2 (level3_level levels (k + 2) (omega arith))
      (either_way (All (Stops (length t.round))) (eqb levels 0) none (all_best (Stops (length t.round)) (breadth3 (49 - levels)) [] on none goes)))
      (λ m q. record { within = since_more (k + 2) 100 (since_since h.since c.since) (omega arith); stays = c.stays; stops = subst (λ n. Below n (touching s.stops f).touched) e c.stops })

  steps_lk3_side : (fwd : Bool) → Steps t 100 (lk3_side p t1 fwd t)
  unfolding lk3_side begin
  steps_lk3_side fwd =
      let t2 = ahead fwd t.round t1 in
      let h2 = ahead_below t.round pm fwd t1 h1 in
      let c = level3_level 50 0 (omega arith) (begin t t1 t2) t2 (leg_of p t1 t2) (begun t t1 t2 0) h2 in
      steps_touching (t1 ∷ t2 ∷ []) _ (more h1 (more h2 none)) (record { since = c.within; stays = c.stays; stops = c.stops })

  -- 50 levels, two entries each
  pub steps_lk3_from : Steps t 100 (lk3_from p t1 t)
  unfolding lk3_from
  steps_lk3_from = either_way (Steps t 100) (ltb (length t.round) 5) (steps_nothing t 100) (steps_or_else (lk3_side p t1 true t) (lk3_side p t1 false) (steps_lk3_side true) (steps_lk3_side false))

-- ---- a step of any kind
module _ (p : Plan) (t : Track) (pm : Perm t.round) (lists : Lists p (length t.round)) (v : Stop) (h : v < length t.round) where
  few : Steps t 100 (improve_both p v t)
  few = steps_more 2 100 _ (steps_both p t pm lists.near v h) (omega arith)

  -- 100 in all
  pub steps_step : (kind : ℕ) → Steps t 100 (step_from p kind v t)
  unfolding step_from
  steps_step zero = steps_or_else (lk_from p v t) (improve_both p v) (steps_more 25 100 _ (steps_lk_from p t pm lists.near v h) (omega arith)) few
  steps_step (suc zero) = steps_or_else (lk3_from p v t) (improve_both p v) (steps_lk3_from p t pm lists.alpha v h) few
  steps_step (suc (suc kind)) = either_way (Steps t 100) (ltb (length t.round) 5) few (steps_lk3_from p t pm lists.alpha v h)
