-- 01, 7 to 10: a step that gains 0 leaves the track as it was and queues nothing, whatever legs and lists are.
use Prim.Native.Nat.{◌-◌, ◌<◌, suc, zero, ℕ}
use mathlib.Core.Path.{◌≡◌, ap, refl, subst, sym}
use mathlib.Core.Bool.{Bool, false, true}
use mathlib.Core.List.{List, [], ◌∷◌}
use native.Mathlib.Omega.{arith}
use lib.Dec.{eqb, ltb}
use lib.ListN.{length}
use borrow.Author.Tests.{ltb-true}
use Rattle.rules.specs.Improve.{Found, Trial, first_closing, improve, improve_both, nothing, or_else, touching, trials}
use Rattle.rules.specs.Journal.{Track}
use Rattle.rules.specs.Lists.{when◌then◌else◌, keep}
use Rattle.rules.specs.Lk.{deepen, lk_from, lk_side}
use Rattle.rules.specs.Lk3.{breadth3, level3, lk3_from, lk3_side, may_go_on, moved3, try_each3}
use Rattle.rules.specs.Plan.{Plan, alpha_of, leg_of}
use Rattle.rules.specs.Ring.{ahead, succ}
use Rattle.rules.specs.Step.{Step, begin, best}
use Rattle.rules.specs.Words.{Legs, Stop, Time}
use Rattle.laws.proofs.ChoiceLaws.{by_gain, either_if, either_way}

-- what gains 0 is nothing
unfoldable pub Stays : Track → Found → Type 0
Stays t f = f.gain ≡ 0 → f ≡ nothing t

stays_nothing : (t : Track) → Stays t (nothing t)
unfolding Stays
stays_nothing t e = refl

stays_touching : (t : Track) (vs : List Stop) (f : Found) → Stays t f → Stays t (touching vs f)
unfolding Stays touching
stays_touching t vs f h = by_gain (Stays t) f.gain (λ e. h) (λ g e q. absurd (omega arith))

stays_or_else : (t : Track) (f : Found) (other : Track → Found) → Stays t f → Stays t (other t) → Stays t (or_else f other)
unfolding Stays or_else nothing
stays_or_else t f other h k =
    by_gain (Stays t) f.gain (λ e. let q : f.track ≡ t = ap (λ (g : Found). g.track) (h e) in subst (λ u. Stays t (other u)) (sym q) k) (λ g e q. absurd (omega arith))

stays_closing : (add : Legs) (fwd : Bool) (t1 t2 : Stop) (t : Track) (xs : List Trial) → Stays t (first_closing add fwd t1 t2 t xs)
unfolding Stays first_closing
stays_closing add fwd t1 t2 t [] = stays_nothing t
stays_closing add fwd t1 t2 t (x ∷ xs) =
    either_if (Stays t) (ltb (add x.t6 t1) x.partial)
    (λ y q. let k : add x.t6 t1 < x.partial = ltb-true (add x.t6 t1) x.partial y in absurd (omega arith))
    (λ y. stays_closing add fwd t1 t2 t xs)

-- ---- `improve`
module _ (p : Plan) (t1 : Stop) (t : Track) where
  pub improve_stays : (fwd : Bool) → Stays t (improve p fwd t1 t)
  unfolding improve
  improve_stays fwd = stays_touching t _ _ (stays_closing _ fwd t1 _ t _)

  pub both_stays : Stays t (improve_both p t1 t)
  unfolding improve_both
  both_stays = stays_or_else t (improve p true t1 t) (improve p false t1) (improve_stays true) (improve_stays false)

  -- ---- `lk_from`
  lk_side_stays : (fwd : Bool) → Stays t (lk_side p t1 fwd t)
  unfolding lk_side Stays
  lk_side_stays fwd =
      let t2 = ahead fwd t.round t1 in
      let s = begin t t1 t2 in
      let b = deepen p t1 25 s t2 (leg_of p t1 t2) (record { gain = 0; step = s }) in
      by_gain (Stays t) b.gain {x = nothing t} {y = λ g. record { gain = suc g; track = b.step.track; touched = t1 ∷ t2 ∷ b.step.stops }} (λ e. stays_nothing t) (λ g e q. absurd (omega arith))

  pub lk_from_stays : Stays t (lk_from p t1 t)
  unfolding lk_from
  lk_from_stays = either_way (Stays t) (ltb (length t.round) 5) (stays_nothing t) (stays_or_else t (lk_side p t1 true t) (lk_side p t1 false) (lk_side_stays true) (lk_side_stays false))

-- ---- `lk3_from`
module _ (p : Plan) (t1 : Stop) where
  try_each3_stays : (fwd : Bool) (t2 : Stop) (s : Step) (deeper : Step → Stop → Time → Found) (xs : List Trial) → Stays s.track (try_each3 fwd t1 t2 s deeper xs)
  unfolding try_each3 Stays
  try_each3_stays fwd t2 s deeper [] = stays_nothing s.track
  try_each3_stays fwd t2 s deeper (x ∷ xs) =
      let f = deeper (moved3 fwd t1 t2 s x) x.t6 x.partial in
      by_gain (Stays s.track) f.gain {x = try_each3 fwd t1 t2 s deeper xs} {y = λ g. f} (λ e. try_each3_stays fwd t2 s deeper xs) (λ g e q. absurd (omega arith))

  pub level3_stays : (levels : ℕ) (s : Step) (t2 : Stop) (g : Time) → Stays s.track (level3 p t1 levels s t2 g)
  unfolding level3
  level3_stays zero s t2 g = stays_nothing s.track
  level3_stays (suc levels) s t2 g =
      let fwd = eqb (succ s.track.round t1) t2 in
      let tried = trials (leg_of p) (leg_of p) (alpha_of p) keep fwd s.track.round t1 t2 g in
      let f = first_closing (leg_of p) fwd t1 t2 s.track tried in
      let on = (when eqb levels 0 then [] else best (breadth3 (49 - levels)) [] (keep (may_go_on p s t2) tried)) in
      by_gain (Stays s.track) f.gain {x = try_each3 fwd t1 t2 s (level3 p t1 levels) on} {y = λ k. touching s.stops f} (λ e. try_each3_stays fwd t2 s (level3 p t1 levels) on)
      (λ k e. stays_touching s.track s.stops f (stays_closing (leg_of p) fwd t1 t2 s.track tried))

  lk3_side_stays : (t : Track) (fwd : Bool) → Stays t (lk3_side p t1 fwd t)
  unfolding lk3_side begin
  lk3_side_stays t fwd = let t2 = ahead fwd t.round t1 in stays_touching t (t1 ∷ t2 ∷ []) (level3 p t1 50 (begin t t1 t2) t2 (leg_of p t1 t2)) (level3_stays 50 (begin t t1 t2) t2 (leg_of p t1 t2))

  pub lk3_from_stays : (t : Track) → Stays t (lk3_from p t1 t)
  unfolding lk3_from
  lk3_from_stays t = either_way (Stays t) (ltb (length t.round) 5) (stays_nothing t) (stays_or_else t (lk3_side p t1 true t) (lk3_side p t1 false) (lk3_side_stays t true) (lk3_side_stays t false))
