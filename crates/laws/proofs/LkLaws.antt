-- 01, 8: the gain of `lk_from` is what the recount falls by, where legs take as long as their return.
use Prim.Native.Nat.{◌+◌, ◌-◌, ◌<◌, ◌≤◌, suc, zero, ℕ}
use mathlib.Core.Path.{◌∙◌, ◌≡◌, subst, sym}
use mathlib.Core.Logic.{◌≢◌}
use mathlib.Core.Bool.{Bool, false, true}
use mathlib.Core.List.{List, [], ◌++◌, ◌∷◌}
use native.Mathlib.Omega.{arith}
use lib.Dec.{ltb}
use lib.ListN.{length}
use borrow.Author.Tests.{ltb-false, ltb-true}
use Rattle.rules.specs.Improve.{Trial, ends_of, free3, nothing}
use Rattle.rules.specs.Journal.{Track}
use Rattle.rules.specs.Lists.{tally}
use Rattle.rules.specs.Lk.{Best, better, cont_of, conts, deepen, flipped, lk_from, lk_side, may_flip, try_each}
use Rattle.rules.specs.Moves.{flip}
use Rattle.rules.specs.Plan.{Plan, leg_of}
use Rattle.rules.specs.Ring.{ahead, behind, recount}
use Rattle.rules.specs.Step.{Step, begin}
use Rattle.rules.specs.Words.{Legs, Stop, Time}
use Rattle.laws.proofs.ChoiceLaws.{by_gain, either_if}
use Rattle.laws.proofs.EveryLaws.{All, all_image, all_keep, all_map, all_while, more, none}
use Rattle.laws.proofs.GainLaws.{Falls, Fit, falls_nothing, falls_time, or_else_falls}
use Rattle.laws.proofs.LandLaws.{Lands, flip_lands}
use Rattle.laws.proofs.PermLaws.{Perm}
use Rattle.laws.proofs.ReadLaws.{Reads, reads_tally}
use Rattle.laws.proofs.SpotLaws.{reads_seam}
use Rattle.laws.proofs.StepLaws.{Going, all_best, begun, going_even, going_fit, going_on, going_perm, going_second, going_way}
use Rattle.laws.proofs.TrialLaws.{weighed}
use Rattle.laws.proofs.WayLaws.{CutAt, Start, at_it, cut_at}

-- a flip that may be gone on with
unfoldable Cont : Legs → Track → Stop → Stop → Time → Trial → Type 0
Cont d t t1 t2 g x = Lands d t.round (flip t1 t2 x.t3 t).round t1 x.t4 (x.partial + d t1 t2) (g + d x.t4 t1)

module _ (p : Plan) (s : Step) (pm : Perm s.track.round) (fit : Fit p (length s.track.round)) (long : 3 ≤ length s.track.round) (o : Bool) (t1 t2 : Stop) (g : Time) (st : Start o s.track.round t1 t2) where
  cont : (t3 : Stop) → t3 < length s.track.round → t3 ≢ t2 → leg_of p t2 t3 < g → Cont (leg_of p) s.track t1 t2 g (cont_of p o s t2 g t3)
  unfolding cont_of Cont
  cont t3 h3 n2 hg = go (cut_at t2 st.rest t3 (omega (arith, pm.has t3 h3, reads_tally o s.track.round (t2 ∷ st.rest) st.reads t3)) n2)
    where
      t4 : Stop
      t4 = behind o s.track.round t3

      go : CutAt t2 st.rest t3 → Lands (leg_of p) s.track.round (flip t1 t2 t3 s.track).round t1 t4 (g - leg_of p t2 t3 + leg_of p t3 t4 + leg_of p t1 t2) (g + leg_of p t4 t1)
      go (at_it P Q e f) =
          let l : Reads o s.track.round ((t2 ∷ P) ++ (t3 ∷ Q)) = subst (λ x. Reads o s.track.round (t2 ∷ x)) e st.reads in
          weighed (flip_lands (leg_of p) s.track pm fit.even o long t2 P t3 Q l t1 t4 (f ∙ st.ends) (sym (reads_seam s.track.round pm o t2 P t3 Q l).behind_is)) _ _ (omega arith)

  conts_lead : t2 < length s.track.round → All (Cont (leg_of p) s.track t1 t2 g) (conts p o s t1 t2 g)
  unfolding conts
  conts_lead h2 =
      all_map {P = λ x. Cont (leg_of p) s.track t1 t2 g x × (may_flip s t2 x ≡ true)} _ (λ x q. q.0) (all_keep _ _
      (all_image {P = λ t3. (((t3 < length s.track.round) × (t3 ≢ t2)) × (ltb (leg_of p t2 t3) g ≡ true)) × (free3 o s.track.round t1 t2 t3 ≡ true)} _ _
      (λ t3 f. cont t3 f.0.0.0 f.0.0.1 (ltb-true (leg_of p t2 t3) g f.0.1))
      (all_keep _ _ (all_while _ _ (fit.lists.near t2 h2)))))

-- the best closed gain so far
record Gained (d : Legs) (t0 : Track) (base : Time) (b : Best) : Type 0 where
  gains : 0 < b.gain → recount d b.step.track.round + b.gain ≡ base
  same : (v : Stop) → tally b.step.track.round v ≡ tally t0.round v
  size : length b.step.track.round ≡ length t0.round

module _ (p : Plan) (t0 : Track) (pm : Perm t0.round) (fit : Fit p (length t0.round)) (long : 3 ≤ length t0.round) (t1 : Stop) (base : Time) where
  flipped_going : (s : Step) (t2 : Stop) (g : Time) (x : Trial) → Going (leg_of p) t0 t1 base s t2 g → Cont (leg_of p) s.track t1 t2 g x → Going (leg_of p) t0 t1 base (flipped t1 t2 s x) x.t4 x.partial
  unfolding flipped Cont
  flipped_going s t2 g x h c = going_on p t0 pm fit t1 base h (flip t1 t2 x.t3 s.track) x.t4 x.partial (ends_of x) _ _ c

  better_gained : (s : Step) (t4 : Stop) (partial : Time) (b : Best) → Going (leg_of p) t0 t1 base s t4 partial → Gained (leg_of p) t0 base b → Gained (leg_of p) t0 base (better b s partial (leg_of p t4 t1))
  unfolding better
  better_gained s t4 partial b h k =
      either_if (Gained (leg_of p) t0 base) (ltb (leg_of p t4 t1 + b.gain) partial)
      (λ y. let q : leg_of p t4 t1 + b.gain < partial = ltb-true (leg_of p t4 t1 + b.gain) partial y in
      record { gains = λ z. omega (arith, h.legs, going_even p t0 pm fit t1 base h); same = h.same; size = h.size })
      (λ y. k)

  try_each_gained : (t2 : Stop) (g : Time) (s : Step) (b : Best) (deeper : Step → Stop → Time → Best → Best) (xs : List Trial) → Going (leg_of p) t0 t1 base s t2 g → Gained (leg_of p) t0 base b
      → ((s' : Step) (t2' : Stop) (g' : Time) (b' : Best) → Going (leg_of p) t0 t1 base s' t2' g' → Gained (leg_of p) t0 base b' → Gained (leg_of p) t0 base (deeper s' t2' g' b'))
      → All (Cont (leg_of p) s.track t1 t2 g) xs → Gained (leg_of p) t0 base (try_each p t1 t2 s b deeper xs)
  unfolding try_each
  try_each_gained t2 g s b deeper [] h k m none = k
  try_each_gained t2 g s b deeper (x ∷ xs) h k m (more c a) =
      let s' = flipped t1 t2 s x in
      let f = flipped_going s t2 g x h c in
      let b₁ = better b s' x.partial (leg_of p x.t4 t1) in
      let b' = deeper s' x.t4 x.partial b₁ in
      by_gain (Gained (leg_of p) t0 base) b'.gain {x = try_each p t1 t2 s b deeper xs} {y = λ g. b'} (λ e. try_each_gained t2 g s b deeper xs h k m a) (λ q e. m s' x.t4 x.partial b₁ f (better_gained s' x.t4 x.partial b f k))

  deepen_gained : (levels : ℕ) (s : Step) (t2 : Stop) (g : Time) (b : Best) → Going (leg_of p) t0 t1 base s t2 g → Gained (leg_of p) t0 base b → Gained (leg_of p) t0 base (deepen p t1 levels s t2 g b)
  unfolding deepen
  deepen_gained zero s t2 g b h k = k
  deepen_gained (suc levels) s t2 g b h k =
      try_each_gained t2 g s b (deepen p t1 levels) _ h k (deepen_gained levels)
      (all_best (Cont (leg_of p) s.track t1 t2 g) _ [] _ none
      (subst (λ o. All (Cont (leg_of p) s.track t1 t2 g) (conts p o s t1 t2 g)) (sym (going_way p t0 pm fit t1 base h long))
      (conts_lead p s (going_perm p t0 pm fit t1 base h) (going_fit p t0 pm fit t1 base h) (omega (arith, h.size)) h.way t1 t2 g h.start (going_second p t0 pm fit t1 base h))))

module _ (p : Plan) (t : Track) (pm : Perm t.round) (fit : Fit p (length t.round)) (t1 : Stop) (h1 : t1 < length t.round) where
  lk_side_falls : (fwd : Bool) → 3 ≤ length t.round → Falls (leg_of p) t (recount (leg_of p) t.round) (lk_side p t1 fwd t)
  unfolding lk_side
  lk_side_falls fwd long =
      let t2 = ahead fwd t.round t1 in
      let s = begin t t1 t2 in
      let b₀ : Best = record { gain = 0; step = s } in
      let b = deepen p t1 25 s t2 (leg_of p t1 t2) b₀ in
      let h = begun p t pm t1 h1 fwd in
      let k : Gained (leg_of p) t (recount (leg_of p) t.round) b₀ = record { gains = λ q. absurd (omega arith); same = h.same; size = h.size } in
      let g = deepen_gained p t pm fit long t1 (recount (leg_of p) t.round) 25 s t2 (leg_of p t1 t2) b₀ h k in
      by_gain (Falls (leg_of p) t (recount (leg_of p) t.round)) b.gain {x = nothing t} {y = λ g. record { gain = suc g; track = b.step.track; touched = t1 ∷ t2 ∷ b.step.stops }}
      (λ e. falls_nothing (leg_of p) t (recount (leg_of p) t.round))
      (λ m e. record { gains = λ q. omega (arith, g.gains (omega arith)); stays = λ q. absurd (omega arith); same = g.same; size = g.size })

  -- both sides of t1, and below 5 stops nothing
  pub lk_from_falls : Falls (leg_of p) t (recount (leg_of p) t.round) (lk_from p t1 t)
  unfolding lk_from
  lk_from_falls =
      either_if (Falls (leg_of p) t (recount (leg_of p) t.round)) (ltb (length t.round) 5) (λ y. falls_nothing (leg_of p) t (recount (leg_of p) t.round))
      (λ y. let q : 5 ≤ length t.round = ltb-false (length t.round) 5 y in
      or_else_falls (leg_of p) t (lk_side p t1 true t) (lk_side p t1 false) (lk_side_falls true (omega arith)) (lk_side_falls false (omega arith)))

  -- the gain is the fall of the recount
  pub lk_time : recount (leg_of p) (lk_from p t1 t).track.round + (lk_from p t1 t).gain ≡ recount (leg_of p) t.round
  lk_time = falls_time (leg_of p) t (lk_from p t1 t) lk_from_falls
