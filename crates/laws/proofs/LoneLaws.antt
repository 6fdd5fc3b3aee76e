-- 01, 8, "3, 1, then 1": a level of breadth 1 tries one continuation, the best, and what it leads to is what the level leads to. So from
-- level 1 on the levels of `lk_deepen` are a loop.
use Prim.Native.Nat.{◌+◌, ◌-◌, ◌<◌, ◌≤◌, suc, zero, ℕ}
use mathlib.Core.Path.{◌∙◌, ◌≡◌, ap, refl, sym}
use mathlib.Core.Bool.{Bool, false, true}
use mathlib.Core.List.{List, [], ◌∷◌}
use native.Mathlib.Omega.{arith}
use lib.Dec.{eqb, ltb}
use lib.ListN.{get_or-eq_default, take}
use borrow.Author.Tests.{ltb-true}
use Rattle.rules.specs.Improve.{Trial}
use Rattle.rules.specs.Lk.{Best, better, breadth, conts, deepen, flipped, try_each}
use Rattle.rules.specs.Plan.{Plan, leg_of}
use Rattle.rules.specs.Ring.{succ}
use Rattle.rules.specs.Step.{Step, best, insert}
use Rattle.rules.specs.Words.{Stop, Time}
use Rattle.laws.proofs.ChoiceLaws.{by_gain, either_if}

-- ---- the best of one: the earlier of equals
unfoldable pub best_of : Trial → List Trial → Trial
best_of so [] = so
best_of so (x ∷ xs) = elim (ltb so.partial x.partial) [ true ↦ best_of x xs | false ↦ best_of so xs ]

best_after : (so : Trial) (xs : List Trial) → best 1 (so ∷ []) xs ≡ best_of so xs ∷ []
unfolding best insert best_of
best_after so [] = refl
best_after so (x ∷ xs) = choose (ltb so.partial x.partial) (best_after x xs) (best_after so xs)
  where
    choose : (b : Bool) → best 1 (x ∷ []) xs ≡ best_of x xs ∷ [] → best 1 (so ∷ []) xs ≡ best_of so xs ∷ []
        → best 1 (take 1 (elim b as (λ z. List Trial) [ true ↦ x ∷ so ∷ [] | false ↦ so ∷ x ∷ [] ])) xs ≡ (elim b as (λ z. Trial) [ true ↦ best_of x xs | false ↦ best_of so xs ]) ∷ []
    choose true h k = h
    choose false h k = k

pub best_one : (x : Trial) (xs : List Trial) → best 1 [] (x ∷ xs) ≡ best_of x xs ∷ []
unfolding best insert
best_one x xs = best_after x xs

-- from level 1 on
pub breadth_one : (level : ℕ) → 1 ≤ level → breadth level ≡ 1
unfolding breadth
breadth_one zero h = absurd (omega arith)
breadth_one (suc zero) h = refl
breadth_one (suc (suc level)) h = get_or-eq_default (3 ∷ 1 ∷ []) 1 {n = suc (suc level)} (omega arith)

-- ---- no gain: nothing better
better_none : (b : Best) (s : Step) (partial closing : Time) → (better b s partial closing).gain ≡ 0 → better b s partial closing ≡ b
unfolding better
better_none b s partial closing =
    either_if (λ (c : Best). c.gain ≡ 0 → c ≡ b) (ltb (closing + b.gain) partial)
    (λ y e. let h : closing + b.gain < partial = ltb-true (closing + b.gain) partial y in absurd (omega arith))
    (λ y e. refl)

module _ (p : Plan) (t1 : Stop) where
  try_each_none : (t2 : Stop) (s : Step) (b : Best) (deeper : Step → Stop → Time → Best → Best) (xs : List Trial) → (try_each p t1 t2 s b deeper xs).gain ≡ 0 → try_each p t1 t2 s b deeper xs ≡ b
  unfolding try_each
  try_each_none t2 s b deeper [] e = refl
  try_each_none t2 s b deeper (x ∷ xs) e =
      let s' = flipped t1 t2 s x in
      let b' = deeper s' x.t4 x.partial (better b s' x.partial (leg_of p x.t4 t1)) in
      by_gain (λ (c : Best). c.gain ≡ 0 → c ≡ b) b'.gain {x = try_each p t1 t2 s b deeper xs} {y = λ g. b'} (λ q. try_each_none t2 s b deeper xs) (λ g q z. absurd (omega arith)) e

  -- a level that leads to no gain leaves what it was given
  pub deepen_none : (levels : ℕ) (s : Step) (t2 : Stop) (g : Time) (b : Best) → (deepen p t1 levels s t2 g b).gain ≡ 0 → deepen p t1 levels s t2 g b ≡ b
  unfolding deepen
  deepen_none zero s t2 g b e = refl
  deepen_none (suc levels) s t2 g b e = try_each_none t2 s b (deepen p t1 levels) _ e

  lone : (levels : ℕ) (s : Step) (t2 : Stop) (b : Best) (x : Trial) → try_each p t1 t2 s b (deepen p t1 levels) (x ∷ [])
      ≡ deepen p t1 levels (flipped t1 t2 s x) x.t4 x.partial (better b (flipped t1 t2 s x) x.partial (leg_of p x.t4 t1))
  unfolding try_each
  lone levels s t2 b x =
      let s' = flipped t1 t2 s x in
      let c = better b s' x.partial (leg_of p x.t4 t1) in
      let b' = deepen p t1 levels s' x.t4 x.partial c in
      by_gain (λ (z : Best). z ≡ b') b'.gain {x = b} {y = λ g. b'}
      (λ e. let q : b' ≡ c = deepen_none levels s' x.t4 x.partial c e in let w : c.gain ≡ 0 = ap (λ (z : Best). z.gain) (sym q) ∙ e in sym (q ∙ better_none b s' x.partial (leg_of p x.t4 t1) w))
      (λ g e. refl)

  -- a level of breadth 1, with a continuation and without
  pub deepen_on : (levels : ℕ) → levels < 24 → (s : Step) (t2 : Stop) (g : Time) (b : Best) (x : Trial) (xs : List Trial) → conts p (eqb (succ s.track.round t1) t2) s t1 t2 g ≡ x ∷ xs
      → deepen p t1 (suc levels) s t2 g b
      ≡ deepen p t1 levels (flipped t1 t2 s (best_of x xs)) (best_of x xs).t4 (best_of x xs).partial (better b (flipped t1 t2 s (best_of x xs)) (best_of x xs).partial (leg_of p (best_of x xs).t4 t1))
  unfolding deepen
  deepen_on levels h s t2 g b x xs e = rw (breadth_one (24 - levels) (omega arith), e, best_one x xs) (lone levels s t2 b (best_of x xs))

  pub deepen_off : (levels : ℕ) (s : Step) (t2 : Stop) (g : Time) (b : Best) → conts p (eqb (succ s.track.round t1) t2) s t1 t2 g ≡ [] → deepen p t1 (suc levels) s t2 g b ≡ b
  unfolding deepen best try_each
  deepen_off levels s t2 g b e = rw e
