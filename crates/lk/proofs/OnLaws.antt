-- 01, 8: a level of breadth 1 goes on with the one continuation that its scan has picked.
use Prim.Native.Nat.{ℕ, zero, suc, ◌≤◌, ◌<◌}
use mathlib.Core.Path.{◌≡◌, refl, sym, ap, ◌∙◌}
use mathlib.Core.List.{List, [], ◌∷◌}
use native.Mathlib.Omega.{arith}
use lib.Dec.{eqb}
use lib.ListN.{length}
use Rattle.rules.specs.Words.{Stop, Time}
use Rattle.rules.specs.Ring.{succ}
use Rattle.rules.specs.Plan.{Plan, leg_of}
use Rattle.rules.specs.Improve.{Trial}
use Rattle.rules.specs.Step.{Step, best}
use Rattle.rules.specs.Lk.{Best, better, flipped, deepen, conts}
use Rattle.laws.proofs.ChoiceLaws.{by_gain}
use Rattle.laws.proofs.LoneLaws.{best_of, best_one, deepen_on, deepen_off}
use Rattle.lk_scans.specs.Picked.{shown}
use Rattle.lk_scans.proofs.ShownLaws.{shown_none, shown_some}

-- gone on with x, where there is one
unfoldable pub onward : Plan → Stop → ℕ → Step → Stop → Trial → Best → Best
onward p t1 levels s t2 x b =
    elim x.partial [ zero ↦ b | suc g ↦ deepen p t1 levels (flipped t1 t2 s x) x.t4 x.partial (better b (flipped t1 t2 s x) x.partial (leg_of p x.t4 t1)) ]

module _ (p : Plan) (t1 : Stop) (levels : ℕ) (s : Step) (t2 : Stop) (x : Trial) (b : Best) where
  pub onward_none : x.partial ≤ 0 → onward p t1 levels s t2 x b ≡ b
  unfolding onward
  onward_none h =
      by_gain (λ (z : Best). z ≡ b) x.partial {x = b} {y = λ g. deepen p t1 levels (flipped t1 t2 s x) x.t4 x.partial (better b (flipped t1 t2 s x) x.partial (leg_of p x.t4 t1))}
      (λ e. refl) (λ g e. absurd (omega arith))

  pub onward_some : 0 < x.partial → onward p t1 levels s t2 x b ≡ deepen p t1 levels (flipped t1 t2 s x) x.t4 x.partial (better b (flipped t1 t2 s x) x.partial (leg_of p x.t4 t1))
  unfolding onward
  onward_some h =
      let goal : Best = deepen p t1 levels (flipped t1 t2 s x) x.t4 x.partial (better b (flipped t1 t2 s x) x.partial (leg_of p x.t4 t1)) in
      by_gain (λ (z : Best). z ≡ goal) x.partial {x = b} {y = λ g. deepen p t1 levels (flipped t1 t2 s x) x.t4 x.partial (better b (flipped t1 t2 s x) x.partial (leg_of p x.t4 t1))}
      (λ e. absurd (omega arith)) (λ g e. refl)

none_or : (m : ℕ) (Q : Type 0) → (m ≤ 0 → Q) → (0 < m → Q) → Q
none_or zero Q f g = f (omega arith)
none_or (suc m) Q f g = g (omega arith)

head_or : Trial → List Trial → Trial
head_or x [] = x
head_or x (y ∷ ys) = y

-- the level after: its scan has picked y
pub level_on : (p : Plan) (t1 : Stop) (levels : ℕ) (s : Step) (t2 : Stop) (g : Time) (b : Best) (y : Trial) → levels < 24 → shown y [] ≡ best 1 [] (conts p (eqb (succ s.track.round t1) t2) s t1 t2 g)
    → deepen p t1 (suc levels) s t2 g b ≡ onward p t1 levels s t2 y b
unfolding head_or best
level_on p t1 levels s t2 g b y h e = go (conts p (eqb (succ s.track.round t1) t2) s t1 t2 g) refl e
  where
    none : conts p (eqb (succ s.track.round t1) t2) s t1 t2 g ≡ [] → shown y [] ≡ [] → deepen p t1 (suc levels) s t2 g b ≡ onward p t1 levels s t2 y b
    none f k =
        none_or y.partial (deepen p t1 (suc levels) s t2 g b ≡ onward p t1 levels s t2 y b)
        (λ z. deepen_off p t1 levels s t2 g b f ∙ sym (onward_none p t1 levels s t2 y b z))
        (λ z. let q : 1 ≡ 0 = ap length (sym (shown_some y [] z) ∙ k) in absurd (omega arith))

    some : (x : Trial) (xs : List Trial) → conts p (eqb (succ s.track.round t1) t2) s t1 t2 g ≡ x ∷ xs → shown y [] ≡ best_of x xs ∷ [] → deepen p t1 (suc levels) s t2 g b ≡ onward p t1 levels s t2 y b
    some x xs f k =
        none_or y.partial (deepen p t1 (suc levels) s t2 g b ≡ onward p t1 levels s t2 y b)
        (λ z. let q : 0 ≡ 1 = ap length (sym (shown_none y [] z) ∙ k) in absurd (omega arith))
        (λ z. let w : best_of x xs ≡ y = sym (ap (head_or y) (sym (shown_some y [] z) ∙ k)) in
        deepen_on p t1 levels h s t2 g b x xs f
        ∙ ap (λ (v : Trial). deepen p t1 levels (flipped t1 t2 s v) v.t4 v.partial (better b (flipped t1 t2 s v) v.partial (leg_of p v.t4 t1))) w
        ∙ sym (onward_some p t1 levels s t2 y b z))

    go : (l : List Trial) → conts p (eqb (succ s.track.round t1) t2) s t1 t2 g ≡ l → shown y [] ≡ best 1 [] l → deepen p t1 (suc levels) s t2 g b ≡ onward p t1 levels s t2 y b
    go [] f k = none f k
    go (x ∷ xs) f k = some x xs f (k ∙ best_one x xs)
