-- 01, "Answer numbers", "Lowest number first": the number that checks in two parts give.
use Prim.Native.Nat.{ℕ, ◌≤◌}
use mathlib.Core.Path.{◌≡◌, refl, sym, ap, ◌∙◌}
use mathlib.Core.Logic.{◌≢◌}
use mathlib.Core.Bool.{Bool, true, false}
use mathlib.Core.List.{List, [], ◌∷◌, ◌++◌}
use native.Mathlib.Omega.{arith}
use native.Mathlib.Decide.{ℕ_discrete}
use borrow.Author.Tests.{leb-true}
use lib.Dec.{leb}
use Rattle.rules.specs.Lists.{when◌then◌else◌, every}
use Rattle.rules.specs.Numbers.{Check, ◌or◌, verdict}
use Rattle.laws.proofs.ChoiceLaws.{both_true}

-- no check has the number 0
abbrev pub Numbered : List Check → Type 0
Numbered xs = every (λ c. leb 1 c.number) xs ≡ true

-- the first part refuses
pub verdict_first : (xs ys : List Check) → verdict xs ≢ 0 → verdict (xs ++ ys) ≡ verdict xs
unfolding verdict
verdict_first [] ys h = absurd (h refl)
verdict_first (c ∷ cs) ys h = go c.ok h (λ g. verdict_first cs ys g)
  where
    go : (b : Bool) → (when b then verdict cs else c.number) ≢ 0 → (verdict cs ≢ 0 → verdict (cs ++ ys) ≡ verdict cs)
        → (when b then verdict (cs ++ ys) else c.number) ≡ (when b then verdict cs else c.number)
    go true h f = f h
    go false h f = refl

-- it doesn't
pub verdict_then : (xs ys : List Check) → Numbered xs → verdict xs ≡ 0 → verdict (xs ++ ys) ≡ verdict ys
unfolding verdict every
verdict_then [] ys p e = refl
verdict_then (c ∷ cs) ys p e =
    let g = both_true (leb 1 c.number) (every (λ c. leb 1 c.number) cs) p in
    go c.ok (leb-true 1 c.number g.0) e (λ f. verdict_then cs ys g.1 f)
  where
    go : (b : Bool) → 1 ≤ c.number → (when b then verdict cs else c.number) ≡ 0 → (verdict cs ≡ 0 → verdict (cs ++ ys) ≡ verdict ys)
        → (when b then verdict (cs ++ ys) else c.number) ≡ verdict ys
    go true q e f = f e
    go false q e f = absurd (omega arith)

-- 0: every check passed
pub verdict_none : (xs : List Check) → Numbered xs → verdict xs ≡ 0 → every (λ c. c.ok) xs ≡ true
unfolding verdict every
verdict_none [] p e = refl
verdict_none (c ∷ cs) p e =
    let g = both_true (leb 1 c.number) (every (λ c. leb 1 c.number) cs) p in
    go c.ok (leb-true 1 c.number g.0) e (λ f. verdict_none cs g.1 f)
  where
    go : (b : Bool) → 1 ≤ c.number → (when b then verdict cs else c.number) ≡ 0 → (verdict cs ≡ 0 → every (λ c. c.ok) cs ≡ true)
        → (when b then every (λ c. c.ok) cs else false) ≡ true
    go true q e f = f e
    go false q e f = absurd (omega arith)

-- 0 of two parts: 0 of each
pub verdict_both : (xs ys : List Check) → Numbered xs → verdict (xs ++ ys) ≡ 0 → (verdict xs ≡ 0) × (verdict ys ≡ 0)
verdict_both xs ys p e = go (ℕ_discrete (verdict xs) 0)
  where
    go : Dec (verdict xs ≡ 0) → (verdict xs ≡ 0) × (verdict ys ≡ 0)
    go (yes z) = (z, sym (verdict_then xs ys p z) ∙ e)
    go (no z) = absurd (z (sym (verdict_first xs ys z) ∙ e))

-- one check behind those that pass
module _ (xs : List Check) (p : Numbered xs) (e : verdict xs ≡ 0) (b : Bool) (k : ℕ) where
  pub last_passes : b ≡ true → 0 ≡ verdict (xs ++ ((b or k) ∷ []))
  unfolding verdict
  last_passes h = sym (verdict_then xs ((b or k) ∷ []) p e ∙ ap (λ (t : Bool). when t then 0 else k) h)

  pub last_fails : b ≡ false → k ≡ verdict (xs ++ ((b or k) ∷ []))
  unfolding verdict
  last_fails h = sym (verdict_then xs ((b or k) ∷ []) p e ∙ ap (λ (t : Bool). when t then 0 else k) h)

-- what it says of itself
pub alone_passes : (b : Bool) (k : ℕ) → 1 ≤ k → verdict ((b or k) ∷ []) ≡ 0 → b ≡ true
unfolding verdict
alone_passes true k h e = refl
alone_passes false k h e = absurd (omega arith)
