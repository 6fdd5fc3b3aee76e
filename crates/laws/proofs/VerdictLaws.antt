-- 01, "Lowest number first, among those that apply to the call": the number that checks in rising order give.
use Prim.Native.Nat.{◌≤◌, suc, ℕ}
use mathlib.Core.Path.{◌∙◌, ◌≡◌, refl, sym}
use mathlib.Core.Logic.{◌≢◌}
use mathlib.Core.Bool.{Bool, false, true}
use mathlib.Core.List.{List, [], ◌∷◌}
use native.Mathlib.Nat.{le_refl}
use native.Mathlib.Omega.{arith}
use Rattle.rules.specs.Numbers.{Check, ◌or◌, verdict}
use Rattle.laws.proofs.ChoiceLaws.{true_false}
use Rattle.laws.proofs.EveryLaws.{All, all_map, more}

-- a check with the number k fails
pub data Fails : List Check → ℕ → Type 0 where
  this : {ok : Bool} {k : ℕ} {cs : List Check} → ok ≡ false → Fails ((ok or k) ∷ cs) k
  later : {ok : Bool} {j k : ℕ} {cs : List Check} → Fails cs k → Fails ((ok or j) ∷ cs) k

-- the numbers rise, from low on
pub data Rises : ℕ → List Check → Type 0 where
  top : {low : ℕ} → Rises low []
  above : {low : ℕ} {ok : Bool} {k : ℕ} {cs : List Check} → low ≤ k → Rises (suc k) cs → Rises low ((ok or k) ∷ cs)

pub next : {ok : Bool} {cs : List Check} (k : ℕ) → Rises (suc k) cs → Rises k ((ok or k) ∷ cs)
next k r = above (le_refl k) r

-- number 0: the first test held, and the others give 0
pub first_held : (ok : Bool) (k : ℕ) (cs : List Check) → verdict ((ok or suc k) ∷ cs) ≡ 0 → (ok ≡ true) × (verdict cs ≡ 0)
unfolding verdict
first_held true k cs e = (refl, e)
first_held false k cs e = absurd (omega arith)

fails_above : (low : ℕ) (cs : List Check) (k : ℕ) → Rises low cs → Fails cs k → low ≤ k
fails_above low [] k _ f = elim f [ ]
fails_above low (c ∷ cs) k (above {k = j} h r) (this e) = h
fails_above low (c ∷ cs) k (above {k = j} h r) (later f) = omega (arith, fails_above (suc j) cs k r f)

-- 0: none fails
pub none_fails : (low : ℕ) (cs : List Check) → Rises (suc low) cs → verdict cs ≡ 0 → (k : ℕ) → Fails cs k → ⊥
unfolding verdict
none_fails low [] _ e k f = elim f [ ]
none_fails low (c ∷ cs) (above {ok = true} {k = j} h r) e k (this q) = absurd (true_false q)
none_fails low (c ∷ cs) (above {ok = true} {k = j} h r) e k (later f) = none_fails j cs r e k f
none_fails low (c ∷ cs) (above {ok = false} {k = j} h r) e k f = absurd (omega arith)

-- another: a check with that number fails, and none with a lower one
past_first : (j k : ℕ) (cs : List Check) (ok : Bool) → ok ≡ true → Fails ((ok or j) ∷ cs) k → Fails cs k
past_first j k cs ok e (this q) = absurd (true_false (sym e ∙ q))
past_first j k cs ok e (later f) = f

pub first_fails : (low : ℕ) (cs : List Check) → Rises (suc low) cs → verdict cs ≢ 0 → Fails cs (verdict cs) × ((j : ℕ) → Fails cs j → verdict cs ≤ j)
unfolding verdict
first_fails low [] r h = absurd (h refl)
first_fails low (c ∷ cs) (above {ok = true} {k = j} g r) h = let f = first_fails j cs r h in (later f.0, λ i q. f.1 i (past_first j i cs true refl q))
first_fails low (c ∷ cs) (above {ok = false} {k = j} g r) h = (this refl, λ i q. fails_above j ((false or j) ∷ cs) i (above (omega arith) r) q)

-- what each check's failing gives
pub fails_give : (P : ℕ → Type 0) (cs : List Check) → All (λ c. c.ok ≡ false → P c.number) cs → (k : ℕ) → Fails cs k → P k
fails_give P [] _ k f = elim f [ ]
fails_give P (c ∷ cs) (more f a) k (this e) = f e
fails_give P (c ∷ cs) (more f a) k (later g) = fails_give P cs a k g

-- a number whose checks all hold
pub never_fails : (k : ℕ) (cs : List Check) → All (λ c. c.number ≡ k → c.ok ≡ true) cs → Fails cs k → ⊥
never_fails k cs a f = fails_give (λ j. j ≡ k → ⊥) cs (all_map cs (λ c h e q. true_false (sym (h q) ∙ e)) a) k f refl
