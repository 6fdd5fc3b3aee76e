-- Demand 1: the number that checks in rising order give is right, and none else is.
use Prim.Native.Nat.{◌≤◌, ℕ}
use mathlib.Core.Path.{◌∙◌, ◌≡◌, sym}
use mathlib.Core.Logic.{◌≢◌}
use mathlib.Core.List.{List}
use native.Mathlib.Decide.{ℕ_discrete}
use native.Mathlib.Omega.{arith}
use Rattle.rules.specs.Numbers.{Check, verdict}
use Rattle.laws.proofs.VerdictLaws.{Fails, Rises, first_fails, none_fails}
use Rattle.demands.specs.Demands.{Right}

module _ (G : ℕ → Type 0) where
  -- two of the four give the others
  rightly : (number : ℕ) → (number ≡ 0 → (k : ℕ) → G k → ⊥) → (number ≢ 0 → G number × ((j : ℕ) → G j → number ≤ j)) → Right G number
  rightly number none some = record { done = none; accepted = yes_if; refused = some; lowest = least }
    where
      yes_if : ((k : ℕ) → G k → ⊥) → number ≡ 0
      yes_if h = elim (ℕ_discrete number 0) [ yes e ↦ e | no e ↦ absurd (h number (some e).0) ]

      least : (k : ℕ) → G k → ((j : ℕ) → G j → k ≤ j) → number ≡ k
      least k g h = elim (ℕ_discrete number 0) [
        | yes e ↦ absurd (none e k g)
        | no e ↦ (let f = some e in omega (arith, f.1 k g, h number f.0))
      ]

  -- where a check that fails is a ground, and the other way
  pub verdict_right : (cs : List Check) → Rises 1 cs → ((k : ℕ) → G k → Fails cs k) → ((k : ℕ) → Fails cs k → G k) → Right G (verdict cs)
  verdict_right cs r to from =
      rightly (verdict cs) (λ e k g. none_fails 0 cs r e k (to k g)) (λ e. let f = first_fails 0 cs r e in (from (verdict cs) f.0, λ j g. f.1 j (to j g)))

  pub one_right : (a b : ℕ) → Right G a → Right G b → a ≡ b
  one_right a b r s = elim (ℕ_discrete b 0) [
    | yes e ↦ r.accepted (s.done e) ∙ sym e
    | no e ↦ (let f = s.refused e in r.lowest b f.0 f.1)
  ]
