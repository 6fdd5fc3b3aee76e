-- What the start rounds promise is one outcome: on the same memory both give the same number and the same round.
use Prim.Native.Nat.{ℕ}
use mathlib.Core.Path.{◌≡◌, sym, ◌∙◌}
use mathlib.Core.List.{List}
use native.Mathlib.Decide.{ℕ_discrete}
use Rattle.rules.specs.Words.{Time, Round}
use Rattle.start.specs.Started.{Started}

pub coincide : {matrix : List Time} {n : ℕ} {round after after' : Round} {number number' : ℕ}
    → Started matrix n round after number → Started matrix n round after' number' → (number ≡ number') × (after ≡ after')
coincide {after = after} {after' = after'} {number = number} {number' = number'} x y = (same, go (ℕ_discrete number 0))
  where
    same : number ≡ number'
    same = x.says ∙ sym y.says

    go : Dec (number ≡ 0) → after ≡ after'
    go (yes z) = x.done z ∙ sym (y.done (sym same ∙ z))
    go (no z) = x.refused z ∙ sym (y.refused (λ z'. z (same ∙ z')))
