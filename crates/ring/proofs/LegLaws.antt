-- Legs of stops below 4096 are equal where their words are.
use Prim.Native.Nat.{◌<◌}
use mathlib.Core.Path.{◌≡◌}
use native.Mathlib.Omega.{arith}
use Rattle.rules.specs.Ring.{Leg}
use Rattle.ring.specs.Legs.{leg_word}

pub leg_word_inj : (e f : Leg) → e.high < 4096 → f.high < 4096 → leg_word e ≡ leg_word f → e ≡ f
unfolding leg_word
leg_word_inj e f he hf q =
    let l : e.low ≡ f.low = omega arith in
    let h : e.high ≡ f.high = omega arith in
    λ i. record { low = l i; high = h i }
