-- What a kind says of the word that it was read from.
use Prim.Native.Nat.{ℕ, zero, suc, ◌<◌}
use mathlib.Core.Path.{◌≡◌, refl}
use native.Mathlib.Omega.{arith}
use Rattle.journal.specs.declared.kinds.Kind.{Kind}
use Rattle.journal.specs.declared.kinds.Kind.TheVariants.{Reversal, Rotation, Swap}
use Rattle.journal.specs.Kinds.{kind_in}

pub reversal_word : (w : ℕ) → kind_in w ≡ Reversal → w ≡ 0
reversal_word zero e = refl
reversal_word (suc zero) e = cc
reversal_word (suc (suc n)) e = cc

pub rotation_word : (w : ℕ) → kind_in w ≡ Rotation → w ≡ 1
rotation_word zero e = cc
rotation_word (suc zero) e = refl
rotation_word (suc (suc n)) e = cc

pub swap_word : (w : ℕ) → kind_in w ≡ Swap → 1 < w
swap_word zero e = cc
swap_word (suc zero) e = cc
swap_word (suc (suc n)) e = omega arith
