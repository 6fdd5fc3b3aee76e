-- The difference of two numbers of 31 bits is a signed number of 32.
use Prim.Native.Nat.{ℕ, zero, suc, ◌-◌, ◌<◌}
use mathlib.Core.Bool.{Bool, true, false, cond}
use native.Mathlib.Omega.{arith}
use lib.Dec.{ltb}
use lib.IntN.{pos, negsuc, ◌-ℤ◌}
use mir.Syntax.{w32}
use mir.Val.{SFits}

pub sub-fits : (a b : ℕ) → a < 2147483648 → b < 2147483648 → SFits w32 (pos a -ℤ pos b)
sub-fits a zero ha hb = record { sfits = omega arith }
sub-fits a (suc b) ha hb = go (ltb a (suc b))
  where
    go : (l : Bool) → SFits w32 (cond l (negsuc (suc b - suc a)) (pos (a - suc b)))
    go true = record { sfits = omega arith }
    go false = record { sfits = omega arith }
