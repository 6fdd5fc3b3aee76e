-- A refusal has a number of its own, never 0.
use Prim.Native.Nat.{◌≤◌}
use native.Mathlib.Omega.{arith}
use Rattle.numbers.specs.declared.Refusal.{Refusal}
use Rattle.numbers.specs.declared.Refusal.TheVariants.{Size, Setting, Length, Room, Asymmetric, Entry, State, Full, Header, End}
use Rattle.numbers.specs.Numbers.{refusal_number}

pub refused_some : (r : Refusal) → 1 ≤ refusal_number r
refused_some Size = omega arith
refused_some Setting = omega arith
refused_some Length = omega arith
refused_some Room = omega arith
refused_some Asymmetric = omega arith
refused_some Entry = omega arith
refused_some State = omega arith
refused_some Full = omega arith
refused_some Header = omega arith
refused_some End = omega arith
