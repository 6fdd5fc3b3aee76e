-- The number that a kick's kind has outside. Assumes nothing.
use Rattle.std.specs.Prelude.{ℕ, zero, suc}
use Rattle.kicks.specs.declared.kinds.KickKind.{KickKind}
use Rattle.kicks.specs.declared.kinds.KickKind.TheVariants.{Bridge, Swap, Global}

-- 0 segments X Y Z, 1 segments X Z, 2 global
abbrev pub kick_number : KickKind → ℕ
kick_number Bridge = 0
kick_number Swap = 1
kick_number Global = 2

-- the kind of a number: any other is read as global
abbrev pub kick_kind_in : ℕ → KickKind
kick_kind_in zero = Bridge
kick_kind_in (suc zero) = Swap
kick_kind_in (suc (suc n)) = Global
