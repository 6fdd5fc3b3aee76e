-- The number that a journal entry's first word has for its kind. Assumes nothing.
use Rattle.std.specs.Prelude.{ℕ, zero, suc}
use Rattle.journal.specs.declared.kinds.Kind.{Kind}
use Rattle.journal.specs.declared.kinds.Kind.TheVariants.{Reversal, Rotation, Swap}

-- 0 reversal, 1 rotation, 2 swap
abbrev pub kind_number : Kind → ℕ
kind_number Reversal = 0
kind_number Rotation = 1
kind_number Swap = 2

-- the kind that a word stands for: any other is read as a swap
abbrev pub kind_in : ℕ → Kind
kind_in zero = Reversal
kind_in (suc zero) = Rotation
kind_in (suc (suc n)) = Swap
