-- The numbers by which records name what they damage. Assumes nothing.
use Rattle.std.specs.Prelude.{ℕ}
use Rattle.lending.specs.declared.damage.Slice.{Slice}
use Rattle.lending.specs.declared.damage.Slice.TheVariants.{Matrix, Near, Alpha, Round, Places, Queue, Flags, Scratch, Journal}
use Rattle.lending.specs.declared.damage.Number.{Number}
use Rattle.lending.specs.declared.damage.Number.TheVariants.{N, K, Ka, Head, Count, Held, Time, Draw}

-- a slice's number
abbrev pub slice_number : Slice → ℕ
slice_number Matrix = 0
slice_number Near = 1
slice_number Alpha = 2
slice_number Round = 3
slice_number Places = 4
slice_number Queue = 5
slice_number Flags = 6
slice_number Scratch = 7
slice_number Journal = 8

-- the number of what goes in by value
abbrev pub number_name : Number → ℕ
number_name N = 0
number_name K = 1
number_name Ka = 2
number_name Head = 3
number_name Count = 4
number_name Held = 5
number_name Time = 6
number_name Draw = 7
