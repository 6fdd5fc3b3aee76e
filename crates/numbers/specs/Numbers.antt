-- The answer numbers. Assumes nothing.
use Rattle.std.specs.Prelude.{ℕ, Result, Ok, Err}
use Rattle.numbers.specs.declared.Refusal.{Refusal}
use Rattle.numbers.specs.declared.Refusal.TheVariants.{Size, Setting, Length, Room, Asymmetric, Entry, State, Full, Header, End}

-- the number of a refusal
abbrev pub refusal_number : Refusal → ℕ
refusal_number Size = 1
refusal_number Setting = 2
refusal_number Length = 3
refusal_number Room = 4
refusal_number Asymmetric = 5
refusal_number Entry = 6
refusal_number State = 7
refusal_number Full = 8
refusal_number Header = 9
refusal_number End = 10

-- the number of an answer: 0 where nothing is refused
abbrev pub number_in : {A : Type 0} → Result A Refusal → ℕ
number_in (Ok a) = 0
number_in (Err r) = refusal_number r
