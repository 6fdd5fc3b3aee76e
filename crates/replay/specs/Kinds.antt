-- The numbers of the kinds of records. Assumes nothing.
use Rattle.std.specs.Prelude.{ℕ, ◌≡◌, ◌≤◌}
use Rattle.replay.specs.declared.Kind.{Kind}
use Rattle.replay.specs.declared.Kind.TheVariants.{Start, Exact, Session}

-- records of this number are of this kind
abbrev pub IsNumberOf : ℕ → Kind → Type 0
IsNumberOf number Start = number ≡ 1
IsNumberOf number Exact = number ≡ 2
IsNumberOf number Session = (3 ≤ number) × (number ≤ 5)
