-- What is read of a list. Assumes nothing.
use Rattle.std.specs.Prelude.{ℕ, ◌≡◌, ◌≢◌, ◌≤◌, ◌⊎◌, Option, List, [], ◌++◌, length, take, drop}
use Rattle.std.specs.Int.{w8, w32, from_le_bytes}
use Rattle.std.specs.Io.KnownBytes.{Consumes}
use Rattle.lending.specs.Reading.{next_bytes}
use Rattle.replay.specs.declared.list.Next.{Next}
use Rattle.replay.specs.declared.list.Next.TheVariants.{Record, End, Cut}

-- known bytes begin with a record of this kind that holds these bytes, and lose it and no more
pub record Takes (old new : Option (List ℕ)) (kind : ℕ) (bytes : List ℕ) : Type 0 where
  pub head : List ℕ
  pub long : length head ≡ 5
  pub kind_told : kind ≡ from_le_bytes w8 (next_bytes 1 head)
  pub length_told : length bytes ≡ from_le_bytes w32 (next_bytes 4 (drop 1 head))
  pub taken : Consumes old new (head ++ bytes)

-- what was read: a record that stands at the start of the bytes, or the end of the list, where nothing came or a record of kind 0
abbrev pub IsRead : Option (List ℕ) → Option (List ℕ) → List ℕ → Next → Type 0
IsRead old new bytes (Record kind len) = (len ≤ length bytes) × (kind ≢ 0) × (kind ≢ 255) × Takes old new kind (take len bytes)
IsRead old new bytes End = Consumes old new [] ⊎ ((ended : List ℕ) × Takes old new 0 ended)
IsRead old new bytes Cut = Unit
