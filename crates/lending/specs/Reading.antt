-- What a record gives next. Assumes nothing.
use Rattle.std.specs.Prelude.{ℕ, List, ◌++◌, ◌≡◌, ◌<◌, ◌*◌, take, drop, length, replicate, slice_index}
use Rattle.std.specs.Int.{w16, from_le_bytes}

-- the next bytes of a record, and 0 for each past its end
abbrev pub next_bytes : ℕ → List ℕ → List ℕ
next_bytes count bytes = take count (bytes ++ replicate count 0)

-- the number of 16 bits in place k of a record
abbrev pub half_at : List ℕ → ℕ → ℕ
half_at bytes k = from_le_bytes w16 (next_bytes 2 (drop (2 * k) bytes))

-- the first words are the next 16 bits of a record each
abbrev pub Gives : List ℕ → List ℕ → ℕ → Type 0
Gives bytes words first = (k : ℕ) → k < first → slice_index words k ≡ half_at bytes k

-- all words are
abbrev pub IsNext : List ℕ → List ℕ → Type 0
IsNext bytes words = Gives bytes words (length words)
