-- What a reader promises. Assumes nothing.
use Rattle.std.specs.Prelude.{ℕ, ◌<◌, ◌^◌, ◌≡◌, List}
use Rattle.rules.specs.Bits.{field, bits_of}

-- r is the field of w bits at bit p of the bytes
pub record Reads (bytes : List ℕ) (p w r : ℕ) : Type 0 where
  pub is : r ≡ field (bits_of bytes) p w
  pub below : r < 2 ^ w
