-- What is loaded off a sheet into lent memory. Assumes nothing.
use Rattle.std.specs.Prelude.{ℕ, ◌-◌, ◌*◌, ◌/◌, ◌≡◌, List, drop}
use Rattle.rules.specs.Words.{Stop, Time}
use Rattle.rules.specs.Bits.{bits_of, fields}
use Rattle.rules.specs.Sheets.{Header, plan_on}

-- a sheet's upper triangle
unfoldable pub triangle_in : ℕ → List ℕ → List Time
triangle_in n bytes = fields 16 (n * (n - 1) / 2) (drop 128 (bits_of bytes))

-- memory holds the sheet's plan
pub record Loaded (h : Header) (bytes : List ℕ) (m : List Time) (near alpha : List Stop) : Type 0 where
  pub matrix_is : m ≡ (plan_on h (bits_of bytes)).matrix
  pub near_is : near ≡ (plan_on h (bits_of bytes)).near
  pub alpha_is : alpha ≡ (plan_on h (bits_of bytes)).alpha
