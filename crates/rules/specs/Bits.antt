-- 01, "Sheets": "Bit-packed, most significant first". Assumes nothing.
use Rattle.std.specs.Prelude.{ℕ, zero, suc, ◌+◌, ◌*◌, ◌/◌, ◌%◌, ◌^◌, List, [], ◌∷◌, ◌++◌, length, take, drop, replicate}
use Rattle.rules.specs.Lists.{each}

-- a number in w bits
unfoldable pub bits : ℕ → ℕ → List ℕ
bits zero v = []
bits (suc w) v = (v / 2 ^ w % 2) ∷ bits w v

-- the number that bits stand for, behind those of v
unfoldable pub value_from : ℕ → List ℕ → ℕ
value_from v [] = v
value_from v (b ∷ bs) = value_from (v * 2 + b) bs

-- the number in w bits from bit i on
unfoldable pub field : List ℕ → ℕ → ℕ → ℕ
field bs i w = value_from 0 (take w (drop i bs))

-- `count` numbers of w bits, from the front
unfoldable pub fields : ℕ → ℕ → List ℕ → List ℕ
fields w zero bs = []
fields w (suc count) bs = value_from 0 (take w bs) ∷ fields w count (drop w bs)

-- the bits of bytes
unfoldable pub bits_of : List ℕ → List ℕ
bits_of bytes = each (bits 8) bytes

-- "zero bits to a whole byte"
unfoldable pub bytes_of : List ℕ → List ℕ
bytes_of bs = fields 8 ((length bs + 7) / 8) (bs ++ replicate 7 0)
