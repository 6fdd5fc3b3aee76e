-- 01, "Draws". Assumes nothing.
use Rattle.std.specs.Prelude.{ℕ, ◌+◌, ◌-◌, ◌*◌, ◌/◌, ◌%◌, ◌^◌, List, [], ◌∷◌}
use Rattle.std.specs.Int.Bits.{digits, differ}

-- the exclusive or of two numbers of 64 bits: the library's `bit_xor` there, bit by bit, so that it computes
unfoldable pub xor64 : ℕ → ℕ → ℕ
xor64 a b = digits (λ x. x) differ 64 a b

-- "x ^= x<<13, x ^= x>>7, x ^= x<<17, bits above 64 dropped"
unfoldable pub moved : ℕ → ℕ
moved x =
    let y = xor64 x (x * 2 ^ 13 % 2 ^ 64) in
    let z = xor64 y (y / 2 ^ 7) in
    xor64 z (z * 2 ^ 17 % 2 ^ 64)

-- "A draw from low to high is low + (new x mod (high - low + 1))": Q-3 changes this line alone
unfoldable pub drawn : ℕ → ℕ → ℕ → ℕ
drawn low high new = low + new % (high - low + 1)

-- from low to high
pub record Span : Type 0 where
  pub low : ℕ
  pub high : ℕ

infix 30 ◌to◌
abbrev pub ◌to◌ : ℕ → ℕ → Span
a to b = record { low = a; high = b }

-- what was drawn, and the state that the source is left with
pub record Drawn : Type 0 where
  pub values : List ℕ
  pub state : ℕ

-- "The draw source is lent and moved on in place": one draw for each span, in order
unfoldable pub draws : List Span → ℕ → Drawn
draws [] x = record { values = []; state = x }
draws (s ∷ ss) x =
    let new = moved x in
    let rest = draws ss new in
    record { values = drawn s.low s.high new ∷ rest.values; state = rest.state }
