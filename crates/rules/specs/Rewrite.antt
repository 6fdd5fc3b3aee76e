-- 01, "The port", 2 and 3, and the swap of 5: the three ways to rewrite a round. A rewriting works at the front of the ring as it is
-- read from a place on. Assumes nothing.
use Rattle.std.specs.Prelude.{ℕ, ◌+◌, ◌-◌, ◌*◌, List, ◌++◌, reverse, leb, ltb, length, take, drop, set}
use Rattle.rules.specs.Words.{Stop, Place, Round}
use Rattle.rules.specs.Lists.{when◌then◌else◌, at}
use Rattle.rules.specs.Ring.{next, turn}

-- f done to the ring as it is read from place s on
unfoldable pub from : Place → (List Stop → List Stop) → Round → Round
from s f r = turn (length r - s) (f (turn s r))

-- the first len turned round
unfoldable pub reverse_front : ℕ → List Stop → List Stop
reverse_front len x = reverse (take len x) ++ drop len x

-- "X Y Z becomes Z Y X in the same window"
unfoldable pub exchange_front : ℕ → ℕ → ℕ → List Stop → List Stop
exchange_front a b c x = take c (drop (a + b) x) ++ (take b (drop a x) ++ (take a x ++ drop (a + b + c) x))

-- `reverse_positions`: len places from s on, round the ring
unfoldable pub reverse_at : Place → ℕ → Round → Round
reverse_at s len r = from s (reverse_front len) r

-- `rotate_segments`: segments of a, b and c places from s on, round the ring
unfoldable pub rotate_at : Place → ℕ → ℕ → ℕ → Round → Round
rotate_at s a b c r = from s (exchange_front a b c) r

-- `swap_raw`: the stops of two places
unfoldable pub swap_at : Place → Place → Round → Round
swap_at i j r = set (set r i (at r j)) j (at r i)

-- the places that a reversal really takes
pub record Stretch : Type 0 where
  pub start : Place
  pub len : ℕ

-- "From start to end, round the ring"
unfoldable pub len_of : ℕ → Place → Place → ℕ
len_of n s e = when leb s e then e - s + 1 else e + n - s + 1

-- "If twice the length exceeds n, the complement is reversed instead"
unfoldable pub stretch : ℕ → Place → Place → Stretch
stretch n s e =
    let len = len_of n s e in
    when ltb n (2 * len) then record { start = next n e; len = n - len } else record { start = s; len = len }
