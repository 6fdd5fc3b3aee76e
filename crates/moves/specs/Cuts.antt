-- The cuts of `or_move`, and what is rotated. Assumes nothing.
use Rattle.std.specs.Prelude.{ℕ, ◌+◌, ◌-◌, ◌≤◌, ◌<◌, min, max, ◌≡◌, Bool, List, length}
use Rattle.rules.specs.Words.{Stop, Place, Round}
use Rattle.rules.specs.Lists.{when◌then◌else◌}
use Rattle.rules.specs.Ring.{place}
use Rattle.rules.specs.Journal.{Track, Entry, rotation, doing}
use Rattle.rules.specs.Moves.{exchange, or_move}

-- the cut of a leg x-y that goes
unfoldable pub cut_of : Bool → Round → Stop → Stop → Place
cut_of fwd r x y = place r (when fwd then y else x)

-- three cuts in rising order
pub record Rising (p q s a b c : Place) : Type 0 where
  pub low : a ≡ min p (min q s)
  pub high : c ≡ max p (max q s)
  pub mid : b ≡ p + q + s - a - c
  pub first : a ≤ b
  pub second : b ≤ c

-- the rotation that exchanges the two shorter of the three paths between cuts of a ring of n
pub record IsWindow (n : ℕ) (a b c start : Place) (first last : ℕ) : Type 0 where
  pub is : (t : Track) → length t.round ≡ n → doing (rotation start first 0 last) t ≡ exchange a b c t
  pub start_low : start < n
  pub fits : first + 0 + last ≤ n

-- the rotation that an or-move is
pub record IsOrMove (fwd : Bool) (r : Round) (x1 y1 x2 y2 x3 y3 : Stop) (start : Place) (first last : ℕ) : Type 0 where
  pub is : (journal : List Entry)
      → doing (rotation start first 0 last) (record { round = r; journal = journal }) ≡ or_move fwd x1 y1 x2 y2 x3 y3 (record { round = r; journal = journal })
  pub start_low : start < length r
  pub fits : first + 0 + last ≤ length r
