-- What the answer's writer asks and promises. Assumes nothing.
use Rattle.std.specs.Prelude.{ℕ, ◌<◌, ◌≡◌, List, ◌++◌, length, drop}
use Rattle.rules.specs.Words.{Round, Time}
use Rattle.rules.specs.Lists.{at}
use Rattle.rules.specs.Sheets.{answer_bytes}

-- stops of 12 bits
pub record Small (l : Round) : Type 0 where
  pub stop : (i : ℕ) → at l i < 4096

-- lent bytes l are left as r: the answer's bytes, and "Bytes beyond it stay". The draw state that an answer ends with is not written
pub record Written (round : Round) (time : Time) (units kicks ended : ℕ) (l r : List ℕ) : Type 0 where
  pub is :
      (draw : ℕ) →
      let bytes = answer_bytes (record { round = round; time = time; units = units; kicks = kicks; ended = ended; draw = draw }) in
      r ≡ bytes ++ drop (length bytes) l
