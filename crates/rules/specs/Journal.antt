-- 01, "The port", 5, and "Sizes and numbers", the journal: what is journalled, and how it is taken back. Newest entry first. Assumes nothing.
use Rattle.std.specs.Prelude.{ℕ, zero, suc, ◌+◌, ◌-◌, ◌*◌, Bool, ◌&&◌, List, [], ◌∷◌, leb, ltb, eqb, length, take, drop}
use Rattle.rules.specs.Words.{Place, Round}
use Rattle.rules.specs.Lists.{when◌then◌else◌, at, rising, every}
use Rattle.rules.specs.Rewrite.{reverse_at, rotate_at, swap_at, stretch}

-- "start and length, or start and three lengths, or two places"
pub data Entry : Type 0 where
  reversal : Place → ℕ → Entry
  rotation : Place → ℕ → ℕ → ℕ → Entry
  swap : Place → Place → Entry

-- "The words: kind (0 reversal, 1 rotation, 2 swap), then .. ; the rest 0"
unfoldable pub words_of : Entry → List ℕ
words_of (reversal s l) = 0 ∷ s ∷ l ∷ 0 ∷ 0 ∷ []
words_of (rotation s a b c) = 1 ∷ s ∷ a ∷ b ∷ c ∷ []
words_of (swap i j) = 2 ∷ i ∷ j ∷ 0 ∷ 0 ∷ []

-- entry i of a journal's words, oldest first; a kind above 2 is refused before it is read
unfoldable pub entry_at : List ℕ → ℕ → Entry
entry_at ws i =
    let w = drop (5 * i) ws in
    when eqb (at w 0) 0 then reversal (at w 1) (at w 2) else
    when eqb (at w 0) 1 then rotation (at w 1) (at w 2) (at w 3) (at w 4) else
    swap (at w 1) (at w 2)

-- the entries held, newest first
unfoldable pub entries_of : List ℕ → ℕ → List Entry
entries_of ws zero = []
entries_of ws (suc i) = entry_at ws i ∷ entries_of ws i

-- "its start or both places are below n, and its lengths together are at most n"
unfoldable pub in_range : ℕ → Entry → Bool
in_range n (reversal s l) = ltb s n && leb l n
in_range n (rotation s a b c) = ltb s n && leb (a + b + c) n
in_range n (swap i j) = ltb i n && ltb j n

-- "its kind is one of these"; "More entries held than the room takes counts as out of range" (number 7)
unfoldable pub good_journal : ℕ → List ℕ → ℕ → Bool
good_journal n ws held = leb (5 * held) (length ws) && every (λ i. leb (at ws (5 * i)) 2 && in_range n (entry_at ws i)) (rising held 0)

-- the round with an entry carried out
unfoldable pub carry_out : Entry → Round → Round
carry_out (reversal s l) r = reverse_at s l r
carry_out (rotation s a b c) r = rotate_at s a b c r
carry_out (swap i j) r = swap_at i j r

-- and with it taken back: a rotation is "Undone with the lengths in reverse"
unfoldable pub take_back : Entry → Round → Round
take_back (reversal s l) r = reverse_at s l r
take_back (rotation s a b c) r = rotate_at s c b a r
take_back (swap i j) r = swap_at i j r

-- a round, and what was done to it since the last commit
pub record Track : Type 0 where
  pub round : Round
  pub journal : List Entry

-- the track that a lent round and journal words stand for
unfoldable pub track_of : Round → List ℕ → ℕ → Track
track_of r ws held = record { round = r; journal = entries_of ws held }

-- an entry carried out and journalled
unfoldable pub doing : Entry → Track → Track
doing e t = record { round = carry_out e t.round; journal = e ∷ t.journal }

-- the same round with nothing journalled
unfoldable pub cleared : Track → Track
cleared t = record { round = t.round; journal = [] }

-- entries taken back, newest first
unfoldable pub undo_all : List Entry → Round → Round
undo_all [] r = r
undo_all (e ∷ es) r = undo_all es (take_back e r)

-- `rollback`: all entries past the first `mark` taken back
unfoldable pub rollback : ℕ → Track → Track
rollback mark t =
    let newer = length t.journal - mark in
    record { round = undo_all (take newer t.journal) t.round; journal = drop newer t.journal }

-- `reverse` from place s to place e, journalled: "Under 2, nothing moves and nothing is journalled"
unfoldable pub reversing : Place → Place → Track → Track
reversing s e t =
    let w = stretch (length t.round) s e in
    when ltb w.len 2 then t else doing (reversal w.start w.len) t
