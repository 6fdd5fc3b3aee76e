-- 01, "Marked cases": proved together, as one statement over one list. Assumes nothing.
use Rattle.std.specs.Prelude.{ℕ, ◌≡◌, refl, List, [], ◌∷◌, map, replicate}
use Rattle.rules.specs.Words.{Round, Place}
use Rattle.rules.specs.Draws.{moved}
use Rattle.rules.specs.Rewrite.{rotate_at}
use Rattle.rules.specs.Journal.{reversing}
use Rattle.rules.specs.Queue.{push_all}
use Rattle.rules.specs.Plan.{leg_in}
use Rattle.rules.specs.Start.{start_round}
use Rattle.rules.specs.Exact.{exact_round}
use Rattle.rules.specs.Search.{margin}
use Rattle.rules.specs.Sheets.{solve}
use Rattle.rules.specs.Opened.{opened}

-- "reverse places s..e" of a round
abbrev reversed_in : Round → Place → Place → Round
reversed_in r s e = (reversing s e (record { round = r; journal = [] })).round

-- what is computed, and what 01 says
pub record Case : Type 0 where
  pub got : List ℕ
  pub want : List ℕ

infix 5 ◌gives◌
abbrev ◌gives◌ : List ℕ → List ℕ → Case
a gives b = record { got = a; want = b }

unfoldable pub marked : List Case
marked =
    ((solve (0x10 ∷ 0x00 ∷ 0x20 ∷ 0x80 ∷ 0x00 ∷ 0x00 ∷ 0x00 ∷ 0x00 ∷ 0x00 ∷ 0x00 ∷ 0x00 ∷ 0x00 ∷ 0x00 ∷ 0x00 ∷ 0x00 ∷ 0x01 ∷ 0x00 ∷ 0x05 ∷ 0x00 ∷ 0x10 ∷ 0x00 ∷ []) (replicate 19 0)).answer
    gives 0x14 ∷ 0x00 ∷ 0x40 ∷ 0x00 ∷ 0x00 ∷ 0x00 ∷ 0x00 ∷ 0x0A ∷ 0x00 ∷ 0x00 ∷ 0x00 ∷ 0x00 ∷ 0x00 ∷ 0x00 ∷ 0x00 ∷ 0x00 ∷ 0x00 ∷ 0x00 ∷ 0x01 ∷ [])
    ∷ (moved 1 ∷ [] gives 1082269761 ∷ [])
    ∷ (reversed_in (0 ∷ 1 ∷ 2 ∷ 3 ∷ 4 ∷ []) 1 2 gives 0 ∷ 2 ∷ 1 ∷ 3 ∷ 4 ∷ [])
    ∷ (reversed_in (0 ∷ 1 ∷ 2 ∷ 3 ∷ 4 ∷ []) 1 3 gives 4 ∷ 1 ∷ 2 ∷ 3 ∷ 0 ∷ [])
    ∷ (reversed_in (0 ∷ 1 ∷ 2 ∷ 3 ∷ 4 ∷ []) 4 0 gives 4 ∷ 1 ∷ 2 ∷ 3 ∷ 0 ∷ [])
    ∷ (reversed_in (0 ∷ 1 ∷ 2 ∷ 3 ∷ []) 0 1 gives 1 ∷ 0 ∷ 2 ∷ 3 ∷ [])
    ∷ (rotate_at 4 1 1 2 (0 ∷ 1 ∷ 2 ∷ 3 ∷ 4 ∷ 5 ∷ []) gives 5 ∷ 4 ∷ 2 ∷ 3 ∷ 0 ∷ 1 ∷ [])
    ∷ (rotate_at 4 2 1 1 (5 ∷ 4 ∷ 2 ∷ 3 ∷ 0 ∷ 1 ∷ []) gives 0 ∷ 1 ∷ 2 ∷ 3 ∷ 4 ∷ 5 ∷ [])
    ∷ (start_round (leg_in 4 (replicate 16 65535)) 4 gives 0 ∷ 1 ∷ 2 ∷ 3 ∷ [])
    ∷ (start_round (leg_in 4 (0 ∷ 5 ∷ 1 ∷ 1 ∷ 5 ∷ 0 ∷ 7 ∷ 7 ∷ 1 ∷ 7 ∷ 0 ∷ 7 ∷ 1 ∷ 7 ∷ 7 ∷ 0 ∷ [])) 4 gives 0 ∷ 2 ∷ 1 ∷ 3 ∷ [])
    ∷ (exact_round (leg_in 1 (9 ∷ [])) 1 gives 0 ∷ [])
    ∷ (exact_round (leg_in 3 (0 ∷ 1 ∷ 9 ∷ 9 ∷ 0 ∷ 1 ∷ 1 ∷ 9 ∷ 0 ∷ [])) 3 gives 0 ∷ 1 ∷ 2 ∷ [])
    ∷ (margin 10 49 ∷ margin 10 50 ∷ [] gives 0 ∷ 1 ∷ [])
    ∷ (push_all [] (3 ∷ 1 ∷ 3 ∷ []) gives 3 ∷ 1 ∷ [])
    ∷ []

pub all_marked : map (λ c. c.got) marked ≡ map (λ c. c.want) marked
unfolding opened marked
all_marked = refl
