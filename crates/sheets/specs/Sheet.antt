-- A sheet's header as the code holds it, the parts of its checks, and what a sheet without a refusal has. Assumes nothing.
use Rattle.std.specs.Prelude.{ℕ, ◌*◌, ◌≤◌, Bool, not, ◌&&◌, List, [], ◌∷◌, leb, ltb, eqb, length, drop}
use Rattle.rules.specs.Words.{Stop}
use Rattle.rules.specs.Lists.{every}
use Rattle.rules.specs.Bits.{bits_of}
use Rattle.rules.specs.Plan.{near_of, alpha_of}
use Rattle.rules.specs.Numbers.{Check, ◌or◌, within, good_sizes, good_step, good_list}
use Rattle.rules.specs.Sheets.{Header, sheet_length, end_at, plan_on, answer_length}
use Rattle.sheets.specs.declared.header.Header.{Header as Held}

-- the rule's header of the code's
abbrev pub header_of : Held → Header
header_of h = record { version = h.version; step = h.step; stop = h.stop; n = h.n; k = h.k; ka = h.ka; spare = h.spare; budget = h.budget; seed = h.seed }

-- 9, but for the length, and 1
unfoldable pub head_checks : Header → List Check
head_checks h = ((eqb h.version 1 && eqb h.spare 0) or 9) ∷ (within 2 128 h.n or 1) ∷ []

-- 2
unfoldable pub good_told : Header → Bool
good_told h = good_sizes h.k h.ka && good_step h.ka h.step && leb 1 h.seed

-- 10
unfoldable pub good_end : Header → List ℕ → Bool
good_end h bytes = eqb (length bytes) (sheet_length h) && every (eqb 0) (drop (end_at h) (bits_of bytes))

-- 6: the entries of stop v's list, and all lists
unfoldable pub good_row : ℕ → Stop → List Stop → Bool
good_row n v es = every (λ e. ltb e n && not (eqb e v)) es

unfoldable pub good_lists : Header → List ℕ → Bool
good_lists h bytes = let p = plan_on h (bits_of bytes) in good_list h.n (near_of p) && good_list h.n (alpha_of p)

-- sizes that a header has before 2 is asked: those that its bits hold
pub record Narrow (h : Header) : Type 0 where
  pub low : 2 ≤ h.n
  pub high : h.n ≤ 128
  pub near : h.k ≤ 31
  pub alpha : h.ka ≤ 7

-- sizes that a sheet may have
pub record Sizes (h : Header) : Type 0 where
  pub low : 2 ≤ h.n
  pub high : h.n ≤ 128
  pub near : h.k ≤ 20
  pub alpha : h.ka ≤ 5

-- a sheet that is not refused, with room bytes for the answer
pub record Ready (h : Header) (bytes : List ℕ) (room : ℕ) : Type 0 where
  pub sizes : Sizes h
  pub long : 16 ≤ length bytes
  pub ends : end_at h ≤ 8 * length bytes
  pub answer : answer_length h.n ≤ room
