-- 1 to 6: the number by its three parts, and of what lent memory is asked.
use Prim.Native.Nat.{ℕ}
use mathlib.Core.Path.{◌≡◌, refl, sym, ap, ◌∙◌}
use mathlib.Core.Logic.{◌≢◌}
use mathlib.Core.Bool.{Bool, false}
use mathlib.Core.List.{List, [], ◌∷◌, ◌++◌}
use borrow.Author.Tests.{eq-eqb}
use lib.Dec.{eqb}
use lib.ListN.{length}
use Rattle.rules.specs.Words.{Stop, Time}
use Rattle.rules.specs.Lists.{when◌then◌else◌, every}
use Rattle.rules.specs.Plan.{leg_of, near_of, alpha_of}
use Rattle.rules.specs.Memory.{Lent, room_in, plan_in}
use Rattle.rules.specs.Numbers.{Check, verdict, long, good_lengths, lent_checks}
use Rattle.refusals.specs.Refusing.{size_checks, plan_long, length_checks, list_checks, lent_number}
use Rattle.refusals.proofs.VerdictLaws.{Numbered, verdict_first, verdict_then}

module _ (n k ka : ℕ) (matrix : List Time) (near alpha : List Stop) (lengths : List ℕ) (words : ℕ) (told : Bool) where
  one : List Check
  one = size_checks n k ka told

  two : List Check
  two = length_checks n k ka (length matrix) (length near) (length alpha) lengths words

  three : List Check
  three = list_checks n k ka matrix near alpha

  pub sizes_refuse : verdict (size_checks n k ka told) ≢ 0 → verdict (size_checks n k ka told) ≡ lent_number n k ka matrix near alpha lengths words told
  unfolding lent_number one two three
  sizes_refuse h = sym (verdict_first one (two ++ three) h)

  pub sizes_numbered : Numbered (size_checks n k ka told)
  unfolding size_checks every
  sizes_numbered = refl

  pub lengths_numbered : Numbered (length_checks n k ka (length matrix) (length near) (length alpha) lengths words)
  unfolding length_checks every
  lengths_numbered = refl

  module _ (e : verdict (size_checks n k ka told) ≡ 0) where
    sizes_pass : lent_number n k ka matrix near alpha lengths words told ≡ verdict (two ++ three)
    unfolding lent_number one two three
    sizes_pass = verdict_then one (two ++ three) sizes_numbered e

    pub lengths_refuse : verdict (length_checks n k ka (length matrix) (length near) (length alpha) lengths words) ≢ 0
        → verdict (length_checks n k ka (length matrix) (length near) (length alpha) lengths words) ≡ lent_number n k ka matrix near alpha lengths words told
    unfolding two three
    lengths_refuse h = sym (sizes_pass ∙ verdict_first two three h)

    pub lists_decide : verdict (length_checks n k ka (length matrix) (length near) (length alpha) lengths words) ≡ 0
        → verdict (list_checks n k ka matrix near alpha) ≡ lent_number n k ka matrix near alpha lengths words told
    unfolding two three
    lists_decide f = sym (sizes_pass ∙ verdict_then two three lengths_numbered f)

-- what is asked of lent memory
pub lent_is : (l : Lent) (told : Bool) (more : List ℕ)
    → lent_number l.n l.k l.ka l.matrix l.near l.alpha (length l.round ∷ length l.places ∷ length l.queue ∷ length l.flags ∷ length l.scratch ∷ more) (length l.journal) told ≡ verdict (lent_checks l told more)
unfolding lent_number size_checks length_checks plan_long list_checks lent_checks good_lengths room_in plan_in leg_of near_of alpha_of
lent_is l told more = refl

-- one more length that is n changes nothing
long_self : (n : ℕ) (ls : List ℕ) → long n (ls ++ (n ∷ [])) ≡ long n ls
unfolding long every
long_self n [] = rw (eq-eqb n n refl, every) refl
long_self n (x ∷ ls) = ap (λ (b : Bool). when eqb x n then b else false) (long_self n ls)

pub lent_self : (n k ka : ℕ) (matrix : List Time) (near alpha : List Stop) (ls : List ℕ) (words : ℕ) (told : Bool)
    → lent_number n k ka matrix near alpha (ls ++ (n ∷ [])) words told ≡ lent_number n k ka matrix near alpha ls words told
unfolding lent_number length_checks
lent_self n k ka matrix near alpha ls words told = rw (long_self n ls) refl

-- a single call is lent nothing more
pub call_lent : (l : Lent) (told : Bool)
    → lent_number l.n l.k l.ka l.matrix l.near l.alpha (length l.round ∷ length l.places ∷ length l.queue ∷ length l.flags ∷ length l.scratch ∷ l.n ∷ []) (length l.journal) told ≡ verdict (lent_checks l told [])
call_lent l told =
    lent_self l.n l.k l.ka l.matrix l.near l.alpha (length l.round ∷ length l.places ∷ length l.queue ∷ length l.flags ∷ length l.scratch ∷ []) (length l.journal) told ∙ lent_is l told []
