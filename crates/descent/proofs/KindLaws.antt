-- The number of each kind, and its step by its parts.
use Prim.Native.Nat.{ℕ, zero, suc, ◌≤◌, ◌<◌}
use mathlib.Core.Path.{◌≡◌, refl}
use mathlib.Core.Logic.{◌⊎◌, inl, inr}
use native.Mathlib.Omega.{arith}
use borrow.Author.Tests.{lt-ltb, le-ltb}
use lib.ListN.{length}
use Rattle.rules.specs.Words.{Stop}
use Rattle.rules.specs.Journal.{Track}
use Rattle.rules.specs.Plan.{Plan}
use Rattle.rules.specs.Improve.{or_else, improve_both}
use Rattle.rules.specs.Lk3.{lk3_from}
use Rattle.rules.specs.Descend.{step_from}
use Rattle.laws.proofs.StayLaws.{Stays, lk_from_stays, lk3_from_stays}
use Rattle.descent.specs.declared.kinds.StepKind.{StepKind}
use Rattle.descent.specs.declared.kinds.StepKind.TheVariants.{Lk, Lk3, Lk3Only}
use Rattle.descent.specs.Kinds.{step_number, step_kind_in, lk_search_of}

-- a number that passed the checks is the number of its kind
pub step_number_in : (s : ℕ) → s ≤ 2 → step_number (step_kind_in s) ≡ s
step_number_in zero h = refl
step_number_in (suc zero) h = refl
step_number_in (suc (suc s)) h = omega arith

module _ (p : Plan) (v : Stop) (t : Track) where
  -- the search of the kinds but Lk
  pub lk3_is : {k : StepKind} → (k ≡ Lk3) ⊎ (k ≡ Lk3Only) → lk3_from p v t ≡ lk_search_of p k v t
  lk3_is (inl e) = rw e
  lk3_is (inr e) = rw e

  -- a search that gains 0 leaves the track
  pub lk_search_stays : (k : StepKind) → Stays t (lk_search_of p k v t)
  lk_search_stays Lk = lk_from_stays p v t
  lk_search_stays Lk3 = lk3_from_stays p v t
  lk_search_stays Lk3Only = lk3_from_stays p v t

  -- the step of the kinds but Lk3Only
  pub or_improve_is : {k : StepKind} → (k ≡ Lk) ⊎ (k ≡ Lk3) → or_else (lk_search_of p k v t) (improve_both p v) ≡ step_from p (step_number k) v t
  unfolding step_from
  or_improve_is (inl e) = rw e
  or_improve_is (inr e) = rw e

  -- Lk3Only below 5 stops, and above
  pub few_is : length t.round < 5 → improve_both p v t ≡ step_from p 2 v t
  unfolding step_from
  few_is h = rw (lt-ltb (length t.round) 5 h)

  pub only_is : 5 ≤ length t.round → lk3_from p v t ≡ step_from p 2 v t
  unfolding step_from
  only_is h = rw (le-ltb (length t.round) 5 h)
