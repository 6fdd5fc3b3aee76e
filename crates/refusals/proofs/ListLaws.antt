-- 5 and 6, test by test, and what 0 says.
use Prim.Native.Nat.{ℕ}
use mathlib.Core.Path.{◌≡◌, refl}
use mathlib.Core.Bool.{true, false, ◌&&◌}
use mathlib.Core.List.{List, [], ◌∷◌}
use Rattle.rules.specs.Words.{Stop, Time}
use Rattle.rules.specs.Lists.{every}
use Rattle.rules.specs.Plan.{leg_in, list_in}
use Rattle.rules.specs.Numbers.{◌or◌, verdict, symmetric, good_list}
use Rattle.laws.proofs.ChoiceLaws.{both_true}
use Rattle.refusals.specs.Refusing.{list_checks}
use Rattle.refusals.proofs.VerdictLaws.{verdict_none}

module _ (n k ka : ℕ) (matrix : List Time) (near alpha : List Stop) where
  pub not_even : symmetric n (leg_in n matrix) ≡ false → 5 ≡ verdict (list_checks n k ka matrix near alpha)
  unfolding verdict list_checks
  not_even h = simp h

  pub odd_near_list : symmetric n (leg_in n matrix) ≡ true → good_list n (list_in k near) ≡ false → 6 ≡ verdict (list_checks n k ka matrix near alpha)
  unfolding verdict list_checks
  odd_near_list h g = simp (h, g)

  pub odd_alpha_list : symmetric n (leg_in n matrix) ≡ true → good_list n (list_in k near) ≡ true → good_list n (list_in ka alpha) ≡ false
      → 6 ≡ verdict (list_checks n k ka matrix near alpha)
  unfolding verdict list_checks
  odd_alpha_list h g f = simp (h, g, f)

  pub good_lists : symmetric n (leg_in n matrix) ≡ true → good_list n (list_in k near) ≡ true → good_list n (list_in ka alpha) ≡ true
      → 0 ≡ verdict (list_checks n k ka matrix near alpha)
  unfolding verdict list_checks
  good_lists h g f = simp (h, g, f)

  pub lists_told : verdict (list_checks n k ka matrix near alpha) ≡ 0
      → (symmetric n (leg_in n matrix) ≡ true) × ((good_list n (list_in k near) && good_list n (list_in ka alpha)) ≡ true)
  unfolding list_checks every
  lists_told e =
      let o = verdict_none (list_checks n k ka matrix near alpha) refl e in
      let a = both_true (symmetric n (leg_in n matrix)) (every (λ c. c.ok) (((good_list n (list_in k near) && good_list n (list_in ka alpha)) or 6) ∷ [])) o in
      (a.0, (both_true (good_list n (list_in k near) && good_list n (list_in ka alpha)) true a.1).0)
