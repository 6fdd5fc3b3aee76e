-- The loop of `round_good`: what it has seen at a place and a stop of the same number.
use Prim.Native.Nat.{ℕ, ◌≤◌, ◌<◌}
use mathlib.Core.Path.{◌≡◌, sym}
use mathlib.Core.Bool.{false, true, ◌&&◌}
use mathlib.Core.List.{List}
use lib.ListN.{length}
use Rattle.rules.specs.Words.{Place, Round}
use Rattle.rules.specs.Lists.{at, same}
use Rattle.rules.specs.Ring.{places_of, is_round}
use Rattle.rules.specs.SharedWords.{Tied}
use Rattle.laws.proofs.ChoiceLaws.{not_so}
use Rattle.laws.proofs.CheckLaws.{tied_passes, passes_tied}

pub record Both (r : Round) (ps : List Place) (k : ℕ) : Type 0 where
  pub stop : at r k < length r
  pub place : at ps k < length r
  pub back : at ps (at r k) ≡ k
  pub forth : at r (at ps k) ≡ k

module _ (r : Round) (ps : List Place) (few : length r ≤ 4096) (size : length ps ≡ length r) where
  pub all_pass : ((k : ℕ) → k < length r → Both r ps k) → true ≡ (is_round (length r) r && same ps (places_of r))
  all_pass b =
      sym (tied_passes r ps (record { few = few; same = size; stop = λ k g. (b k g).stop; place = λ k g. (b k g).place; back = λ k g. (b k g).back; forth = λ k g. (b k g).forth }))

  pub one_fails : (Tied r ps → ⊥) → false ≡ (is_round (length r) r && same ps (places_of r))
  one_fails h = sym (not_so (is_round (length r) r && same ps (places_of r)) (λ e. h (passes_tied (length r) r ps few e)))
