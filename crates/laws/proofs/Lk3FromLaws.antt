-- 01, 9: `lk3_from` by its two sides.
use Prim.Native.Nat.{◌≤◌, ◌<◌}
use mathlib.Core.Path.{◌≡◌, refl, sym, ◌∙◌}
use mathlib.Core.Bool.{Bool, true, false}
use mathlib.Core.List.{[], ◌∷◌}
use native.Mathlib.Omega.{arith}
use borrow.Author.Tests.{lt-ltb, le-ltb}
use lib.ListN.{length}
use Rattle.rules.specs.Words.{Stop}
use Rattle.rules.specs.Ring.{ahead}
use Rattle.rules.specs.Journal.{Track}
use Rattle.rules.specs.Plan.{Plan, leg_of}
use Rattle.rules.specs.Improve.{Found, nothing, or_else}
use Rattle.rules.specs.Step.{begin}
use Rattle.rules.specs.Lk3.{level3, lk3_side, lk3_from}
use Rattle.laws.proofs.ChoiceLaws.{by_gain}
use Rattle.laws.proofs.Lone3Laws.{touching_gain, touching_none, level3_none}

module _ (p : Plan) (t1 : Stop) (t : Track) where
  pub from_few : length t.round < 5 → lk3_from p t1 t ≡ nothing t
  unfolding lk3_from
  from_few h = rw (lt-ltb (length t.round) 5 h)

  module _ (many : 5 ≤ length t.round) where
    both : lk3_from p t1 t ≡ or_else (lk3_side p t1 true t) (lk3_side p t1 false)
    unfolding lk3_from
    both = rw (le-ltb (length t.round) 5 many)

    pub from_first : 0 < (lk3_side p t1 true t).gain → lk3_from p t1 t ≡ lk3_side p t1 true t
    unfolding or_else
    from_first h = both ∙ by_gain (λ (z : Found). z ≡ lk3_side p t1 true t) (lk3_side p t1 true t).gain {x = lk3_side p t1 false (lk3_side p t1 true t).track} {y = λ g. lk3_side p t1 true t} (λ e. absurd (omega arith)) (λ g e. refl)

    pub from_second : (lk3_side p t1 true t).gain ≡ 0 → lk3_from p t1 t ≡ lk3_side p t1 false (lk3_side p t1 true t).track
    unfolding or_else
    from_second h = both ∙ by_gain (λ (z : Found). z ≡ lk3_side p t1 false (lk3_side p t1 true t).track) (lk3_side p t1 true t).gain {x = lk3_side p t1 false (lk3_side p t1 true t).track} {y = λ g. lk3_side p t1 true t} (λ e. refl) (λ g e. absurd (omega arith))

-- a side that gains nothing leaves the track as it was
pub side_none : (p : Plan) (t1 : Stop) (fwd : Bool) (t : Track) → (lk3_side p t1 fwd t).gain ≡ 0 → lk3_side p t1 fwd t ≡ nothing t
unfolding lk3_side begin
side_none p t1 fwd t e =
    let t2 = ahead fwd t.round t1 in
    let f = level3 p t1 50 (begin t t1 t2) t2 (leg_of p t1 t2) in
    touching_none (t1 ∷ t2 ∷ []) f t (level3_none p t1 50 (begin t t1 t2) t2 (leg_of p t1 t2) (sym (touching_gain (t1 ∷ t2 ∷ []) f) ∙ e))
