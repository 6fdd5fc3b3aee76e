-- 01, 12 and 13: of the stops of a list that rises, `nearest` gives the first of those that take least.
use Prim.Native.Nat.{suc, ◌≤◌, ◌<◌}
use mathlib.Core.Path.{◌≡◌, refl, ap, ◌∙◌}
use mathlib.Core.Bool.{Bool}
use mathlib.Core.List.{List, [], ◌∷◌}
use native.Mathlib.Decide.{dec_lt}
use native.Mathlib.Omega.{arith}
use lib.Dec.{ltb}
use borrow.Author.Tests.{lt-ltb, le-ltb}
use Rattle.rules.specs.Words.{Stop, Time}
use Rattle.rules.specs.Lists.{when◌then◌else◌}
use Rattle.rules.specs.Start.{nearest}
use Rattle.laws.proofs.ChoiceLaws.{either_way}
use Rattle.laws.proofs.InLaws.{In, top, down, in_some, in_past, Up, up_lower}

-- k is one of l, none takes less by f, and none that takes as much stands before it
pub record Nearest (f : Stop → Time) (l : List Stop) (k : Stop) : Type 0 where
  pub there : In k l
  pub low : (v : Stop) → In v l → f k ≤ f v
  pub first : (v : Stop) → In v l → f v ≡ f k → k ≤ v

-- ---- one step
module _ (f : Stop → Time) (so v : Stop) (l : List Stop) where
  pub nearer : f v < f so → nearest f so (v ∷ l) ≡ nearest f v l
  unfolding nearest
  nearer h = simp (lt-ltb (f v) (f so) h)

  pub farther : f so ≤ f v → nearest f so (v ∷ l) ≡ nearest f so l
  unfolding nearest
  farther h = simp (le-ltb (f v) (f so) h)

-- ---- all of them
module _ (f : Stop → Time) where
  nearest_later : (so v : Stop) (l : List Stop) (k : Stop) → f v < f so → Nearest f (v ∷ l) k → Nearest f (so ∷ v ∷ l) k
  nearest_later so v l k h n = record { there = down n.there; low = lo; first = fi }
    where
      lo : (x : Stop) → In x (so ∷ v ∷ l) → f k ≤ f x
      lo x top = omega (arith, n.low v top)
      lo x (down z) = n.low x z

      fi : (x : Stop) → In x (so ∷ v ∷ l) → f x ≡ f k → k ≤ x
      fi x top e = absurd (omega (arith, n.low v top))
      fi x (down z) e = n.first x z e

  nearest_sooner : (so v : Stop) (l : List Stop) (k : Stop) → so < v → f so ≤ f v → Nearest f (so ∷ l) k → Nearest f (so ∷ v ∷ l) k
  nearest_sooner so v l k b h n = record { there = in_past v n.there; low = lo; first = fi }
    where
      lo : (x : Stop) → In x (so ∷ v ∷ l) → f k ≤ f x
      lo x top = n.low so top
      lo x (down top) = omega (arith, n.low so top)
      lo x (down (down z)) = n.low x (down z)

      fi : (x : Stop) → In x (so ∷ v ∷ l) → f x ≡ f k → k ≤ x
      fi x top e = n.first so top e
      fi x (down top) e = omega (arith, n.first so top (omega (arith, n.low so top)))
      fi x (down (down z)) e = n.first x (down z) e

  pub nearest_is : (i so : Stop) (l : List Stop) → Up i (so ∷ l) → Nearest f (so ∷ l) (nearest f so l)
  unfolding nearest
  nearest_is i so [] u = record { there = top; low = lo; first = fi }
    where
      lo : (x : Stop) → In x (so ∷ []) → f so ≤ f x
      lo x top = omega arith
      lo x (down z) = absurd (omega (arith, in_some z))

      fi : (x : Stop) → In x (so ∷ []) → f x ≡ f so → so ≤ x
      fi x top e = omega arith
      fi x (down z) e = absurd (omega (arith, in_some z))
  nearest_is i so (v ∷ l) u =
      elim (dec_lt (f v) (f so)) [
        | yes h ↦ rw (nearer f so v l h) (nearest_later so v l (nearest f v l) h (nearest_is (suc so) v l u.1))
        | no h ↦
            let k : f so ≤ f v = omega arith in
            let n = nearest_is i so l (u.0, up_lower (suc so) (suc v) l (omega (arith, u.1.0)) u.1.1) in
            rw (farther f so v l k) (nearest_sooner so v l (nearest f so l) (omega (arith, u.1.0)) k n)
      ]

pub nearest_same : (f g : Stop → Time) (so : Stop) (l : List Stop) → ((v : Stop) → In v (so ∷ l) → f v ≡ g v) → nearest f so l ≡ nearest g so l
unfolding nearest
nearest_same f g so [] e = refl
nearest_same f g so (v ∷ l) e =
    nearest_same f g (when ltb (f v) (f so) then v else so) l (λ u z. e u (among z))
    ∙ ap (λ (b : Bool). nearest g (when b then v else so) l) (ap (λ x. ltb x (f so)) (e v (down top)) ∙ ap (λ x. ltb (g v) x) (e so top))
  where
    among : {u : Stop} → In u ((when ltb (f v) (f so) then v else so) ∷ l) → In u (so ∷ v ∷ l)
    among {u} z = either_way (λ (w : Stop). In u (w ∷ l) → In u (so ∷ v ∷ l)) (ltb (f v) (f so)) (λ y. down y) (λ y. in_past v y) z
