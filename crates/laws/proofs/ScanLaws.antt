-- 01, 7: what a scan that finds nothing says, and that on a rising list it makes no difference where a scan ends.
use Prim.Native.Nat.{◌<◌, ◌≤◌}
use mathlib.Core.Path.{◌≡◌, ap, refl, sym}
use mathlib.Core.Bool.{Bool, false, true}
use mathlib.Core.List.{List, [], ◌∷◌}
use native.Mathlib.Omega.{arith}
use lib.Dec.{ltb}
use borrow.Author.Tests.{le-ltb, ltb-false, ltb-true}
use Rattle.rules.specs.Improve.{Found, Trial, first_closing, nothing}
use Rattle.rules.specs.Journal.{Track}
use Rattle.rules.specs.Lists.{when◌then◌else◌, keep, keep_while}
use Rattle.rules.specs.Words.{Legs, Stop, Time}
use Rattle.laws.proofs.ChoiceLaws.{either_if}
use Rattle.laws.proofs.EveryLaws.{All, all_map, more, none}

-- no gain found: no trial closes with a gain, and the track is as it was
pub no_closing : (add : Legs) (fwd : Bool) (t1 t2 : Stop) (t : Track) (xs : List Trial) → (first_closing add fwd t1 t2 t xs).gain ≡ 0 → All (λ x. x.partial ≤ add x.t6 t1) xs
unfolding first_closing
no_closing add fwd t1 t2 t [] e = none
no_closing add fwd t1 t2 t (x ∷ xs) e =
    let close = add x.t6 t1 in
    either_if (λ (f : Found). f.gain ≡ 0 → All (λ y. y.partial ≤ add y.t6 t1) (x ∷ xs)) (ltb close x.partial)
    (λ y g. let l : close < x.partial = ltb-true close x.partial y in absurd (omega arith))
    (λ y g. more (ltb-false close x.partial y) (no_closing add fwd t1 t2 t xs g))
    e

-- and the other way: where no trial closes with a gain, none is found
pub none_closes : (add : Legs) (fwd : Bool) (t1 t2 : Stop) (t : Track) (xs : List Trial) → All (λ x. x.partial ≤ add x.t6 t1) xs → first_closing add fwd t1 t2 t xs ≡ nothing t
unfolding first_closing
none_closes add fwd t1 t2 t [] none = refl
none_closes add fwd t1 t2 t (x ∷ xs) (more h a) = rw (le-ltb (add x.t6 t1) x.partial h, first_closing) (none_closes add fwd t1 t2 t xs a)

-- ---- a list that rises by f
pub data Rises (f : Stop → Time) : List Stop → Type 0 where
  flat : Rises f []
  step : {x : Stop} {xs : List Stop} → All (λ y. f x ≤ f y) xs → Rises f xs → Rises f (x ∷ xs)

keep_none : (f : Stop → Time) (g : Time) (xs : List Stop) → All (λ y. g ≤ f y) xs → keep (λ y. ltb (f y) g) xs ≡ []
unfolding keep
keep_none f g [] none = refl
keep_none f g (x ∷ xs) (more h a) = rw (le-ltb (f x) g h, keep) (keep_none f g xs a)

-- the entries before the first that fails are all that do not fail
pub scans_agree : (f : Stop → Time) (g : Time) (xs : List Stop) → Rises f xs → keep_while (λ y. ltb (f y) g) xs ≡ keep (λ y. ltb (f y) g) xs
unfolding keep_while keep
scans_agree f g [] r = refl
scans_agree f g (x ∷ xs) (step a r) =
    choose (ltb (f x) g) (ap (λ l. x ∷ l) (scans_agree f g xs r)) (λ y. let l : g ≤ f x = ltb-false (f x) g y in sym (keep_none f g xs (all_map xs (λ v h. omega arith) a)))
  where
    choose : (b : Bool) {p q u v : List Stop} → p ≡ u → (b ≡ false → q ≡ v) → (when b then p else q) ≡ (when b then u else v)
    choose true h k = h
    choose false h k = k refl
