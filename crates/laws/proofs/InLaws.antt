-- Elements of a list, and lists of stops that rise.
use Prim.Native.Nat.{ℕ, zero, suc, ◌+◌, ◌≤◌, ◌<◌}
use mathlib.Core.Path.{◌≡◌, refl, sym, ap, subst, ◌∙◌}
use mathlib.Core.Logic.{◌⊎◌, inl, inr, ⊎_elim}
use mathlib.Core.Bool.{Bool, true, false}
use mathlib.Core.List.{List, [], ◌∷◌, ◌++◌, map}
use native.Mathlib.Decide.{ℕ_discrete}
use native.Mathlib.Omega.{arith}
use lib.ListN.{length}
use Rattle.rules.specs.Words.{Stop}
use Rattle.rules.specs.Lists.{rising, each, keep}
use Rattle.laws.proofs.ChoiceLaws.{either_way, either_if}

-- x is one of a list
pub data In {A : Type 0} : A → List A → Type 0 where
  top : {x : A} {l : List A} → In x (x ∷ l)
  down : {x y : A} {l : List A} → In x l → In x (y ∷ l)

module _ {A : Type 0} where
  pub in_some : {x : A} {l : List A} → In x l → 0 < length l
  in_some top = omega arith
  in_some (down h) = omega arith

  pub in_left : {x : A} {l : List A} → In x l → (r : List A) → In x (l ++ r)
  in_left top r = top
  in_left (down h) r = down (in_left h r)

  pub in_right : {x : A} (l : List A) {r : List A} → In x r → In x (l ++ r)
  in_right [] h = h
  in_right (y ∷ l) h = down (in_right l h)

  pub in_either : {x : A} (l : List A) {r : List A} → In x (l ++ r) → In x l ⊎ In x r
  in_either [] h = inr h
  in_either (y ∷ l) top = inl top
  in_either (y ∷ l) (down h) = ⊎_elim (λ z. inl (down z)) (λ z. inr z) (in_either l h)

  -- what is in a list is its first, or behind it
  first_or_rest : {x y : A} {l : List A} → In x (y ∷ l) → (x ≡ y) ⊎ In x l
  first_or_rest top = inl refl
  first_or_rest (down h) = inr h

  -- one more behind the first
  pub in_past : {x s : A} (y : A) {l : List A} → In x (s ∷ l) → In x (s ∷ y ∷ l)
  in_past y top = top
  in_past y (down h) = down (down h)

  -- what is kept was there and passes
  pub keep_yes : (p : A → Bool) (x : A) (l : List A) → p x ≡ true → keep p (x ∷ l) ≡ x ∷ keep p l
  unfolding keep
  keep_yes p x l h = rw (h, keep)

  pub keep_no : (p : A → Bool) (x : A) (l : List A) → p x ≡ false → keep p (x ∷ l) ≡ keep p l
  unfolding keep
  keep_no p x l h = rw (h, keep)

  pub in_keep : (p : A → Bool) {x : A} {l : List A} → In x l → p x ≡ true → In x (keep p l)
  unfolding keep
  in_keep p {x} (top {l = l}) e = rw (keep_yes p x l e) top
  in_keep p {x} (down {y = y} h) e = either_way (In x) (p y) (down (in_keep p h e)) (in_keep p h e)

  kept_in : (p : A → Bool) {x : A} (y : A) (l : List A) → p y ≡ true → (In x (keep p l) → In x l × (p x ≡ true)) → In x (y ∷ keep p l) → In x (y ∷ l) × (p x ≡ true)
  kept_in p y l e on top = (top, e)
  kept_in p y l e on (down z) = (down (on z).0, (on z).1)

  pub keep_in : (p : A → Bool) {x : A} (l : List A) → In x (keep p l) → In x l × (p x ≡ true)
  unfolding keep
  keep_in p [] h = absurd (omega (arith, in_some h))
  keep_in p {x} (y ∷ l) h =
      either_if (λ r. In x r → In x (y ∷ l) × (p x ≡ true)) (p y) (λ e. kept_in p y l e (keep_in p l)) (λ e z. let r = keep_in p l z in (down r.0, r.1)) h

  pub keep_few : (p : A → Bool) (l : List A) → length (keep p l) ≤ length l
  unfolding keep
  keep_few p [] = omega arith
  keep_few p (x ∷ l) = let k = keep_few p l in either_way (λ (r : List A). length r ≤ suc (length l)) (p x) (omega arith) (omega arith)

  pub keep_none : (p : A → Bool) → ((x : A) → p x ≡ false) → (l : List A) → keep p l ≡ []
  unfolding keep
  keep_none p h [] = refl
  keep_none p h (x ∷ l) = keep_no p x l (h x) ∙ keep_none p h l

  pub keep_all : (p : A → Bool) (l : List A) → ((x : A) → In x l → p x ≡ true) → keep p l ≡ l
  unfolding keep
  keep_all p [] h = refl
  keep_all p (x ∷ l) h = keep_yes p x l (h x top) ∙ ap (λ (r : List A). x ∷ r) (keep_all p l (λ y k. h y (down k)))

module _ {A B : Type 0} where
  pub in_map : (f : A → B) {x : A} {l : List A} → In x l → In (f x) (map f l)
  in_map f top = top
  in_map f (down h) = down (in_map f h)

  pub map_in : (f : A → B) {y : B} (l : List A) → In y (map f l) → (x : A) × In x l × (y ≡ f x)
  map_in f [] h = absurd (omega (arith, in_some h))
  map_in f (x ∷ l) h = ⊎_elim (λ e. (x, top, e)) (λ z. let r = map_in f l z in (r.0, down r.1, r.2)) (first_or_rest h)

  pub in_each : (f : A → List B) {x : A} {y : B} {l : List A} → In x l → In y (f x) → In y (each f l)
  unfolding each
  in_each f (top {l = l}) k = in_left k (each f l)
  in_each f (down {y = z} h) k = in_right (f z) (in_each f h k)

  pub each_in : (f : A → List B) {y : B} (l : List A) → In y (each f l) → (x : A) × In x l × In y (f x)
  unfolding each
  each_in f [] h = absurd (omega (arith, in_some h))
  each_in f (x ∷ l) h = ⊎_elim (λ z. (x, top, z)) (λ z. let r = each_in f l z in (r.0, down r.1, r.2)) (in_either (f x) h)

pub in_rising : (count a v : ℕ) → a ≤ v → v < a + count → In v (rising count a)
unfolding rising
in_rising zero a v h k = absurd (omega arith)
in_rising (suc count) a v h k =
    elim (ℕ_discrete v a) [ yes e ↦ subst (λ w. In w (a ∷ rising count (a + 1))) (sym e) top | no ne ↦ down (in_rising count (a + 1) v (omega arith) (omega arith)) ]

pub rising_in : (count a : ℕ) {v : ℕ} → In v (rising count a) → (a ≤ v) × (v < a + count)
unfolding rising
rising_in zero a h = absurd (omega (arith, in_some h))
rising_in (suc count) a top = (omega arith, omega arith)
rising_in (suc count) a (down h) = let r = rising_in count (a + 1) h in (omega arith, omega arith)

-- ---- a list of stops rises, from i on
abbrev pub Up : ℕ → List Stop → Type 0
Up i [] = Unit {0}
Up i (v ∷ l) = (i ≤ v) × Up (suc v) l

pub up_lower : (i j : ℕ) (l : List Stop) → i ≤ j → Up j l → Up i l
up_lower i j [] h u = tt
up_lower i j (v ∷ l) h u = (omega (arith, u.0), u.1)

pub up_rising : (count a : ℕ) → Up a (rising count a)
unfolding rising
up_rising zero a = tt
up_rising (suc count) a = (omega arith, up_lower (suc a) (a + 1) (rising count (a + 1)) (omega arith) (up_rising count (a + 1)))

pub up_raise : (i j : ℕ) (l : List Stop) → Up i l → ((v : Stop) → In v l → j ≤ v) → Up j l
up_raise i j [] u h = tt
up_raise i j (v ∷ l) u h = (h v top, u.1)

pub up_keep : (p : Stop → Bool) (i : ℕ) (l : List Stop) → Up i l → Up i (keep p l)
unfolding keep
up_keep p i [] u = tt
up_keep p i (v ∷ l) u =
    let k = up_keep p (suc v) l u.1 in
    either_way (Up i) (p v) (u.0, k) (up_lower i (suc v) (keep p l) (omega (arith, u.0)) k)

pub up_in : (i : ℕ) {v : Stop} {l : List Stop} → Up i l → In v l → i ≤ v
up_in i u top = u.0
up_in i u (down {y = y} h) = omega (arith, u.0, up_in (suc y) u.1 h)
