-- Lists whose every element has a property, as facts and as tests; scans keep it.
use Prim.Native.Nat.{◌<◌, suc, zero, ℕ}
use mathlib.Core.Path.{◌≡◌, refl}
use mathlib.Core.Bool.{Bool, true}
use mathlib.Core.List.{List, [], ◌++◌, ◌∷◌, map}
use native.Mathlib.Omega.{arith}
use lib.Dec.{ltb}
use lib.ListN.{drop, length, take}
use borrow.Author.Tests.{lt-ltb, ltb-true}
use Rattle.rules.specs.Lists.{at, each, every, keep, keep_while}
use Rattle.rules.specs.Words.{Stop}
use Rattle.laws.proofs.ChoiceLaws.{both_true, either_if}

-- every element has a property
pub data All {A : Type 0} (P : A → Type 0) : List A → Type 0 where
  none : All P []
  more : {x : A} {xs : List A} → P x → All P xs → All P (x ∷ xs)

-- one that all things have
pub all_any : {A : Type 0} (xs : List A) → All (λ x. Unit) xs
all_any [] = none
all_any (x ∷ xs) = more tt (all_any xs)

-- a weaker property
pub all_map : {A : Type 0} {P Q : A → Type 0} (xs : List A) → ((x : A) → P x → Q x) → All P xs → All Q xs
all_map [] f none = none
all_map (x ∷ xs) f (more p a) = more (f x p) (all_map xs f a)

-- two properties
pub all_both : {A : Type 0} {P Q : A → Type 0} (xs : List A) → All P xs → All Q xs → All (λ x. P x × Q x) xs
all_both [] none none = none
all_both (x ∷ xs) (more p a) (more q b) = more (p, q) (all_both xs a b)

-- of two lists
pub all_join : {A : Type 0} {P : A → Type 0} (xs ys : List A) → All P xs → All P ys → All P (xs ++ ys)
all_join [] ys none b = b
all_join (x ∷ xs) ys (more p a) b = more p (all_join xs ys a b)

-- of the first of two
pub all_left : {A : Type 0} {P : A → Type 0} (xs ys : List A) → All P (xs ++ ys) → All P xs
all_left [] ys a = none
all_left (x ∷ xs) ys (more p a) = more p (all_left xs ys a)

-- of the second of two
pub all_right : {A : Type 0} {P : A → Type 0} (xs ys : List A) → All P (xs ++ ys) → All P ys
all_right [] ys a = a
all_right (x ∷ xs) ys (more p a) = all_right xs ys a

-- of the first elements
pub all_take : {A : Type 0} {P : A → Type 0} (k : ℕ) (xs : List A) → All P xs → All P (take k xs)
all_take zero xs a = none
all_take (suc k) [] none = none
all_take (suc k) (x ∷ xs) (more p a) = more p (all_take k xs a)

-- of those behind them
pub all_drop : {A : Type 0} {P : A → Type 0} (k : ℕ) (xs : List A) → All P xs → All P (drop k xs)
all_drop zero xs a = a
all_drop (suc k) [] none = none
all_drop (suc k) (x ∷ xs) (more p a) = all_drop k xs a

-- of what each element gives
pub all_each : {A B : Type 0} {P : A → Type 0} {Q : B → Type 0} (f : A → List B) (xs : List A) → ((x : A) → P x → All Q (f x)) → All P xs → All Q (each f xs)
unfolding each
all_each f [] h none = none
all_each f (x ∷ xs) h (more p a) = all_join (f x) (each f xs) (h x p) (all_each f xs h a)

-- of the images
pub all_image : {A B : Type 0} {P : A → Type 0} {Q : B → Type 0} (f : A → B) (xs : List A) → ((x : A) → P x → Q (f x)) → All P xs → All Q (map f xs)
all_image f [] h none = none
all_image f (x ∷ xs) h (more p a) = more (h x p) (all_image f xs h a)

-- a scan that skips what fails, and one that ends there: what is left passed the test
pub all_keep : {A : Type 0} {P : A → Type 0} (p : A → Bool) (xs : List A) → All P xs → All (λ x. P x × (p x ≡ true)) (keep p xs)
unfolding keep
all_keep p [] none = none
all_keep {P = P} p (x ∷ xs) (more h a) = either_if (All (λ x. P x × (p x ≡ true))) (p x) (λ e. more (h, e) (all_keep p xs a)) (λ e. all_keep p xs a)

pub all_while : {A : Type 0} {P : A → Type 0} (p : A → Bool) (xs : List A) → All P xs → All (λ x. P x × (p x ≡ true)) (keep_while p xs)
unfolding keep_while
all_while p [] none = none
all_while {P = P} p (x ∷ xs) (more h a) = either_if (All (λ x. P x × (p x ≡ true))) (p x) (λ e. more (h, e) (all_while p xs a)) (λ e. none)

-- ---- as tests
pub every_all : {A : Type 0} (p : A → Bool) (l : List A) → every p l ≡ true → All (λ x. p x ≡ true) l
unfolding every
every_all p [] e = none
every_all p (x ∷ l) e = let h = both_true (p x) (every p l) e in more h.0 (every_all p l h.1)

pub all_every : {A : Type 0} (p : A → Bool) (l : List A) → All (λ x. p x ≡ true) l → every p l ≡ true
unfolding every
all_every p [] none = refl
all_every p (x ∷ l) (more h a) = rw (h, every) (all_every p l a)

-- ---- every stop of a list is below n
abbrev pub Below : ℕ → List Stop → Type 0
Below n l = All (λ v. v < n) l

-- so is the stop of each place
pub below_at : (n : ℕ) (l : List Stop) → Below n l → (i : ℕ) → i < length l → at l i < n
below_at n [] b i h = absurd (omega arith)
below_at n (x ∷ l) (more k b) zero h = k
below_at n (x ∷ l) (more k b) (suc i) h = below_at n l b i (omega arith)

-- and the other way
pub at_below : (n : ℕ) (l : List Stop) → ((i : ℕ) → i < length l → at l i < n) → Below n l
at_below n [] h = none
at_below n (x ∷ l) h = more (h 0 (omega arith)) (at_below n l (λ i g. h (suc i) (omega arith)))

-- as a test, place by place
pub every_below : (n : ℕ) (l : List Stop) → every (λ v. ltb v n) l ≡ true → (i : ℕ) → i < length l → at l i < n
every_below n l e = below_at n l (all_map l (λ v y. ltb-true v n y) (every_all (λ v. ltb v n) l e))

pub below_every : (n : ℕ) (l : List Stop) → ((i : ℕ) → i < length l → at l i < n) → every (λ v. ltb v n) l ≡ true
below_every n l h = all_every (λ v. ltb v n) l (all_map l (λ v y. lt-ltb v n y) (at_below n l h))
