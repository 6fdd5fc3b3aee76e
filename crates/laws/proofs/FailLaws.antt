-- 01, "Answer numbers": where a test fails, and that it fails there.
use Prim.Native.Nat.{◌<◌, ◌≤◌, suc, zero, ℕ}
use mathlib.Core.Path.{◌∙◌, ◌≡◌, ap, refl, sym}
use mathlib.Core.Logic.{◌≢◌, ◌⊎◌, inl, inr}
use mathlib.Core.Bool.{Bool, ◌&&◌, ◌||◌, false, not, true}
use mathlib.Core.List.{List, [], ◌∷◌}
use native.Mathlib.Omega.{arith}
use lib.Dec.{eqb, leb, ltb}
use lib.ListN.{length}
use borrow.Author.Tests.{eq-eqb, eqb-false, eqb-true, le-ltb, leb-false, lt-leb, ltb-false, ne_eqb, not-false}
use Rattle.rules.specs.Lists.{at, every, when◌then◌else◌, rising, same}
use Rattle.rules.specs.Numbers.{good_list, long, symmetric, within}
use Rattle.rules.specs.Words.{Legs, Stop}
use Rattle.laws.proofs.CheckLaws.{same_is, same_self}
use Rattle.laws.proofs.ChoiceLaws.{either_way, not_so, true_false}
use Rattle.laws.proofs.RisingLaws.{rising_at, rising_length}

-- ---- two tests
pub left_fails : (a b : Bool) → a ≡ false → (a && b) ≡ false
left_fails true b e = absurd (true_false e)
left_fails false b e = refl

pub right_fails : (a b : Bool) → b ≡ false → (a && b) ≡ false
right_fails true b e = e
right_fails false b e = refl

pub either_fails : (a b : Bool) → (a && b) ≡ false → (a ≡ false) ⊎ (b ≡ false)
either_fails true b e = inr e
either_fails false b e = inl refl

pub neither : (a b : Bool) → (a || b) ≡ false → (a ≡ false) × (b ≡ false)
neither true b e = absurd (true_false e)
neither false b e = (refl, e)

-- ---- a test of every element
pub one_fails : (p : ℕ → Bool) (l : List ℕ) → every p l ≡ false → (i : ℕ) × (i < length l) × (p (at l i) ≡ false)
unfolding every
one_fails p [] e = absurd (true_false e)
one_fails p (x ∷ l) e = go (p x) refl e (λ q. one_fails p l q)
  where
    go : (b : Bool) → p x ≡ b → (when b then every p l else false) ≡ false → (every p l ≡ false → (i : ℕ) × (i < length l) × (p (at l i) ≡ false)) → (i : ℕ) × (i < length (x ∷ l)) × (p (at (x ∷ l) i) ≡ false)
    go true h e f = let r = f e in (suc r.0, omega (arith, r.1), r.2)
    go false h e f = (0, omega arith, h)

pub every_fails : (p : ℕ → Bool) (l : List ℕ) (i : ℕ) → i < length l → p (at l i) ≡ false → every p l ≡ false
unfolding every
every_fails p [] i h e = absurd (omega arith)
every_fails p (x ∷ l) zero h e = rw (e, every) refl
every_fails p (x ∷ l) (suc i) h e = either_way (λ (b : Bool). b ≡ false) (p x) (every_fails p l i (omega arith) e) refl

-- of every number below n
at_rising : (n v : ℕ) → v < n → at (rising n 0) v ≡ v
at_rising n v h = omega (arith, rising_at n 0 v h)

pub one_below_fails : (p : ℕ → Bool) (n : ℕ) → every p (rising n 0) ≡ false → (v : ℕ) × (v < n) × (p v ≡ false)
one_below_fails p n e =
    let r = one_fails p (rising n 0) e in
    let h : r.0 < n = omega (arith, r.1, rising_length n 0) in
    (r.0, h, ap p (sym (at_rising n r.0 h)) ∙ r.2)

pub below_fails : (p : ℕ → Bool) (n v : ℕ) → v < n → p v ≡ false → every p (rising n 0) ≡ false
below_fails p n v h e = every_fails p (rising n 0) v (omega (arith, rising_length n 0)) (ap p (at_rising n v h) ∙ e)

-- ---- 1 and 2: from low to high
pub outside : (low high v : ℕ) → within low high v ≡ false → (v < low) ⊎ (high < v)
unfolding within
outside low high v e = elim (either_fails (leb low v) (leb v high) e) [ inl h ↦ inl (leb-false low v h) | inr h ↦ inr (leb-false v high h) ]

pub outside_fails : (low high v : ℕ) → (v < low) ⊎ (high < v) → within low high v ≡ false
unfolding within
outside_fails low high v (inl h) = left_fails (leb low v) (leb v high) (lt-leb low v h)
outside_fails low high v (inr h) = right_fails (leb low v) (leb v high) (lt-leb v high h)

-- ---- 3: lengths
pub one_long : (n a : ℕ) (l : List ℕ) → long n (a ∷ l) ≡ false → (a ≢ n) ⊎ (long n l ≡ false)
unfolding long every
one_long n a l e = go (eqb a n) refl e
  where
    go : (b : Bool) → eqb a n ≡ b → (when b then every (λ w. eqb w n) l else false) ≡ false → (a ≢ n) ⊎ (every (λ w. eqb w n) l ≡ false)
    go true h e = inr e
    go false h e = inl (eqb-false a n h)

pub long_fails : (n : ℕ) (l : List ℕ) (i : ℕ) → i < length l → at l i ≢ n → long n l ≡ false
unfolding long
long_fails n l i h e = every_fails (λ w. eqb w n) l i h (ne_eqb (at l i) n e)

-- ---- 5: "matrix not symmetric"
pub uneven_pair : (n : ℕ) (d : Legs) → symmetric n d ≡ false → (a : Stop) × (b : Stop) × (a < n) × (b < n) × (d a b ≢ d b a)
unfolding symmetric
uneven_pair n d e =
    let r = one_below_fails (λ a. every (λ b. eqb (d a b) (d b a)) (rising n 0)) n e in
    let a = r.0 in
    let s = one_below_fails (λ b. eqb (d a b) (d b a)) n r.2 in
    let b = s.0 in
    (a, b, r.1, s.1, eqb-false (d a b) (d b a) s.2)

pub uneven_fails : (n : ℕ) (d : Legs) (a b : Stop) → a < n → b < n → d a b ≢ d b a → symmetric n d ≡ false
unfolding symmetric
uneven_fails n d a b ha hb h = below_fails (λ a. every (λ b. eqb (d a b) (d b a)) (rising n 0)) n a ha (below_fails (λ b. eqb (d a b) (d b a)) n b hb (ne_eqb (d a b) (d b a) h))

-- ---- 6: "a list entry is n or more, or the stop itself"
entry_bad : (n v e : ℕ) → (ltb e n && not (eqb e v)) ≡ false → (n ≤ e) ⊎ (e ≡ v)
entry_bad n v e h = elim (either_fails (ltb e n) (not (eqb e v)) h) [ inl g ↦ inl (ltb-false e n g) | inr g ↦ inr (eqb-true e v (not-false (eqb e v) g)) ]

bad_entry_fails : (n v e : ℕ) → (n ≤ e) ⊎ (e ≡ v) → (ltb e n && not (eqb e v)) ≡ false
bad_entry_fails n v e (inl h) = left_fails (ltb e n) (not (eqb e v)) (le-ltb e n h)
bad_entry_fails n v e (inr h) = right_fails (ltb e n) (not (eqb e v)) (ap not (eq-eqb e v h))

pub bad_entry : (n : ℕ) (list : Stop → List Stop) → good_list n list ≡ false → (v : Stop) × (i : ℕ) × (v < n) × (i < length (list v)) × ((n ≤ at (list v) i) ⊎ (at (list v) i ≡ v))
unfolding good_list
bad_entry n list e =
    let r = one_below_fails (λ v. every (λ e. ltb e n && not (eqb e v)) (list v)) n e in
    let v = r.0 in
    let s = one_fails (λ e. ltb e n && not (eqb e v)) (list v) r.2 in
    (v, s.0, r.1, s.1, entry_bad n v (at (list v) s.0) s.2)

pub bad_fails : (n : ℕ) (list : Stop → List Stop) (v : Stop) (i : ℕ) → v < n → i < length (list v) → (n ≤ at (list v) i) ⊎ (at (list v) i ≡ v) → good_list n list ≡ false
unfolding good_list
bad_fails n list v i hv hi h =
    below_fails (λ v. every (λ e. ltb e n && not (eqb e v)) (list v)) n v hv (every_fails (λ e. ltb e n && not (eqb e v)) (list v) i hi (bad_entry_fails n v (at (list v) i) h))

-- ---- 7: two lists that are not one
pub differ_fails : (a b : List ℕ) → a ≢ b → same a b ≡ false
differ_fails a b h = not_so (same a b) (λ e. h (same_is a b e))

pub same_fails : (a b : List ℕ) → same a b ≡ false → a ≢ b
same_fails a b e q = true_false (sym (same_self a) ∙ ap (same a) q ∙ e)
