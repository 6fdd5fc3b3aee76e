-- 01, 13: the orders of a list of stops are its permutations, in dictionary order; behind stop 0 they are the rounds from stop 0.
use Prim.Native.Nat.{ℕ, zero, suc, ◌+◌, ◌-◌, ◌≤◌, ◌<◌}
use mathlib.Core.Path.{◌≡◌, refl, sym, ap, subst}
use mathlib.Core.Logic.{◌⊎◌, inl, inr, ⊎_elim, ◌≢◌}
use mathlib.Core.Bool.{true}
use mathlib.Core.List.{List, [], ◌∷◌, ◌++◌, map}
use native.Mathlib.Decide.{ℕ_discrete}
use native.Mathlib.Omega.{arith}
use lib.Dec.{eqb}
use lib.ListN.{length}
use borrow.Author.Tests.{eq-eqb, eqb-true}
use Rattle.rules.specs.Words.{Stop, Round}
use Rattle.rules.specs.Lists.{rising, each, every, one, tally}
use Rattle.rules.specs.Ring.{is_round}
use Rattle.rules.specs.Start.{without}
use Rattle.rules.specs.Exact.{Before, same, less, more, FromZero, orders, rounds}
use Rattle.laws.proofs.ChoiceLaws.{and-true}
use Rattle.laws.proofs.InLaws.{In, top, down, in_some, in_either, in_map, map_in, in_each, each_in, in_rising, rising_in, Up, up_rising, up_in}
use Rattle.laws.proofs.RisingLaws.{every_rising, rising_every, rising_length}
use Rattle.laws.proofs.TallyLaws.{one_other, one_same}
use Rattle.laws.proofs.WithoutLaws.{without_in, up_without, without_other, without_first, length_without, without_length, without_tally_other}

-- o goes through each of l once
pub data Order : List Stop → List Stop → Type 0 where
  none : Order [] []
  next : {v : Stop} {l o : List Stop} → In v l → Order (without v l) o → Order l (v ∷ o)

pub order_length : (i : ℕ) {l o : List Stop} → Up i l → Order l o → length o ≡ length l
order_length i u none = refl
order_length i {l} u (next {v = v} h k) = omega (arith, length_without v i u h, order_length i (up_without v i l u) k)

-- the list itself is the first of its orders
pub order_self : (i : ℕ) (l : List Stop) → Up i l → Order l l
order_self i [] u = none
order_self i (v ∷ l) u = next top (subst (λ (r : List Stop). Order r l) (sym (without_first v l u.1)) (order_self (suc v) l u.1))

-- ---- as computed
pub order_in : (count i : ℕ) {l o : List Stop} → Up i l → length l ≡ count → Order l o → In o (orders count l)
unfolding orders
order_in zero i u e none = top
order_in zero i u e (next h k) = absurd (omega (arith, in_some h))
order_in (suc count) i u e none = absurd (omega arith)
order_in (suc count) i {l} u e (next {v = v} h k) =
    in_each (λ w. map (λ r. w ∷ r) (orders count (without w l))) h
    (in_map (λ r. v ∷ r) (order_in count i (up_without v i l u) (omega (arith, length_without v i u h)) k))

pub in_order : (count i : ℕ) (l : List Stop) {o : List Stop} → Up i l → length l ≡ count → In o (orders count l) → Order l o
unfolding orders
in_order zero i [] u e top = none
in_order zero i [] u e (down h) = absurd (omega (arith, in_some h))
in_order zero i (v ∷ l) u e h = absurd (omega arith)
in_order (suc count) i l u e h =
    let r = each_in (λ w. map (λ q. w ∷ q) (orders count (without w l))) l h in
    let v = r.0 in
    let q = map_in (λ x. v ∷ x) (orders count (without v l)) r.2 in
    subst (Order l) (sym q.2) (next r.1 (in_order count i (without v l) (up_without v i l u) (omega (arith, length_without v i u r.1)) q.1))

-- ---- in dictionary order
pub before_self : (o : List Stop) → Before o o
before_self [] = same
before_self (v ∷ o) = more (before_self o)

pub before_before : {p q r : List Stop} → Before p q → Before q r → Before p r
before_before same h = h
before_before (less {a = a} l) (less {b = c} k) = let z : a < c = omega arith in less z
before_before (less l) (more h) = less l
before_before (more h) (less l) = less l
before_before (more h) (more k) = more (before_before h k)

abbrev pub Sorted : List (List Stop) → Type 0
Sorted [] = Unit {0}
Sorted (o ∷ os) = ((q : List Stop) → In q os → Before o q) × Sorted os

pub sorted_map : (v : Stop) (os : List (List Stop)) → Sorted os → Sorted (map (λ o. v ∷ o) os)
sorted_map v [] s = tt
sorted_map v (o ∷ os) s =
    (λ q h. let r = map_in (λ x. v ∷ x) os h in subst (Before (v ∷ o)) (sym r.2) (more (s.0 r.0 r.1)), sorted_map v os s.1)

sorted_join : (os ps : List (List Stop)) → Sorted os → Sorted ps → ((o p : List Stop) → In o os → In p ps → Before o p) → Sorted (os ++ ps)
sorted_join [] ps s t h = t
sorted_join (o ∷ os) ps s t h =
    (λ q k. ⊎_elim (λ z. s.0 q z) (λ z. h o q top z) (in_either os k), sorted_join os ps s.1 t (λ p q a b. h p q (down a) b))

-- the lists that begin with one stop stand before those that begin with a later one
sorted_each : (f : Stop → List (List Stop)) → ((v : Stop) → Sorted (map (λ o. v ∷ o) (f v))) → (i : ℕ) (l : List Stop) → Up i l
    → Sorted (each (λ v. map (λ o. v ∷ o) (f v)) l)
unfolding each
sorted_each f s i [] u = tt
sorted_each f s i (v ∷ l) u =
    sorted_join (map (λ o. v ∷ o) (f v)) (each (λ w. map (λ o. w ∷ o) (f w)) l) (s v) (sorted_each f s (suc v) l u.1)
    (λ o p a b.
    let x = map_in (λ r. v ∷ r) (f v) a in
    let y = each_in (λ w. map (λ r. w ∷ r) (f w)) l b in
    let z = map_in (λ r. y.0 ∷ r) (f y.0) y.2 in
    let h : v < y.0 = up_in (suc v) u.1 y.1 in
    rw (x.2, z.2) (less h))

pub orders_sorted : (count i : ℕ) (l : List Stop) → Up i l → Sorted (orders count l)
unfolding orders
orders_sorted zero i l u = (λ q h. absurd (omega (arith, in_some h)), tt)
orders_sorted (suc count) i l u =
    sorted_each (λ v. orders count (without v l)) (λ v. sorted_map v (orders count (without v l)) (orders_sorted count i (without v l) (up_without v i l u))) i l u

-- ---- by tally
-- of a list that rises each is there once
up_none : (i : ℕ) (l : List Stop) → Up i l → (v : Stop) → v < i → tally l v ≡ 0
unfolding tally
up_none i [] u v h = refl
up_none i (x ∷ l) u v h =
    let ne : x ≢ v = omega (arith, u.0) in
    omega (arith, one_other ne, up_none (suc x) l u.1 v (omega (arith, u.0)))

up_once : (i : ℕ) {v : Stop} {l : List Stop} → Up i l → In v l → tally l v ≡ 1
unfolding tally
up_once i {v} u (top {l = l}) = omega (arith, one_same (refl {a = v}), up_none (suc v) l u.1 v (omega arith))
up_once i {v} u (down {y = y} h) =
    let ne : y ≢ v = omega (arith, up_in (suc y) u.1 h) in
    omega (arith, one_other ne, up_once (suc y) u.1 h)

tally_without : (k : Stop) (i : ℕ) {l : List Stop} → Up i l → In k l → (v : Stop) → tally l v ≡ one k v + tally (without k l) v
unfolding tally
tally_without k i u (top {l = l}) v = ap (λ (r : List Stop). one k v + tally r v) (sym (without_first k l u.1))
tally_without k i u (down {y = y} {l = l} h) v =
    let ne : y ≢ k = omega (arith, up_in (suc y) u.1 h) in
    rw (without_other k y l ne) (omega (arith, tally_without k (suc y) u.1 h v))

pub order_tally : (i : ℕ) {l o : List Stop} → Up i l → Order l o → (v : Stop) → tally o v ≡ tally l v
unfolding tally
order_tally i u none v = refl
order_tally i {l} u (next {v = k} h q) v = omega (arith, tally_without k i u h v, order_tally i (up_without k i l u) q v)

-- a list that has all of l is no shorter
tally_room : (i : ℕ) (l o : List Stop) → Up i l → ((v : Stop) → In v l → 1 ≤ tally o v) → length l ≤ length o
tally_room i [] o u h = omega arith
tally_room i (x ∷ l) o u h =
    let on = tally_room (suc x) l (without x o) u.1 (λ v k. let d : x ≢ v = omega (arith, up_in (suc x) u.1 k) in omega (arith, without_tally_other x v o d, h v (down k))) in
    omega (arith, without_length x o, h x top)

in_or_not : (v : Stop) (l : List Stop) → In v l ⊎ (In v l → ⊥)
in_or_not v [] = inr (λ h. omega (arith, in_some h))
in_or_not v (x ∷ l) =
    elim (ℕ_discrete x v) [
      | yes e ↦ inl (subst (λ y. In y (x ∷ l)) e top)
      | no ne ↦ ⊎_elim (λ h. inl (down h)) (λ h. inr (λ k. ne (other k h))) (in_or_not v l)
    ]
  where
    other : {y : Stop} {r : List Stop} → In v (y ∷ r) → (In v r → ⊥) → y ≡ v
    other top h = refl
    other (down k) h = absurd (h k)

-- as long as l, and each of l once: an order of l
pub tally_order : (i : ℕ) (l o : List Stop) → Up i l → length o ≡ length l → ((v : Stop) → In v l → tally o v ≡ 1) → Order l o
unfolding tally
tally_order i [] [] u e h = none
tally_order i (x ∷ l) [] u e h = absurd (omega arith)
tally_order i l (k ∷ o) u e h =
    ⊎_elim
    (λ z. next z (tally_order i (without k l) o (up_without k i l u) (omega (arith, length_without k i u z))
    (λ v y. let r = without_in k l y in let d : k ≢ v = λ same. r.1 (sym same) in omega (arith, h v r.0, one_other d))))
    (λ out. absurd (omega (arith, tally_room i l o u (λ v z. omega (arith, h v z, apart out v z)))))
    (in_or_not k l)
  where
    apart : (In k l → ⊥) → (v : Stop) → In v l → one k v ≡ 0
    apart out v z = one_other (λ same. out (subst (λ y. In y l) (sym same) z))

-- ---- the rounds from stop 0
-- the stops but stop 0
abbrev pub later : ℕ → List Stop
later n = rising (n - 1) 1

pub order_round : (n : ℕ) (o : List Stop) → 1 ≤ n → Order (later n) o → FromZero n (0 ∷ o)
unfolding is_round tally
order_round n o h k = record { zero_first = refl; each_once = rw (long, every_stop) }
  where
    up : Up 1 (later n)
    up = up_rising (n - 1) 1

    long : eqb (suc (length o)) n ≡ true
    long = eq-eqb (suc (length o)) n (omega (arith, order_length 1 up k, rising_length (n - 1) 1))

    each_one : (v : Stop) → v < n → tally (0 ∷ o) v ≡ 1
    each_one v l =
        elim (ℕ_discrete 0 v) [
          | yes e ↦ omega (arith, ap (λ z. one z v) e, one_same (refl {a = v}), order_tally 1 up k v, up_none 1 (later n) up v (omega arith))
          | no ne ↦ omega (arith, one_other ne, order_tally 1 up k v, up_once 1 up (in_rising (n - 1) 1 v (omega arith) (omega arith)))
        ]

    every_stop : every (λ v. eqb (tally (0 ∷ o) v) 1) (rising n 0) ≡ true
    every_stop = rising_every (λ v. eqb (tally (0 ∷ o) v) 1) n 0 (λ v a b. eq-eqb (tally (0 ∷ o) v) 1 (each_one v (omega arith)))

pub round_order : (n : ℕ) (r : Round) → 1 ≤ n → FromZero n r → (o : List Stop) × (r ≡ 0 ∷ o) × Order (later n) o
unfolding is_round tally
round_order n [] h f = absurd (omega (arith, eqb-true 0 n (and-true (eqb 0 n) (every (λ v. eqb (tally [] v) 1) (rising n 0)) f.each_once).0))
round_order n (x ∷ o) h f = (
  o,
  ap (λ (v : Stop). v ∷ o) f.zero_first,
  tally_order 1 (later n) o (up_rising (n - 1) 1) (omega (arith, rising_length (n - 1) 1, eqb-true (suc (length o)) n tests.0))
      (λ v z. let b = rising_in (n - 1) 1 z in let ne : x ≢ v = omega (arith, f.zero_first) in
      omega (arith, one_other ne, eqb-true (tally (x ∷ o) v) 1 (every_rising (λ w. eqb (tally (x ∷ o) w) 1) n 0 tests.1 v (omega arith) (omega arith)))),
)
  where
    tests : (eqb (suc (length o)) n ≡ true) × (every (λ v. eqb (tally (x ∷ o) v) 1) (rising n 0) ≡ true)
    tests = and-true (eqb (suc (length o)) n) (every (λ v. eqb (tally (x ∷ o) v) 1) (rising n 0)) f.each_once

-- the rounds that the rule goes through are these, and stand in dictionary order
pub round_in : (n : ℕ) (r : Round) → 1 ≤ n → FromZero n r → In r (rounds n)
unfolding rounds
round_in n r h f =
    let z = round_order n r h f in
    subst (λ (q : Round). In q (rounds n)) (sym z.1) (in_map (λ o. 0 ∷ o) (order_in (n - 1) 1 (up_rising (n - 1) 1) (rising_length (n - 1) 1) z.2))

pub in_round : (n : ℕ) (r : Round) → 1 ≤ n → In r (rounds n) → FromZero n r
unfolding rounds
in_round n r h k =
    let z = map_in (λ o. 0 ∷ o) (orders (n - 1) (later n)) k in
    subst (FromZero n) (sym z.2) (order_round n z.0 h (in_order (n - 1) 1 (later n) (up_rising (n - 1) 1) (rising_length (n - 1) 1) z.1))

pub rounds_sorted : (n : ℕ) → Sorted (rounds n)
unfolding rounds
rounds_sorted n = sorted_map 0 (orders (n - 1) (later n)) (orders_sorted (n - 1) 1 (later n) (up_rising (n - 1) 1))
