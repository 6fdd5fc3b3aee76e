-- 01, 13: the exact round is one, and the plain walk over all orders gives it.
use Prim.Native.Nat.{ℕ, zero, suc, ◌+◌, ◌-◌, ◌≤◌, ◌<◌}
use mathlib.Core.Path.{◌≡◌, refl, sym, ap, subst, ◌∙◌}
use mathlib.Core.List.{List, [], ◌∷◌, ◌++◌}
use native.Mathlib.Decide.{ℕ_discrete, dec_lt}
use native.Mathlib.Omega.{arith}
use lib.Dec.{ltb}
use lib.ListN.{length}
use borrow.Author.Tests.{lt-ltb, le-ltb}
use Rattle.rules.specs.Words.{Stop, Time, Round, Legs}
use Rattle.rules.specs.Lists.{when◌then◌else◌, rising}
use Rattle.rules.specs.Ring.{along, lap, recount}
use Rattle.rules.specs.Start.{without}
use Rattle.rules.specs.Exact.{Before, same, less, more, Exact, rounds, cheapest_of, exact_round}
use Rattle.laws.proofs.InLaws.{In, top, down, in_some, in_past, Up, up_rising, up_in}
use Rattle.laws.proofs.WithoutLaws.{without_first}
use Rattle.laws.proofs.OrderLaws.{Order, none, next, order_length, order_self, later, order_round, round_order, before_self, before_before, Sorted, round_in, in_round, rounds_sorted}

-- ---- of two lists of which each stands before the other, or is it, both are one
-- the first stop of a list, and those behind it
head_of : List Stop → Stop
head_of [] = 0
head_of (a ∷ p) = a

tail_of : List Stop → List Stop
tail_of [] = []
tail_of (a ∷ p) = p

-- the same, said of four lists and of which are equal: a match on equal lists themselves would have to delete an equation
before_and_after : {p q r s : List Stop} → Before p q → Before r s → p ≡ s → q ≡ r → p ≡ q
unfolding head_of tail_of
before_and_after same h e f = refl
before_and_after (less l) same e f = absurd (omega (arith, ap length e))
before_and_after (less l) (less k) e f = absurd (omega (arith, ap head_of e, ap head_of f))
before_and_after (less l) (more k) e f = absurd (omega (arith, ap head_of e, ap head_of f))
before_and_after (more h) same e f = absurd (omega (arith, ap length e))
before_and_after (more h) (less k) e f = absurd (omega (arith, ap head_of e, ap head_of f))
before_and_after (more {a = a} h) (more k) e f = ap (λ (t : List Stop). a ∷ t) (before_and_after h k (ap tail_of e) (ap tail_of f))

pub before_both : {p q : List Stop} → Before p q → Before q p → p ≡ q
before_both h k = before_and_after h k refl refl

-- "the first, in dictionary order, of the cheapest rounds from stop 0" is one round
pub exact_unique : {d : Legs} {n : ℕ} {r q : Round} → Exact d n r → Exact d n q → r ≡ q
exact_unique {d} {r = r} {q = q} x y =
    let e : recount d q ≡ recount d r = omega (arith, x.cheapest q y.from_zero, y.cheapest r x.from_zero) in
    before_both (x.first q y.from_zero e) (y.first r x.from_zero (sym e))

-- ---- the same of a walk from any stop
-- what a walk from stop a takes that goes through o in order and home to stop 0
unfoldable pub homeward : Legs → Stop → List Stop → Time
unfolding along
homeward d a o = along d a (o ++ (0 ∷ []))

module _ (d : Legs) (a : Stop) where
  pub homeward_on : (v : Stop) (o : List Stop) → homeward d a (v ∷ o) ≡ d a v + homeward d v o
  unfolding homeward along
  homeward_on v o = refl

  pub homeward_none : homeward d a [] ≡ d a 0
  unfolding homeward along
  homeward_none = omega arith

-- o is the first, in dictionary order, of the cheapest walks from a through each of l and home
pub record First (d : Legs) (a : Stop) (l o : List Stop) : Type 0 where
  pub order : Order l o
  pub cheapest : (q : List Stop) → Order l q → homeward d a o ≤ homeward d a q
  pub first : (q : List Stop) → Order l q → homeward d a q ≡ homeward d a o → Before o q

module _ (d : Legs) where
  -- rounds of as many stops compare as their walks do
  round_le : (o p : List Stop) → length o ≡ length p → homeward d 0 o ≤ homeward d 0 p → recount d (0 ∷ o) ≤ recount d (0 ∷ p)
  unfolding recount lap homeward
  round_le [] [] e h = omega arith
  round_le [] (y ∷ p) e h = absurd (omega arith)
  round_le (x ∷ o) [] e h = absurd (omega arith)
  round_le (x ∷ o) (y ∷ p) e h = h

  round_tie : (o p : List Stop) → length o ≡ length p → recount d (0 ∷ p) ≡ recount d (0 ∷ o) → (homeward d 0 p ≡ homeward d 0 o → Before o p) → Before o p
  unfolding recount lap homeward
  round_tie [] [] e t h = same
  round_tie [] (y ∷ p) e t h = absurd (omega arith)
  round_tie (x ∷ o) [] e t h = absurd (omega arith)
  round_tie (x ∷ o) (y ∷ p) e t h = h t

  pub recount_walk : (o : List Stop) → 0 < length o → recount d (0 ∷ o) ≡ homeward d 0 o
  unfolding recount lap homeward
  recount_walk [] h = absurd (omega arith)
  recount_walk (x ∷ o) h = refl

  pub first_exact : (n : ℕ) (o : List Stop) → 1 ≤ n → First d 0 (later n) o → Exact d n (0 ∷ o)
  first_exact n o h f =
      record {
        from_zero = order_round n o h f.order;
        cheapest = λ q k. let z = round_order n q h k in
            rw z.1 (round_le o z.0 (long z.0 z.2) (f.cheapest z.0 z.2));
        first = λ q k e. let z = round_order n q h k in
            rw z.1 (more (round_tie o z.0 (long z.0 z.2) (subst (λ (r : Round). recount d r ≡ recount d (0 ∷ o)) z.1 e) (f.first z.0 z.2)));
      }
    where
      long : (p : List Stop) → Order (later n) p → length o ≡ length p
      long p k = order_length 1 (up_rising (n - 1) 1) f.order ∙ sym (order_length 1 (up_rising (n - 1) 1) k)

-- ---- the plain walk
-- r is one of rs, none of them is cheaper, and none as cheap stands before it
record Kept (d : Legs) (rs : List Round) (r : Round) : Type 0 where
  there : In r rs
  low : (q : Round) → In q rs → recount d r ≤ recount d q
  tie : (q : Round) → In q rs → recount d q ≡ recount d r → Before r q

module _ (d : Legs) where
  kept_one : (so : Round) → Kept d (so ∷ []) so
  kept_one so = record { there = top; low = lo; tie = ti }
    where
      lo : (q : Round) → In q (so ∷ []) → recount d so ≤ recount d q
      lo q top = omega arith
      lo q (down h) = absurd (omega (arith, in_some h))

      ti : (q : Round) → In q (so ∷ []) → recount d q ≡ recount d so → Before so q
      ti q top e = before_self so
      ti q (down h) e = absurd (omega (arith, in_some h))

  -- r was kept of those from q on, and q is cheaper than `so`
  kept_later : (so q : Round) (rs : List Round) (r : Round) → recount d q < recount d so → Kept d (q ∷ rs) r → Kept d (so ∷ q ∷ rs) r
  kept_later so q rs r l k = record { there = down k.there; low = lo; tie = ti }
    where
      lo : (x : Round) → In x (so ∷ q ∷ rs) → recount d r ≤ recount d x
      lo x top = omega (arith, k.low q top)
      lo x (down h) = k.low x h

      ti : (x : Round) → In x (so ∷ q ∷ rs) → recount d x ≡ recount d r → Before r x
      ti x top e = absurd (omega (arith, k.low q top))
      ti x (down h) e = k.tie x h e

  -- r was kept of `so` and those after q, and q is no cheaper than `so`
  kept_sooner : (so q : Round) (rs : List Round) (r : Round) → recount d so ≤ recount d q → Before so q → Kept d (so ∷ rs) r → Kept d (so ∷ q ∷ rs) r
  kept_sooner so q rs r l b k = record { there = in_past q k.there; low = lo; tie = ti }
    where
      lo : (x : Round) → In x (so ∷ q ∷ rs) → recount d r ≤ recount d x
      lo x top = k.low so top
      lo x (down top) = omega (arith, k.low so top)
      lo x (down (down h)) = k.low x (down h)

      ti : (x : Round) → In x (so ∷ q ∷ rs) → recount d x ≡ recount d r → Before r x
      ti x top e = k.tie so top e
      ti x (down top) e = before_before (k.tie so top (omega (arith, k.low so top))) b
      ti x (down (down h)) e = k.tie x (down h) e

  kept : (so : Round) (rs : List Round) → Sorted (so ∷ rs) → Kept d (so ∷ rs) (cheapest_of d so rs)
  unfolding cheapest_of
  kept so [] s = kept_one so
  kept so (q ∷ rs) s = go (dec_lt (recount d q) (recount d so)) (kept q rs s.1) (kept so rs (λ x h. s.0 x (down h), s.1.1))
    where
      go : Dec (recount d q < recount d so) → Kept d (q ∷ rs) (cheapest_of d q rs) → Kept d (so ∷ rs) (cheapest_of d so rs)
          → Kept d (so ∷ q ∷ rs) (cheapest_of d (when ltb (recount d q) (recount d so) then q else so) rs)
      go (yes l) k k' = rw (lt-ltb (recount d q) (recount d so) l) (kept_later so q rs (cheapest_of d q rs) l k)
      go (no l) k k' = rw (le-ltb (recount d q) (recount d so) (omega arith)) (kept_sooner so q rs (cheapest_of d so rs) (omega arith) (s.0 q top) k')

-- the stops in rising order stand before every other order
order_first : (i : ℕ) (l o : List Stop) → Up i l → Order l o → Before l o
order_first i [] [] u none = same
order_first i [] (v ∷ o) u (next h k) = absurd (omega (arith, in_some h))
order_first i (x ∷ l) [] u h = elim h [ ]
order_first i (x ∷ l) (v ∷ o) u (next h k) =
    elim (ℕ_discrete x v) [
      | yes e ↦
          let z : Order l o = subst (λ (r : List Stop). Order r o) (ap (λ (w : Stop). without w (x ∷ l)) (sym e) ∙ without_first x l u.1) k in
          subst (λ (w : Stop). Before (x ∷ l) (w ∷ o)) e (more (order_first (suc x) l o u.1 z))
      | no ne ↦ let z : x < v = omega (arith, up_in x (omega arith, u.1) h) in less z
    ]

begins : (n : ℕ) → 1 ≤ n → rising n 0 ≡ 0 ∷ later n
unfolding rising
begins zero h = absurd (omega arith)
begins (suc n) h = let e : n ≡ suc n - 1 = omega arith in ap (λ (k : ℕ). 0 ∷ rising k 1) e

in_known : {A : Type 0} {x y : A} {l : List A} → In y l → In x (y ∷ l) → In x l
in_known k top = k
in_known k (down h) = h

-- the plain walk over all orders keeps the exact round
pub plain_exact : (d : Legs) (n : ℕ) → 1 ≤ n → Exact d n (exact_round d n)
unfolding exact_round
plain_exact d n h =
    let all = kept d (0 ∷ later n) (rounds n) (
      λ q k. let z = round_order n q h (in_round n q h k) in
          rw z.1 (more (order_first 1 (later n) z.0 up z.2)),
      rounds_sorted n,
    ) in
    rw (begins n h) (record {
      from_zero = in_round n (cheapest_of d (0 ∷ later n) (rounds n)) h (in_known (round_in n (0 ∷ later n) h (order_round n (later n) h (order_self 1 (later n) up))) all.there);
      cheapest = λ q f. all.low q (down (round_in n q h f));
      first = λ q f e. all.tie q (down (round_in n q h f)) e;
    })
  where
    up : Up 1 (later n)
    up = up_rising (n - 1) 1
