-- 01, 2: `reverse_tour` from place s to place e, journalled. Whichever side is turned, the entry is in range and the same legs change.
use Prim.Native.Nat.{◌%◌, ◌*◌, ◌+◌, ◌-◌, ◌<◌, ◌≤◌, ℕ}
use mathlib.Core.Path.{◌≡◌, refl, sym}
use native.Mathlib.Omega.{arith}
use lib.Dec.{leb, ltb}
use lib.ListN.{length}
use borrow.Author.Tests.{le-ltb, leb-false, leb-true, lt-ltb, ltb-true}
use Rattle.rules.specs.Journal.{Track, carry_out, doing, reversal, reversing}
use Rattle.rules.specs.Lists.{at}
use Rattle.rules.specs.Rewrite.{Stretch, len_of, reverse_at, stretch}
use Rattle.rules.specs.Ring.{next, prev, recount}
use Rattle.rules.specs.Words.{Legs, Place, Round}
use Rattle.laws.proofs.ChoiceLaws.{either_if, either_way}
use Rattle.laws.proofs.EvenLaws.{Even, Reversed, complement_time, reverse_at_time}
use Rattle.laws.proofs.EveryLaws.{Below}
use Rattle.laws.proofs.PlaceLaws.{next_below, on_before, on_next}
use Rattle.laws.proofs.RewriteLaws.{reverse_at_short}
use Rattle.laws.proofs.TurnLaws.{On, high, low, on_mod}

-- the places from s to e: their number, their last, and the place after
pub len_of_on : (n : ℕ) (s e : Place) → s < n → e < n → On n s (len_of n s e - 1) e
unfolding len_of
len_of_on n s e hs he =
    either_if (λ len. On n s (len - 1) e) (leb s e)
    (λ y. let h : s ≤ e = leb-true s e y in low (omega arith) (omega arith))
    (λ y. let h : e < s = leb-false s e y in high (omega arith) (omega arith))

-- one at least
pub len_of_some : (n : ℕ) (s e : Place) → s < n → e < n → 0 < len_of n s e
unfolding len_of
len_of_some n s e hs he = either_way (λ len. 0 < len) (leb s e) (omega arith) (omega arith)

-- n at most
pub len_of_few : (n : ℕ) (s e : Place) → s < n → e < n → len_of n s e ≤ n
unfolding len_of
len_of_few n s e hs he =
    either_if (λ len. len ≤ n) (leb s e)
    (λ y. let h : s ≤ e = leb-true s e y in omega arith)
    (λ y. let h : e < s = leb-false s e y in omega arith)

-- where they are not all, the place after them
pub len_of_next : (n : ℕ) (s e : Place) → s < n → e < n → len_of n s e < n → On n s (len_of n s e) (next n e)
len_of_next n s e hs he h =
    let p = len_of_some n s e hs he in
    let q : len_of n s e - 1 + 1 ≡ len_of n s e = omega arith in
    rw q at (on_next n s (len_of n s e - 1) e hs (omega arith) (len_of_on n s e hs he))

-- the number is the one with which they end there
pub len_of_is : (n : ℕ) (s e : Place) (len : ℕ) → s < n → e < n → 0 < len → len ≤ n → On n s (len - 1) e → len_of n s e ≡ len
len_of_is n s e len hs he h hl o = go (len_of n s e) (len_of_some n s e hs he) (len_of_few n s e hs he) (len_of_on n s e hs he) o
  where
    go : (m : ℕ) → 0 < m → m ≤ n → On n s (m - 1) e → On n s (len - 1) e → m ≡ len
    go m k l (low a p) (low b q) = omega arith
    go m k l (low a p) (high b q) = absurd (omega arith)
    go m k l (high a p) (low b q) = absurd (omega arith)
    go m k l (high a p) (high b q) = omega arith

-- "If twice the length exceeds n, the complement is reversed instead"
pub stretch_others : (n : ℕ) (s e : Place) → n < 2 * len_of n s e → stretch n s e ≡ record { start = next n e; len = n - len_of n s e }
unfolding stretch
stretch_others n s e h = simp (lt-ltb _ _ h)

pub stretch_these : (n : ℕ) (s e : Place) → 2 * len_of n s e ≤ n → stretch n s e ≡ record { start = s; len = len_of n s e }
unfolding stretch
stretch_these n s e h = simp (le-ltb _ _ h)

-- what is really turned stands on the ring
pub record OnRing (n : ℕ) (w : Stretch) : Type 0 where
  pub start_below : w.start < n
  pub len_few : w.len ≤ n

pub stretch_fits : (n : ℕ) (s e : Place) → s < n → e < n → OnRing n (stretch n s e)
unfolding stretch
stretch_fits n s e hs he =
    either_way (OnRing n) (ltb n (2 * len_of n s e))
    (record { start_below = next_below n e he; len_few = omega arith })
    (record { start_below = hs; len_few = len_of_few n s e hs he })

-- "Under 2, nothing moves and nothing is journalled"
module _ (s e : Place) (t : Track) (start : Place) (len : ℕ) (is : record { start = start; len = len } ≡ stretch (length t.round) s e) where
  pub reversing_short : len < 2 → reversing s e t ≡ t
  unfolding reversing
  reversing_short h = rw (← is) (simp (lt-ltb _ _ h))

  pub reversing_long : 2 ≤ len → reversing s e t ≡ doing (reversal start len) t
  unfolding reversing
  reversing_long h = rw (← is) (simp (le-ltb _ _ h))

-- the round that it leaves
pub reversing_is : (s e : Place) (t : Track) → (stretch (length t.round) s e).start ≤ length t.round
    → (reversing s e t).round ≡ reverse_at (stretch (length t.round) s e).start (stretch (length t.round) s e).len t.round
unfolding reversing doing carry_out
reversing_is s e t h =
    let w = stretch (length t.round) s e in
    either_if (λ (u : Track). u.round ≡ reverse_at w.start w.len t.round) (ltb w.len 2) (λ y. sym (reverse_at_short w.start w.len t.round h (ltb-true w.len 2 y))) (λ y. refl)

stretch_time : (d : Legs) (r : Round) → Even d (length r) → Below (length r) r → (s e : Place) → s < length r → e < length r → len_of (length r) s e < length r
    → Reversed d r (prev (length r) s) s e (next (length r) e) (reverse_at (stretch (length r) s e).start (stretch (length r) s e).len r)
unfolding stretch
stretch_time d r even below s e hs he h =
    let n = length r in
    let len = len_of n s e in
    let o = on_mod n s (n - 1) hs (omega arith) in
    let oa : On n s (n - 1) (prev n s) = rw (on_before n s ((s + (n - 1)) % n) hs o) o in
    let pos = len_of_some n s e hs he in
    let oe = len_of_on n s e hs he in
    let ob = len_of_next n s e hs he h in
    either_way (λ (w : Stretch). Reversed d r (prev n s) s e (next n e) (reverse_at w.start w.len r)) (ltb n (2 * len))
    (complement_time d n even r below (prev n s) s e (next n e) len hs pos h oa oe ob)
    (reverse_at_time d n even r below (prev n s) s e (next n e) len hs pos h oa oe ob)

-- `reverse` from s to e: the legs into s and out of e go; the place before s meets e, s meets the place after e
pub reversing_time : (d : Legs) (t : Track) → Even d (length t.round) → Below (length t.round) t.round → (s e : Place) → s < length t.round → e < length t.round
    → len_of (length t.round) s e < length t.round
    → recount d (reversing s e t).round + (d (at t.round (prev (length t.round) s)) (at t.round s) + d (at t.round e) (at t.round (next (length t.round) e)))
    ≡ recount d t.round + (d (at t.round (prev (length t.round) s)) (at t.round e) + d (at t.round s) (at t.round (next (length t.round) e)))
reversing_time d t even below s e hs he h =
    let f = stretch_fits (length t.round) s e hs he in
    rw (reversing_is s e t (omega (arith, f.start_below))) (stretch_time d t.round even below s e hs he h)
