-- The place so many steps after a place.
use Prim.Native.Nat.{ℕ, ◌+◌, ◌-◌, ◌≤◌, ◌<◌}
use mathlib.Core.Path.{◌≡◌}
use native.Mathlib.Omega.{arith}
use native.Mathlib.Decide.{dec_lt}
use borrow.Author.Tests.{lt-ltb, le-ltb}
use Rattle.rules.specs.Ring.{next, prev}
use Rattle.laws.proofs.PlaceLaws.{Next, to_0, to_more, next_view, Prev, to_last, to_less, prev_view}
use Rattle.laws.proofs.TurnLaws.{On, low, high}
use Rattle.ring.specs.Around.{wrapped, around}

-- it is the place that is a steps after s
pub on : (n s a : ℕ) → On n s a (around n s a)
unfolding around wrapped
on n s a = go (dec_lt (s + a) n)
  where
    go : Dec (s + a < n) → On n s a (around n s a)
    go (yes h) = low h (simp (lt-ltb _ _ h))
    go (no h) = let g : n ≤ s + a = omega arith in high g (simp (le-ltb _ _ g) (omega arith))

pub around_lt : (n s a : ℕ) → s < n → a ≤ n → around n s a < n
around_lt n s a hs ha = go (around n s a) (on n s a)
  where
    go : (x : ℕ) → On n s a x → x < n
    go x (low h e) = omega arith
    go x (high h e) = omega arith

pub around_0 : (n s : ℕ) → s < n → around n s 0 ≡ s
around_0 n s hs = go (around n s 0) (on n s 0)
  where
    go : (x : ℕ) → On n s 0 x → x ≡ s
    go x (low h e) = omega arith
    go x (high h e) = omega arith

-- one step more
pub next_around : (n s a : ℕ) → s < n → a < n → next n (around n s a) ≡ around n s (a + 1)
next_around n s a hs ha = go _ _ _ (on n s a) (on n s (a + 1)) (next_view n (around n s a))
  where
    go : (x y z : ℕ) → On n s a x → On n s (a + 1) y → Next n x z → z ≡ y
    go x y z (low h e) (low h' e') (to_0 f f') = omega arith
    go x y z (low h e) (low h' e') (to_more f f') = omega arith
    go x y z (low h e) (high h' e') (to_0 f f') = omega arith
    go x y z (low h e) (high h' e') (to_more f f') = omega arith
    go x y z (high h e) (low h' e') (to_0 f f') = omega arith
    go x y z (high h e) (low h' e') (to_more f f') = omega arith
    go x y z (high h e) (high h' e') (to_0 f f') = omega arith
    go x y z (high h e) (high h' e') (to_more f f') = omega arith

-- one step less
pub prev_around : (n s a : ℕ) → s < n → 0 < a → a ≤ n → prev n (around n s a) ≡ around n s (a - 1)
prev_around n s a hs h0 ha = go _ _ _ (on n s a) (on n s (a - 1)) (prev_view n (around n s a))
  where
    go : (x y z : ℕ) → On n s a x → On n s (a - 1) y → Prev n x z → z ≡ y
    go x y z (low h e) (low h' e') (to_last f f') = omega arith
    go x y z (low h e) (low h' e') (to_less f f') = omega arith
    go x y z (low h e) (high h' e') (to_last f f') = omega arith
    go x y z (low h e) (high h' e') (to_less f f') = omega arith
    go x y z (high h e) (low h' e') (to_last f f') = omega arith
    go x y z (high h e) (low h' e') (to_less f f') = omega arith
    go x y z (high h e) (high h' e') (to_last f f') = omega arith
    go x y z (high h e) (high h' e') (to_less f f') = omega arith

-- steps add up
pub around_around : (n s a b : ℕ) → s < n → a + b ≤ n → around n (around n s a) b ≡ around n s (a + b)
around_around n s a b hs hab = go _ _ _ (on n s a) (on n (around n s a) b) (on n s (a + b))
  where
    go : (x y z : ℕ) → On n s a x → On n x b y → On n s (a + b) z → y ≡ z
    go x y z (low h e) (low h' e') (low h'' e'') = omega arith
    go x y z (low h e) (low h' e') (high h'' e'') = omega arith
    go x y z (low h e) (high h' e') (low h'' e'') = omega arith
    go x y z (low h e) (high h' e') (high h'' e'') = omega arith
    go x y z (high h e) (low h' e') (low h'' e'') = omega arith
    go x y z (high h e) (low h' e') (high h'' e'') = omega arith
    go x y z (high h e) (high h' e') (low h'' e'') = omega arith
    go x y z (high h e) (high h' e') (high h'' e'') = omega arith

-- fewer than n steps lead to different places
pub around_inj : (n s a b : ℕ) → s < n → a < n → b < n → around n s a ≡ around n s b → a ≡ b
around_inj n s a b hs ha hb q = go _ _ (on n s a) (on n s b) q
  where
    go : (x y : ℕ) → On n s a x → On n s b y → x ≡ y → a ≡ b
    go x y (low h e) (low h' e') q = omega arith
    go x y (low h e) (high h' e') q = omega arith
    go x y (high h e) (low h' e') q = omega arith
    go x y (high h e) (high h' e') q = omega arith

-- every place is some steps after s
pub record Steps (n s k : ℕ) : Type 0 where
  pub steps : ℕ
  pub short : steps < n
  pub there : k ≡ around n s steps

pub steps_to : (n s k : ℕ) → s < n → k < n → Steps n s k
steps_to n s k hs hk = elim (dec_lt k s) [
  | yes h ↦ let e : k ≡ around n s (k + n - s) = go (k + n - s) _ (on n s (k + n - s)) (omega arith) in record { steps = k + n - s; short = omega arith; there = e }
  | no h ↦ let e : k ≡ around n s (k - s) = here (k - s) _ (on n s (k - s)) (omega arith) in record { steps = k - s; short = omega arith; there = e }
]
  where
    go : (a x : ℕ) → On n s a x → s + a ≡ k + n → k ≡ x
    go a x (low g e) q = omega arith
    go a x (high g e) q = omega arith

    here : (a x : ℕ) → On n s a x → s + a ≡ k → k ≡ x
    here a x (low g e) q = omega arith
    here a x (high g e) q = omega arith
