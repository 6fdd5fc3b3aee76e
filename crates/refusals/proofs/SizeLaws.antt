-- 1 to 4: sizes and lengths, test by test, and what they are where none fails.
use Prim.Native.Nat.{ℕ, suc, ◌*◌, ◌/◌, ◌<◌, ◌≤◌}
use mathlib.Core.Path.{◌≡◌, refl}
use mathlib.Core.Logic.{◌≢◌}
use mathlib.Core.Bool.{Bool, true, false, ◌&&◌}
use mathlib.Core.List.{List, [], ◌∷◌}
use native.Mathlib.Omega.{arith}
use borrow.Author.Tests.{le-leb, lt-leb, leb-true, eq-eqb, ne_eqb, eqb-true}
use lib.Dec.{leb, eqb}
use lib.ListN.{length}
use Rattle.rules.specs.Lists.{when◌then◌else◌, at, every}
use Rattle.rules.specs.Numbers.{◌or◌, verdict, within, good_sizes, long}
use Rattle.laws.proofs.ChoiceLaws.{and-true, both_true}
use Rattle.refusals.specs.Refusing.{size_checks, plan_long, length_checks}
use Rattle.refusals.proofs.VerdictLaws.{verdict_none}

-- ---- 1 and 2
module _ (n k ka : ℕ) (told : Bool) where
  pub few_stops : n < 2 → 1 ≡ verdict (size_checks n k ka told)
  unfolding verdict size_checks within
  few_stops h = simp (lt-leb 2 n h)

  pub many_stops : 4096 < n → 1 ≡ verdict (size_checks n k ka told)
  unfolding verdict size_checks within
  many_stops h = let low : 2 ≤ n = omega arith in simp (le-leb 2 n low, lt-leb n 4096 h)

  module _ (low : 2 ≤ n) (high : n ≤ 4096) where
    pub no_near : k < 1 → 2 ≡ verdict (size_checks n k ka told)
    unfolding verdict size_checks within good_sizes
    no_near h = simp (le-leb 2 n low, le-leb n 4096 high, lt-leb 1 k h)

    pub many_near : 20 < k → 2 ≡ verdict (size_checks n k ka told)
    unfolding verdict size_checks within good_sizes
    many_near h = let some : 1 ≤ k = omega arith in simp (le-leb 2 n low, le-leb n 4096 high, le-leb 1 k some, lt-leb k 20 h)

    module _ (some : 1 ≤ k) (short : k ≤ 20) where
      pub many_alpha : 5 < ka → 2 ≡ verdict (size_checks n k ka told)
      unfolding verdict size_checks within good_sizes
      many_alpha h = simp (le-leb 2 n low, le-leb n 4096 high, le-leb 1 k some, le-leb k 20 short, lt-leb ka 5 h)

      module _ (short_alpha : ka ≤ 5) where
        pub not_told : told ≡ false → 2 ≡ verdict (size_checks n k ka told)
        unfolding verdict size_checks within good_sizes
        not_told h = simp (le-leb 2 n low, le-leb n 4096 high, le-leb 1 k some, le-leb k 20 short, le-leb ka 5 short_alpha, h)

        pub is_told : told ≡ true → 0 ≡ verdict (size_checks n k ka told)
        unfolding verdict size_checks within good_sizes
        is_told h = simp (le-leb 2 n low, le-leb n 4096 high, le-leb 1 k some, le-leb k 20 short, le-leb ka 5 short_alpha, h)

  -- none fails
  pub record Sized : Type 0 where
    pub two : 2 ≤ n
    pub few : n ≤ 4096
    pub some_near : 1 ≤ k
    pub short_near : k ≤ 20
    pub short_alpha : ka ≤ 5
    pub asked : told ≡ true

  pub sized : verdict (size_checks n k ka told) ≡ 0 → Sized
  unfolding size_checks every within good_sizes
  sized e =
      let o = verdict_none (size_checks n k ka told) refl e in
      let a = both_true (within 2 4096 n) (every (λ c. c.ok) (((good_sizes k ka && told) or 2) ∷ [])) o in
      let b = both_true (good_sizes k ka && told) true a.1 in
      let f = and-true (good_sizes k ka) told b.0 in
      let g = and-true (within 1 20 k) (leb ka 5) f.0 in
      let i = and-true (leb 2 n) (leb n 4096) a.0 in
      let j = and-true (leb 1 k) (leb k 20) g.0 in
      record { two = leb-true 2 n i.0; few = leb-true n 4096 i.1; some_near = leb-true 1 k j.0; short_near = leb-true k 20 j.1; short_alpha = leb-true ka 5 g.1; asked = f.1 }

-- ---- 3 and 4
module _ (n k ka cells near alpha : ℕ) where
  pub odd_cells : cells ≢ n * n → false ≡ plan_long n k ka cells near alpha
  unfolding plan_long
  odd_cells h = simp (ne_eqb cells (n * n) h)

  pub odd_near : cells ≡ n * n → near ≢ n * k → false ≡ plan_long n k ka cells near alpha
  unfolding plan_long
  odd_near c h = simp (eq-eqb cells (n * n) c, ne_eqb near (n * k) h)

  pub plan_left : cells ≡ n * n → near ≡ n * k → eqb alpha (n * ka) ≡ plan_long n k ka cells near alpha
  unfolding plan_long
  plan_left c h = simp (eq-eqb cells (n * n) c, eq-eqb near (n * k) h)

  module _ (lengths : List ℕ) (words : ℕ) where
    pub record Long : Type 0 where
      pub cells_are : cells ≡ n * n
      pub near_are : near ≡ n * k
      pub alpha_are : alpha ≡ n * ka
      pub lengths_are : long n lengths ≡ true
      pub room : 512 ≤ words / 5

    pub long_all : verdict (length_checks n k ka cells near alpha lengths words) ≡ 0 → Long
    unfolding length_checks every plan_long
    long_all e =
        let o = verdict_none (length_checks n k ka cells near alpha lengths words) refl e in
        let a = both_true (plan_long n k ka cells near alpha && long n lengths) (every (λ c. c.ok) ((leb 512 (words / 5) or 4) ∷ [])) o in
        let b = both_true (leb 512 (words / 5)) true a.1 in
        let f = and-true (plan_long n k ka cells near alpha) (long n lengths) a.0 in
        let g = and-true (eqb cells (n * n) && eqb near (n * k)) (eqb alpha (n * ka)) f.0 in
        let h = and-true (eqb cells (n * n)) (eqb near (n * k)) g.0 in
        record { cells_are = eqb-true cells (n * n) h.0; near_are = eqb-true near (n * k) h.1; alpha_are = eqb-true alpha (n * ka) g.1; lengths_are = f.1; room = leb-true 512 (words / 5) b.0 }

-- the last of the lengths
pub last_long : (n x : ℕ) → eqb x n ≡ long n (x ∷ [])
unfolding long every
last_long n x = go (eqb x n)
  where
    go : (b : Bool) → b ≡ (when b then true else false)
    go true = refl
    go false = refl

-- and those before it
pub long_fails : (n x : ℕ) (xs : List ℕ) → x ≢ n → false ≡ long n (x ∷ xs)
unfolding long every
long_fails n x xs h = rw (ne_eqb x n h, every) refl

pub long_next : (n x : ℕ) (xs : List ℕ) (b : Bool) → x ≡ n → b ≡ long n xs → b ≡ long n (x ∷ xs)
unfolding long every
long_next n x xs b h e = rw (eq-eqb x n h, every) e

pub long_each : (n : ℕ) (xs : List ℕ) → ((x : ℕ) → x < length xs → at xs x ≡ n) → true ≡ long n xs
unfolding long every
long_each n [] h = refl
long_each n (y ∷ ys) h = long_next n y ys true (h 0 (omega arith)) (long_each n ys (λ x p. h (suc x) (omega (arith, p))))

-- 3 and 4, by the tests of the lengths
module _ (n k ka cells near alpha : ℕ) (lengths : List ℕ) (words : ℕ) where
  pub plan_short : plan_long n k ka cells near alpha ≡ false → 3 ≡ verdict (length_checks n k ka cells near alpha lengths words)
  unfolding verdict length_checks
  plan_short e = rw e refl

  pub some_short : plan_long n k ka cells near alpha ≡ true → long n lengths ≡ false → 3 ≡ verdict (length_checks n k ka cells near alpha lengths words)
  unfolding verdict length_checks
  some_short e f = rw (e, f) refl

  pub room_short : plan_long n k ka cells near alpha ≡ true → long n lengths ≡ true → words / 5 < 512 → 4 ≡ verdict (length_checks n k ka cells near alpha lengths words)
  unfolding verdict length_checks
  room_short e f h = rw (e, f, lt-leb 512 (words / 5) h) refl

  pub none_short : plan_long n k ka cells near alpha ≡ true → long n lengths ≡ true → 512 ≤ words / 5 → 0 ≡ verdict (length_checks n k ka cells near alpha lengths words)
  unfolding verdict length_checks
  none_short e f h = rw (e, f, le-leb 512 (words / 5) h) refl
