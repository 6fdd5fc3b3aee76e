-- 01, 9, "Alpha scans skip a failing entry and go on": what is left of such a scan from an entry on.
use Prim.Native.Nat.{ℕ, ◌+◌, ◌≤◌, ◌<◌}
use mathlib.Core.Path.{◌≡◌}
use mathlib.Core.Bool.{Bool, true, false}
use mathlib.Core.List.{List, [], ◌++◌}
use native.Mathlib.Numerals.{add-one}
use lib.ListN.{length, drop, drop_of_length-le}
use lib.Seq.{drop-cons}
use Rattle.rules.specs.Words.{Stop}
use Rattle.rules.specs.Lists.{at, each, keep}
use Rattle.rules.specs.Improve.{Trial}

-- q fails or p fails: the entry is skipped
module _ (f : Stop → List Trial) (p q : Stop → Bool) (l : List Stop) (i : ℕ) where
  pub skip_done : length l ≤ i → each f (keep p (keep q (drop i l))) ≡ []
  unfolding each keep
  skip_done h = rw (drop_of_length-le l h)

  module _ (h : i < length l) where
    pub skip_poor : q (at l i) ≡ false → each f (keep p (keep q (drop i l))) ≡ each f (keep p (keep q (drop (i + 1) l)))
    unfolding each keep
    skip_poor e = rw (drop-cons l i 0 h, add-one i, keep, e)

    pub skip_barred : q (at l i) ≡ true → p (at l i) ≡ false → each f (keep p (keep q (drop i l))) ≡ each f (keep p (keep q (drop (i + 1) l)))
    unfolding each keep
    skip_barred e n = rw (drop-cons l i 0 h, add-one i, keep, e, keep, n)

    pub skip_try : q (at l i) ≡ true → p (at l i) ≡ true → each f (keep p (keep q (drop i l))) ≡ f (at l i) ++ each f (keep p (keep q (drop (i + 1) l)))
    unfolding each keep
    skip_try e y = rw (drop-cons l i 0 h, add-one i, keep, e, keep, y)
