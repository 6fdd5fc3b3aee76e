-- 01, 7: what is left of the three scans from an entry on, as the list of trials that are still to be made.
use Prim.Native.Nat.{ℕ, zero, suc, ◌+◌, ◌-◌, ◌≤◌, ◌<◌}
use mathlib.Core.Path.{◌≡◌, refl, ap, ◌∙◌}
use mathlib.Core.Bool.{Bool, true, false}
use mathlib.Core.List.{List, [], ◌++◌, append_assoc, append-nil}
use native.Mathlib.Omega.{arith}
use native.Mathlib.Numerals.{add-one}
use lib.Dec.{ltb, eqb}
use lib.ListN.{length, drop, drop_of_length-le}
use lib.Seq.{drop-cons}
use Rattle.rules.specs.Words.{Legs, Round, Stop, Time}
use Rattle.rules.specs.Lists.{at, each, keep, keep_while}
use Rattle.rules.specs.Ring.{beside}
use Rattle.rules.specs.Improve.{Scan, Trial, free3, free5, side, sixths, trials, twos}

-- ---- along a list: q fails, a near list's scan is over and an alpha list's goes on; p fails, the entry is skipped
module _ (f : Stop → List Trial) (p q : Stop → Bool) (l : List Stop) (i : ℕ) where
  pub scan_done : length l ≤ i → each f (keep p (keep_while q (drop i l))) ≡ []
  unfolding each keep keep_while
  scan_done h = rw (drop_of_length-le l h)

  module _ (h : i < length l) where
    pub scan_stop : q (at l i) ≡ false → each f (keep p (keep_while q (drop i l))) ≡ []
    unfolding each keep keep_while
    scan_stop e = rw (drop-cons l i 0 h, keep_while, e)

    pub scan_skip : q (at l i) ≡ true → p (at l i) ≡ false → each f (keep p (keep_while q (drop i l))) ≡ each f (keep p (keep_while q (drop (i + 1) l)))
    unfolding each keep keep_while
    scan_skip e n = rw (drop-cons l i 0 h, add-one i, keep_while, e, keep, n)

    pub scan_try : q (at l i) ≡ true → p (at l i) ≡ true → each f (keep p (keep_while q (drop i l))) ≡ f (at l i) ++ each f (keep p (keep_while q (drop (i + 1) l)))
    unfolding each keep keep_while
    scan_try e y = rw (drop-cons l i 0 h, add-one i, keep_while, e, keep, y)

-- ---- the three scans
module _ (add cut : Legs) (list : Stop → List Stop) (scan : Scan) (fwd : Bool) (r : Round) (t1 t2 : Stop) where
  -- the trials of some entries of t4's list
  unfoldable pub fifths : Bool → Stop → Stop → Time → List Stop → List Trial
  fifths after t3 t4 g2 l = each (λ t5. sixths add cut list scan fwd r t1 t2 after t3 t4 t5 (g2 - add t4 t5)) (keep (free5 r t1 t4) (scan (λ t5. ltb (add t4 t5) g2) l))

  -- of the sides of t3 from s on: 0 before it, 1 after it
  unfoldable pub sides : Stop → Time → ℕ → List Trial
  sides t3 g1 zero = side add cut list scan fwd r t1 t2 t3 g1 false ++ side add cut list scan fwd r t1 t2 t3 g1 true
  sides t3 g1 (suc zero) = side add cut list scan fwd r t1 t2 t3 g1 true
  sides t3 g1 (suc (suc s)) = []

  -- of some entries of t2's list
  unfoldable pub thirds : Time → List Stop → List Trial
  thirds g l = each (λ t3. sides t3 (g - add t2 t3) 0) (keep (free3 fwd r t1 t2) (scan (λ t3. ltb (add t2 t3) g) l))

  pub thirds_all : (g : Time) → thirds g (list t2) ≡ trials add cut list scan fwd r t1 t2 g
  unfolding thirds sides trials
  thirds_all g = refl

  -- one side: the 2-opt move, then the entries of t4's list
  side_is : (t3 : Stop) (g1 : Time) (after : Bool) → let t4 = beside fwd r after t3 in let g2 = g1 + cut t3 t4 in
      side add cut list scan fwd r t1 t2 t3 g1 after ≡ twos add cut list scan fwd r t1 t2 after t3 t4 g2 ++ fifths after t3 t4 g2 (list t4)
  unfolding side fifths
  side_is t3 g1 after = refl

  pub sides_turn : (t3 : Stop) (g1 : Time) (s : ℕ) (after : Bool) (t4 : Stop) (g2 : Time) → s < 2 → after ≡ eqb s 1 → t4 ≡ beside fwd r after t3 → g2 ≡ g1 + cut t3 t4
      → sides t3 g1 s ≡ twos add cut list scan fwd r t1 t2 after t3 t4 g2 ++ (fifths after t3 t4 g2 (list t4) ++ sides t3 g1 (s + 1))
  unfolding sides
  sides_turn t3 g1 zero after t4 g2 h a e g =
      rw (g, e, a) (ap (λ (l : List Trial). l ++ side add cut list scan fwd r t1 t2 t3 g1 true) (side_is t3 g1 false) ∙ append_assoc (twos add cut list scan fwd r t1 t2 false t3 _ _) _ _)
  sides_turn t3 g1 (suc zero) after t4 g2 h a e g = rw (g, e, a, append-nil) (side_is t3 g1 true)
  sides_turn t3 g1 (suc (suc s)) after t4 g2 h a e g = absurd (omega arith)

  pub sides_done : (t3 : Stop) (g1 : Time) (s : ℕ) → 2 ≤ s → sides t3 g1 s ≡ []
  unfolding sides
  sides_done t3 g1 zero h = absurd (omega arith)
  sides_done t3 g1 (suc zero) h = absurd (omega arith)
  sides_done t3 g1 (suc (suc s)) h = refl
