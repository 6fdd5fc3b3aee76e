-- What a level of LK3 seeks: trial by trial, part by part, and what it means for the rule.
use Prim.Native.Nat.{ℕ, ◌-◌, ◌≤◌, ◌<◌}
use mathlib.Core.Path.{◌≡◌, refl, sym, ap, ◌∙◌}
use mathlib.Core.Bool.{Bool, true, false, ◌&&◌}
use mathlib.Core.List.{List, [], ◌∷◌, ◌++◌}
use native.Mathlib.Omega.{arith}
use borrow.Author.Tests.{lt-ltb, le-ltb, ltb-true, ltb-false}
use lib.Dec.{ltb}
use Rattle.rules.specs.Words.{Stop, Time, Legs, Round}
use Rattle.rules.specs.Lists.{keep}
use Rattle.rules.specs.Moves.{two}
use Rattle.rules.specs.Improve.{Trial, twos}
use Rattle.laws.proofs.ChoiceLaws.{either_if, true_false}
use Rattle.moves.specs.Moves.{number_of}
use Rattle.tries.specs.Picks.{Pick, pick, none, first_of}
use Rattle.seeks.specs.Seeks.{Sought, sought, gain_of, better_of, seek_of}

unfoldable pub is_closed : Sought → Bool
is_closed (sought b p) = b

unfoldable pub move_of : Sought → Pick
move_of (sought b p) = p

pub and-false : (a : Bool) → (a && false) ≡ false
and-false true = refl
and-false false = refl

module _ (d : Legs) (t1 : Stop) (may : Trial → Bool) where
  -- what may not be gone on with changes nothing
  pub same_best : (so : Pick) (x : Trial) → may x ≡ false → better_of may so x ≡ so
  unfolding better_of
  same_best so x e = rw (better_of, e, and-false (ltb (gain_of so) x.partial))

  -- a trial that closes
  pub seek_closes : (so : Pick) (x : Trial) (xs : List Trial) → d x.t6 t1 < x.partial → seek_of d t1 may so (x ∷ xs) ≡ sought true (pick (number_of x.case) (x.partial - d x.t6 t1) x.t3 x.t4 x.t5 x.t6)
  unfolding seek_of
  seek_closes so x xs h = rw (seek_of, lt-ltb (d x.t6 t1) x.partial h)

  -- one that doesn't
  pub seek_stays : (so : Pick) (x : Trial) (xs : List Trial) → x.partial ≤ d x.t6 t1 → seek_of d t1 may so (x ∷ xs) ≡ seek_of d t1 may (better_of may so x) xs
  unfolding seek_of
  seek_stays so x xs h = rw (seek_of, le-ltb (d x.t6 t1) x.partial h)

  -- the trials before others close, and decide
  pub part_closes : (xs ys : List Trial) (so p : Pick) → sought true p ≡ seek_of d t1 may so xs → seek_of d t1 may so (xs ++ ys) ≡ sought true p
  unfolding seek_of is_closed
  part_closes [] ys so p e = absurd (true_false (ap is_closed e))
  part_closes (x ∷ xs) ys so p e =
      either_if (λ (w : Sought). sought true p ≡ w → seek_of d t1 may so (x ∷ (xs ++ ys)) ≡ sought true p) (ltb (d x.t6 t1) x.partial)
      (λ y f. rw (seek_of, y) (sym f))
      (λ y f. rw (seek_of, y) (part_closes xs ys (better_of may so x) p f))
      e

  -- or leave a best to go on with, and the others are seen from there
  pub part_stays : (xs ys : List Trial) (so p : Pick) → sought false p ≡ seek_of d t1 may so xs → seek_of d t1 may so (xs ++ ys) ≡ seek_of d t1 may p ys
  unfolding seek_of is_closed move_of
  part_stays [] ys so p e = ap (λ (q : Pick). seek_of d t1 may q ys) (sym (ap move_of e))
  part_stays (x ∷ xs) ys so p e =
      either_if (λ (w : Sought). sought false p ≡ w → seek_of d t1 may so (x ∷ (xs ++ ys)) ≡ seek_of d t1 may p ys) (ltb (d x.t6 t1) x.partial)
      (λ y f. absurd (true_false (sym (ap is_closed f))))
      (λ y f. rw (seek_of, y) (part_stays xs ys (better_of may so x) p f))
      e

  -- a trial that closes is the first that does
  pub seek_first : (xs : List Trial) (so p : Pick) → sought true p ≡ seek_of d t1 may so xs → p ≡ first_of d t1 xs
  unfolding seek_of first_of is_closed move_of
  seek_first [] so p e = absurd (true_false (ap is_closed e))
  seek_first (x ∷ xs) so p e =
      either_if (λ (w : Sought). sought true p ≡ w → p ≡ first_of d t1 (x ∷ xs)) (ltb (d x.t6 t1) x.partial)
      (λ y f. rw (first_of, y) (ap move_of f))
      (λ y f. rw (first_of, y) (seek_first xs (better_of may so x) p f))
      e

  pub seek_gains : (xs : List Trial) (so p : Pick) → sought true p ≡ seek_of d t1 may so xs → 0 < gain_of p
  unfolding seek_of is_closed move_of gain_of
  seek_gains [] so p e = absurd (true_false (ap is_closed e))
  seek_gains (x ∷ xs) so p e =
      either_if (λ (w : Sought). sought true p ≡ w → 0 < gain_of p) (ltb (d x.t6 t1) x.partial)
      (λ y f.
      let k : d x.t6 t1 < x.partial = ltb-true (d x.t6 t1) x.partial y in
      let z : gain_of p ≡ x.partial - d x.t6 t1 = ap (λ (w : Sought). gain_of (move_of w)) f in
      omega arith)
      (λ y f. seek_gains xs (better_of may so x) p f)
      e

  -- where none closes, no first one does
  pub seek_none : (xs : List Trial) (so p : Pick) → sought false p ≡ seek_of d t1 may so xs → none ≡ first_of d t1 xs
  unfolding seek_of first_of is_closed
  seek_none [] so p e = refl
  seek_none (x ∷ xs) so p e =
      either_if (λ (w : Sought). sought false p ≡ w → none ≡ first_of d t1 (x ∷ xs)) (ltb (d x.t6 t1) x.partial)
      (λ y f. absurd (true_false (sym (ap is_closed f))))
      (λ y f. rw (first_of, y) (seek_none xs (better_of may so x) p f))
      e

  -- first trials that may not be gone on with: they close, or change nothing
  pub first_closes : (xs ys : List Trial) (so : Pick) (c : ℕ) (g : Time) (t3 t4 t5 t6 : Stop) → pick c g t3 t4 t5 t6 ≡ first_of d t1 xs → 0 < g → seek_of d t1 may so (xs ++ ys) ≡ sought true (pick c g t3 t4 t5 t6)
  unfolding seek_of first_of none gain_of
  first_closes [] ys so c g t3 t4 t5 t6 e h = let z : g ≡ 0 = ap gain_of e in absurd (omega arith)
  first_closes (x ∷ xs) ys so c g t3 t4 t5 t6 e h =
      either_if (λ (w : Pick). pick c g t3 t4 t5 t6 ≡ w → seek_of d t1 may so (x ∷ (xs ++ ys)) ≡ sought true (pick c g t3 t4 t5 t6)) (ltb (d x.t6 t1) x.partial)
      (λ y f. rw (seek_of, y) (ap (sought true) (sym f)))
      (λ y f. rw (seek_of, y) (first_closes xs ys (better_of may so x) c g t3 t4 t5 t6 f h))
      e

  -- a 2-opt move that does not close changes nothing
  pub two_stays : ((x : Trial) → x.case ≡ two → may x ≡ false) → (list : Stop → List Stop) (fwd : Bool) (r : Round) (t2 : Stop) (after : Bool) (t3 t4 : Stop) (g2 : Time) (ys : List Trial) (so : Pick) (c : ℕ) (w : Time) (s3 s4 s5 s6 : Stop)
      → pick c w s3 s4 s5 s6 ≡ first_of d t1 (twos d d list keep fwd r t1 t2 after t3 t4 g2) → w ≤ 0 → seek_of d t1 may so (twos d d list keep fwd r t1 t2 after t3 t4 g2 ++ ys) ≡ seek_of d t1 may so ys
  unfolding twos first_of none gain_of
  two_stays never list fwd r t2 true t3 t4 g2 ys so c w s3 s4 s5 s6 e h = refl
  two_stays never list fwd r t2 false t3 t4 g2 ys so c w s3 s4 s5 s6 e h =
      let x : Trial = record { case = two; t3 = t3; t4 = t4; t5 = t4; t6 = t4; partial = g2 } in
      either_if (λ (q : Pick). pick c w s3 s4 s5 s6 ≡ q → seek_of d t1 may so (x ∷ ys) ≡ seek_of d t1 may so ys) (ltb (d t4 t1) g2)
      (λ y f.
      let k : d t4 t1 < g2 = ltb-true (d t4 t1) g2 y in
      let z : w ≡ g2 - d t4 t1 = ap gain_of f in
      absurd (omega arith))
      (λ y f. seek_stays so x ys (ltb-false (d t4 t1) g2 y) ∙ ap (λ (q : Pick). seek_of d t1 may q ys) (same_best so x (never x refl)))
      e
