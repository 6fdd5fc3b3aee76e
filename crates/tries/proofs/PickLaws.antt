-- The first of some trials that closes with a gain: trial by trial, and part by part.
use Prim.Native.Nat.{ℕ, ◌-◌, ◌≤◌, ◌<◌}
use mathlib.Core.Path.{◌≡◌, refl, sym, ap, ◌∙◌}
use mathlib.Core.List.{List, [], ◌∷◌, ◌++◌}
use native.Mathlib.Omega.{arith}
use borrow.Author.Tests.{lt-ltb, le-ltb, ltb-true}
use lib.Dec.{ltb}
use Rattle.rules.specs.Words.{Stop, Time, Legs}
use Rattle.rules.specs.Improve.{Trial}
use Rattle.laws.proofs.ChoiceLaws.{either_if}
use Rattle.moves.specs.Moves.{number_of}
use Rattle.tries.specs.Picks.{Pick, pick, none, first_of, Chosen}

gain_of : Pick → Time
gain_of (pick c g t3 t4 t5 t6) = g

-- the same move under another name
pub chosen_is : {n : ℕ} {p q : Pick} {c : ℕ} {g : Time} {t3 t4 t5 t6 : Stop} → p ≡ q → Chosen n p c g t3 t4 t5 t6 → Chosen n q c g t3 t4 t5 t6
chosen_is e h = record { is = h.is ∙ e; low3 = h.low3; low4 = h.low4; low5 = h.low5; low6 = h.low6 }

module _ (d : Legs) (t1 : Stop) where
  -- a trial that closes with the gain g
  pub first_gains : (x : Trial) (xs : List Trial) (g : Time) → g ≡ x.partial - d x.t6 t1 → 0 < g → first_of d t1 (x ∷ xs) ≡ pick (number_of x.case) g x.t3 x.t4 x.t5 x.t6
  unfolding first_of
  first_gains x xs g e h = let k : d x.t6 t1 < x.partial = omega arith in rw (e, lt-ltb (d x.t6 t1) x.partial k, first_of)

  -- and one that doesn't
  pub first_fails : (x : Trial) (xs : List Trial) (g : Time) → g ≡ x.partial - d x.t6 t1 → g ≤ 0 → first_of d t1 (x ∷ xs) ≡ first_of d t1 xs
  unfolding first_of
  first_fails x xs g e h = let k : x.partial ≤ d x.t6 t1 = omega arith in rw (le-ltb (d x.t6 t1) x.partial k, first_of)

  -- the trials before others find a gain, and decide
  pub part_gains : (xs ys : List Trial) (c : ℕ) (g : Time) (t3 t4 t5 t6 : Stop) → pick c g t3 t4 t5 t6 ≡ first_of d t1 xs → 0 < g → first_of d t1 (xs ++ ys) ≡ pick c g t3 t4 t5 t6
  unfolding first_of none gain_of
  part_gains [] ys c g t3 t4 t5 t6 e h = let z : g ≡ 0 = ap gain_of e in absurd (omega arith)
  part_gains (x ∷ xs) ys c g t3 t4 t5 t6 e h =
      either_if (λ (w : Pick). pick c g t3 t4 t5 t6 ≡ w → first_of d t1 (x ∷ (xs ++ ys)) ≡ pick c g t3 t4 t5 t6) (ltb (d x.t6 t1) x.partial)
      (λ y f. rw (y, first_of) (sym f))
      (λ y f. rw (y, first_of) (part_gains xs ys c g t3 t4 t5 t6 f h))
      e

  -- or find none, and the others do
  pub part_fails : (xs ys : List Trial) (c : ℕ) (g : Time) (t3 t4 t5 t6 : Stop) → pick c g t3 t4 t5 t6 ≡ first_of d t1 xs → g ≤ 0 → first_of d t1 (xs ++ ys) ≡ first_of d t1 ys
  unfolding first_of gain_of
  part_fails [] ys c g t3 t4 t5 t6 e h = refl
  part_fails (x ∷ xs) ys c g t3 t4 t5 t6 e h =
      either_if (λ (w : Pick). pick c g t3 t4 t5 t6 ≡ w → first_of d t1 (x ∷ (xs ++ ys)) ≡ first_of d t1 ys) (ltb (d x.t6 t1) x.partial)
      (λ y f.
      let k : d x.t6 t1 < x.partial = ltb-true (d x.t6 t1) x.partial y in
      let z : g ≡ x.partial - d x.t6 t1 = ap gain_of f in
      absurd (omega arith))
      (λ y f. rw (y, first_of) (part_fails xs ys c g t3 t4 t5 t6 f h))
      e
