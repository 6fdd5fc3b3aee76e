-- 01, 6: the moves by the numbers of their cases.
use Prim.Native.Nat.{ℕ, zero, suc}
use mathlib.Core.Path.{◌≡◌, refl}
use mathlib.Core.Logic.{◌≢◌}
use mathlib.Core.Bool.{Bool}
use Rattle.rules.specs.Words.{Stop}
use Rattle.rules.specs.Journal.{Track}
use Rattle.rules.specs.Moves.{inner, flip, or_move, seq3}
use Rattle.moves.specs.Moves.{case_of}

inner_is : (c : ℕ) → c ≢ 1 → c ≢ 2 → c ≢ 3 → case_of c ≡ inner
unfolding case_of
inner_is zero a b d = refl
inner_is (suc zero) a b d = absurd (a refl)
inner_is (suc (suc zero)) a b d = absurd (b refl)
inner_is (suc (suc (suc zero))) a b d = absurd (d refl)
inner_is (suc (suc (suc (suc c)))) a b d = refl

module _ (fwd : Bool) (c : ℕ) (t1 t2 t3 t4 t5 t6 : Stop) (t : Track) where
  pub seq_two : c ≡ 1 → flip t1 t2 t3 t ≡ seq3 fwd (case_of c) t1 t2 t3 t4 t5 t6 t
  unfolding case_of seq3
  seq_two e = rw e

  pub seq_flips : c ≡ 2 → flip t1 t4 t5 (flip t1 t2 t3 t) ≡ seq3 fwd (case_of c) t1 t2 t3 t4 t5 t6 t
  unfolding case_of seq3
  seq_flips e = rw e

  pub seq_segment : c ≡ 3 → or_move fwd t1 t2 t5 t6 t3 t4 t ≡ seq3 fwd (case_of c) t1 t2 t3 t4 t5 t6 t
  unfolding case_of seq3
  seq_segment e = rw e

  pub seq_inner : c ≢ 1 → c ≢ 2 → c ≢ 3 → flip t2 t5 t4 (flip t1 t2 t5 t) ≡ seq3 fwd (case_of c) t1 t2 t3 t4 t5 t6 t
  unfolding seq3
  seq_inner a b d = rw (inner_is c a b d)
