-- One turn of a descent, and the ways to end.
use Prim.Native.Nat.{ℕ, zero, suc, ◌-◌, ◌<◌}
use mathlib.Core.Path.{◌≡◌, refl, sym, ap, ◌∙◌}
use mathlib.Core.Logic.{◌⊎◌, inl, inr}
use mathlib.Core.Bool.{Bool, true, false}
use mathlib.Core.List.{List, [], ◌∷◌}
use native.Mathlib.Omega.{arith}
use lib.Dec.{ltb}
use lib.ListN.{length}
use Rattle.rules.specs.Words.{Stop, Time, Round}
use Rattle.rules.specs.Lists.{when◌then◌else◌}
use Rattle.rules.specs.Queue.{push_all}
use Rattle.rules.specs.Journal.{Track, track_of, entries_of, cleared}
use Rattle.rules.specs.Plan.{Plan}
use Rattle.rules.specs.Descend.{Manner, kept, committed, short, journalled, leave, descending, step_from}
use Rattle.laws.proofs.ChoiceLaws.{either}
use Rattle.laws.proofs.JournalLaws.{entries_of_length}
use Rattle.descent.specs.Handed.{manner_of}

-- ---- the journal of a manner
-- emptied twice is emptied once
journalled_twice : (m : Manner) (t : Track) → journalled m (journalled m t) ≡ journalled m t
unfolding journalled cleared
journalled_twice (kept room) t = refl
journalled_twice committed t = refl

same_leave : (m : Manner) (left : ℕ) (t : Track) (time : Time) → leave m 2 left (journalled m t) time ≡ leave m 2 left t time
unfolding leave
same_leave m left t time = rw (journalled_twice m t)

-- how many entries the words of a manner hold
pub journalled_is : (keeps : Bool) (room : ℕ) (r : Round) (ws : List ℕ) (held : ℕ) → journalled (manner_of keeps room) (track_of r ws held) ≡ track_of r ws (when keeps then held else 0)
unfolding manner_of journalled cleared track_of entries_of
journalled_is true room r ws held = refl
journalled_is false room r ws held = refl

pub short_is : (keeps : Bool) (room : ℕ) (r : Round) (ws : List ℕ) (held : ℕ) → (when keeps then ltb (room - held) 100 else false) ≡ short (manner_of keeps room) (track_of r ws held)
unfolding manner_of short track_of
short_is true room r ws held = ap (λ (k : ℕ). ltb (room - k) 100) (sym (entries_of_length ws held))
short_is false room r ws held = refl

pub short_same : (m : Manner) (t : Track) → short m (journalled m t) ≡ short m t
unfolding short journalled
short_same (kept room) t = refl
short_same committed t = refl

module _ (p : Plan) (kind : ℕ) (m : Manner) where
  -- ---- ends
  pub ends_empty : (left : ℕ) (q : List Stop) (t : Track) (time : Time) → length q ≡ 0 → descending p kind m left q t time ≡ leave m 0 left t time
  unfolding descending
  ends_empty zero [] t time e = refl
  ends_empty (suc left) [] t time e = refl
  ends_empty zero (v ∷ vs) t time e = absurd (omega arith)
  ends_empty (suc left) (v ∷ vs) t time e = absurd (omega arith)

  pub ends_out : (q : List Stop) (t : Track) (time : Time) → 0 < length q → descending p kind m 0 q t time ≡ leave m 1 0 t time
  unfolding descending
  ends_out [] t time h = absurd (omega arith)
  ends_out (v ∷ vs) t time h = refl

  pub ends_short : (left : ℕ) (q : List Stop) (t : Track) (time : Time) → 0 < length q → 0 < left → short m t ≡ true → descending p kind m left q t time ≡ leave m 2 left t time
  unfolding descending
  ends_short zero q t time h k e = absurd (omega arith)
  ends_short (suc left) [] t time h k e = absurd (omega arith)
  ends_short (suc left) (v ∷ vs) t time h k e = rw (e, descending)

  -- ---- a turn
  pub goes : (left : ℕ) (v : Stop) (vs : List Stop) (t : Track) (time : Time) → short m t ≡ false
      → descending p kind m (suc left) (v ∷ vs) t time ≡ (let f = step_from p kind v (journalled m t) in descending p kind m left (push_all vs f.touched) f.track (time - f.gain))
  unfolding descending
  goes left v vs t time e = rw (e, descending)

  -- the journal may be emptied before, too
  pub emptied_before : (left : ℕ) (q : List Stop) (t : Track) (time : Time) → descending p kind m left q (journalled m t) time ≡ descending p kind m left q t time
  unfolding descending leave
  emptied_before zero [] t time = rw (journalled_twice m t)
  emptied_before (suc left) [] t time = rw (journalled_twice m t)
  emptied_before zero (v ∷ vs) t time = rw (journalled_twice m t)
  emptied_before (suc left) (v ∷ vs) t time = by_test (either (short m t))
    where
      by_test : (short m t ≡ true) ⊎ (short m t ≡ false) → descending p kind m (suc left) (v ∷ vs) (journalled m t) time ≡ descending p kind m (suc left) (v ∷ vs) t time
      by_test (inl y) =
          ends_short (suc left) (v ∷ vs) (journalled m t) time (omega arith) (omega arith) (short_same m t ∙ y) ∙ same_leave m (suc left) t time ∙ sym (ends_short (suc left) (v ∷ vs) t time (omega arith) (omega arith) y)
      by_test (inr y) =
          goes left v vs (journalled m t) time (short_same m t ∙ y)
          ∙ ap (λ (u : Track). let f = step_from p kind v u in descending p kind m left (push_all vs f.touched) f.track (time - f.gain)) (journalled_twice m t)
          ∙ sym (goes left v vs t time y)
