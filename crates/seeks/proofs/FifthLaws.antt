-- The trials of one t5, as the code seeks among them.
use Prim.Native.Nat.{◌+◌}
use mathlib.Core.Path.{◌≡◌, refl, sym, ap, ◌∙◌}
use mathlib.Core.Bool.{Bool, true, false}
use mathlib.Core.List.{List, [], ◌∷◌, ◌++◌}
use lib.Dec.{eqb}
use Rattle.rules.specs.Words.{Stop, Time, Legs, Round}
use Rattle.rules.specs.Lists.{when◌then◌else◌, keep}
use Rattle.rules.specs.Ring.{ahead, behind, beside, between}
use Rattle.rules.specs.Moves.{inner}
use Rattle.rules.specs.Improve.{Trial, sixths}
use Rattle.moves.specs.Moves.{case_of}
use Rattle.tries.specs.Picks.{Pick, no_list}
use Rattle.seeks.specs.Seeks.{sought, seek_of, move_trial, sought_fifth}
use Rattle.seeks.proofs.SeekLaws.{part_closes, part_stays}

-- no list is read
pub fifth_sought : (d : Legs) (may : Trial → Bool) (so : Pick) (list : Stop → List Stop) (fwd : Bool) (r : Round) (after : Bool) (t1 t2 t3 t4 t5 : Stop) (g3 : Time)
    → sought_fifth d may so fwd r after t1 t2 t3 t4 t5 g3 ≡ seek_of d t1 may so (sixths d d list keep fwd r t1 t2 after t3 t4 t5 g3)
unfolding sought_fifth sixths
fifth_sought d may so list fwd r true t1 t2 t3 t4 t5 g3 = refl
fifth_sought d may so list fwd r false t1 t2 t3 t4 t5 g3 = refl

module _ (d : Legs) (may : Trial → Bool) (so : Pick) (fwd : Bool) (r : Round) (t1 t2 t3 t4 t5 : Stop) (g3 : Time) where
  -- t4 before t3
  pub before_one : (inside : Bool) (t6 : Stop) (d56 : Time) → inside ≡ between fwd r t2 t5 t4 → t6 ≡ beside fwd r inside t5 → d56 ≡ d t5 t6
      → seek_of d t1 may so (move_trial 2 (g3 + d56) t3 t4 t5 t6 ∷ []) ≡ sought_fifth d may so fwd r false t1 t2 t3 t4 t5 g3
  unfolding sought_fifth sixths move_trial case_of
  before_one inside t6 d56 ei e6 e56 = rw (e56, e6, ei)

  -- t4 after t3
  module _ (inside : Bool) (ei : inside ≡ between fwd r t2 t5 t3) where
    pub outside : inside ≡ false → sought false so ≡ sought_fifth d may so fwd r true t1 t2 t3 t4 t5 g3
    unfolding sought_fifth sixths seek_of
    outside e = rw (← ei, e)

    module _ (y : inside ≡ true) (next : Stop) (d5n : Time) (en : next ≡ ahead fwd r t5) (e5n : d5n ≡ d t5 next) where
      -- the inner move, where t5 is not t2
      others : List Trial
      others = (when eqb t5 t2 then [] else (record { case = inner; t3 = t3; t4 = t4; t5 = t5; t6 = behind fwd r t5; partial = g3 + d t5 (behind fwd r t5) } ∷ []))

      after_is : sixths d d no_list keep fwd r t1 t2 true t3 t4 t5 g3 ≡ (move_trial 3 (g3 + d5n) t3 t4 t5 next ∷ []) ++ others
      unfolding sixths others move_trial case_of
      after_is = rw (e5n, en, ← ei, y)

      module _ (closed : Bool) (p : Pick) (is : sought closed p ≡ seek_of d t1 may so (move_trial 3 (g3 + d5n) t3 t4 t5 next ∷ [])) where
        pub segment_closes : closed ≡ true → sought closed p ≡ sought_fifth d may so fwd r true t1 t2 t3 t4 t5 g3
        unfolding sought_fifth
        segment_closes e =
            let h : sought true p ≡ seek_of d t1 may so (move_trial 3 (g3 + d5n) t3 t4 t5 next ∷ []) = rw e at is in
            ap (λ (b : Bool). sought b p) e ∙ sym (ap (seek_of d t1 may so) after_is ∙ part_closes d t1 may (move_trial 3 (g3 + d5n) t3 t4 t5 next ∷ []) others so p h)

        module _ (n : closed ≡ false) where
          rest : seek_of d t1 may p others ≡ sought_fifth d may so fwd r true t1 t2 t3 t4 t5 g3
          unfolding sought_fifth
          rest =
              let h : sought false p ≡ seek_of d t1 may so (move_trial 3 (g3 + d5n) t3 t4 t5 next ∷ []) = rw n at is in
              sym (ap (seek_of d t1 may so) after_is ∙ part_stays d t1 may (move_trial 3 (g3 + d5n) t3 t4 t5 next ∷ []) others so p h)

          pub segment_alone : eqb t5 t2 ≡ true → sought closed p ≡ sought_fifth d may so fwd r true t1 t2 t3 t4 t5 g3
          unfolding others seek_of
          segment_alone s = ap (λ (b : Bool). sought b p) n ∙ ap (seek_of d t1 may p) {x = []} {y = others} (rw s) ∙ rest

          pub inner_too : eqb t5 t2 ≡ false → (last : Stop) (d5l : Time) → last ≡ behind fwd r t5 → d5l ≡ d t5 last
              → seek_of d t1 may p (move_trial 4 (g3 + d5l) t3 t4 t5 last ∷ []) ≡ sought_fifth d may so fwd r true t1 t2 t3 t4 t5 g3
          unfolding others move_trial case_of
          inner_too s last d5l el e5l = ap (seek_of d t1 may p) {x = move_trial 4 (g3 + d5l) t3 t4 t5 last ∷ []} {y = others} (rw (s, e5l, el)) ∙ rest
