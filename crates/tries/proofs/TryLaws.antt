-- The trials of one t4 and of one t5, as the code tries them.
use Prim.Native.Nat.{◌+◌, ◌-◌, ◌≤◌, ◌<◌}
use mathlib.Core.Path.{◌≡◌, refl, sym, ap, ◌∙◌}
use mathlib.Core.Bool.{Bool, true, false}
use mathlib.Core.List.{List, [], ◌∷◌}
use lib.Dec.{eqb}
use Rattle.rules.specs.Words.{Stop, Time, Legs, Round}
use Rattle.rules.specs.Lists.{when◌then◌else◌, keep_while}
use Rattle.rules.specs.Ring.{ahead, behind, beside, between}
use Rattle.rules.specs.Moves.{Case, two, flips, segment, inner}
use Rattle.rules.specs.Improve.{Scan, Trial, twos, sixths}
use Rattle.moves.specs.Moves.{number_of}
use Rattle.tries.specs.Picks.{pick, none, first_of, no_list, tried_two, tried_fifth}
use Rattle.tries.proofs.PickLaws.{first_gains, first_fails}

-- no list is read
pub two_tried : (d : Legs) (list : Stop → List Stop) (scan : Scan) (fwd : Bool) (r : Round) (t1 t2 : Stop) (after : Bool) (t3 t4 : Stop) (g2 : Time)
    → tried_two d after t1 t3 t4 g2 ≡ first_of d t1 (twos d d list scan fwd r t1 t2 after t3 t4 g2)
unfolding tried_two twos
two_tried d list scan fwd r t1 t2 true t3 t4 g2 = refl
two_tried d list scan fwd r t1 t2 false t3 t4 g2 = refl

pub fifth_tried : (d : Legs) (list : Stop → List Stop) (scan : Scan) (fwd : Bool) (r : Round) (t1 t2 : Stop) (after : Bool) (t3 t4 t5 : Stop) (g3 : Time)
    → tried_fifth d fwd r after t1 t2 t3 t4 t5 g3 ≡ first_of d t1 (sixths d d list scan fwd r t1 t2 after t3 t4 t5 g3)
unfolding tried_fifth sixths
fifth_tried d list scan fwd r t1 t2 true t3 t4 t5 g3 = refl
fifth_tried d list scan fwd r t1 t2 false t3 t4 t5 g3 = refl

-- a trial by its parts
abbrev trial : Case → Stop → Stop → Stop → Stop → Time → Trial
trial c t3 t4 t5 t6 g = record { case = c; t3 = t3; t4 = t4; t5 = t5; t6 = t6; partial = g }

nothing_left : (d : Legs) (t1 : Stop) → first_of d t1 [] ≡ none
unfolding first_of
nothing_left d t1 = refl

module _ (d : Legs) (t1 t3 t4 : Stop) (g2 : Time) where
  pub two_after : (after : Bool) → after ≡ true → none ≡ tried_two d after t1 t3 t4 g2
  unfolding tried_two twos first_of
  two_after after e = rw e

  pub two_gains : (after : Bool) (g : Time) → after ≡ false → g ≡ g2 - d t4 t1 → 0 < g → pick 1 g t3 t4 t4 t4 ≡ tried_two d after t1 t3 t4 g2
  unfolding tried_two twos number_of
  two_gains after g e f h = rw e (sym (first_gains d t1 (trial two t3 t4 t4 t4 g2) [] g f h))

  pub two_fails : (after : Bool) (g : Time) → after ≡ false → g ≡ g2 - d t4 t1 → g ≤ 0 → none ≡ tried_two d after t1 t3 t4 g2
  unfolding tried_two twos
  two_fails after g e f h = rw e (sym (first_fails d t1 (trial two t3 t4 t4 t4 g2) [] g f h ∙ nothing_left d t1))

module _ (d : Legs) (fwd : Bool) (r : Round) (t1 t2 t3 t4 t5 : Stop) (g3 : Time) where
  -- t4 before t3
  module _ (inside : Bool) (t6 : Stop) (d56 g : Time) (ei : inside ≡ between fwd r t2 t5 t4) (e6 : t6 ≡ beside fwd r inside t5) (e56 : d56 ≡ d t5 t6) (eg : g ≡ g3 + d56 - d t6 t1) where
    before_is : sixths d d no_list keep_while fwd r t1 t2 false t3 t4 t5 g3 ≡ trial flips t3 t4 t5 t6 (g3 + d56) ∷ []
    unfolding sixths
    before_is = rw (e56, e6, ei)

    pub before_gains : 0 < g → pick 2 g t3 t4 t5 t6 ≡ tried_fifth d fwd r false t1 t2 t3 t4 t5 g3
    unfolding tried_fifth number_of
    before_gains h = sym (ap (first_of d t1) before_is ∙ first_gains d t1 (trial flips t3 t4 t5 t6 (g3 + d56)) [] g eg h)

    pub before_fails : g ≤ 0 → none ≡ tried_fifth d fwd r false t1 t2 t3 t4 t5 g3
    unfolding tried_fifth
    before_fails h = sym (ap (first_of d t1) before_is ∙ first_fails d t1 (trial flips t3 t4 t5 t6 (g3 + d56)) [] g eg h ∙ nothing_left d t1)

  -- t4 after t3
  module _ (inside : Bool) (ei : inside ≡ between fwd r t2 t5 t3) where
    pub outside : inside ≡ false → none ≡ tried_fifth d fwd r true t1 t2 t3 t4 t5 g3
    unfolding tried_fifth sixths first_of
    outside e = rw (← ei, e)

    module _ (y : inside ≡ true) (next : Stop) (d5n g : Time) (en : next ≡ ahead fwd r t5) (e5n : d5n ≡ d t5 next) (eg : g ≡ g3 + d5n - d next t1) where
      -- the inner move, where t5 is not t2
      others : List Trial
      others = (when eqb t5 t2 then [] else (trial inner t3 t4 t5 (behind fwd r t5) (g3 + d t5 (behind fwd r t5)) ∷ []))

      after_is : sixths d d no_list keep_while fwd r t1 t2 true t3 t4 t5 g3 ≡ trial segment t3 t4 t5 next (g3 + d5n) ∷ others
      unfolding sixths others
      after_is = rw (e5n, en, ← ei, y)

      pub segment_gains : 0 < g → pick 3 g t3 t4 t5 next ≡ tried_fifth d fwd r true t1 t2 t3 t4 t5 g3
      unfolding tried_fifth number_of
      segment_gains h = sym (ap (first_of d t1) after_is ∙ first_gains d t1 (trial segment t3 t4 t5 next (g3 + d5n)) others g eg h)

      module _ (n : g ≤ 0) where
        segment_fails : tried_fifth d fwd r true t1 t2 t3 t4 t5 g3 ≡ first_of d t1 others
        unfolding tried_fifth
        segment_fails = ap (first_of d t1) after_is ∙ first_fails d t1 (trial segment t3 t4 t5 next (g3 + d5n)) others g eg n

        pub segment_alone : eqb t5 t2 ≡ true → none ≡ tried_fifth d fwd r true t1 t2 t3 t4 t5 g3
        unfolding others first_of
        segment_alone s = rw (segment_fails, s)

        module _ (s : eqb t5 t2 ≡ false) (last : Stop) (d5l g' : Time) (el : last ≡ behind fwd r t5) (e5l : d5l ≡ d t5 last) (eg' : g' ≡ g3 + d5l - d last t1) where
          inner_is : others ≡ trial inner t3 t4 t5 last (g3 + d5l) ∷ []
          unfolding others
          inner_is = rw (s, e5l, el)

          pub inner_gains : 0 < g' → pick 4 g' t3 t4 t5 last ≡ tried_fifth d fwd r true t1 t2 t3 t4 t5 g3
          unfolding number_of
          inner_gains h = sym (segment_fails ∙ ap (first_of d t1) inner_is ∙ first_gains d t1 (trial inner t3 t4 t5 last (g3 + d5l)) [] g' eg' h)

          pub inner_fails : g' ≤ 0 → none ≡ tried_fifth d fwd r true t1 t2 t3 t4 t5 g3
          inner_fails h = sym (segment_fails ∙ ap (first_of d t1) inner_is ∙ first_fails d t1 (trial inner t3 t4 t5 last (g3 + d5l)) [] g' eg' h ∙ nothing_left d t1)
