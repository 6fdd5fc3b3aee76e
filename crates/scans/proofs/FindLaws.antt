-- What is left of the three scans of `find_move` from where the code stands finds what the whole finds: a law for each way on.
use Prim.Native.Nat.{ℕ, ◌+◌, ◌-◌, ◌≤◌, ◌<◌}
use mathlib.Core.Path.{◌≡◌, refl, ap, ◌∙◌}
use mathlib.Core.Bool.{Bool, true, false, not, ◌||◌}
use mathlib.Core.List.{List, ◌++◌, append_assoc}
use native.Mathlib.Omega.{arith}
use borrow.Author.Tests.{lt-ltb, le-ltb, leb-true, leb-false}
use lib.Dec.{ltb, leb, eqb}
use lib.ListN.{length, drop}
use Rattle.rules.specs.Words.{Stop, Time, Legs, Round}
use Rattle.rules.specs.Lists.{at, keep_while}
use Rattle.rules.specs.Ring.{succ, pred, ahead, beside}
use Rattle.rules.specs.Plan.{list_in}
use Rattle.rules.specs.Improve.{Trial, free3, free5, twos, sixths, trials}
use Rattle.legs.specs.declared.plan.Plan.{Plan}
use Rattle.laws.proofs.EntryLaws.{length_list}
use Rattle.tries.specs.Picks.{Pick, pick, none, first_of, tried_two, tried_fifth, Chosen}
use Rattle.tries.proofs.PickLaws.{part_gains, part_fails}
use Rattle.tries.proofs.TryLaws.{two_tried, fifth_tried}
use Rattle.laws.proofs.LeftLaws.{scan_done, scan_stop, scan_skip, scan_try, fifths, sides, thirds, thirds_all, sides_turn, sides_done}

-- what the loops keep: no move is chosen yet, and what is left finds what the whole finds
pub record Left (n : ℕ) (left whole : Pick) (i most case : ℕ) (gain : Time) (t3 t4 t5 t6 : Stop) : Type 0 where
  pub yet : Chosen n none case gain t3 t4 t5 t6
  pub within : i ≤ most
  pub finds : left ≡ whole

-- a near list is as long as the plan says
pub near_long : (p : Plan) (v : Stop) → v < p.matrix.n → length (list_in p.near.count p.near.entries.now v) ≡ p.near.count
near_long p v h = length_list p.near.entries.now p.near.count p.near.n v p.near.listed (omega (arith, h, p.near_fits))

is_true : (b x : Bool) → b ≡ x → b ≡ true → not x ≡ false
is_true b true e f = refl
is_true b false e f = cc

is_false : (b x : Bool) → b ≡ x → b ≡ false → not x ≡ true
is_false b false e f = refl
is_false b true e f = cc

module _ (d : Legs) (list : Stop → List Stop) (fwd : Bool) (r : Round) (t1 t2 : Stop) where
  -- what is found from entry i of t2's list on, at a gain g
  unfoldable pub found3 : Time → ℕ → Pick
  found3 g i = first_of d t1 (thirds d d list keep_while fwd r t1 t2 g (drop i (list t2)))

  -- from side s of t3 on
  unfoldable pub found4 : Stop → Time → ℕ → Time → ℕ → Pick
  found4 t3 g1 s g i = first_of d t1 (sides d d list keep_while fwd r t1 t2 t3 g1 s ++ thirds d d list keep_while fwd r t1 t2 g (drop i (list t2)))

  -- from entry j of t4's list on
  unfoldable pub found5 : Bool → Stop → Stop → Time → ℕ → Time → ℕ → Time → ℕ → Pick
  found5 after t3 t4 g2 j g1 s g i =
      first_of d t1 (fifths d d list keep_while fwd r t1 t2 after t3 t4 g2 (drop j (list t4)) ++ (sides d d list keep_while fwd r t1 t2 t3 g1 s ++ thirds d d list keep_while fwd r t1 t2 g (drop i (list t2))))

  -- ---- t3
  pub all3 : (g : Time) → t2 ≡ ahead fwd r t1 → g ≡ d t1 t2 → found3 g 0 ≡ first_of d t1 (trials d d list keep_while fwd r t1 (ahead fwd r t1) (d t1 (ahead fwd r t1)))
  unfolding found3
  all3 g e f = ap (first_of d t1) (thirds_all d d list keep_while fwd r t1 t2 g ∙ cc)

  pub done3 : (g : Time) (i : ℕ) → length (list t2) ≤ i → found3 g i ≡ none
  unfolding found3 thirds first_of
  done3 g i h = ap (first_of d t1) (scan_done _ (free3 fwd r t1 t2) (λ t3. ltb (d t2 t3) g) (list t2) i h)

  module _ (g : Time) (i : ℕ) (t3 : Stop) (d23 : Time) (hi : i < length (list t2)) (e3 : t3 ≡ at (list t2) i) (e23 : d23 ≡ d t2 t3) where
    leg23 : d23 ≡ d t2 (at (list t2) i)
    leg23 = cc

    pub stop3 : leb g d23 ≡ true → found3 g i ≡ none
    unfolding found3 thirds first_of
    stop3 h =
        let e : d23 ≡ d t2 (at (list t2) i) = leg23 in
        let k : g ≤ d t2 (at (list t2) i) = omega (arith, leb-true g d23 h) in
        ap (first_of d t1) (scan_stop _ (free3 fwd r t1 t2) (λ t. ltb (d t2 t) g) (list t2) i hi (le-ltb _ _ k))

    module _ (on : leb g d23 ≡ false) (b : Bool) (next : Stop) (en : next ≡ ahead fwd r t2) (eb : b ≡ eqb t3 t1 || eqb t3 next) where
      on3 : ltb (d t2 (at (list t2) i)) g ≡ true
      on3 = let e : d23 ≡ d t2 (at (list t2) i) = leg23 in let k : d t2 (at (list t2) i) < g = omega (arith, leb-false g d23 on) in lt-ltb _ _ k

      test3 : b ≡ eqb (at (list t2) i) t1 || eqb (at (list t2) i) (ahead fwd r t2)
      test3 = cc

      pub skip3 : b ≡ true → found3 g i ≡ found3 g (i + 1)
      unfolding found3 thirds free3
      skip3 y = ap (first_of d t1) (scan_skip _ _ (λ t. ltb (d t2 t) g) (list t2) i hi on3 (is_true b _ test3 y))

      pub try3 : b ≡ false → found3 g i ≡ found4 t3 (g - d23) 0 g (i + 1)
      unfolding found3 found4 thirds free3
      try3 n = rw (e3, leg23) (ap (first_of d t1) (scan_try (λ t. sides d d list keep_while fwd r t1 t2 t (g - d t2 t) 0) _ (λ t. ltb (d t2 t) g) (list t2) i hi on3 (is_false b _ test3 n)))

  -- ---- the sides of t3
  module _ (t3 : Stop) (g1 : Time) (s : ℕ) (g : Time) (i : ℕ) where
    pub done4 : 2 ≤ s → found4 t3 g1 s g i ≡ found3 g i
    unfolding found4 found3
    done4 h = rw (sides_done d d list keep_while fwd r t1 t2 t3 g1 s h)

    module _ (after : Bool) (t4 : Stop) (d34 : Time) (h : s < 2) (e4 : t4 ≡ beside fwd r after t3) (ea : after ≡ eqb s 1) (e34 : d34 ≡ d t3 t4) where
      turn4 : found4 t3 g1 s g i ≡ first_of d t1 (twos d d list keep_while fwd r t1 t2 after t3 t4 (g1 + d34) ++ (fifths d d list keep_while fwd r t1 t2 after t3 t4 (g1 + d34) (list t4) ++ (sides d d list keep_while fwd r t1 t2 t3 g1 (s + 1) ++ thirds d d list keep_while fwd r t1 t2 g (drop i (list t2)))))
      unfolding found4
      turn4 =
          let two = twos d d list keep_while fwd r t1 t2 after t3 t4 (g1 + d34) in
          let five = fifths d d list keep_while fwd r t1 t2 after t3 t4 (g1 + d34) (list t4) in
          let more = sides d d list keep_while fwd r t1 t2 t3 g1 (s + 1) in
          let rest = thirds d d list keep_while fwd r t1 t2 g (drop i (list t2)) in
          ap (first_of d t1)
          (ap (λ (l : List Trial). l ++ rest) (sides_turn d d list keep_while fwd r t1 t2 t3 g1 s after t4 (g1 + d34) h ea e4 (ap (λ (x : Time). g1 + x) e34))
          ∙ append_assoc two (five ++ more) rest
          ∙ ap (λ (l : List Trial). two ++ l) (append_assoc five more rest))

      module _ (c : ℕ) (w : Time) (s3 s4 s5 s6 : Stop) (is : pick c w s3 s4 s5 s6 ≡ tried_two d after t1 t3 t4 (g1 + d34)) where
        tried : pick c w s3 s4 s5 s6 ≡ first_of d t1 (twos d d list keep_while fwd r t1 t2 after t3 t4 (g1 + d34))
        tried = is ∙ two_tried d list keep_while fwd r t1 t2 after t3 t4 (g1 + d34)

        pub hit4 : 0 < w → found4 t3 g1 s g i ≡ pick c w s3 s4 s5 s6
        hit4 k = turn4 ∙ part_gains d t1 _ _ c w s3 s4 s5 s6 tried k

        pub miss4 : w ≤ 0 → found4 t3 g1 s g i ≡ found5 after t3 t4 (g1 + d34) 0 g1 (s + 1) g i
        unfolding found5
        miss4 k = turn4 ∙ part_fails d t1 _ _ c w s3 s4 s5 s6 tried k

  -- ---- t5
  module _ (after : Bool) (t3 t4 : Stop) (g2 : Time) (j : ℕ) (g1 : Time) (s : ℕ) (g : Time) (i : ℕ) where
    pub done5 : length (list t4) ≤ j → found5 after t3 t4 g2 j g1 s g i ≡ found4 t3 g1 s g i
    unfolding found5 found4 fifths
    done5 h = rw (scan_done (λ t. sixths d d list keep_while fwd r t1 t2 after t3 t4 t (g2 - d t4 t)) (free5 r t1 t4) (λ t. ltb (d t4 t) g2) (list t4) j h)

    module _ (t5 : Stop) (d45 : Time) (hj : j < length (list t4)) (e5 : t5 ≡ at (list t4) j) (e45 : d45 ≡ d t4 t5) where
      leg45 : d45 ≡ d t4 (at (list t4) j)
      leg45 = cc

      pub stop5 : leb g2 d45 ≡ true → found5 after t3 t4 g2 j g1 s g i ≡ found4 t3 g1 s g i
      unfolding found5 found4 fifths
      stop5 h =
          let e : d45 ≡ d t4 (at (list t4) j) = leg45 in
          let k : g2 ≤ d t4 (at (list t4) j) = omega (arith, leb-true g2 d45 h) in
          rw (scan_stop (λ t. sixths d d list keep_while fwd r t1 t2 after t3 t4 t (g2 - d t4 t)) (free5 r t1 t4) (λ t. ltb (d t4 t) g2) (list t4) j hj (le-ltb _ _ k))

      module _ (on : leb g2 d45 ≡ false) (b : Bool) (next prev : Stop) (en : next ≡ succ r t4) (ep : prev ≡ pred r t4) (eb : b ≡ eqb t5 t1 || (eqb t5 next || eqb t5 prev)) where
        on5 : ltb (d t4 (at (list t4) j)) g2 ≡ true
        on5 = let e : d45 ≡ d t4 (at (list t4) j) = leg45 in let k : d t4 (at (list t4) j) < g2 = omega (arith, leb-false g2 d45 on) in lt-ltb _ _ k

        test5 : b ≡ eqb (at (list t4) j) t1 || (eqb (at (list t4) j) (succ r t4) || eqb (at (list t4) j) (pred r t4))
        test5 = cc

        pub skip5 : b ≡ true → found5 after t3 t4 g2 j g1 s g i ≡ found5 after t3 t4 g2 (j + 1) g1 s g i
        unfolding found5 fifths free5
        skip5 y = rw (scan_skip (λ t. sixths d d list keep_while fwd r t1 t2 after t3 t4 t (g2 - d t4 t)) (free5 r t1 t4) (λ t. ltb (d t4 t) g2) (list t4) j hj on5 (is_true b _ test5 y))

        module _ (n : b ≡ false) (c : ℕ) (w : Time) (s3 s4 s5 s6 : Stop) (is : pick c w s3 s4 s5 s6 ≡ tried_fifth d fwd r after t1 t2 t3 t4 t5 (g2 - d45)) where
          turn5 : found5 after t3 t4 g2 j g1 s g i ≡ first_of d t1 (sixths d d list keep_while fwd r t1 t2 after t3 t4 t5 (g2 - d45) ++ (fifths d d list keep_while fwd r t1 t2 after t3 t4 g2 (drop (j + 1) (list t4)) ++ (sides d d list keep_while fwd r t1 t2 t3 g1 s ++ thirds d d list keep_while fwd r t1 t2 g (drop i (list t2)))))
          unfolding found5 fifths free5
          turn5 =
              let rest = sides d d list keep_while fwd r t1 t2 t3 g1 s ++ thirds d d list keep_while fwd r t1 t2 g (drop i (list t2)) in
              rw (e5, leg45)
              (ap (first_of d t1)
              (ap (λ (l : List Trial). l ++ rest) (scan_try (λ t. sixths d d list keep_while fwd r t1 t2 after t3 t4 t (g2 - d t4 t)) (free5 r t1 t4) (λ t. ltb (d t4 t) g2) (list t4) j hj on5 (is_false b _ test5 n))
              ∙ append_assoc (sixths d d list keep_while fwd r t1 t2 after t3 t4 (at (list t4) j) (g2 - d t4 (at (list t4) j))) _ rest))

          tried5 : pick c w s3 s4 s5 s6 ≡ first_of d t1 (sixths d d list keep_while fwd r t1 t2 after t3 t4 t5 (g2 - d45))
          tried5 = is ∙ fifth_tried d list keep_while fwd r t1 t2 after t3 t4 t5 (g2 - d45)

          pub hit5 : 0 < w → found5 after t3 t4 g2 j g1 s g i ≡ pick c w s3 s4 s5 s6
          hit5 k = turn5 ∙ part_gains d t1 _ _ c w s3 s4 s5 s6 tried5 k

          pub miss5 : w ≤ 0 → found5 after t3 t4 g2 j g1 s g i ≡ found5 after t3 t4 g2 (j + 1) g1 s g i
          unfolding found5
          miss5 k = turn5 ∙ part_fails d t1 _ _ c w s3 s4 s5 s6 tried5 k
