-- What is left of the three scans of `lk3_scan` from where the code stands, seen from the best so far, finds what the whole finds: a law for each
-- way on.
use Prim.Native.Nat.{ℕ, ◌+◌, ◌-◌, ◌≤◌, ◌<◌}
use mathlib.Core.Path.{◌≡◌, refl, sym, ap, ◌∙◌}
use mathlib.Core.Bool.{Bool, true, false, not, ◌||◌}
use mathlib.Core.List.{List, ◌++◌, append_assoc}
use mathlib.Core.Logic.{◌⊎◌, inl, inr}
use native.Mathlib.Omega.{arith}
use borrow.Author.Tests.{lt-ltb, le-ltb, leb-true, leb-false}
use lib.Dec.{ltb, leb, eqb}
use lib.ListN.{length, drop}
use Rattle.rules.specs.Words.{Stop, Time, Legs, Round}
use Rattle.rules.specs.Lists.{at, keep}
use Rattle.rules.specs.Ring.{succ, pred, ahead, beside}
use Rattle.rules.specs.Moves.{two}
use Rattle.rules.specs.Improve.{Trial, free3, free5, twos, sixths, trials}
use Rattle.rules.specs.Plan.{list_in}
use Rattle.legs.specs.declared.plan.Plan.{Plan}
use Rattle.laws.proofs.EntryLaws.{length_list}
use Rattle.laws.proofs.ChoiceLaws.{either_if, true_false}
use Rattle.laws.proofs.LeftLaws.{fifths, sides, thirds, thirds_all, sides_turn, sides_done}
use Rattle.laws.proofs.SkipLaws.{skip_done, skip_poor, skip_barred, skip_try}
use Rattle.moves.specs.declared.moves.Move.{Move}
use Rattle.tries.specs.Picks.{Pick, pick, none, first_of, tried_two}
use Rattle.tries.proofs.TryLaws.{two_tried}
use Rattle.seeks.specs.Seeks.{Sought, sought, seek_of, gain_of, sought_fifth, LastsIn}
use Rattle.seeks.proofs.SeekLaws.{part_closes, part_stays, first_closes, two_stays}
use Rattle.seeks.proofs.FifthLaws.{fifth_sought}
use Rattle.scans3.specs.Scans.{out3, out5}

-- the alpha list of a stop, and how long it is
abbrev pub alpha_at : Plan → Stop → List Stop
alpha_at p = list_in p.alpha.count p.alpha.entries.now

pub alpha_long : (p : Plan) (v : Stop) → v < p.matrix.n → length (alpha_at p v) ≡ p.alpha.count
alpha_long p v h = length_list p.alpha.entries.now p.alpha.count p.alpha.n v p.alpha.listed (omega (arith, h, p.alpha_fits))

-- what the loops keep: nothing has closed yet, and what is left, from the best so far on, finds what the whole finds
pub record Left (n : ℕ) (left whole : Sought) (i most : ℕ) (top : Time) (best : Move) : Type 0 where
  pub lasts : LastsIn n best
  pub small : best.gain ≤ top
  pub within : i ≤ most
  pub finds : left ≡ whole

-- a test that skips, in its two parts, and one that does not
poor_or_barred : (a b : Bool) → (a || b) ≡ true → (a ≡ true) ⊎ ((a ≡ false) × (b ≡ true))
poor_or_barred true b e = inl refl
poor_or_barred false b e = inr (refl, e)

neither : (a b : Bool) → (a || b) ≡ false → (a ≡ false) × (b ≡ false)
neither true b e = absurd (true_false e)
neither false b e = (refl, e)

-- an entry that is not skipped leaves a gain
pub rich3 : (g d23 : Time) (t3 t1 next : Stop) (out : Bool) → out ≡ out3 g d23 t3 t1 next → out ≡ false → d23 < g
unfolding out3
rich3 g d23 t3 t1 next out e n = leb-false g d23 (neither (leb g d23) _ (sym e ∙ n)).0

pub rich5 : (g2 d45 : Time) (t5 t1 next prev : Stop) (out : Bool) → out ≡ out5 g2 d45 t5 t1 next prev → out ≡ false → d45 < g2
unfolding out5
rich5 g2 d45 t5 t1 next prev out e n = leb-false g2 d45 (neither (leb g2 d45) _ (sym e ∙ n)).0

-- no move has no gain; a 2-opt move has at most what it tried
pub none_gain : (c : ℕ) (g : Time) (t3 t4 t5 t6 : Stop) → pick c g t3 t4 t5 t6 ≡ none → g ≡ 0
unfolding none gain_of
none_gain c g t3 t4 t5 t6 e = ap gain_of e

pub two_small : (d : Legs) (after : Bool) (t1 t3 t4 : Stop) (g2 : Time) (c : ℕ) (w : Time) (s3 s4 s5 s6 : Stop) → pick c w s3 s4 s5 s6 ≡ tried_two d after t1 t3 t4 g2 → w ≤ g2
unfolding tried_two twos first_of none gain_of
two_small d true t1 t3 t4 g2 c w s3 s4 s5 s6 e = let z : w ≡ 0 = ap gain_of e in omega arith
two_small d false t1 t3 t4 g2 c w s3 s4 s5 s6 e =
    either_if (λ (q : Pick). pick c w s3 s4 s5 s6 ≡ q → w ≤ g2) (ltb (d t4 t1) g2) (λ y f. let z : w ≡ g2 - d t4 t1 = ap gain_of f in omega arith) (λ y f. let z : w ≡ 0 = ap gain_of f in omega arith) e

module _ (d : Legs) (list : Stop → List Stop) (may : Trial → Bool) (fwd : Bool) (r : Round) (t1 t2 : Stop) where
  -- what is found from entry i of t2's list on, at a gain g, with the best so far
  unfoldable pub sought3 : Pick → Time → ℕ → Sought
  sought3 so g i = seek_of d t1 may so (thirds d d list keep fwd r t1 t2 g (drop i (list t2)))

  -- from side s of t3 on
  unfoldable pub sought4 : Pick → Stop → Time → ℕ → Time → ℕ → Sought
  sought4 so t3 g1 s g i = seek_of d t1 may so (sides d d list keep fwd r t1 t2 t3 g1 s ++ thirds d d list keep fwd r t1 t2 g (drop i (list t2)))

  -- from entry j of t4's list on
  unfoldable pub sought5 : Pick → Bool → Stop → Stop → Time → ℕ → Time → ℕ → Time → ℕ → Sought
  sought5 so after t3 t4 g2 j g1 s g i =
      seek_of d t1 may so (fifths d d list keep fwd r t1 t2 after t3 t4 g2 (drop j (list t4)) ++ (sides d d list keep fwd r t1 t2 t3 g1 s ++ thirds d d list keep fwd r t1 t2 g (drop i (list t2))))

  -- ---- t3
  pub all3 : (so : Pick) (g : Time) → so ≡ none → sought3 so g 0 ≡ seek_of d t1 may none (trials d d list keep fwd r t1 t2 g)
  unfolding sought3
  all3 so g e = ap (seek_of d t1 may so) (thirds_all d d list keep fwd r t1 t2 g) ∙ ap (λ (q : Pick). seek_of d t1 may q (trials d d list keep fwd r t1 t2 g)) e

  pub done3 : (so : Pick) (g : Time) (i : ℕ) → length (list t2) ≤ i → sought3 so g i ≡ sought false so
  unfolding sought3 thirds seek_of
  done3 so g i h = ap (seek_of d t1 may so) (skip_done _ (free3 fwd r t1 t2) (λ t3. ltb (d t2 t3) g) (list t2) i h)

  module _ (so : Pick) (g : Time) (i : ℕ) (t3 next : Stop) (d23 : Time) (out : Bool) (hi : i < length (list t2)) (e3 : t3 ≡ at (list t2) i) (e23 : d23 ≡ d t2 t3) (en : next ≡ ahead fwd r t2) (eo : out ≡ out3 g d23 t3 t1 next) where
    leg23 : d23 ≡ d t2 (at (list t2) i)
    leg23 = e23 ∙ ap (d t2) e3

    test3 : out ≡ leb g d23 || (eqb (at (list t2) i) t1 || eqb (at (list t2) i) (ahead fwd r t2))
    unfolding out3
    test3 = rw (← e3, ← en) eo

    on3 : leb g d23 ≡ false → ltb (d t2 (at (list t2) i)) g ≡ true
    on3 low = let e : d23 ≡ d t2 (at (list t2) i) = leg23 in let k : d t2 (at (list t2) i) < g = omega (arith, leb-false g d23 low) in lt-ltb _ _ k

    poor3 : leb g d23 ≡ true → ltb (d t2 (at (list t2) i)) g ≡ false
    poor3 high = let e : d23 ≡ d t2 (at (list t2) i) = leg23 in let k : g ≤ d t2 (at (list t2) i) = omega (arith, leb-true g d23 high) in le-ltb _ _ k

    pub skip3 : out ≡ true → sought3 so g i ≡ sought3 so g (i + 1)
    unfolding sought3 thirds free3
    skip3 y = go (poor_or_barred (leb g d23) _ (sym test3 ∙ y))
      where
        go : (leb g d23 ≡ true) ⊎ ((leb g d23 ≡ false) × ((eqb (at (list t2) i) t1 || eqb (at (list t2) i) (ahead fwd r t2)) ≡ true)) → sought3 so g i ≡ sought3 so g (i + 1)
        go (inl p) = ap (seek_of d t1 may so) (skip_poor _ (free3 fwd r t1 t2) (λ t. ltb (d t2 t) g) (list t2) i hi (poor3 p))
        go (inr p) = ap (seek_of d t1 may so) (skip_barred _ (free3 fwd r t1 t2) (λ t. ltb (d t2 t) g) (list t2) i hi (on3 p.0) (ap not p.1))

    pub try3 : out ≡ false → sought3 so g i ≡ sought4 so t3 (g - d23) 0 g (i + 1)
    unfolding sought3 sought4 thirds free3
    try3 n =
        let p = neither (leb g d23) _ (sym test3 ∙ n) in
        rw (e3, leg23) (ap (seek_of d t1 may so) (skip_try (λ t. sides d d list keep fwd r t1 t2 t (g - d t2 t) 0) (free3 fwd r t1 t2) (λ t. ltb (d t2 t) g) (list t2) i hi (on3 p.0) (ap not p.1)))

  -- ---- the sides of t3
  module _ (so : Pick) (t3 : Stop) (g1 : Time) (s : ℕ) (g : Time) (i : ℕ) where
    pub done4 : 2 ≤ s → sought4 so t3 g1 s g i ≡ sought3 so g i
    unfolding sought4 sought3
    done4 h = rw (sides_done d d list keep fwd r t1 t2 t3 g1 s h)

    module _ (after : Bool) (t4 : Stop) (d34 : Time) (h : s < 2) (e4 : t4 ≡ beside fwd r after t3) (ea : after ≡ eqb s 1) (e34 : d34 ≡ d t3 t4) where
      turn4 : sought4 so t3 g1 s g i ≡ seek_of d t1 may so (twos d d list keep fwd r t1 t2 after t3 t4 (g1 + d34) ++ (fifths d d list keep fwd r t1 t2 after t3 t4 (g1 + d34) (list t4) ++ (sides d d list keep fwd r t1 t2 t3 g1 (s + 1) ++ thirds d d list keep fwd r t1 t2 g (drop i (list t2)))))
      unfolding sought4
      turn4 =
          let two = twos d d list keep fwd r t1 t2 after t3 t4 (g1 + d34) in
          let five = fifths d d list keep fwd r t1 t2 after t3 t4 (g1 + d34) (list t4) in
          let more = sides d d list keep fwd r t1 t2 t3 g1 (s + 1) in
          let rest = thirds d d list keep fwd r t1 t2 g (drop i (list t2)) in
          ap (seek_of d t1 may so)
          (ap (λ (l : List Trial). l ++ rest) (sides_turn d d list keep fwd r t1 t2 t3 g1 s after t4 (g1 + d34) h ea e4 (ap (λ (x : Time). g1 + x) e34))
          ∙ append_assoc two (five ++ more) rest
          ∙ ap (λ (l : List Trial). two ++ l) (append_assoc five more rest))

      module _ (c : ℕ) (w : Time) (s3 s4 s5 s6 : Stop) (is : pick c w s3 s4 s5 s6 ≡ tried_two d after t1 t3 t4 (g1 + d34)) where
        tried : pick c w s3 s4 s5 s6 ≡ first_of d t1 (twos d d list keep fwd r t1 t2 after t3 t4 (g1 + d34))
        tried = is ∙ two_tried d list keep fwd r t1 t2 after t3 t4 (g1 + d34)

        pub hit4 : 0 < w → sought4 so t3 g1 s g i ≡ sought true (pick c w s3 s4 s5 s6)
        hit4 k = turn4 ∙ first_closes d t1 may _ _ so c w s3 s4 s5 s6 tried k

        pub miss4 : ((x : Trial) → x.case ≡ two → may x ≡ false) → w ≤ 0 → sought4 so t3 g1 s g i ≡ sought5 so after t3 t4 (g1 + d34) 0 g1 (s + 1) g i
        unfolding sought5
        miss4 no_two k = turn4 ∙ two_stays d t1 may no_two list fwd r t2 after t3 t4 (g1 + d34) _ so c w s3 s4 s5 s6 tried k

  -- ---- t5
  module _ (so : Pick) (after : Bool) (t3 t4 : Stop) (g2 : Time) (j : ℕ) (g1 : Time) (s : ℕ) (g : Time) (i : ℕ) where
    pub done5 : length (list t4) ≤ j → sought5 so after t3 t4 g2 j g1 s g i ≡ sought4 so t3 g1 s g i
    unfolding sought5 sought4 fifths
    done5 h = rw (skip_done (λ t. sixths d d list keep fwd r t1 t2 after t3 t4 t (g2 - d t4 t)) (free5 r t1 t4) (λ t. ltb (d t4 t) g2) (list t4) j h)

    module _ (t5 next prev : Stop) (d45 : Time) (out : Bool) (hj : j < length (list t4)) (e5 : t5 ≡ at (list t4) j) (e45 : d45 ≡ d t4 t5) (en : next ≡ succ r t4) (ep : prev ≡ pred r t4) (eo : out ≡ out5 g2 d45 t5 t1 next prev) where
      leg45 : d45 ≡ d t4 (at (list t4) j)
      leg45 = e45 ∙ ap (d t4) e5

      test5 : out ≡ leb g2 d45 || (eqb (at (list t4) j) t1 || (eqb (at (list t4) j) (succ r t4) || eqb (at (list t4) j) (pred r t4)))
      unfolding out5
      test5 = rw (← e5, ← en, ← ep) eo

      on5 : leb g2 d45 ≡ false → ltb (d t4 (at (list t4) j)) g2 ≡ true
      on5 low = let e : d45 ≡ d t4 (at (list t4) j) = leg45 in let k : d t4 (at (list t4) j) < g2 = omega (arith, leb-false g2 d45 low) in lt-ltb _ _ k

      poor5 : leb g2 d45 ≡ true → ltb (d t4 (at (list t4) j)) g2 ≡ false
      poor5 high = let e : d45 ≡ d t4 (at (list t4) j) = leg45 in let k : g2 ≤ d t4 (at (list t4) j) = omega (arith, leb-true g2 d45 high) in le-ltb _ _ k

      -- the trials that are left once t4's list is through
      later : List Trial
      later = sides d d list keep fwd r t1 t2 t3 g1 s ++ thirds d d list keep fwd r t1 t2 g (drop i (list t2))

      pub skip5 : out ≡ true → sought5 so after t3 t4 g2 j g1 s g i ≡ sought5 so after t3 t4 g2 (j + 1) g1 s g i
      unfolding sought5 fifths free5 later
      skip5 y = go (poor_or_barred (leb g2 d45) _ (sym test5 ∙ y))
        where
          go : (leb g2 d45 ≡ true) ⊎ ((leb g2 d45 ≡ false) × ((eqb (at (list t4) j) t1 || (eqb (at (list t4) j) (succ r t4) || eqb (at (list t4) j) (pred r t4))) ≡ true)) → sought5 so after t3 t4 g2 j g1 s g i ≡ sought5 so after t3 t4 g2 (j + 1) g1 s g i
          go (inl p) = ap (λ (l : List Trial). seek_of d t1 may so (l ++ later)) (skip_poor (λ t. sixths d d list keep fwd r t1 t2 after t3 t4 t (g2 - d t4 t)) (free5 r t1 t4) (λ t. ltb (d t4 t) g2) (list t4) j hj (poor5 p))
          go (inr p) = ap (λ (l : List Trial). seek_of d t1 may so (l ++ later)) (skip_barred (λ t. sixths d d list keep fwd r t1 t2 after t3 t4 t (g2 - d t4 t)) (free5 r t1 t4) (λ t. ltb (d t4 t) g2) (list t4) j hj (on5 p.0) (ap not p.1))

      module _ (n : out ≡ false) (closed : Bool) (p : Pick) (is : sought closed p ≡ sought_fifth d may so fwd r after t1 t2 t3 t4 t5 (g2 - d45)) where
        turn5 : sought5 so after t3 t4 g2 j g1 s g i ≡ seek_of d t1 may so (sixths d d list keep fwd r t1 t2 after t3 t4 t5 (g2 - d45) ++ (fifths d d list keep fwd r t1 t2 after t3 t4 g2 (drop (j + 1) (list t4)) ++ later))
        unfolding sought5 fifths free5 later
        turn5 =
            let q = neither (leb g2 d45) _ (sym test5 ∙ n) in
            rw (e5, leg45)
            (ap (seek_of d t1 may so)
            (ap (λ (l : List Trial). l ++ later) (skip_try (λ t. sixths d d list keep fwd r t1 t2 after t3 t4 t (g2 - d t4 t)) (free5 r t1 t4) (λ t. ltb (d t4 t) g2) (list t4) j hj (on5 q.0) (ap not q.1))
            ∙ append_assoc (sixths d d list keep fwd r t1 t2 after t3 t4 (at (list t4) j) (g2 - d t4 (at (list t4) j))) _ later))

        seen5 : sought closed p ≡ seek_of d t1 may so (sixths d d list keep fwd r t1 t2 after t3 t4 t5 (g2 - d45))
        seen5 = is ∙ fifth_sought d may so list fwd r after t1 t2 t3 t4 t5 (g2 - d45)

        pub hit5 : closed ≡ true → sought5 so after t3 t4 g2 j g1 s g i ≡ sought closed p
        hit5 y = turn5 ∙ part_closes d t1 may _ _ so p (rw y at seen5) ∙ sym (ap (λ (b : Bool). sought b p) y)

        pub miss5 : closed ≡ false → sought5 so after t3 t4 g2 j g1 s g i ≡ sought5 p after t3 t4 g2 (j + 1) g1 s g i
        unfolding sought5 later
        miss5 y = turn5 ∙ part_stays d t1 may _ _ so p (rw y at seen5)
