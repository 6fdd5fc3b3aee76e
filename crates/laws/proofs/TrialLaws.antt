-- 01, 7: every trial is a move, and `partial` is what it gains but for the closing leg, where legs take as long as their return.
use Prim.Native.Nat.{◌+◌, ◌-◌, ◌<◌, ◌≤◌, ℕ}
use mathlib.Core.Path.{◌∙◌, ◌≡◌, ap, refl, subst, sym}
use mathlib.Core.Logic.{◌≢◌}
use mathlib.Core.Bool.{Bool, ◌||◌, false, not, true}
use mathlib.Core.List.{List, [], ◌++◌, ◌∷◌, append_assoc}
use native.Mathlib.Omega.{arith}
use lib.Dec.{eqb, ltb}
use lib.ListN.{length, length-append}
use borrow.Author.Tests.{eqb-false, ltb-true}
use Rattle.rules.specs.Improve.{Scan, Trial, free3, free5, side, sixths, trials, twos}
use Rattle.rules.specs.Journal.{Track}
use Rattle.rules.specs.Lists.{each, keep, tally}
use Rattle.rules.specs.Moves.{Case, flip, flips, inner, or_move, segment, seq3, two}
use Rattle.rules.specs.Plan.{Plan, alpha_of, near_of}
use Rattle.rules.specs.Ring.{ahead, behind, beside, between, pred, succ}
use Rattle.rules.specs.Words.{Legs, Round, Stop, Time}
use Rattle.laws.proofs.ChoiceLaws.{either_if, nor_true}
use Rattle.laws.proofs.EvenLaws.{Even}
use Rattle.laws.proofs.EveryLaws.{All, all_each, all_join, all_keep, more, none}
use Rattle.laws.proofs.FlipLaws.{tally_end}
use Rattle.laws.proofs.LandLaws.{Lands, flip_lands, flips_far, flips_near, inner_lands, segment_lands}
use Rattle.laws.proofs.PermLaws.{Perm}
use Rattle.laws.proofs.PlaceLaws.{tally_at}
use Rattle.laws.proofs.ReadLaws.{Reads, reads_length, reads_tally}
use Rattle.laws.proofs.SpotLaws.{reads_seam}
use Rattle.laws.proofs.TallyLaws.{tally_join}
use Rattle.laws.proofs.TimeLaws.{end, end_join}
use Rattle.laws.proofs.WayLaws.{CutAfter, CutAt, Start, after_it, at_it, cut_after, cut_at, in_part, out_part}

-- list entries are below n and not the stop itself
abbrev pub GoodList : ℕ → (Stop → List Stop) → Type 0
GoodList n list = (v : Stop) → v < n → All (λ w. (w < n) × (w ≢ v)) (list v)

-- the lists of a plan for n stops
pub record Lists (p : Plan) (n : ℕ) : Type 0 where
  pub near : GoodList n (near_of p)
  pub alpha : GoodList n (alpha_of p)

-- a scan keeps entries that pass its test
abbrev pub Scans : Scan → Type 1
Scans scan = (P : ℕ → Type 0) (p : ℕ → Bool) (l : List Stop) → All P l → All (λ x. P x × (p x ≡ true)) (scan p l)

-- a trial from a gain g so far: carried out, it leaves the ring read from its last stop to t1, and `partial` is the gain but for the closing leg
unfoldable pub Worth : Legs → Track → Bool → Stop → Stop → Time → Trial → Type 0
Worth d t fwd t1 t2 g x = Lands d t.round (seq3 fwd x.case t1 t2 x.t3 x.t4 x.t5 x.t6 t).round t1 x.t6 (x.partial + d t1 t2) (g + d x.t6 t1)

-- the same legs, counted otherwise
pub weighed : {d : Legs} {r after : Round} {t1 last gone come : ℕ} → Lands d r after t1 last gone come → (gone' come' : ℕ) → gone' + come ≡ come' + gone → Lands d r after t1 last gone' come'
weighed l gone' come' e = record { way = l.way; rest = l.rest; reads = l.reads; ends = l.ends; legs = omega (arith, l.legs); same = l.same; size = l.size }

long_enough : (o : Bool) (r : Round) (a : Stop) (A : List Stop) (b : Stop) (B : List Stop) → Reads o r ((a ∷ A) ++ (b ∷ B)) → b ≢ end b B → 3 ≤ length r
unfolding end
long_enough o r a A b [] l ne = absurd (ne refl)
long_enough o r a A b (c ∷ B) l ne = omega (arith, reads_length o r ((a ∷ A) ++ (b ∷ c ∷ B)) l, length-append (a ∷ A) (b ∷ c ∷ B))

-- a 3-opt trial
abbrev three : Legs → Stop → Time → Case → Stop → Stop → Stop → Stop → Trial
three d t2 g c t3 t4 t5 t6 = record { case = c; t3 = t3; t4 = t4; t5 = t5; t6 = t6; partial = g - d t2 t3 + d t3 t4 - d t4 t5 + d t5 t6 }

module _ (d : Legs) (t : Track) (pm : Perm t.round) (even : Even d (length t.round)) (fwd : Bool) (t1 t2 g : ℕ) where
  module _ (t3 t4 t5 t6 : Stop) (h3 : d t2 t3 < g) (h5 : d t4 t5 < g - d t2 t3 + d t3 t4) where
    three_flips : Lands d t.round (flip t1 t4 t5 (flip t1 t2 t3 t)).round t1 t6 (d t1 t2 + d t3 t4 + d t5 t6) (d t2 t3 + d t4 t5 + d t6 t1) → Worth d t fwd t1 t2 g (three d t2 g flips t3 t4 t5 t6)
    unfolding Worth seq3
    three_flips k = weighed k _ _ (omega arith)

    three_segment : Lands d t.round (or_move fwd t1 t2 t5 t6 t3 t4 t).round t1 t6 (d t1 t2 + d t3 t4 + d t5 t6) (d t2 t3 + d t4 t5 + d t6 t1) → Worth d t fwd t1 t2 g (three d t2 g segment t3 t4 t5 t6)
    unfolding Worth seq3
    three_segment k = weighed k _ _ (omega arith)

    three_inner : Lands d t.round (flip t2 t5 t4 (flip t1 t2 t5 t)).round t1 t6 (d t1 t2 + d t3 t4 + d t5 t6) (d t2 t3 + d t4 t5 + d t6 t1) → Worth d t fwd t1 t2 g (three d t2 g inner t3 t4 t5 t6)
    unfolding Worth seq3
    three_inner k = weighed k _ _ (omega arith)

  -- ---- t4 before t3: t2 .. t4, t3 .. t1
  module _ (P : List Stop) (t3 : Stop) (Q : List Stop) (l : Reads fwd t.round ((t2 ∷ P) ++ (t3 ∷ Q))) (e1 : end t3 Q ≡ t1) (n3 : 3 ≤ length t.round) (h3 : d t2 t3 < g) (t4 : Stop) (e4 : end t2 P ≡ t4) where
    worth_two : Worth d t fwd t1 t2 g (record { case = two; t3 = t3; t4 = t4; t5 = t4; t6 = t4; partial = g - d t2 t3 + d t3 t4 })
    unfolding Worth seq3
    worth_two = weighed (flip_lands d t pm even fwd n3 t2 P t3 Q l t1 t4 e1 e4) _ _ (omega arith)

    module _ (t5 : Stop) (i5 : 0 < tally t.round t5) (h5 : d t4 t5 < g - d t2 t3 + d t3 t4) (n4 : t5 ≢ t4) where
      flips_in : between fwd t.round t2 t5 t4 ≡ true → Worth d t fwd t1 t2 g (three d t2 g flips t3 t4 t5 (ahead fwd t.round t5))
      flips_in y = go (cut_after t2 P t5 (in_part t.round pm fwd t2 P (t3 ∷ Q) t5 l i5 (ap (between fwd t.round t2 t5) e4 ∙ y)) (λ e. n4 (e ∙ e4)))
        where
          go : CutAfter t2 P t5 → Worth d t fwd t1 t2 g (three d t2 g flips t3 t4 t5 (ahead fwd t.round t5))
          go (after_it A w B p q s) =
              let l' : Reads fwd t.round ((t2 ∷ A) ++ ((w ∷ B) ++ (t3 ∷ Q))) = subst (Reads fwd t.round) (ap (λ x. (t2 ∷ x) ++ (t3 ∷ Q)) p ∙ append_assoc (t2 ∷ A) (w ∷ B) (t3 ∷ Q)) l in
              let j : ahead fwd t.round t5 ≡ w = ap (ahead fwd t.round) (sym q) ∙ (reads_seam t.round pm fwd t2 A w (B ++ (t3 ∷ Q)) l').ahead_is in
              subst (λ v. Worth d t fwd t1 t2 g (three d t2 g flips t3 t4 t5 v)) (sym j)
              (three_flips t3 t4 t5 w h3 h5 (flips_near d t pm even fwd n3 t2 A w B t3 Q l' t5 t4 t1 q (s ∙ e4) e1))

      flips_out : t5 ≢ t3 → between fwd t.round t2 t5 t4 ≡ false → Worth d t fwd t1 t2 g (three d t2 g flips t3 t4 t5 (behind fwd t.round t5))
      flips_out ne y = go (cut_at t3 Q t5 (out_part t.round pm fwd t2 P (t3 ∷ Q) t5 l i5 (ap (between fwd t.round t2 t5) e4 ∙ y)) ne)
        where
          go : CutAt t3 Q t5 → Worth d t fwd t1 t2 g (three d t2 g flips t3 t4 t5 (behind fwd t.round t5))
          go (at_it A B p q) =
              let l' : Reads fwd t.round ((t2 ∷ P) ++ ((t3 ∷ A) ++ (t5 ∷ B))) = subst (λ x. Reads fwd t.round ((t2 ∷ P) ++ (t3 ∷ x))) p l in
              let l'' : Reads fwd t.round ((t2 ∷ (P ++ (t3 ∷ A))) ++ (t5 ∷ B)) = subst (Reads fwd t.round) (sym (append_assoc (t2 ∷ P) (t3 ∷ A) (t5 ∷ B))) l' in
              let j : behind fwd t.round t5 ≡ end t3 A = (reads_seam t.round pm fwd t2 (P ++ (t3 ∷ A)) t5 B l'').behind_is ∙ end_join t2 P t3 A in
              three_flips t3 t4 t5 (behind fwd t.round t5) h3 h5 (flips_far d t pm even fwd n3 t2 P t3 A t5 B l' t4 (behind fwd t.round t5) t1 e4 (sym j) (q ∙ e1))

  -- ---- t4 behind t3: t2 .. t3, t4 .. t1
  module _ (P : List Stop) (t4 : Stop) (Q : List Stop) (l : Reads fwd t.round ((t2 ∷ P) ++ (t4 ∷ Q))) (e1 : end t4 Q ≡ t1) (t3 : Stop) (e3 : end t2 P ≡ t3) (h3 : d t2 t3 < g)
      (t5 : Stop) (i5 : 0 < tally t.round t5) (h5 : d t4 t5 < g - d t2 t3 + d t3 t4) (y : between fwd t.round t2 t5 t3 ≡ true) where
    inside : 0 < tally (t2 ∷ P) t5
    inside = in_part t.round pm fwd t2 P (t4 ∷ Q) t5 l i5 (ap (between fwd t.round t2 t5) e3 ∙ y)

    segment_in : t5 ≢ t3 → Worth d t fwd t1 t2 g (three d t2 g segment t3 t4 t5 (ahead fwd t.round t5))
    segment_in ne = go (cut_after t2 P t5 inside (λ e. ne (e ∙ e3)))
      where
        go : CutAfter t2 P t5 → Worth d t fwd t1 t2 g (three d t2 g segment t3 t4 t5 (ahead fwd t.round t5))
        go (after_it A w B p q s) =
            let l' : Reads fwd t.round ((t2 ∷ A) ++ ((w ∷ B) ++ (t4 ∷ Q))) = subst (Reads fwd t.round) (ap (λ x. (t2 ∷ x) ++ (t4 ∷ Q)) p ∙ append_assoc (t2 ∷ A) (w ∷ B) (t4 ∷ Q)) l in
            let j : ahead fwd t.round t5 ≡ w = ap (ahead fwd t.round) (sym q) ∙ (reads_seam t.round pm fwd t2 A w (B ++ (t4 ∷ Q)) l').ahead_is in
            subst (λ v. Worth d t fwd t1 t2 g (three d t2 g segment t3 t4 t5 v)) (sym j)
            (three_segment t3 t4 t5 w h3 h5 (segment_lands d t pm even fwd t2 A w B t4 Q l' t5 t3 t1 q (s ∙ e3) e1))

    inner_in : t5 ≢ t2 → Worth d t fwd t1 t2 g (three d t2 g inner t3 t4 t5 (behind fwd t.round t5))
    inner_in ne = go (cut_at t2 P t5 inside ne)
      where
        go : CutAt t2 P t5 → Worth d t fwd t1 t2 g (three d t2 g inner t3 t4 t5 (behind fwd t.round t5))
        go (at_it A B p q) =
            let l' : Reads fwd t.round ((t2 ∷ A) ++ ((t5 ∷ B) ++ (t4 ∷ Q))) = subst (Reads fwd t.round) (ap (λ x. (t2 ∷ x) ++ (t4 ∷ Q)) p ∙ append_assoc (t2 ∷ A) (t5 ∷ B) (t4 ∷ Q)) l in
            let j : behind fwd t.round t5 ≡ end t2 A = (reads_seam t.round pm fwd t2 A t5 (B ++ (t4 ∷ Q)) l').behind_is in
            let n3 : 3 ≤ length t.round = omega (arith, reads_length fwd t.round ((t2 ∷ A) ++ ((t5 ∷ B) ++ (t4 ∷ Q))) l', length-append (t2 ∷ A) ((t5 ∷ B) ++ (t4 ∷ Q)), length-append (t5 ∷ B) (t4 ∷ Q)) in
            three_inner t3 t4 t5 (behind fwd t.round t5) h3 h5 (inner_lands d t pm even fwd n3 t2 A t5 B t4 Q l' (behind fwd t.round t5) t3 t1 (sym j) (q ∙ e3) e1)

  -- ---- the scans
  apart3 : (t3 : Stop) → free3 fwd t.round t1 t2 t3 ≡ true → t3 ≢ t1
  unfolding free3
  apart3 t3 e = eqb-false _ _ (nor_true (eqb t3 t1) (eqb t3 (ahead fwd t.round t2)) e).0

  apart5 : (t4 t5 : Stop) → free5 t.round t1 t4 t5 ≡ true → (o : Bool) → t5 ≢ ahead o t.round t4
  unfolding ahead free5
  apart5 t4 t5 e true = eqb-false _ _ (nor_true (eqb t5 (succ t.round t4)) (eqb t5 (pred t.round t4)) (ap not (nor_true (eqb t5 t1) (eqb t5 (succ t.round t4) || eqb t5 (pred t.round t4)) e).1)).0
  apart5 t4 t5 e false = eqb-false _ _ (nor_true (eqb t5 (succ t.round t4)) (eqb t5 (pred t.round t4)) (ap not (nor_true (eqb t5 t1) (eqb t5 (succ t.round t4) || eqb t5 (pred t.round t4)) e).1)).1

  behind_ahead : (o : Bool) (v : Stop) → behind o t.round v ≡ ahead (not o) t.round v
  unfolding ahead behind
  behind_ahead true v = refl
  behind_ahead false v = refl

  module _ (list : ℕ → List Stop) (listed : GoodList (length t.round) list) (scan : Scan) (scans : Scans scan) where
    -- what is known of a t5
    abbrev Fifth : ℕ → ℕ → ℕ → Type 0
    Fifth t3 t4 t5 = (((t5 < length t.round) × (t5 ≢ t4)) × (ltb (d t4 t5) (g - d t2 t3 + d t3 t4) ≡ true)) × (free5 t.round t1 t4 t5 ≡ true)

    fifths : (t3 t4 : Stop) → t4 < length t.round
        → All (Fifth t3 t4) (keep (free5 t.round t1 t4) (scan (λ t5. ltb (d t4 t5) (g - d t2 t3 + d t3 t4)) (list t4)))
    fifths t3 t4 h = all_keep _ _ (scans _ _ _ (listed t4 h))

    side_before : (P : List Stop) (t3 : Stop) (Q : List Stop) → Reads fwd t.round ((t2 ∷ P) ++ (t3 ∷ Q)) → end t3 Q ≡ t1 → t3 ≢ t1 → d t2 t3 < g
        → All (Worth d t fwd t1 t2 g) (side d d list scan fwd t.round t1 t2 t3 (g - d t2 t3) false)
    unfolding side sixths twos beside
    side_before P t3 Q l e1 n1 h3 =
        let t4 = behind fwd t.round t3 in
        let j = reads_seam t.round pm fwd t2 P t3 Q l in
        let e4 : end t2 P ≡ t4 = sym j.behind_is in
        let n3 : 3 ≤ length t.round = long_enough fwd t.round t2 P t3 Q l (λ e. n1 (e ∙ e1)) in
        let i4 : 0 < tally t.round t4 = rw (← e4) (omega (arith, tally_end t2 P, tally_join (end t2 P) (t2 ∷ P) (t3 ∷ Q), reads_tally fwd t.round ((t2 ∷ P) ++ (t3 ∷ Q)) l (end t2 P))) in
        let e3 : ahead fwd t.round t4 ≡ t3 = ap (ahead fwd t.round) (sym e4) ∙ j.ahead_is in
        more (worth_two P t3 Q l e1 n3 h3 t4 e4)
        (all_each {P = Fifth t3 t4} _ _
        (λ t5 f.
        let h5 : d t4 t5 < g - d t2 t3 + d t3 t4 = ltb-true (d t4 t5) (g - d t2 t3 + d t3 t4) f.0.1 in
        let i5 : 0 < tally t.round t5 = pm.has t5 f.0.0.0 in
        let ne : t5 ≢ t3 = λ e. apart5 t4 t5 f.1 fwd (e ∙ sym e3) in
        more (either_if (λ v. Worth d t fwd t1 t2 g (three d t2 g flips t3 t4 t5 v)) (between fwd t.round t2 t5 t4)
        (flips_in P t3 Q l e1 n3 h3 t4 e4 t5 i5 h5 f.0.0.1) (flips_out P t3 Q l e1 n3 h3 t4 e4 t5 i5 h5 f.0.0.1 ne)) none)
        (fifths t3 t4 (pm.only t4 i4)))

    abbrev deeper : ℕ → ℕ → List Trial
    deeper t3 t4 = each (λ t5. sixths d d list scan fwd t.round t1 t2 true t3 t4 t5 (g - d t2 t3 + d t3 t4 - d t4 t5)) (keep (free5 t.round t1 t4) (scan (λ t5. ltb (d t4 t5) (g - d t2 t3 + d t3 t4)) (list t4)))

    deeper_behind : (P : List Stop) (t4 : Stop) (Q : List Stop) → Reads fwd t.round ((t2 ∷ P) ++ (t4 ∷ Q)) → end t4 Q ≡ t1 → (t3 : Stop) → end t2 P ≡ t3 → d t2 t3 < g → All (Worth d t fwd t1 t2 g) (deeper t3 t4)
    unfolding sixths
    deeper_behind P t4 Q l e1 t3 e3 h3 =
        let j = reads_seam t.round pm fwd t2 P t4 Q l in
        let i4 : 0 < tally t.round t4 = omega (arith, tally_at (t4 ∷ Q) 0 (omega arith), tally_join t4 (t2 ∷ P) (t4 ∷ Q), reads_tally fwd t.round ((t2 ∷ P) ++ (t4 ∷ Q)) l t4) in
        let b3 : ahead (not fwd) t.round t4 ≡ t3 = sym (behind_ahead fwd t4) ∙ j.behind_is ∙ e3 in
        all_each {P = Fifth t3 t4} _ _
        (λ t5 f.
        let h5 : d t4 t5 < g - d t2 t3 + d t3 t4 = ltb-true (d t4 t5) (g - d t2 t3 + d t3 t4) f.0.1 in
        let i5 : 0 < tally t.round t5 = pm.has t5 f.0.0.0 in
        let ne : t5 ≢ t3 = λ e. apart5 t4 t5 f.1 (not fwd) (e ∙ sym b3) in
        either_if (All (Worth d t fwd t1 t2 g)) (between fwd t.round t2 t5 t3)
        (λ y. more (segment_in P t4 Q l e1 t3 e3 h3 t5 i5 h5 y ne)
        (either_if (All (Worth d t fwd t1 t2 g)) (eqb t5 t2) (λ z. none) (λ z. more (inner_in P t4 Q l e1 t3 e3 h3 t5 i5 h5 y (eqb-false _ _ z)) none)))
        (λ y. none))
        (fifths t3 t4 (pm.only t4 i4))

    side_behind : (P : List Stop) (t4 : Stop) (Q : List Stop) → Reads fwd t.round ((t2 ∷ P) ++ (t4 ∷ Q)) → end t4 Q ≡ t1 → (t3 : Stop) → end t2 P ≡ t3 → d t2 t3 < g
        → All (Worth d t fwd t1 t2 g) (side d d list scan fwd t.round t1 t2 t3 (g - d t2 t3) true)
    unfolding side twos beside
    side_behind P t4 Q l e1 t3 e3 h3 =
        subst (λ v. All (Worth d t fwd t1 t2 g) (deeper t3 v)) (sym (ap (ahead fwd t.round) (sym e3) ∙ (reads_seam t.round pm fwd t2 P t4 Q l).ahead_is)) (deeper_behind P t4 Q l e1 t3 e3 h3)

    -- every trial from t1
    pub trials_worth : Start fwd t.round t1 t2 → All (Worth d t fwd t1 t2 g) (trials d d list scan fwd t.round t1 t2 g)
    unfolding trials
    trials_worth st =
        all_each {P = λ t3. (((t3 < length t.round) × (t3 ≢ t2)) × (ltb (d t2 t3) g ≡ true)) × (free3 fwd t.round t1 t2 t3 ≡ true)} _ _
        (λ t3 f.
        let h3 : d t2 t3 < g = ltb-true (d t2 t3) g f.0.1 in
        let i3 : 0 < tally (t2 ∷ st.rest) t3 = omega (arith, pm.has t3 f.0.0.0, reads_tally fwd t.round (t2 ∷ st.rest) st.reads t3) in
        let n1 : t3 ≢ t1 = apart3 t3 f.1 in
        all_join _ _ (go_before t3 h3 n1 (cut_at t2 st.rest t3 i3 f.0.0.1)) (go_behind t3 h3 (cut_after t2 st.rest t3 i3 (λ e. n1 (e ∙ st.ends)))))
        (all_keep _ _ (scans _ _ _ (listed t2 (pm.only t2 (omega (arith, tally_at (t2 ∷ st.rest) 0 (omega arith), reads_tally fwd t.round (t2 ∷ st.rest) st.reads t2))))))
      where
        go_before : (t3 : Stop) → d t2 t3 < g → t3 ≢ t1 → CutAt t2 st.rest t3 → All (Worth d t fwd t1 t2 g) (side d d list scan fwd t.round t1 t2 t3 (g - d t2 t3) false)
        go_before t3 h3 n1 (at_it P Q p q) = side_before P t3 Q (subst (λ x. Reads fwd t.round (t2 ∷ x)) p st.reads) (q ∙ st.ends) n1 h3

        go_behind : (t3 : Stop) → d t2 t3 < g → CutAfter t2 st.rest t3 → All (Worth d t fwd t1 t2 g) (side d d list scan fwd t.round t1 t2 t3 (g - d t2 t3) true)
        go_behind t3 h3 (after_it P w Q p q s) = side_behind P w Q (subst (λ x. Reads fwd t.round (t2 ∷ x)) p st.reads) (s ∙ st.ends) t3 q h3
