-- 01, 6: what a move of `apply_seq3` does to the time, where legs take as long as their return, and what it leaves: a reading from its last
-- stop to t1.
use Prim.Native.Nat.{◌+◌, ◌<◌, ◌≤◌, ℕ}
use mathlib.Core.Path.{◌∙◌, ◌≡◌, ap, ap₂, refl, subst, sym}
use mathlib.Core.Bool.{Bool, false, true}
use mathlib.Core.List.{List, ◌++◌, ◌∷◌, append_assoc, reverse, reverse-append}
use native.Mathlib.Omega.{arith}
use lib.ListN.{length, length-append, length-reverse}
use Rattle.rules.specs.Journal.{Track}
use Rattle.rules.specs.Lists.{tally}
use Rattle.rules.specs.Moves.{flip, or_move}
use Rattle.rules.specs.Ring.{recount}
use Rattle.rules.specs.Words.{Legs, Round, Stop}
use Rattle.laws.proofs.EvenLaws.{Even, below_end, below_head, reverse_time}
use Rattle.laws.proofs.EveryLaws.{Below, all_left, all_right}
use Rattle.laws.proofs.FlipLaws.{Either, flip_reads}
use Rattle.laws.proofs.OrMoveLaws.{or_move_reads, or_move_time}
use Rattle.laws.proofs.PermLaws.{Perm, perm_kept}
use Rattle.laws.proofs.ReadLaws.{Reads, driven, reads_below, reads_length, reads_tally, reads_time, reads_turn}
use Rattle.laws.proofs.TallyLaws.{tally_join, tally_reverse}
use Rattle.laws.proofs.TimeLaws.{back, end, end_join, returned}

-- a rearranged round: the same stops, read from `last` to t1; the legs `gone` are gone and those of `come` have come
pub record Lands (d : Legs) (r after : Round) (t1 last gone come : ℕ) : Type 0 where
  pub way : Bool
  pub rest : List Stop
  pub reads : Reads way after (last ∷ rest)
  pub ends : end last rest ≡ t1
  pub legs : recount d after + gone ≡ recount d r + come
  pub same : (v : Stop) → tally after v ≡ tally r v
  pub size : length after ≡ length r

flip_same : (r after M W : List Stop) (o : Bool) → Reads o r (M ++ W) → Either after (reverse M ++ W) → (v : Stop) → tally after v ≡ tally r v
flip_same r after M W o h e v =
    omega (arith, reads_tally o r (M ++ W) h v, reads_tally e.way after (reverse M ++ W) e.reads v, tally_join v M W, tally_join v (reverse M) W, tally_reverse v M)

flip_size : (r after M W : List Stop) (o : Bool) → Reads o r (M ++ W) → Either after (reverse M ++ W) → length after ≡ length r
flip_size r after M W o h e =
    omega (arith, reads_length o r (M ++ W) h, reads_length e.way after (reverse M ++ W) e.reads, length-append M W, length-append (reverse M) W, length-reverse M)

-- the stops of a reading of two and of three parts, by their ends
ends2 : (n : ℕ) (a : Stop) (A : List Stop) (b : Stop) (B : List Stop) → Below n ((a ∷ A) ++ (b ∷ B)) → (a < n) × (end a A < n) × (b < n) × (end b B < n)
ends2 n a A b B h =
    let x = all_left (a ∷ A) (b ∷ B) h in
    let y = all_right (a ∷ A) (b ∷ B) h in
    (below_head n a A x, below_end n a A x, below_head n b B y, below_end n b B y)

ends3 : (n : ℕ) (a : Stop) (A : List Stop) (b : Stop) (B : List Stop) (c : Stop) (C : List Stop) → Below n ((a ∷ A) ++ ((b ∷ B) ++ (c ∷ C)))
    → (a < n) × (end a A < n) × (b < n) × (end b B < n) × (c < n) × (end c C < n)
ends3 n a A b B c C h =
    let x = all_left (a ∷ A) ((b ∷ B) ++ (c ∷ C)) h in
    let y = ends2 n b B c C (all_right (a ∷ A) ((b ∷ B) ++ (c ∷ C)) h) in
    (below_head n a A x, below_end n a A x, y.0, y.1, y.2, y.3)

-- ---- the 2-opt move, in either direction: t2 .. t4, t3 .. t1
module _ (d : Legs) (t : Track) (pm : Perm t.round) (even : Even d (length t.round)) (o : Bool) (long : 3 ≤ length t.round) (t2 : Stop) (A : List Stop) (t3 : Stop) (B : List Stop)
    (l : Reads o t.round ((t2 ∷ A) ++ (t3 ∷ B))) where
  two_lands : Lands d t.round (flip (end t3 B) t2 t3 t).round (end t3 B) (end t2 A) (d (end t3 B) t2 + d t3 (end t2 A)) (d t2 t3 + d (end t2 A) (end t3 B))
  two_lands =
      let n = length t.round in
      let after = (flip (end t3 B) t2 t3 t).round in
      let e = flip_reads o t pm long t2 A t3 B l in
      let f = back t2 A in
      let low = reads_below t.round pm o ((t2 ∷ A) ++ (t3 ∷ B)) l in
      let s = ends2 n t2 A t3 B low in
      let same = flip_same t.round after (t2 ∷ A) (t3 ∷ B) o l e in
      let size = flip_size t.round after (t2 ∷ A) (t3 ∷ B) o l e in
      record {
        way = e.way;
        rest = f.tail ++ (t3 ∷ B);
        reads = subst (Reads e.way after) (ap (λ x. x ++ (t3 ∷ B)) f.is) e.reads;
        ends = end_join (end t2 A) f.tail t3 B;
        legs = omega (
          arith,
          reverse_time d n even t2 A t3 B (all_left (t2 ∷ A) (t3 ∷ B) low),
          reads_time d t.round pm even o ((t2 ∷ A) ++ (t3 ∷ B)) l,
          reads_time d after (perm_kept t.round after pm same size) (subst (Even d) (sym size) even) e.way (reverse (t2 ∷ A) ++ (t3 ∷ B)) e.reads,
          even (end t2 A) t3 s.1 s.2,
          even (end t2 A) (end t3 B) s.1 s.3,
        );
        same = same;
        size = size;
      }

  -- by the names of the stops
  pub flip_lands : (t1 t4 : Stop) → end t3 B ≡ t1 → end t2 A ≡ t4 → Lands d t.round (flip t1 t2 t3 t).round t1 t4 (d t1 t2 + d t3 t4) (d t2 t3 + d t4 t1)
  flip_lands t1 t4 e1 e4 = rw (← e1, ← e4) two_lands

driven_even : (d : Legs) (n : ℕ) → Even d n → (o : Bool) (a b : Stop) → a < n → b < n → driven o d a b ≡ d a b
unfolding driven returned
driven_even d n even true a b ha hb = refl
driven_even d n even false a b ha hb = even b a hb ha

-- one move after another
then_lands : {d : Legs} {r0 r1 r2 : Round} {v w t1 last g1 c1 g2 c2 : ℕ} → Lands d r0 r1 v w g1 c1 → Lands d r1 r2 t1 last g2 c2
    → (gone come : ℕ) → gone + (c1 + c2) ≡ come + (g1 + g2) → Lands d r0 r2 t1 last gone come
then_lands x y gone come e =
    record { way = y.way; rest = y.rest; reads = y.reads; ends = y.ends; legs = omega (arith, x.legs, y.legs); same = λ v. y.same v ∙ x.same v; size = y.size ∙ x.size }

module _ (d : Legs) (t : Track) (pm : Perm t.round) (even : Even d (length t.round)) (o : Bool) where
  -- t2 .. t5, t6 .. t4, t3 .. t1: t5 before t4
  pub flips_near : 3 ≤ length t.round → (t2 : Stop) (A : List Stop) (t6 : Stop) (B : List Stop) (t3 : Stop) (C : List Stop)
      → Reads o t.round ((t2 ∷ A) ++ ((t6 ∷ B) ++ (t3 ∷ C))) → (t5 t4 t1 : Stop) → end t2 A ≡ t5 → end t6 B ≡ t4 → end t3 C ≡ t1
      → Lands d t.round (flip t1 t4 t5 (flip t1 t2 t3 t)).round t1 t6 (d t1 t2 + d t3 t4 + d t5 t6) (d t2 t3 + d t4 t5 + d t6 t1)
  flips_near h t2 A t6 B t3 C l t5 t4 t1 e5 e4 e1 =
      let M = t2 ∷ (A ++ (t6 ∷ B)) in
      let W = t3 ∷ C in
      let l' : Reads o t.round (M ++ W) = subst (Reads o t.round) (sym (append_assoc (t2 ∷ A) (t6 ∷ B) W)) l in
      let T = flip t1 t2 t3 t in
      let e : Either T.round (reverse M ++ W) = rw (← e1) (flip_reads o t pm h t2 (A ++ (t6 ∷ B)) t3 C l') in
      let f = flip_lands d t pm even o h t2 (A ++ (t6 ∷ B)) t3 C l' t1 t4 e1 (end_join t2 A t6 B ∙ e4) in
      let a = back t2 A in
      let b = back t6 B in
      let p : reverse M ++ W ≡ (t4 ∷ b.tail) ++ (t5 ∷ (a.tail ++ W)) =
      ap (λ x. x ++ W) (reverse-append (t2 ∷ A) (t6 ∷ B)) ∙ append_assoc (reverse (t6 ∷ B)) (reverse (t2 ∷ A)) W ∙ ap₂ (λ x y. x ++ (y ++ W)) (b.is ∙ ap (λ v. v ∷ b.tail) e4) (a.is ∙ ap (λ v. v ∷ a.tail) e5) in
      let g = flip_lands d T (perm_kept t.round T.round pm f.same f.size) (subst (Even d) (sym f.size) even) e.way (omega (arith, f.size)) t4 b.tail t5 (a.tail ++ W) (subst (Reads e.way T.round) p e.reads) t1 t6
      (end_join t5 a.tail t3 C ∙ e1) (ap (λ v. end v b.tail) (sym e4) ∙ b.ends) in
      let s = ends3 (length t.round) t2 A t6 B t3 C (reads_below t.round pm o ((t2 ∷ A) ++ ((t6 ∷ B) ++ (t3 ∷ C))) l) in
      let h1 : t1 < length t.round = omega (arith, s.5) in
      let h4 : t4 < length t.round = omega (arith, s.3) in
      then_lands f g _ _ (omega (arith, even t1 t4 h1 h4))

  -- t2 .. t4, t3 .. t6, t5 .. t1: t5 behind t4
  pub flips_far : 3 ≤ length t.round → (t2 : Stop) (A : List Stop) (t3 : Stop) (B : List Stop) (t5 : Stop) (C : List Stop)
      → Reads o t.round ((t2 ∷ A) ++ ((t3 ∷ B) ++ (t5 ∷ C))) → (t4 t6 t1 : Stop) → end t2 A ≡ t4 → end t3 B ≡ t6 → end t5 C ≡ t1
      → Lands d t.round (flip t1 t4 t5 (flip t1 t2 t3 t)).round t1 t6 (d t1 t2 + d t3 t4 + d t5 t6) (d t2 t3 + d t4 t5 + d t6 t1)
  flips_far h t2 A t3 B t5 C l t4 t6 t1 e4 e6 e1 =
      let M = t2 ∷ A in
      let W = t3 ∷ (B ++ (t5 ∷ C)) in
      let T = flip t1 t2 t3 t in
      let ew : end t3 (B ++ (t5 ∷ C)) ≡ t1 = end_join t3 B t5 C ∙ e1 in
      let e : Either T.round (reverse M ++ W) = rw (← ew) (flip_reads o t pm h t2 A t3 (B ++ (t5 ∷ C)) l) in
      let f = flip_lands d t pm even o h t2 A t3 (B ++ (t5 ∷ C)) l t1 t4 ew e4 in
      let a = back t2 A in
      let p : reverse M ++ W ≡ (t4 ∷ (a.tail ++ (t3 ∷ B))) ++ (t5 ∷ C) =
      ap (λ x. x ++ W) (a.is ∙ ap (λ v. v ∷ a.tail) e4) ∙ sym (append_assoc (t4 ∷ a.tail) (t3 ∷ B) (t5 ∷ C)) in
      let g = flip_lands d T (perm_kept t.round T.round pm f.same f.size) (subst (Even d) (sym f.size) even) e.way (omega (arith, f.size)) t4 (a.tail ++ (t3 ∷ B)) t5 C (subst (Reads e.way T.round) p e.reads) t1 t6
      e1 (end_join t4 a.tail t3 B ∙ e6) in
      let s = ends3 (length t.round) t2 A t3 B t5 C (reads_below t.round pm o ((t2 ∷ A) ++ ((t3 ∷ B) ++ (t5 ∷ C))) l) in
      let h1 : t1 < length t.round = omega (arith, s.5) in
      let h4 : t4 < length t.round = omega (arith, s.1) in
      then_lands f g _ _ (omega (arith, even t1 t4 h1 h4))

  -- t2 .. t6, t5 .. t3, t4 .. t1: both inner parts turn round
  pub inner_lands : 3 ≤ length t.round → (t2 : Stop) (A : List Stop) (t5 : Stop) (B : List Stop) (t4 : Stop) (C : List Stop)
      → Reads o t.round ((t2 ∷ A) ++ ((t5 ∷ B) ++ (t4 ∷ C))) → (t6 t3 t1 : Stop) → end t2 A ≡ t6 → end t5 B ≡ t3 → end t4 C ≡ t1
      → Lands d t.round (flip t2 t5 t4 (flip t1 t2 t5 t)).round t1 t6 (d t1 t2 + d t3 t4 + d t5 t6) (d t2 t3 + d t4 t5 + d t6 t1)
  inner_lands h t2 A t5 B t4 C l t6 t3 t1 e6 e3 e1 =
      let X = t2 ∷ A in
      let Y = t5 ∷ B in
      let Z = t4 ∷ C in
      let T = flip t1 t2 t5 t in
      let U = flip t2 t5 t4 T in
      let ew : end t5 (B ++ Z) ≡ t1 = end_join t5 B t4 C ∙ e1 in
      let e : Either T.round (reverse X ++ (Y ++ Z)) = rw (← ew) (flip_reads o t pm h t2 A t5 (B ++ Z) l) in
      let f = flip_lands d t pm even o h t2 A t5 (B ++ Z) l t1 t6 ew e6 in
      let a = back t2 A in
      let b = back t5 B in
      let l2 : Reads e.way T.round (Y ++ (Z ++ (t6 ∷ a.tail))) =
      subst (Reads e.way T.round) (append_assoc Y Z (reverse X) ∙ ap (λ x. Y ++ (Z ++ x)) (a.is ∙ ap (λ v. v ∷ a.tail) e6)) (reads_turn e.way T.round (reverse X) (Y ++ Z) e.reads) in
      let pm2 : Perm T.round = perm_kept t.round T.round pm f.same f.size in
      let even2 : Even d (length T.round) = subst (Even d) (sym f.size) even in
      let h2 : 3 ≤ length T.round = omega (arith, f.size) in
      let ez : end t4 (C ++ (t6 ∷ a.tail)) ≡ t2 = end_join t4 C t6 a.tail ∙ ap (λ v. end v a.tail) (sym e6) ∙ a.ends in
      let k : Either U.round (reverse Y ++ (Z ++ (t6 ∷ a.tail))) = subst (λ v. Either (flip v t5 t4 T).round (reverse Y ++ (Z ++ (t6 ∷ a.tail)))) ez (flip_reads e.way T pm2 h2 t5 B t4 (C ++ (t6 ∷ a.tail)) l2) in
      let g = flip_lands d T pm2 even2 e.way h2 t5 B t4 (C ++ (t6 ∷ a.tail)) l2 t2 t3 ez e3 in
      let l3 : Reads k.way U.round ((t6 ∷ a.tail) ++ (reverse Y ++ Z)) =
      reads_turn k.way U.round (reverse Y ++ Z) (t6 ∷ a.tail) (subst (Reads k.way U.round) (sym (append_assoc (reverse Y) Z (t6 ∷ a.tail))) k.reads) in
      let s = ends3 (length t.round) t2 A t5 B t4 C (reads_below t.round pm o ((t2 ∷ A) ++ ((t5 ∷ B) ++ (t4 ∷ C))) l) in
      let h3 : t3 < length t.round = omega (arith, s.3) in
      let m = then_lands f g (d t1 t2 + d t3 t4 + d t5 t6) (d t2 t3 + d t4 t5 + d t6 t1) (omega (arith, even t2 t5 s.0 s.2, even t5 t4 s.2 s.4, even t3 t2 h3 s.0, even t4 t3 s.4 h3)) in
      record {
        way = k.way;
        rest = a.tail ++ (reverse Y ++ Z);
        reads = l3;
        ends = ap (λ x. end t6 (a.tail ++ (x ++ Z))) b.is ∙ end_join t6 a.tail (end t5 B) (b.tail ++ Z) ∙ end_join (end t5 B) b.tail t4 C ∙ e1;
        legs = m.legs;
        same = m.same;
        size = m.size;
      }

  -- t2 .. t5, t6 .. t3, t4 .. t1: the two inner parts change places
  pub segment_lands : (t2 : Stop) (A : List Stop) (t6 : Stop) (B : List Stop) (t4 : Stop) (C : List Stop)
      → Reads o t.round ((t2 ∷ A) ++ ((t6 ∷ B) ++ (t4 ∷ C))) → (t5 t3 t1 : Stop) → end t2 A ≡ t5 → end t6 B ≡ t3 → end t4 C ≡ t1
      → Lands d t.round (or_move o t1 t2 t5 t6 t3 t4 t).round t1 t6 (d t1 t2 + d t3 t4 + d t5 t6) (d t2 t3 + d t4 t5 + d t6 t1)
  segment_lands t2 A t6 B t4 C l t5 t3 t1 e5 e3 e1 =
      let X = t2 ∷ A in
      let Y = t6 ∷ B in
      let Z = t4 ∷ C in
      let U = or_move o t1 t2 t5 t6 t3 t4 t in
      let k : Reads o U.round (Y ++ (X ++ Z)) = rw (← e1, ← e5, ← e3) (or_move_reads t pm o t2 A t6 B t4 C l) in
      let c : recount d U.round + (driven o d t1 t2 + driven o d t5 t6 + driven o d t3 t4) ≡ recount d t.round + (driven o d t1 t6 + driven o d t3 t2 + driven o d t5 t4)
      = rw (← e1, ← e5, ← e3) (or_move_time t pm d o t2 A t6 B t4 C l) in
      let s = ends3 (length t.round) t2 A t6 B t4 C (reads_below t.round pm o (X ++ (Y ++ Z)) l) in
      let h5 : t5 < length t.round = omega (arith, s.1) in
      let h3 : t3 < length t.round = omega (arith, s.3) in
      let h1 : t1 < length t.round = omega (arith, s.5) in
      record {
        way = o;
        rest = B ++ (X ++ Z);
        reads = k;
        ends = end_join t6 B t2 (A ++ Z) ∙ end_join t2 A t4 C ∙ e1;
        legs = omega (
          arith,
          c,
          driven_even d (length t.round) even o t1 t2 h1 s.0,
          driven_even d (length t.round) even o t5 t6 h5 s.2,
          driven_even d (length t.round) even o t3 t4 h3 s.4,
          driven_even d (length t.round) even o t1 t6 h1 s.2,
          driven_even d (length t.round) even o t3 t2 h3 s.0,
          driven_even d (length t.round) even o t5 t4 h5 s.4,
          even t1 t6 h1 s.2,
          even t3 t2 h3 s.0,
          even t5 t4 h5 s.4,
        );
        same = λ v. omega (arith, reads_tally o U.round (Y ++ (X ++ Z)) k v, reads_tally o t.round (X ++ (Y ++ Z)) l v, tally_join v Y (X ++ Z), tally_join v X Z, tally_join v X (Y ++ Z), tally_join v Y Z);
        size = omega (arith, reads_length o U.round (Y ++ (X ++ Z)) k, reads_length o t.round (X ++ (Y ++ Z)) l, length-append Y (X ++ Z), length-append X Z, length-append X (Y ++ Z), length-append Y Z);
      }
