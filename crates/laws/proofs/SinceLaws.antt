-- 01, 5 to 7: tracks that a mark leads to by at most so many entries, all in range: they lead back, and hold the same stops.
use Prim.Native.Nat.{◌+◌, ◌-◌, ◌<◌, ◌≤◌, max, min, ℕ}
use mathlib.Core.Path.{◌∙◌, ◌≡◌, ap, refl, subst, sym}
use mathlib.Core.Bool.{Bool, ◌&&◌, false, true}
use mathlib.Core.List.{List, [], ◌++◌, ◌∷◌}
use native.Mathlib.Omega.{arith}
use lib.Dec.{eqb, leb, ltb}
use lib.ListN.{length, length-append}
use Rattle.rules.specs.Improve.{Trial}
use Rattle.rules.specs.Journal.{Entry, Track, doing, in_range, reversal, reversing, rollback, rotation}
use Rattle.rules.specs.Lists.{every, tally}
use Rattle.rules.specs.Moves.{Case, exchange, flip, flips, inner, or_move, segment, seq3, two}
use Rattle.rules.specs.Rewrite.{stretch}
use Rattle.rules.specs.Ring.{place, pred, succ}
use Rattle.rules.specs.Words.{Place, Stop}
use Rattle.laws.proofs.ChoiceLaws.{either_way}
use Rattle.laws.proofs.EveryLaws.{Below, all_every, all_join, every_all, more, none}
use Rattle.laws.proofs.JournalLaws.{Past, past_doing, past_length, past_past, past_refl, past_rollback}
use Rattle.laws.proofs.PermLaws.{Perm, perm_kept, pred_below}
use Rattle.laws.proofs.PlaceLaws.{place_below}
use Rattle.laws.proofs.RangeLaws.{in_reversal, in_rotation}
use Rattle.laws.proofs.StretchLaws.{stretch_fits}
use Rattle.laws.proofs.TallyLaws.{tally_undo_all}
use Rattle.laws.proofs.TrialStopLaws.{Stops}

-- the newer entries, in range, and how many at most
pub record Since (t : Track) (most : ℕ) (t' : Track) : Type 0 where
  pub past : Past t t'
  pub ranged : every (in_range (length t.round)) past.newer ≡ true
  pub few : length past.newer ≤ most

-- none; one in range; some after others; a greater bound
pub since_refl : (most : ℕ) (t : Track) → Since t most t
unfolding past_refl every
since_refl most t = record { past = past_refl t; ranged = refl; few = omega arith }

pub since_doing : (e : Entry) (t : Track) → in_range (length t.round) e ≡ true → Since t 1 (doing e t)
unfolding past_doing every
since_doing e t h = record { past = past_doing e t h; ranged = rw (h, every); few = omega arith }

every_join : (p : Entry → Bool) (xs ys : List Entry) → every p xs ≡ true → every p ys ≡ true → every p (xs ++ ys) ≡ true
every_join p xs ys h k = all_every p (xs ++ ys) (all_join xs ys (every_all p xs h) (every_all p ys k))

pub since_since : {a b c : Track} {j k : ℕ} → Since a j b → Since b k c → Since a (j + k) c
unfolding past_past
since_since {a} {b} {c} {j} {k} s u = record {
  past = past_past s.past u.past;
  ranged = every_join (in_range (length a.round)) u.past.newer s.past.newer (subst (λ n. every (in_range n) u.past.newer ≡ true) (past_length s.past) u.ranged) s.ranged;
  few = omega (arith, s.few, u.few, length-append u.past.newer s.past.newer);
}

pub since_more : {t t' : Track} (k most : ℕ) → Since t k t' → k ≤ most → Since t most t'
since_more k most s h = record { past = s.past; ranged = s.ranged; few = omega (arith, s.few) }

module _ {t t' : Track} {k : ℕ} (s : Since t k t') where
  -- the same length
  pub since_length : length t'.round ≡ length t.round
  since_length = past_length s.past

  -- the same stops
  pub since_tally : (v : Stop) → tally t'.round v ≡ tally t.round v
  since_tally v =
      sym (tally_undo_all v s.past.newer t'.round (subst (λ n. every (in_range n) s.past.newer ≡ true) (sym since_length) s.ranged)) ∙ ap (λ r. tally r v) s.past.back

  pub since_perm : Perm t.round → Perm t'.round
  since_perm p = perm_kept t.round t'.round p since_tally since_length

  -- at most so many entries more
  pub since_few : length t'.journal ≤ length t.journal + k
  since_few = omega (arith, s.few, ap length s.past.grown, length-append s.past.newer t.journal)

  -- a journal in range stays so
  pub since_ranged : (n : ℕ) → length t.round ≡ n → every (in_range n) t.journal ≡ true → every (in_range n) t'.journal ≡ true
  since_ranged n e h = rw s.past.grown (every_join (in_range n) s.past.newer t.journal (subst (λ m. every (in_range m) s.past.newer ≡ true) e s.ranged) h)

-- ---- the moves
pub since_reversing : (s e : Place) (t : Track) → s < length t.round → e < length t.round → Since t 1 (reversing s e t)
unfolding reversing
since_reversing s e t hs he =
    let w = stretch (length t.round) s e in
    let f = stretch_fits (length t.round) s e hs he in
    either_way (Since t 1) (ltb w.len 2) (since_refl 1 t)
    (since_doing (reversal w.start w.len) t (in_reversal (length t.round) w.start w.len f.start_below f.len_few))

-- taken back by a rollback to where the journal was
pub reversing_back : (s e : Place) (t : Track) → s < length t.round → e < length t.round → rollback (length t.journal) (reversing s e t) ≡ t
reversing_back s e t hs he = past_rollback (since_reversing s e t hs he).past

pub since_rotating : (t : Track) (s : Place) (a b c : ℕ) → s < length t.round → a + b + c ≤ length t.round → Since t 1 (doing (rotation s a b c) t)
since_rotating t s a b c hs h = since_doing (rotation s a b c) t (in_rotation (length t.round) s a b c hs h)

module _ (t : Track) (pm : Perm t.round) where
  spot : (v : Stop) → v < length t.round → place t.round v < length t.round
  spot v h = place_below t.round v (pm.has v h)

  -- `flip` writes one entry at most
  pub since_flip : (t1 t2 t3 : Stop) → t1 < length t.round → t2 < length t.round → t3 < length t.round → Since t 1 (flip t1 t2 t3 t)
  unfolding flip
  since_flip t1 t2 t3 h1 h2 h3 =
      let r = t.round in
      either_way (Since t 1) (eqb (succ r t1) t2)
      (since_reversing (place r t2) (place r (pred r t3)) t (spot t2 h2) (spot (pred r t3) (pred_below r pm t3 h3)))
      (since_reversing (place r t1) (place r t3) t (spot t1 h1) (spot t3 h3))

  since_exchange : (c0 c1 c2 : Place) → c0 ≤ c1 → c1 ≤ c2 → c2 < length t.round → Since t 1 (exchange c0 c1 c2 t)
  unfolding exchange
  since_exchange c0 c1 c2 h k l =
      let n = length t.round in
      either_way (Since t 1) (leb (c1 - c0) (n - (c2 - c0)) && leb (c2 - c1) (n - (c2 - c0)))
      (since_rotating t c0 (c1 - c0) 0 (c2 - c1) (omega arith) (omega arith))
      (either_way (Since t 1) (leb (c2 - c1) (c1 - c0))
      (since_rotating t c1 (c2 - c1) 0 (n - (c2 - c0)) (omega arith) (omega arith))
      (since_rotating t c2 (n - (c2 - c0)) 0 (c1 - c0) l (omega arith)))

  cuts : (p q s : Place) → p < length t.round → q < length t.round → s < length t.round
      → Since t 1 (exchange (min p (min q s)) (p + q + s - min p (min q s) - max p (max q s)) (max p (max q s)) t)
  cuts p q s hp hq hs = since_exchange (min p (min q s)) (p + q + s - min p (min q s) - max p (max q s)) (max p (max q s)) (omega arith) (omega arith) (omega arith)

  -- `or_move` writes one
  pub since_or_move : (o : Bool) (x1 y1 x2 y2 x3 y3 : Stop) → Below (length t.round) (x1 ∷ y1 ∷ x2 ∷ y2 ∷ x3 ∷ y3 ∷ []) → Since t 1 (or_move o x1 y1 x2 y2 x3 y3 t)
  unfolding or_move
  since_or_move true x1 y1 x2 y2 x3 y3 (more a1 (more b1 (more a2 (more b2 (more a3 (more b3 none)))))) = cuts (place t.round y1) (place t.round y2) (place t.round y3) (spot y1 b1) (spot y2 b2) (spot y3 b3)
  since_or_move false x1 y1 x2 y2 x3 y3 (more a1 (more b1 (more a2 (more b2 (more a3 (more b3 none)))))) = cuts (place t.round x1) (place t.round x2) (place t.round x3) (spot x1 a1) (spot x2 a2) (spot x3 a3)

-- two flips
twice : (t : Track) → Perm t.round → (a b c x y z : Stop) → Below (length t.round) (a ∷ b ∷ c ∷ x ∷ y ∷ z ∷ []) → Since t 2 (flip x y z (flip a b c t))
twice t pm a b c x y z (more ha (more hb (more hc (more hx (more hy (more hz none)))))) =
    let s = since_flip t pm a b c ha hb hc in
    let e : length (flip a b c t).round ≡ length t.round = since_length s in
    since_since s (since_flip (flip a b c t) (since_perm s pm) x y z (omega arith) (omega arith) (omega arith))

-- a move of `apply_seq3` writes at most two entries
pub since_seq3 : (fwd : Bool) (t : Track) → Perm t.round → (t1 t2 : Stop) → t1 < length t.round → t2 < length t.round → (x : Trial) → Stops (length t.round) x
    → Since t 2 (seq3 fwd x.case t1 t2 x.t3 x.t4 x.t5 x.t6 t)
unfolding seq3
since_seq3 fwd t pm t1 t2 h1 h2 x s = go x.case
  where
    go : (c : Case) → Since t 2 (seq3 fwd c t1 t2 x.t3 x.t4 x.t5 x.t6 t)
    go two = since_more 1 2 (since_flip t pm t1 t2 x.t3 h1 h2 s.third) (omega arith)
    go flips = twice t pm t1 t2 x.t3 t1 x.t4 x.t5 (more h1 (more h2 (more s.third (more h1 (more s.fourth (more s.fifth none))))))
    go segment = since_more 1 2 (since_or_move t pm fwd t1 t2 x.t5 x.t6 x.t3 x.t4 (more h1 (more h2 (more s.fifth (more s.sixth (more s.third (more s.fourth none))))))) (omega arith)
    go inner = twice t pm t1 t2 x.t5 t2 x.t5 x.t4 (more h1 (more h2 (more s.fifth (more h2 (more s.fifth (more s.fourth none))))))
