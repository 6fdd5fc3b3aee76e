-- 01, 9: what a level's scan finds decides what the level does.
use Prim.Native.Nat.{ℕ, zero, suc, ◌<◌}
use mathlib.Core.Path.{◌≡◌, refl, sym, ap, ◌∙◌, subst}
use mathlib.Core.Bool.{Bool, true, false}
use mathlib.Core.List.{List, [], ◌∷◌, ◌++◌}
use mathlib.Core.Logic.{◌≢◌, inl, inr}
use lib.ListN.{length, get_or}
use native.Mathlib.Omega.{arith}
use lib.Dec.{eqb}
use Rattle.rules.specs.Words.{Stop, Time}
use Rattle.rules.specs.Lists.{keep}
use Rattle.rules.specs.Moves.{two, seq3}
use Rattle.rules.specs.Plan.{Plan, leg_of, near_of, alpha_of}
use Rattle.rules.specs.Ring.{Leg, succ}
use Rattle.rules.specs.Improve.{Trial, ends_of, first_closing, nothing}
use Rattle.rules.specs.Step.{Step, best}
use Rattle.rules.specs.Lk3.{breadth3, level3, may_go_on, may_move, moved3}
use Rattle.laws.proofs.ChoiceLaws.{either, either_if, true_false}
use Rattle.laws.proofs.EveryLaws.{All, none, more}
use Rattle.laws.proofs.StepLaws.{all_best}
use Rattle.laws.proofs.Lone3Laws.{tried3, level3_closes, level3_last, level3_off, level3_gains, level3_fails}
use Rattle.moves.specs.Moves.{case_of}
use Rattle.tries.specs.Picks.{pick, none as no_pick}
use Rattle.improve.specs.Steps.{trial_of}
use Rattle.improve.proofs.ImproveLaws.{carried, closing_none, closing_some}
use Rattle.seeks.specs.Seeks.{Sought, sought, gain_of, may_in, move_trial}
use Rattle.seeks.proofs.SeekLaws.{seek_first, seek_gains, seek_none}
use Rattle.seeks.proofs.MayLaws.{seek_off, seek_on, may_rich, may_two}
use Rattle.scans3.specs.Scans.{scan_of}

-- 01, "for LK3 1, 1, then 1": as the table is read
pub breadth_read : (level : ℕ) → level < 2 → get_or (1 ∷ 1 ∷ []) level 0 ≡ breadth3 level
unfolding breadth3
breadth_read zero h = refl
breadth_read (suc zero) h = refl
breadth_read (suc (suc level)) h = absurd (omega arith)

-- ---- what may be gone on with: all that the rule says where another level is left, else nothing
may_step : (p : Plan) (s : Step) (t2 : Stop) (deeper : Bool) → deeper ≡ true → (xs : List Trial) → keep (may_in p.n p.matrix p.k p.near s.added s.removed deeper t2) xs ≡ keep (may_go_on p s t2) xs
unfolding may_in may_go_on may_move leg_of near_of
may_step p s t2 deeper y xs = rw y

may_last : (n : ℕ) (matrix : List Time) (k : ℕ) (near : List Stop) (added removed : List Leg) (deeper : Bool) → deeper ≡ false → (t2 : Stop) (xs : List Trial) → keep (may_in n matrix k near added removed deeper t2) xs ≡ []
unfolding keep may_in
may_last n matrix k near added removed deeper y t2 [] = refl
may_last n matrix k near added removed deeper y t2 (x ∷ xs) = rw (keep, may_in, y) (may_last n matrix k near added removed deeper y t2 xs)

-- what is kept passes
all_kept : (may : Trial → Bool) (xs : List Trial) → All (λ x. may x ≡ true) (keep may xs)
unfolding keep
all_kept may [] = none
all_kept may (x ∷ xs) = either_if (All (λ y. may y ≡ true)) (may x) {x = x ∷ keep may xs} {y = keep may xs} (λ e. more e (all_kept may xs)) (λ e. all_kept may xs)

all_first : {P : Trial → Type 0} {x : Trial} {xs : List Trial} → All P (x ∷ xs) → P x
all_first (more h a) = h

-- ---- a level by its scan
module _ (p : Plan) (t1 : Stop) (levels : ℕ) (s : Step) (t2 : Stop) (g : Time) (fwd : Bool) (way : fwd ≡ eqb (succ s.track.round t1) t2) (deeper : Bool) (c : ℕ) (w : Time) (t3 t4 t5 t6 : Stop) where
  -- what the scan is to find
  abbrev wanted : Sought
  wanted = scan_of p.n p.matrix p.k p.near p.ka p.alpha s.added s.removed deeper fwd s.track.round t1 t2 g

  -- a move that closes
  pub level_closes : sought true (pick c w t3 t4 t5 t6) ≡ wanted → level3 p t1 (suc levels) s t2 g ≡ record { gain = w; track = seq3 fwd (case_of c) t1 t2 t3 t4 t5 t6 s.track; touched = s.stops ++ ends_of (trial_of c t3 t4 t5 t6) }
  unfolding scan_of tried3 leg_of alpha_of carried gain_of
  level_closes e =
      let may : Trial → Bool = may_in p.n p.matrix p.k p.near s.added s.removed deeper t2 in
      level3_closes p t1 levels s t2 g fwd way (carried fwd t1 t2 s.track (pick c w t3 t4 t5 t6))
      (closing_some (leg_of p) fwd t1 t2 s.track (tried3 p t1 levels s t2 g fwd) c w t3 t4 t5 t6 (seek_first (leg_of p) t1 may (tried3 p t1 levels s t2 g fwd) no_pick (pick c w t3 t4 t5 t6) e) (seek_gains (leg_of p) t1 may (tried3 p t1 levels s t2 g fwd) no_pick (pick c w t3 t4 t5 t6) e))
      (seek_gains (leg_of p) t1 may (tried3 p t1 levels s t2 g fwd) no_pick (pick c w t3 t4 t5 t6) e)

  pub level_gain : sought true (pick c w t3 t4 t5 t6) ≡ wanted → 0 < w
  unfolding scan_of gain_of
  level_gain e = seek_gains _ t1 _ _ no_pick (pick c w t3 t4 t5 t6) e

  module _ (e : sought false (pick c w t3 t4 t5 t6) ≡ wanted) where
    unclosed : first_closing (leg_of p) fwd t1 t2 s.track (tried3 p t1 levels s t2 g fwd) ≡ nothing s.track
    unfolding scan_of tried3 leg_of alpha_of no_pick
    unclosed = closing_none (leg_of p) fwd t1 t2 s.track (tried3 p t1 levels s t2 g fwd) 0 0 0 0 0 0 (seek_none (leg_of p) t1 (may_in p.n p.matrix p.k p.near s.added s.removed deeper t2) (tried3 p t1 levels s t2 g fwd) no_pick (pick c w t3 t4 t5 t6) e) (omega arith)

    -- none that may be gone on with
    pub level_off : (deeper ≡ false → levels ≡ 0) → c ≡ 0 → level3 p t1 (suc levels) s t2 g ≡ nothing s.track
    unfolding scan_of tried3 leg_of alpha_of
    level_off last z =
        elim (either deeper) [
          | inl y ↦
              let off : best 1 [] (keep (may_in p.n p.matrix p.k p.near s.added s.removed deeper t2) (tried3 p t1 levels s t2 g fwd)) ≡ []
              = seek_off (leg_of p) t1 (may_in p.n p.matrix p.k p.near s.added s.removed deeper t2) (may_rich p.n p.matrix p.k p.near s.added s.removed deeper t2) (tried3 p t1 levels s t2 g fwd) c w t3 t4 t5 t6 e z in
              level3_off p t1 levels s t2 g fwd way unclosed (ap (best 1 []) (sym (may_step p s t2 deeper y (tried3 p t1 levels s t2 g fwd))) ∙ off)
          | inr y ↦ level3_last p t1 levels s t2 g fwd way unclosed (last y)
        ]

    module _ (some : 0 < c) where
      -- the best one
      on_best : best 1 [] (keep (may_in p.n p.matrix p.k p.near s.added s.removed deeper t2) (tried3 p t1 levels s t2 g fwd)) ≡ move_trial c w t3 t4 t5 t6 ∷ []
      unfolding scan_of tried3 leg_of alpha_of
      on_best = seek_on (leg_of p) t1 (may_in p.n p.matrix p.k p.near s.added s.removed deeper t2) (may_rich p.n p.matrix p.k p.near s.added s.removed deeper t2) (tried3 p t1 levels s t2 g fwd) c w t3 t4 t5 t6 e some

      -- only where another level is left
      pub on_deeper : deeper ≡ true
      unfolding best
      on_deeper =
          elim (either deeper) [
            | inl y ↦ y
            | inr y ↦
                let none_left = may_last p.n p.matrix p.k p.near s.added s.removed deeper y t2 (tried3 p t1 levels s t2 g fwd) in
                let z : ◌≡◌ {A = ℕ} 0 1 = ap length {x = []} {y = move_trial c w t3 t4 t5 t6 ∷ []} (ap (best 1 []) (sym none_left) ∙ on_best) in
                absurd (omega arith)
          ]

      -- and it is no 2-opt move
      pub on_three : c ≢ 1
      unfolding move_trial case_of
      on_three z =
          let may : Trial → Bool = may_in p.n p.matrix p.k p.near s.added s.removed deeper t2 in
          let x : Trial = move_trial c w t3 t4 t5 t6 in
          let all : All (λ y. may y ≡ true) (x ∷ []) = subst (All (λ y. may y ≡ true)) on_best (all_best (λ y. may y ≡ true) 1 [] (keep may (tried3 p t1 levels s t2 g fwd)) none (all_kept may (tried3 p t1 levels s t2 g fwd))) in
          let two_case : x.case ≡ two = rw z in
          true_false (sym (all_first all) ∙ may_two p.n p.matrix p.k p.near s.added s.removed deeper t2 x two_case)

      on_one : best 1 [] (keep (may_go_on p s t2) (tried3 p t1 levels s t2 g fwd)) ≡ move_trial c w t3 t4 t5 t6 ∷ []
      on_one = ap (best 1 []) (sym (may_step p s t2 deeper on_deeper (tried3 p t1 levels s t2 g fwd))) ∙ on_best

      module _ (more : 0 < levels) where
        -- it leads to a gain, or to none
        pub level_gains : 0 < (level3 p t1 levels (moved3 fwd t1 t2 s (move_trial c w t3 t4 t5 t6)) t6 w).gain → level3 p t1 (suc levels) s t2 g ≡ level3 p t1 levels (moved3 fwd t1 t2 s (move_trial c w t3 t4 t5 t6)) t6 w
        unfolding move_trial
        level_gains h = level3_gains p t1 levels s t2 g fwd way unclosed (move_trial c w t3 t4 t5 t6) on_one more h

        pub level_fails : (level3 p t1 levels (moved3 fwd t1 t2 s (move_trial c w t3 t4 t5 t6)) t6 w).gain ≡ 0 → level3 p t1 (suc levels) s t2 g ≡ nothing s.track
        unfolding move_trial
        level_fails h = level3_fails p t1 levels s t2 g fwd way unclosed (move_trial c w t3 t4 t5 t6) on_one more h
