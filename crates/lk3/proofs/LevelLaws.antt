-- The ways out of a level, as its promise says them.
use Prim.Native.Nat.{ℕ, suc, ◌+◌, ◌-◌, ◌*◌, ◌≤◌, ◌<◌}
use mathlib.Core.Path.{◌≡◌, refl, sym, ap, ◌∙◌}
use mathlib.Core.Logic.{◌≢◌}
use mathlib.Core.Bool.{Bool, true, false}
use mathlib.Core.List.{List, [], ◌∷◌, ◌++◌}
use native.Mathlib.Omega.{arith}
use lib.Dec.{eqb}
use lib.ListN.{length}
use Rattle.rules.specs.Words.{Stop, Place, Time, Round}
use Rattle.rules.specs.Ring.{leg, succ}
use Rattle.rules.specs.Journal.{Track, track_of, rollback}
use Rattle.rules.specs.Moves.{seq3}
use Rattle.rules.specs.Plan.{Plan}
use Rattle.rules.specs.Queue.{push_all}
use Rattle.rules.specs.Improve.{Found, ends_of, nothing, touching}
use Rattle.rules.specs.Step.{going}
use Rattle.rules.specs.Lk3.{level3, moved3}
use Rattle.laws.proofs.JournalLaws.{Past, past_rollback, entries_of_length}
use Rattle.laws.proofs.Lone3Laws.{touching_gain, touching_none, touching_some, level3_none}
use Rattle.laws.proofs.QueueLaws.{push_all_join}
use Rattle.journal.specs.Journalled.{Grew, Back}
use Rattle.journal.proofs.GrewLaws.{grew_grew, grew_back}
use Rattle.moves.specs.Moves.{Made, case_of}
use Rattle.improve.specs.Steps.{trial_of, Stepped}
use Rattle.improve.proofs.StepLaws.{ends_two, ends_three}
use Rattle.lk_state.specs.declared.LkState.{LkState}
use Rattle.lk_state.specs.Stacks.{legs_in, stops_in}
use Rattle.lk_state.specs.States.{step_of}
use Rattle.tries.specs.Picks.{pick}
use Rattle.seeks.specs.Seeks.{Sought, sought, move_trial}
use Rattle.scans3.specs.Scans.{scan_of}
use Rattle.lk3.specs.Levels.{Grown, found_at, queued_by}
use Rattle.lk3.proofs.ClosingLaws.{level_closes, level_gain, level_off, on_deeper, on_three, level_gains, level_fails}

-- ---- the queue
module _ (q : List Stop) (t1 first : Stop) (steps : List ℕ) (len c : ℕ) (t3 t4 t5 t6 : Stop) where
  joined : (us : List Stop) → us ≡ ends_of (trial_of c t3 t4 t5 t6) → push_all (push_all (push_all q (t1 ∷ first ∷ [])) (stops_in steps len)) us ≡ push_all q (queued_by t1 first steps len c t3 t4 t5 t6)
  unfolding queued_by
  joined us e = sym (push_all_join q (t1 ∷ first ∷ []) (stops_in steps len ++ ends_of (trial_of c t3 t4 t5 t6)) ∙ push_all_join (push_all q (t1 ∷ first ∷ [])) (stops_in steps len) (ends_of (trial_of c t3 t4 t5 t6)) ∙ ap (push_all (push_all (push_all q (t1 ∷ first ∷ [])) (stops_in steps len))) (sym e))

  pub queued_two : c ≡ 1 → push_all (push_all (push_all q (t1 ∷ first ∷ [])) (stops_in steps len)) (t3 ∷ t4 ∷ []) ≡ push_all q (queued_by t1 first steps len c t3 t4 t5 t6)
  queued_two e = joined (t3 ∷ t4 ∷ []) (ends_two c t3 t4 t5 t6 e)

  pub queued_three : c ≢ 1 → push_all (push_all (push_all (push_all q (t1 ∷ first ∷ [])) (stops_in steps len)) (t3 ∷ t4 ∷ [])) (t5 ∷ t6 ∷ []) ≡ push_all q (queued_by t1 first steps len c t3 t4 t5 t6)
  queued_three n = sym (push_all_join (push_all (push_all q (t1 ∷ first ∷ [])) (stops_in steps len)) (t3 ∷ t4 ∷ []) (t5 ∷ t6 ∷ [])) ∙ joined (t3 ∷ t4 ∷ t5 ∷ t6 ∷ []) (ends_three c t3 t4 t5 t6 n)

-- ---- what a level finds
module _ (p : Plan) (t1 : Stop) (st : LkState) (t : Track) (t2 : Stop) (g : Time) (level : ℕ) where
  -- no gain: all is as it was
  pub found_none : (found_at p t1 st t t2 g level).gain ≡ 0 → found_at p t1 st t t2 g level ≡ nothing t
  unfolding found_at step_of
  found_none e =
      let f = level3 p t1 (50 - level) (step_of st t) t2 g in
      touching_none (t1 ∷ st.first ∷ []) f t (level3_none p t1 (50 - level) (step_of st t) t2 g (sym (touching_gain (t1 ∷ st.first ∷ []) f) ∙ e))

  module _ (above : level < 50) (fwd : Bool) (way : fwd ≡ eqb (succ t.round t1) t2) (deeper : Bool) (c : ℕ) (w : Time) (t3 t4 t5 t6 : Stop) where
    -- what the scan is to find
    abbrev pub wanted : Sought
    wanted = scan_of p.n p.matrix p.k p.near p.ka p.alpha (legs_in st.added st.added_len) (legs_in st.removed st.removed_len) deeper fwd t.round t1 t2 g

    here : found_at p t1 st t t2 g level ≡ touching (t1 ∷ st.first ∷ []) (level3 p t1 (suc (49 - level)) (step_of st t) t2 g)
    unfolding found_at
    here = let q : 50 - level ≡ suc (49 - level) = omega arith in ap (λ (n : ℕ). touching (t1 ∷ st.first ∷ []) (level3 p t1 n (step_of st t) t2 g)) q

    -- a move that closes
    pub found_closes : sought true (pick c w t3 t4 t5 t6) ≡ wanted
        → found_at p t1 st t t2 g level ≡ record { gain = w; track = seq3 fwd (case_of c) t1 t2 t3 t4 t5 t6 t; touched = queued_by t1 st.first st.steps st.steps_len c t3 t4 t5 t6 }
    unfolding step_of queued_by
    found_closes e =
        let f : Found = record { gain = w; track = seq3 fwd (case_of c) t1 t2 t3 t4 t5 t6 t; touched = stops_in st.steps st.steps_len ++ ends_of (trial_of c t3 t4 t5 t6) } in
        here ∙ ap (touching (t1 ∷ st.first ∷ [])) (level_closes p t1 (49 - level) (step_of st t) t2 g fwd way deeper c w t3 t4 t5 t6 e)
        ∙ touching_some (t1 ∷ st.first ∷ []) f (level_gain p t1 (49 - level) (step_of st t) t2 g fwd way deeper c w t3 t4 t5 t6 e)

    module _ (e : sought false (pick c w t3 t4 t5 t6) ≡ wanted) where
      -- none
      pub found_off : (deeper ≡ false → 49 ≤ level) → c ≡ 0 → found_at p t1 st t t2 g level ≡ nothing t
      unfolding step_of
      found_off last z =
          here ∙ touching_none (t1 ∷ st.first ∷ []) _ t (level_off p t1 (49 - level) (step_of st t) t2 g fwd way deeper c w t3 t4 t5 t6 e (λ y. omega (arith, last y)) z)

      module _ (some : 0 < c) where
        -- one to go on with: another level is left
        pub found_deeper : deeper ≡ true
        unfolding step_of
        found_deeper = on_deeper p t1 (49 - level) (step_of st t) t2 g fwd way deeper c w t3 t4 t5 t6 e some

        module _ (more : level < 49) (st' : LkState) (grown : Grown st t2 t3 t4 t5 t6 st') (t' : Track) (made : t' ≡ seq3 fwd (case_of c) t1 t2 t3 t4 t5 t6 t) where
          next : step_of st' t' ≡ moved3 fwd t1 t2 (step_of st t) (move_trial c w t3 t4 t5 t6)
          unfolding moved3 going move_trial step_of ends_of trial_of
          next =
              let ends : t3 ∷ t4 ∷ t5 ∷ t6 ∷ [] ≡ ends_of (trial_of c t3 t4 t5 t6) = ends_three c t3 t4 t5 t6 (on_three p t1 (49 - level) (step_of st t) t2 g fwd way deeper c w t3 t4 t5 t6 e some) in
              grown.is t t' ∙ (λ i. going (step_of st t) (made i) (ends i) (leg t4 t5 ∷ leg t2 t3 ∷ []) (leg t5 t6 ∷ leg t3 t4 ∷ []))

          there : found_at p t1 st' t' t6 w (level + 1) ≡ touching (t1 ∷ st.first ∷ []) (level3 p t1 (49 - level) (moved3 fwd t1 t2 (step_of st t) (move_trial c w t3 t4 t5 t6)) t6 w)
          unfolding found_at
          there =
              let q : 50 - (level + 1) ≡ 49 - level = omega arith in
              λ i. touching (t1 ∷ grown.first_same i ∷ []) (level3 p t1 (q i) (next i) t6 w)

          -- it leads to a gain
          pub found_gains : 0 < (found_at p t1 st' t' t6 w (level + 1)).gain → found_at p t1 st t t2 g level ≡ found_at p t1 st' t' t6 w (level + 1)
          unfolding step_of
          found_gains h =
              let f : Found = level3 p t1 (49 - level) (moved3 fwd t1 t2 (step_of st t) (move_trial c w t3 t4 t5 t6)) t6 w in
              let k : 0 < f.gain = omega (arith, ap (λ (z : Found). z.gain) there, touching_gain (t1 ∷ st.first ∷ []) f) in
              here ∙ ap (touching (t1 ∷ st.first ∷ [])) (level_gains p t1 (49 - level) (step_of st t) t2 g fwd way deeper c w t3 t4 t5 t6 e some (omega arith) k) ∙ sym there

          -- or to none
          pub found_fails : (found_at p t1 st' t' t6 w (level + 1)).gain ≡ 0 → found_at p t1 st t t2 g level ≡ nothing t
          unfolding step_of
          found_fails h =
              let f : Found = level3 p t1 (49 - level) (moved3 fwd t1 t2 (step_of st t) (move_trial c w t3 t4 t5 t6)) t6 w in
              let k : f.gain ≡ 0 = omega (arith, ap (λ (z : Found). z.gain) there, touching_gain (t1 ∷ st.first ∷ []) f) in
              here ∙ touching_none (t1 ∷ st.first ∷ []) _ t (level_fails p t1 (49 - level) (step_of st t) t2 g fwd way deeper c w t3 t4 t5 t6 e some (omega arith) k)

-- ---- the promise
-- a greater bound, and another name
pub stepped_more : {k most : ℕ} {f f' : Found} {queue : List ℕ} {head : Place} {count : ℕ} {j : List ℕ} {held : ℕ} {r : Round} {ps : List Place} {queue' flags' j' : List ℕ} {gain : Time} {held' : ℕ} {head' : Place} {count' : ℕ}
    → f' ≡ f → k ≤ most → Stepped k f queue head count j held r ps queue' flags' j' gain held' head' count' → Stepped most f' queue head count j held r ps queue' flags' j' gain held' head' count'
stepped_more e h s = rw e (record { gain_is = s.gain_is; made = record { is = s.made.is; tied = s.made.tied; good = s.made.good; grew = s.made.grew; high = omega (arith, s.made.high) }; waits = s.waits })

-- a level after a move, and the deeper level gains
pub stepped_on : {k most : ℕ} {f f' : Found} {t' : Track} {queue : List ℕ} {head : Place} {count : ℕ} {j j₁ : List ℕ} {held h : ℕ} {r₁ r : Round} {ps₁ ps : List Place} {queue' flags' j' : List ℕ} {gain : Time} {held' : ℕ} {head' : Place} {count' : ℕ}
    → f ≡ f' → k + 2 ≤ most → Made 2 t' j held r₁ ps₁ j₁ h → Stepped k f' queue head count j₁ h r ps queue' flags' j' gain held' head' count' → Stepped most f queue head count j held r ps queue' flags' j' gain held' head' count'
stepped_on e q m s = rw e (record { gain_is = s.gain_is; made = record { is = s.made.is; tied = s.made.tied; good = s.made.good; grew = grew_grew m.grew s.made.grew; high = omega (arith, s.made.high, m.high) }; waits = s.waits })

-- and it gains nothing: the move is taken back
pub stepped_back : (r₀ : Round) {k most : ℕ} {f f' : Found} {t' : Track} {queue : List ℕ} {head : Place} {count : ℕ} {j j₁ : List ℕ} {held h : ℕ} {r₁ r₂ r : Round} {ps₁ ps₂ ps : List Place} {queue' flags' j' : List ℕ} {gain : Time} {h₂ back : ℕ} {head' : Place} {count' : ℕ}
    → f ≡ nothing (track_of r₀ j held) → f' ≡ nothing (track_of r₁ j₁ h) → Past (track_of r₀ j held) t' → 5 * held ≤ length j → Made 2 t' j held r₁ ps₁ j₁ h
    → Stepped k f' queue head count j₁ h r₂ ps₂ queue' flags' j' gain h₂ head' count' → held ≤ h₂ → Back (track_of r₂ j' h₂) held r ps j' back
    → Stepped most f queue head count j held r ps queue' flags' j' 0 back head' count'
unfolding nothing track_of
stepped_back r₀ {t' = t'} {j = j} {held = held} {r₂ = r₂} {r = r} {j' = j'} {h₂ = h₂} {back = back} e e' past fits m s le b =
    let t : Track = track_of r₀ j held in
    let same : track_of r₂ j' h₂ ≡ t' = s.made.is ∙ ap (λ (z : Found). z.track) e' ∙ m.is in
    let long : length t.journal ≡ held = entries_of_length j held in
    let is : track_of r j' back ≡ t = b.is ∙ ap (rollback held) same ∙ ap (λ (n : ℕ). rollback n t') (sym long) ∙ past_rollback past in
    let grew : Grew j held j' h₂ = grew_grew m.grew s.made.grew in
    let grown : Grew j held j' back = rw b.to_mark (grew_back j j' held h₂ held fits (omega arith) le grew) in
    rw e
    (record {
      gain_is = refl;
      made = record { is = is; tied = b.tied; good = b.good; grew = grown; high = omega (arith, b.to_mark) };
      waits = rw (← ap (λ (z : Found). z.touched) e') s.waits;
    })
