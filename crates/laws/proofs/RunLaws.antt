-- 01, 10: what a descent leaves, whatever the legs are: a round of the same stops, an empty queue, units taken; kept, entries that lead back and
-- fit the journal; committed, an empty journal.
use Prim.Native.Nat.{◌-◌, ◌<◌, ◌≤◌, suc, zero, ℕ}
use mathlib.Core.Path.{◌∙◌, ◌≡◌, refl, subst, sym}
use mathlib.Core.Bool.{false, true}
use mathlib.Core.List.{List, [], ◌∷◌}
use native.Mathlib.Nat.{le_refl}
use native.Mathlib.Omega.{arith}
use lib.Dec.{ltb}
use lib.ListN.{length}
use borrow.Author.Tests.{ltb-false}
use Rattle.rules.specs.Descend.{Manner, Ran, committed, descend, descending, journalled, kept, leave, short, step_from}
use Rattle.rules.specs.Journal.{Track, cleared, in_range}
use Rattle.rules.specs.Lists.{every}
use Rattle.rules.specs.Plan.{Plan}
use Rattle.rules.specs.Queue.{push_all}
use Rattle.rules.specs.State.{State}
use Rattle.rules.specs.Words.{Stop, Time}
use Rattle.laws.proofs.ChoiceLaws.{either_if, either_way}
use Rattle.laws.proofs.EvenLaws.{below_head}
use Rattle.laws.proofs.EveryLaws.{Below, all_right, none}
use Rattle.laws.proofs.JournalLaws.{Past, past_past, past_refl}
use Rattle.laws.proofs.PermLaws.{Perm}
use Rattle.laws.proofs.QueueLaws.{push_all_below}
use Rattle.laws.proofs.SinceLaws.{Since, since_few, since_length, since_perm, since_ranged}
use Rattle.laws.proofs.StepSinceLaws.{Steps, steps_step}
use Rattle.laws.proofs.TrialLaws.{Lists}

module _ (p : Plan) (kind : ℕ) (m : Manner) where
  -- "Units used are reported, never more than the budget"
  descending_left : (left : ℕ) (q : List Stop) (t : Track) (time : Time) → (descending p kind m left q t time).left ≤ left
  unfolding descending leave
  descending_left zero [] t time = le_refl 0
  descending_left (suc left) [] t time = le_refl (suc left)
  descending_left zero (v ∷ vs) t time = le_refl 0
  descending_left (suc left) (v ∷ vs) t time =
      let f = step_from p kind v (journalled m t) in
      let k = descending_left left (push_all vs f.touched) f.track (time - f.gain) in
      either_way (λ (g : Ran). g.left ≤ suc left) (short m t) (le_refl (suc left)) (omega arith)

  pub descend_left : (budget : ℕ) (s : State) → (descend p kind m budget s).left ≤ budget
  unfolding descend
  descend_left budget s = descending_left budget s.queue s.track s.time

  taken : (left : ℕ) (v : Stop) (vs : List Stop) (t : Track) (time : Time) → short m t ≡ false → (descending p kind m (suc left) (v ∷ vs) t time).left ≤ left
  unfolding descending
  taken left v vs t time e = let f = step_from p kind v (journalled m t) in rw (e, descending) (descending_left left (push_all vs f.touched) f.track (time - f.gain))

  -- where a stop waits, a unit is left and the journal is not short, a unit is taken
  pub descend_takes : (left : ℕ) (s : State) → 0 < length s.queue → short m s.track ≡ false → (descend p kind m (suc left) s).left ≤ left
  unfolding descend
  descend_takes left s h e = go s.queue h
    where
      go : (q : List Stop) → 0 < length q → (descending p kind m (suc left) q s.track s.time).left ≤ left
      go [] h = absurd (omega arith)
      go (v ∷ vs) h = taken left v vs s.track s.time e

  -- the queue is empty
  descending_queue : (left : ℕ) (q : List Stop) (t : Track) (time : Time) → (descending p kind m left q t time).state.queue ≡ []
  unfolding descending leave
  descending_queue zero [] t time = refl
  descending_queue (suc left) [] t time = refl
  descending_queue zero (v ∷ vs) t time = refl
  descending_queue (suc left) (v ∷ vs) t time =
      let f = step_from p kind v (journalled m t) in
      either_way (λ (g : Ran). g.state.queue ≡ []) (short m t) refl (descending_queue left (push_all vs f.touched) f.track (time - f.gain))

  pub descend_queue : (budget : ℕ) (s : State) → (descend p kind m budget s).state.queue ≡ []
  unfolding descend
  descend_queue budget s = descending_queue budget s.queue s.track s.time

-- ---- committed: the journal is empty
module _ (p : Plan) (kind : ℕ) where
  descending_empty : (left : ℕ) (q : List Stop) (t : Track) (time : Time) → (descending p kind committed left q t time).state.track.journal ≡ []
  unfolding descending leave short journalled cleared
  descending_empty zero [] t time = refl
  descending_empty (suc left) [] t time = refl
  descending_empty zero (v ∷ vs) t time = refl
  descending_empty (suc left) (v ∷ vs) t time =
      let f = step_from p kind v (cleared t) in
      descending_empty left (push_all vs f.touched) f.track (time - f.gain)

  pub committed_empty : (budget : ℕ) (s : State) → (descend p kind committed budget s).state.track.journal ≡ []
  unfolding descend
  committed_empty budget s = descending_empty budget s.queue s.track s.time

-- ---- a round of n stops, and a queue of stops
pub record Stands (n : ℕ) (t : Track) (q : List Stop) : Type 0 where
  pub perm : Perm t.round
  pub size : length t.round ≡ n
  pub queued : Below n q

-- what tracks since a mark, and stops pushed, keep
pub stands_since : {n k : ℕ} {t t' : Track} (q vs : List Stop) → Stands n t q → Since t k t' → Below n vs → Stands n t' (push_all q vs)
stands_since {n} q vs h s b = record { perm = since_perm s h.perm; size = since_length s ∙ h.size; queued = push_all_below n q vs h.queued b }

-- emptying the journal leaves it so
pub stands_journalled : (m : Manner) (n : ℕ) (t : Track) (q : List Stop) → Stands n t q → Stands n (journalled m t) q
unfolding journalled cleared
stands_journalled (kept room) n t q h = h
stands_journalled committed n t q h = record { perm = h.perm; size = h.size; queued = h.queued }

module _ (p : Plan) (kind n : ℕ) (lists : Lists p n) where
  -- a stop that waits can be taken
  pub stands_steps : (v : Stop) (vs : List Stop) (t : Track) → Stands n t (v ∷ vs) → Steps t 100 (step_from p kind v t)
  stands_steps v vs t h = steps_step p t h.perm (subst (Lists p) (sym h.size) lists) v (omega (arith, below_head n v vs h.queued, h.size)) kind

  -- and leaves the like
  pub stands_taken : (v : Stop) (vs : List Stop) (t : Track) → Stands n t (v ∷ vs) → Stands n (step_from p kind v t).track (push_all vs (step_from p kind v t).touched)
  stands_taken v vs t h =
      let f = step_from p kind v t in
      let s = stands_steps v vs t h in
      let h' : Stands n t vs = record { perm = h.perm; size = h.size; queued = all_right (v ∷ []) vs h.queued } in
      stands_since vs f.touched h' s.since (subst (λ k. Below k f.touched) h.size s.stops)

  left_stands : (m : Manner) (ended left : ℕ) (t : Track) (q : List Stop) (time : Time) → Stands n t q → Stands n (leave m ended left t time).state.track (leave m ended left t time).state.queue
  unfolding leave
  left_stands m ended left t q time h = stands_journalled m n t [] (record { perm = h.perm; size = h.size; queued = none })

  descending_stands : (m : Manner) (left : ℕ) (q : List Stop) (t : Track) (time : Time) → Stands n t q
      → Stands n (descending p kind m left q t time).state.track (descending p kind m left q t time).state.queue
  unfolding descending
  descending_stands m zero [] t time h = left_stands m 0 zero t [] time h
  descending_stands m (suc left) [] t time h = left_stands m 0 (suc left) t [] time h
  descending_stands m zero (v ∷ vs) t time h = left_stands m 1 zero t (v ∷ vs) time h
  descending_stands m (suc left) (v ∷ vs) t time h =
      let u = journalled m t in
      let f = step_from p kind v u in
      either_way (λ (g : Ran). Stands n g.state.track g.state.queue) (short m t) (left_stands m 2 (suc left) t (v ∷ vs) time h)
      (descending_stands m left (push_all vs f.touched) f.track (time - f.gain) (stands_taken v vs u (stands_journalled m n t (v ∷ vs) h)))

  -- a descent keeps the stops
  pub descend_stands : (m : Manner) (budget : ℕ) (s : State) → Stands n s.track s.queue
      → Stands n (descend p kind m budget s).state.track (descend p kind m budget s).state.queue
  unfolding descend
  descend_stands m budget s h = descending_stands m budget s.queue s.track s.time h

  -- ---- kept: the journal leads back, and fits its room
  record Kept (room : ℕ) (t t' : Track) : Type 0 where
    back : Past t t'
    fits : length t.journal ≤ room → length t'.journal ≤ room
    ranged : every (in_range n) t.journal ≡ true → every (in_range n) t'.journal ≡ true

  descending_kept : (room left : ℕ) (q : List Stop) (t : Track) (time : Time) → Stands n t q → Kept room t (descending p kind (kept room) left q t time).state.track
  unfolding descending leave journalled short
  descending_kept room zero [] t time h = record { back = past_refl t; fits = λ k. k; ranged = λ k. k }
  descending_kept room (suc left) [] t time h = record { back = past_refl t; fits = λ k. k; ranged = λ k. k }
  descending_kept room zero (v ∷ vs) t time h = record { back = past_refl t; fits = λ k. k; ranged = λ k. k }
  descending_kept room (suc left) (v ∷ vs) t time h =
      let f = step_from p kind v t in
      let s = stands_steps v vs t h in
      let g = descending_kept room left (push_all vs f.touched) f.track (time - f.gain) (stands_taken v vs t h) in
      either_if (λ (x : Ran). Kept room t x.state.track) (ltb (room - length t.journal) 100) (λ e. record { back = past_refl t; fits = λ k. k; ranged = λ k. k })
      (λ e. let l : 100 ≤ room - length t.journal = ltb-false (room - length t.journal) 100 e in
      record { back = past_past s.since.past g.back; fits = λ k. g.fits (omega (arith, since_few s.since)); ranged = λ k. g.ranged (since_ranged s.since n h.size k) })

  -- the way back
  pub kept_past : (room budget : ℕ) (s : State) → Stands n s.track s.queue → Past s.track (descend p kind (kept room) budget s).state.track
  unfolding descend
  kept_past room budget s h = (descending_kept room budget s.queue s.track s.time h).back

  -- "in a kept descent fewer than 100 free entries": so the entries fit the room
  pub kept_fits : (room budget : ℕ) (s : State) → Stands n s.track s.queue → length s.track.journal ≤ room → length (descend p kind (kept room) budget s).state.track.journal ≤ room
  unfolding descend
  kept_fits room budget s h k = (descending_kept room budget s.queue s.track s.time h).fits k

  -- and a journal in range stays so
  pub kept_ranged : (room budget : ℕ) (s : State) → Stands n s.track s.queue → every (in_range n) s.track.journal ≡ true → every (in_range n) (descend p kind (kept room) budget s).state.track.journal ≡ true
  unfolding descend
  kept_ranged room budget s h k = (descending_kept room budget s.queue s.track s.time h).ranged k
