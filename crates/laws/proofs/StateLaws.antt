-- 01, "Answer numbers": load, commit and undo keep a round of n stops, and a carried time that is the recount; undo gives back the last
-- commit's round and time.
use Prim.Native.Nat.{◌<◌, ℕ}
use mathlib.Core.Path.{◌∙◌, ◌≡◌, ap, refl, subst, sym}
use mathlib.Core.Bool.{Bool, ◌||◌, false, true}
use mathlib.Core.List.{[]}
use native.Mathlib.Omega.{arith}
use lib.ListN.{length}
use Rattle.rules.specs.Journal.{Track, cleared, in_range, undo_all}
use Rattle.rules.specs.Lists.{every, has}
use Rattle.rules.specs.Ring.{recount}
use Rattle.rules.specs.State.{State, activated, commit, load, undo}
use Rattle.rules.specs.Words.{Legs, Round, Stop, Time}
use Rattle.laws.proofs.ChoiceLaws.{or-true}
use Rattle.laws.proofs.DescendLaws.{Sound}
use Rattle.laws.proofs.EveryLaws.{Below, none}
use Rattle.laws.proofs.JournalLaws.{Past, past_undone, undo_all_length}
use Rattle.laws.proofs.PermLaws.{Perm, perm_below, perm_kept}
use Rattle.laws.proofs.QueueLaws.{hasnt_tally, push_all_below, push_all_has}
use Rattle.laws.proofs.RunLaws.{Stands}
use Rattle.laws.proofs.TallyLaws.{tally_undo_all}

-- ---- load: "sets round, places, empty queue and journal, and the carried time"
pub load_stands : (n : ℕ) (count : Round → Time) (r : Round) → Perm r → length r ≡ n → Stands n (load count r).track (load count r).queue
unfolding load
load_stands n count r p e = record { perm = p; size = e; queued = none }

pub load_sound : (d : Legs) (n : ℕ) (r : Round) → Perm r → length r ≡ n → Sound d n (load (recount d) r)
unfolding load
load_sound d n r p e = record { stands = load_stands n (recount d) r p e; carried = refl }

-- ---- commit: "empties the journal and keeps the queue"
pub commit_stands : (n : ℕ) (s : State) → Stands n s.track s.queue → Stands n (commit s).track (commit s).queue
unfolding commit cleared
commit_stands n s h = record { perm = h.perm; size = h.size; queued = h.queued }

pub commit_sound : (d : Legs) (n : ℕ) (s : State) → Sound d n s → Sound d n (commit s)
unfolding commit cleared
commit_sound d n s h = record { stands = commit_stands n s h.stands; carried = h.carried }

-- ---- undo: whatever entries in range are held, the stops stay
pub undo_stands : (n : ℕ) (count : Round → Time) (s : State) → Stands n s.track s.queue → every (in_range n) s.track.journal ≡ true → Stands n (undo count s).track (undo count s).queue
unfolding undo load
undo_stands n count s h e =
    let r = s.track.round in
    let es = s.track.journal in
    let l = undo_all_length es r in
    record { perm = perm_kept r (undo_all es r) h.perm (λ v. tally_undo_all v es r (subst (λ m. every (in_range m) es ≡ true) (sym h.size) e)) l; size = l ∙ h.size; queued = none }

-- "gives back the last commit's round and time": what was journalled since the commit leads back there
pub undo_past : (count : Round → Time) (t : Track) (s : State) → Past t s.track → t.journal ≡ [] → undo count s ≡ load count t.round
unfolding undo
undo_past count t s p e = ap (load count) (past_undone p e)

-- ---- `activate_all`
pub activated_stands : (n : ℕ) (s : State) → Stands n s.track s.queue → Stands n (activated s).track (activated s).queue
unfolding activated
activated_stands n s h = record { perm = h.perm; size = h.size; queued = push_all_below n s.queue s.track.round h.queued (subst (λ m. Below m s.track.round) h.size (perm_below s.track.round h.perm)) }

pub activated_sound : (d : Legs) (n : ℕ) (s : State) → Sound d n s → Sound d n (activated s)
unfolding activated
activated_sound d n s h = record { stands = activated_stands n s h.stands; carried = h.carried }

-- "every stop" waits
pub activated_has : (n : ℕ) (s : State) → Stands n s.track s.queue → (v : Stop) → v < n → has (activated s).queue v ≡ true
unfolding activated
activated_has n s h v hv = push_all_has s.queue s.track.round v ∙ ap (λ (b : Bool). has s.queue v || b) waits ∙ or-true (has s.queue v)
  where
    waits : has s.track.round v ≡ true
    waits = go (has s.track.round v) refl
      where
        go : (b : Bool) → has s.track.round v ≡ b → has s.track.round v ≡ true
        go true e = e
        go false e = absurd (omega (arith, hasnt_tally s.track.round v e, h.perm.has v (omega (arith, h.size))))
