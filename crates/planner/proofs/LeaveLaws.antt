-- What memory is left with: a refusal's, a loaded round's, a commit's.
use Prim.Native.Nat.{ℕ, ◌*◌, ◌≤◌, ◌<◌}
use mathlib.Core.Path.{◌≡◌, refl, sym, ap, subst, ◌∙◌}
use mathlib.Core.Logic.{◌≢◌}
use mathlib.Core.Bool.{true}
use mathlib.Core.List.{List, []}
use native.Mathlib.Decide.{dec_lt}
use native.Mathlib.Omega.{arith}
use borrow.Author.Tests.{lt-ltb, le-ltb}
use lib.ListN.{length, take}
use Rattle.rules.specs.Words.{Time, Round}
use Rattle.rules.specs.Lists.{each}
use Rattle.rules.specs.Ring.{recount}
use Rattle.rules.specs.Queue.{waiting, flags_of}
use Rattle.rules.specs.Journal.{cleared, track_of, entries_of}
use Rattle.rules.specs.Plan.{leg_in, leg_of}
use Rattle.rules.specs.State.{State, load, commit}
use Rattle.rules.specs.Memory.{Lent, Carried, plan_in, state_in, words_left, Leaves}
use Rattle.rules.specs.Calls.{Done, leaving, commit_done}
use Rattle.laws.proofs.JournalLaws.{entries_of_length}
use Rattle.laws.proofs.TiedLaws.{tied_places}
use Rattle.laws.proofs.WaitLaws.{waiting_length}
use Rattle.journal.specs.Journalled.{Grew}
use Rattle.journal.proofs.GrewLaws.{grew_left}
use Rattle.promises.specs.Promises.{Stands}
use Rattle.refusals.specs.Lending.{carrying}
use Rattle.refusals.specs.Passed.{CallPassed}
use Rattle.loads.specs.Lying.{Lies}

-- ---- refused, or done
pub stands_refused : (number : ℕ) (done : Done) (l : Lent) (c : Carried) → number ≢ 0 → Stands number done l c l c
stands_refused number done l c h = record { lent_refused = λ k. refl; state_refused = λ k. refl; left = λ e. absurd (h e) }

pub stands_done : (number : ℕ) (done : Done) (l : Lent) (c : Carried) (l' : Lent) (c' : Carried) → number ≡ 0 → Leaves l c done.state done.head l' c' → Stands number done l c l' c'
stands_done number done l c l' c' e k = record { lent_refused = λ h. absurd (h e); state_refused = λ h. absurd (h e); left = λ z. k }

-- ---- an emptied journal has no words
pub words_none : (l : Lent) (c : Carried) (s : State) → s.track.journal ≡ [] → [] ≡ words_left l c s
unfolding words_left each
words_none l c s e = go (dec_lt 0 c.held)
  where
    go : Dec (0 < c.held) → [] ≡ words_left l c s
    go (yes h) = rw e (rw (lt-ltb 0 c.held h) refl)
    go (no h) = let z : c.held ≡ 0 = omega arith in rw (e, z) refl

-- a journal that grew keeps its words, and those of the new entries follow
pub words_grew : (l : Lent) (c : Carried) (s : State) (j : List ℕ) (held : ℕ) → s.track.journal ≡ entries_of j held → 5 * c.held ≤ length l.journal → Grew l.journal c.held j held
    → take (5 * held) j ≡ words_left l c s
unfolding words_left
words_grew l c s j held e fits g =
    let more : c.held ≤ held = omega (arith, g.more) in
    let size : length (entries_of j held) ≡ held = entries_of_length j held in
    rw (e, size, le-ltb held c.held more) (grew_left l.journal c.held j held fits g)

-- ---- a round that lies in memory is loaded
module _ (l l' : Lent) (c : Carried) (r : Round) (time : Time) (long : length r ≡ l.n) (lies : Lies l.matrix r l'.round l'.places l'.flags time) where
  loaded : Leaves l c (load (recount (leg_of (plan_in l))) r) 0 l' (carrying 0 0 0 time)
  unfolding load waiting leg_of plan_in
  loaded =
      record {
        round_left = lies.laid.round_is;
        places_left = tied_places lies.laid.tied;
        queue_left = refl;
        flags_left = lies.flags_are ∙ ap (λ (n : ℕ). flags_of n []) long;
        journal_left = words_none l c (load (recount (leg_of (plan_in l))) r) refl;
        head_left = refl;
        count_left = refl;
        held_left = refl;
        time_left = lies.takes.is ∙ ap (λ (n : ℕ). recount (leg_in n l.matrix) r) long;
      }

  -- with the state as the code makes it
  pub lies_leaves : (c' : Carried) → (c'.head ≡ 0) × ((c'.count ≡ 0) × ((c'.held ≡ 0) × (c'.time ≡ time))) → Leaves l c (load (recount (leg_of (plan_in l))) r) 0 l' c'
  lies_leaves c' s =
      let e : carrying 0 0 0 time ≡ c' = λ i. record { head = sym s.0 i; count = sym s.1.0 i; held = sym s.1.1.0 i; time = sym s.1.1.1 i } in
      subst (Leaves l c (load (recount (leg_of (plan_in l))) r) 0 l') e loaded

-- ---- a commit keeps all but the journal
pub commit_leaves : (l : Lent) (c : Carried) → CallPassed l c true → Leaves l c (commit_done l c).state c.head l (carrying c.head c.count 0 c.time)
unfolding commit_done leaving commit state_in track_of cleared
commit_leaves l c p =
    record {
      round_left = refl;
      places_left = tied_places p.tied;
      queue_left = refl;
      flags_left = p.line.agreed ∙ ap (λ (n : ℕ). flags_of n (waiting l.queue c.head c.count)) p.lent.queue_long;
      journal_left = words_none l c (commit_done l c).state refl;
      head_left = refl;
      count_left = sym (waiting_length l.queue c.head c.count p.line.room);
      held_left = refl;
      time_left = refl;
    }
