-- A rollback of all entries is the undo of them.
use Prim.Native.Nat.{ℕ, ◌-◌}
use mathlib.Core.Path.{◌≡◌, refl, sym, ap, ap₂, subst, ◌∙◌}
use mathlib.Core.List.{List, []}
use native.Mathlib.Omega.{arith}
use lib.ListN.{length, take}
use lib.Seq.{take-length}
use Rattle.rules.specs.Words.{Place, Time, Round}
use Rattle.rules.specs.Ring.{recount}
use Rattle.rules.specs.Lists.{tally}
use Rattle.rules.specs.Queue.{waiting, flags_of}
use Rattle.rules.specs.Plan.{leg_in}
use Rattle.rules.specs.Journal.{Track, Entry, track_of, entries_of, undo_all, rollback}
use Rattle.rules.specs.SharedWords.{Tied}
use Rattle.laws.proofs.JournalLaws.{undo_all_length}
use Rattle.ring.specs.Legs.{IsTime}
use Rattle.queue.specs.Lines.{InLine, Waits}
use Rattle.journal.specs.Journalled.{Back}
use Rattle.loads.specs.Lying.{Laid, Lies}

roll_all : (r : Round) (es : List Entry) → (rollback 0 (record { round = r; journal = es })).round ≡ undo_all es r
unfolding rollback
roll_all r es =
    let z : length es - 0 ≡ length es = omega arith in
    ap (λ (m : ℕ). undo_all (take m es) r) z ∙ ap (λ (l : List Entry). undo_all l r) (take-length es)

pub back_laid : (r : Round) (journal : List ℕ) (held : ℕ) (round : Round) (places : List Place) (journal' : List ℕ) (held' : ℕ)
    → Back (track_of r journal held) 0 round places journal' held' → Laid (undo_all (entries_of journal held) r) round places
unfolding track_of
back_laid r journal held round places journal' held' b =
    let e : round ≡ undo_all (entries_of journal held) r = ap (λ (t : Track). t.round) b.is ∙ roll_all r (entries_of journal held) in
    record { round_is = e; tied = rw e at b.tied }

-- with nobody waiting, and the recount
pub undone_lies : (matrix : List Time) (es : List Entry) (r round : Round) (places : List Place) (queue flags : List ℕ) (head : Place) (count : ℕ) (time : Time)
    → length queue ≡ length r → Laid (undo_all es r) round places → Waits [] 0 queue flags head count → IsTime (length round) (recount (leg_in (length round) matrix) round) time
    → Lies matrix (undo_all es r) round places flags time
undone_lies matrix es r round places queue flags head count time long l w t =
    record {
      laid = l;
      flags_are = w.line.agreed ∙ ap₂ flags_of (long ∙ sym (undo_all_length es r)) w.is;
      takes = rw l.round_is at t;
    }

-- what was laid is tied where it lies
pub laid_tied : {r round : Round} {places : List Place} → Laid r round places → Tied round places
laid_tied {places = places} l = subst (λ (u : Round). Tied u places) (sym l.round_is) l.tied

-- those who waited do so no more
pub undone_nobody : (es : List Entry) (r : Round) (queue flags flags' : List ℕ) (head : Place) (count : ℕ)
    → InLine queue flags head count → length queue ≡ length r → flags' ≡ flags_of (length (undo_all es r)) [] → Waits [] 0 queue flags' 0 0
unfolding waiting tally
undone_nobody es r queue flags flags' head count i long e =
    record {
      is = refl;
      head_is = refl;
      line = record {
        few = i.few;
        start = omega (arith, i.start);
        room = omega arith;
        stops = record { below = λ k h. absurd (omega arith) };
        single = λ v. omega arith;
        agreed = e ∙ ap (λ (m : ℕ). flags_of m []) (undo_all_length es r ∙ sym long);
      };
    }
