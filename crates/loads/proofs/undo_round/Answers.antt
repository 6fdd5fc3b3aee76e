use native.Mathlib.Omega.{arith}
use mathlib.Core.Path.{refl}
use Rattle.rules.specs.Journal.{entries_of}
use Rattle.laws.proofs.JournalWordLaws.{good_all}
use Rattle.loads.proofs.UndoLaws.{laid_tied, undone_nobody}
use Rattle.loads.proofs.undo_round.Goals as goal

pub undo_lent-time-requires : goal.undo_lent-time-requires
undo_lent-time-requires c =
    let w = c.args.work.now in
    let t = w.track.now in
    record { size = c.requires.size; tied = t.tied; scratch_len = w.scratch_fits; held_value = t.good; queue_len = w.queue_fits; in_line = w.queue.now.in_line }

pub invariant_of-track : goal.invariant_of-track
invariant_of-track c =
    record { tied = laid_tied c.undo_lent-time.ensures.laid; good = good_all _ c.args.work.now.track.now.journal.now 0 (omega arith) (λ i h. absurd (omega arith)) }

pub invariant_of-queue : goal.invariant_of-queue
invariant_of-queue c =
    let t = c.args.work.now.track.now in
    let q = c.args.work.now.queue.now in
    let n = undone_nobody (entries_of t.journal.now t.held) t.stops.now q.words.now q.flags.now _ q.head q.count q.in_line c.args.work.now.queue_fits c.undo_lent-time.ensures.flags_are in
    record { in_line = n.line }

pub returns-clause-undone : goal.returns-clause-undone
returns-clause-undone c =
    let t = c.args.work.now.track.now in
    let q = c.args.work.now.queue.now in
    record {
      lies = c.undo_lent-time.ensures;
      none_held = refl;
      nobody = undone_nobody (entries_of t.journal.now t.held) t.stops.now q.words.now q.flags.now _ q.head q.count q.in_line c.args.work.now.queue_fits c.undo_lent-time.ensures.flags_are;
      journal_stays = refl;
      words_stay = refl;
    }
