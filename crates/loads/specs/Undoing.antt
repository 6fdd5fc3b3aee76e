-- Work that was undone. Assumes nothing.
use Rattle.std.specs.Prelude.{◌≡◌, List, []}
use Rattle.rules.specs.Words.{Time}
use Rattle.rules.specs.Journal.{entries_of, undo_all}
use Rattle.queue.specs.Queues.{Queued}
use Rattle.work.specs.declared.work.Work.{Work}
use Rattle.loads.specs.Lying.{Lies}

-- a was left as b: all its entries taken back, none held, nobody waiting; no word of the journal or of the queue was written
pub record Undone (matrix : List Time) (a b : Work) (time : Time) : Type 0 where
  pub lies : Lies matrix (undo_all (entries_of a.track.now.journal.now a.track.now.held) a.track.now.stops.now) b.track.now.stops.now b.track.now.places.now b.queue.now.flags.now time
  pub none_held : b.track.now.held ≡ 0
  pub nobody : Queued [] 0 b.queue.now
  pub journal_stays : b.track.now.journal.now ≡ a.track.now.journal.now
  pub words_stay : b.queue.now.words.now ≡ a.queue.now.words.now
