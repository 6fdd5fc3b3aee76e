-- Memory that is worked on in place. Assumes nothing.
use Rattle.std.specs.Prelude.{◌≡◌, length}
use Rattle.work.specs.declared.work.Work.{Work}

-- the same memory
pub record SameWork (a b : Work) : Type 0 where
  pub same_track : b.track.ghost_name ≡ a.track.ghost_name
  pub same_queue : b.queue.ghost_name ≡ a.queue.ghost_name
  pub same_scratch : b.scratch.ghost_name ≡ a.scratch.ghost_name
  pub same_stops : b.track.now.stops.ghost_name ≡ a.track.now.stops.ghost_name
  pub same_places : b.track.now.places.ghost_name ≡ a.track.now.places.ghost_name
  pub same_journal : b.track.now.journal.ghost_name ≡ a.track.now.journal.ghost_name
  pub same_words : b.queue.now.words.ghost_name ≡ a.queue.now.words.ghost_name
  pub same_flags : b.queue.now.flags.ghost_name ≡ a.queue.now.flags.ghost_name
  pub size : length b.track.now.stops.now ≡ length a.track.now.stops.now
  pub room : length b.track.now.journal.now ≡ length a.track.now.journal.now
