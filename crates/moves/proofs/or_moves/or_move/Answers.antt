use Rattle.rules.specs.Journal.{track_of, entries_of}
use Rattle.moves.proofs.MadeLaws.{moved_made}
use Rattle.moves.proofs.or_moves.or_move.Goals as goal

pub returns-clause-made : goal.returns-clause-made
unfolding track_of
returns-clause-made c =
    let t = c.args.track.now in
    moved_made (rw c.round.ensures.stops at (c.or_window-w.ensures.is (entries_of t.journal.now t.held))) c.rotate.ensures.moved
