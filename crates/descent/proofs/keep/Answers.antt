use native.Mathlib.Omega.{arith}
use lib.ListN.{length}
use Rattle.laws.proofs.JournalWordLaws.{good_fewer}
use Rattle.descent.proofs.keep.Goals as goal

pub invariant_of-track : goal.invariant_of-track
invariant_of-track c =
    let t = c.args.track.now in
    record { tied = t.tied; good = good_fewer (length t.stops.now) t.journal.now t.held 0 (omega arith) t.good }
