use native.Mathlib.Omega.{arith}
use Rattle.laws.proofs.JournalWordLaws.{good_all}
use Rattle.loads.proofs.UndoLaws.{laid_tied}
use Rattle.walks.proofs.rounds.settle.Goals as goal

pub invariant_of-track : goal.invariant_of-track
invariant_of-track c =
    record { tied = laid_tied c.settle_lent.ensures; good = good_all _ c.args.track.now.journal.now 0 (omega arith) (λ i h. absurd (omega arith)) }
