use Prim.Native.Nat.{◌≤◌}
use mathlib.Core.Path.{◌≡◌}
use lib.ListN.{length}
use Rattle.rules.specs.Journal.{track_of, rollback as rollback_of}
use Rattle.rules.specs.SharedWords.{Tied}
use Rattle.journal.proofs.rollback.Given as goal

abbrev pub invariant-loop-i : goal.invariant-loop-i
invariant-loop-i l =
    Tied l.round l.places × ((length l.round ≡ length l.initial.round) × ((l.mark ≤ l.i) × (rollback_of l.mark (track_of l.round l.journal l.i) ≡ rollback_of l.mark (track_of l.initial.round l.journal l.held))))
