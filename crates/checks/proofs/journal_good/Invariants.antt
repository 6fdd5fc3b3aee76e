use Prim.Native.Nat.{ℕ, ◌-◌, ◌*◌, ◌≤◌, ◌<◌}
use mathlib.Core.Path.{◌≡◌}
use mathlib.Core.Bool.{true}
use lib.ListN.{length}
use Rattle.laws.proofs.JournalWordLaws.{good_entry}
use Rattle.checks.proofs.journal_good.Given as goal

abbrev pub invariant-loop-i : goal.invariant-loop-i
invariant-loop-i l =
    (l.i ≤ l.held) × ((5 * l.held ≤ length l.journal) × ((k : ℕ) → k < l.i → good_entry l.n l.journal k ≡ true))
