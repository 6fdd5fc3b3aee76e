use Prim.Native.Nat.{ℕ, ◌-◌, ◌≤◌, ◌<◌}
use lib.ListN.{length}
use Rattle.checks.proofs.RoundLaws.{Both}
use Rattle.checks.proofs.round_good.Given as goal

abbrev pub invariant-loop-i : goal.invariant-loop-i
invariant-loop-i l =
    (l.i ≤ length l.round) × ((k : ℕ) → k < l.i → Both l.round l.places k)
