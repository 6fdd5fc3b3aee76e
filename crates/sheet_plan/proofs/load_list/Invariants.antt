use Rattle.std.proofs.Common.{◌≡◌, ℕ, ◌+◌, ◌*◌, ◌<◌, get_or}
use Rattle.rules.specs.Bits.{bits_of, field}
use Rattle.sheet_plan.proofs.load_list.Given as goal

abbrev pub invariant-loop-i : goal.invariant-loop-i
invariant-loop-i l = (k : ℕ) → k < l.i → get_or l.list k 0 ≡ field (bits_of l.s) (l.at + 12 * k) 12
