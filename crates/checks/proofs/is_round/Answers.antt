use Prim.Native.Nat.{ℕ}
use native.Mathlib.Omega.{arith}
use lib.ListN.{length, length-replicate}
use Rattle.checks.proofs.MarkLaws.{clear_marks, whole_round}
use Rattle.checks.proofs.is_round.Goals as goal

pub mark_waiting-requires : goal.mark_waiting-requires
mark_waiting-requires c = record { queue_in_bounds = omega (arith, c.requires.round_len_bound, length-replicate {A = ℕ} 4096 0); marks_value = clear_marks (length c.args.round.now) 4096 c.requires.round_len_bound; head_in_bounds = c.requires.round_nonzero; count_in_bounds = omega arith }

pub returns : goal.returns
returns c = whole_round c.args.round.now c.mark_waiting.result _ c.mark_waiting.ensures
