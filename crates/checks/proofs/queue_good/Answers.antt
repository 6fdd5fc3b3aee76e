use Prim.Native.Nat.{ℕ}
use native.Mathlib.Omega.{arith}
use lib.ListN.{length, length-replicate}
use Rattle.checks.proofs.MarkLaws.{clear_marks}
use Rattle.checks.proofs.queue_good.Goals as goal

pub line_good-requires : goal.line_good-requires
line_good-requires c = record { queue_in_bounds = omega (arith, c.requires.queue_len_bound, length-replicate {A = ℕ} 4096 0); flags_len = c.requires.flags_len; marks_value = clear_marks (length c.args.queue.now) 4096 c.requires.queue_len_bound }
