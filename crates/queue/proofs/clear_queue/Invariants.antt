use Rattle.queue.specs.Lines.{InLine}
use Rattle.queue.proofs.clear_queue.Given as goal

abbrev pub invariant-loop-left : goal.invariant-loop-left
invariant-loop-left l = InLine l.queue l.flags l.left.head l.left.count

abbrev pub decreases-loop-left : goal.decreases-loop-left
decreases-loop-left l = l.left.count
