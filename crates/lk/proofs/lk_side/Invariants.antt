use Rattle.work.specs.Works.{SameWork}
use Rattle.lk.proofs.SideLaws.{Trying}
use Rattle.lk.proofs.lk_side.Given as goal

abbrev pub invariant-loop-i : goal.invariant-loop-i
invariant-loop-i l = SameWork l.fn.work l.work × Trying l.plan l.fwd l.t1.0 l.t2.0 l.fn.work l.ps l.work l.i
