use Rattle.rules.specs.Lists.{at}
use Rattle.start.proofs.Scans.{Scanned}
use Rattle.start.proofs.PlainScan.nearest.Given as goal

abbrev pub invariant-loop-j : goal.invariant-loop-j
invariant-loop-j l = Scanned (at l.row.times.now) l.row.mask.now l.j l.best l.so
