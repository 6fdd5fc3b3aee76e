use native.Mathlib.Omega.{arith}
use Rattle.queue.proofs.LineLaws.{line_took, first_below, length_flags_are}
use Rattle.queue.proofs.pop_front.Goals as goal

pub bounds-flags-v : goal.bounds-flags-v
bounds-flags-v c =
    let a = c.args in
    let l = c.requires.in_line in
    omega (arith, first_below a.queue.now a.flags.now a.line.head a.line.count l c.requires.count_nonzero, length_flags_are a.queue.now a.flags.now a.line.head a.line.count l)

pub returns : goal.returns
returns c =
    let a = c.args in
    rw c.next-head.ensures.is (line_took a.queue.now a.flags.now a.line.head a.line.count c.requires.in_line c.requires.count_nonzero)
