use Rattle.std.proofs.Common.{arith}
use Rattle.exact.proofs.Cells.{sets_few, stop_in}
use Rattle.exact.proofs.Choices.{choosing_starts, choosing_near, choosing_far, choosing_done}
use Rattle.exact.proofs.Table.choose.Goals as goal

pub invariant_of-stops : goal.invariant_of-stops
invariant_of-stops c = let t = c.args.self.now in
    record { few = omega (arith, c.requires.there, t.few, sets_few t.matrix.n t.sized.high) }

pub via-best-requires-clause-stops : goal.via-best-requires-clause-stops
via-best-requires-clause-stops c = let t = c.args.self.now in
    let k = rw c.unwrap-k.ensures at c.next.ensures.steps in
    let within = stop_in t.sized.low (omega (arith, c.requires.there, t.few)) k.0 in
    (c.requires.stop, within.0, within.1)

pub loop-j-init : goal.loop-j-init
loop-j-init c =
    let k = rw c.unwrap-k.ensures at c.next.ensures.steps in
    rw c.into_iter-j-iterator.ensures.into_iter_gives (choosing_starts (omega (arith, c.requires.there, c.args.self.now.few)) k.0 k.1 c.via-best.ensures)

pub via-time-requires-clause-stops : goal.via-time-requires-clause-stops
via-time-requires-clause-stops c =
    let j = stop_in c.args.self.now.sized.low c.loop-j.invariant.within c.in-Some.ensures.steps.0 in
    (c.requires.stop, j.0, j.1)

pub loop-j-preserved-then-time-best : goal.loop-j-preserved-then-time-best
loop-j-preserved-then-time-best c = let j = c.in-Some.ensures.steps in
    choosing_near c.loop-j.invariant j.0 j.1 c.via-time.ensures c.if-time-best.true

pub loop-j-preserved : goal.loop-j-preserved
loop-j-preserved c = let j = c.in-Some.ensures.steps in
    choosing_far c.loop-j.invariant j.0 j.1 c.via-time.ensures c.if-time-best.false

pub returns : goal.returns
returns c = let t = c.args.self.now in
    choosing_done c.loop-j.invariant t.sized.high (omega (arith, c.requires.there, t.few)) c.requires.some c.in-None.ensures.steps
