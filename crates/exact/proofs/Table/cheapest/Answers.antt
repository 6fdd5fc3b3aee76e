use Rattle.std.proofs.Common.{◌<◌, ◌-◌, ◌^◌, refl, arith}
use Rattle.exact.proofs.Cells.{sets_few, stop_in, scan_starts, scan_next, scan_done, home}
use Rattle.exact.proofs.Table.cheapest.Goals as goal

pub returns-then-set-eq0 : goal.returns-then-set-eq0
returns-then-set-eq0 c = let m = c.args.self.now.matrix in
    home m.times.now m.n c.args.set c.args.k.0 c.if-set-eq0.true c.dist.result c.dist.ensures.is c.dist.ensures.small

pub invariant_of-j-items : goal.invariant_of-j-items
invariant_of-j-items c = let t = c.args.self.now in
    record { few = omega (arith, c.requires.there, t.few, sets_few t.matrix.n t.sized.high) }

pub loop-j-init : goal.loop-j-init
loop-j-init c = let t = c.args.self.now in
    let b : c.args.set < 2 ^ (t.matrix.n - 1) = omega (arith, c.requires.there, t.few) in
    rw c.into_iter-j-iterator.ensures.into_iter_gives (scan_starts t.matrix.times.now t.matrix.n c.args.set c.args.k.0 b _ refl)

pub via-time-requires-clause-stops : goal.via-time-requires-clause-stops
via-time-requires-clause-stops c =
    let j = stop_in c.args.self.now.sized.low c.loop-j.invariant.within c.in-Some.ensures.steps.0 in
    (c.requires.stop, j.0, j.1)

pub loop-j-preserved-then-time-least : goal.loop-j-preserved-then-time-least
loop-j-preserved-then-time-least c = let j = c.in-Some.ensures.steps in
    scan_next c.loop-j.invariant j.0 j.1 c.via-time.ensures (omega (arith, c.if-time-least.true))

pub loop-j-preserved : goal.loop-j-preserved
loop-j-preserved c = let j = c.in-Some.ensures.steps in
    scan_next c.loop-j.invariant j.0 j.1 c.via-time.ensures (omega (arith, c.if-time-least.false))

pub returns : goal.returns
returns c = let t = c.args.self.now in
    scan_done c.loop-j.invariant t.sized.high (omega (arith, c.requires.there, t.few)) c.if-set-eq0.false c.in-None.ensures.steps
