use native.Mathlib.Omega.{arith}
use Rattle.loads.proofs.LayLaws.{laying_turn, laying_done, stop_below}
use Rattle.loads.proofs.lay.Goals as goal

pub bounds-places-stop : goal.bounds-places-stop
bounds-places-stop c =
    let pre = c.requires in
    let loop = c.loop-place in
    omega (arith, loop.invariant.1.places_long, stop_below c.args.start.now pre.is_round pre.few loop.place c.loop-place-test.true)

pub loop-place-preserved : goal.loop-place-preserved
loop-place-preserved c =
    let pre = c.requires in
    let loop = c.loop-place in
    (omega (arith, c.loop-place-test.true), laying_turn c.args.start.now pre.is_round pre.few loop.round loop.places loop.place loop.invariant.1 c.loop-place-test.true)

pub returns : goal.returns
returns c =
    let pre = c.requires in
    let loop = c.loop-place in
    laying_done c.args.start.now pre.is_round pre.few loop.round loop.places loop.place loop.invariant.1 (omega (arith, c.loop-place-test.false))
