use Prim.Native.Nat.{◌≤◌, ◌<◌}
use mathlib.Core.Path.{◌≡◌}
use native.Mathlib.Omega.{arith}
use lib.ListN.{length}
use Rattle.rules.specs.Plan.{leg_in}
use Rattle.kicks.specs.Kicking.{legs_in}
use Rattle.kicks.proofs.PartLaws.{window_made, window_still}
use Rattle.kicks.proofs.window_kick.Goals as goal

pub returns-then-n-lt32-clause-kicked : goal.returns-then-n-lt32-clause-kicked
returns-then-n-lt32-clause-kicked c =
    let a = c.args in
    let e : c.len-n.result ≡ length a.work.now.track.now.stops.now = rw c.round-before.ensures.stops at c.len-n.ensures in
    let few : length a.work.now.track.now.stops.now < 32 = omega arith in
    window_still (legs_in a.matrix.now) a.state.now a.work.now few

pub returns-clause-kicked : goal.returns-clause-kicked
returns-clause-kicked c =
    let a = c.args in
    let t = a.work.now.track.now in
    let before = c.round-before.ensures.stops in
    let after = c.round-after.ensures.stops in
    let e : c.len-n.result ≡ length t.stops.now = rw before at c.len-n.ensures in
    let big : 32 ≤ length t.stops.now = omega arith in
    rw c.requires.ready.size
    (window_made (leg_in (length t.stops.now) a.matrix.now.times.now) t.stops.now t.journal.now t.held a.state.now c.draw-left.new.state c.draw-left.result c.prev-first.result big c.draw-left.ensures.state c.draw-left.ensures.some (rw e at c.draw-left.ensures.is) (rw e at c.prev-first.ensures.is) c.shuffle.ensures.shuffled (rw after at c.push_places.ensures.waits) (rw (after, c.shuffle.ensures.same.size) at c.path_cost-added.ensures) (rw before at c.path_cost-removed.ensures))
