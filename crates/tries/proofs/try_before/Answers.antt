use mathlib.Core.Path.{◌≡◌}
use native.Mathlib.Omega.{arith}
use Rattle.tries.specs.Picks.{legs_in}
use Rattle.tries.proofs.PickLaws.{chosen_is}
use Rattle.tries.proofs.TryLaws.{before_gains, before_fails}
use Rattle.tries.proofs.try_before.Goals as goal

pub returns-then-gain-gt0 : goal.returns-then-gain-gt0
returns-then-gain-gt0 c =
    let a = c.args in
    let p = c.requires.tries in
    let r = a.round.now.stops.now in
    let d = legs_in a.plan.now in
    let i = c.between_dir-inside in
    let b = c.beside-t6 in
    let g = c.closed-gain in
    let leg : c.dist.result ≡ d a.t5.0 b.result.0 = cc c.dist.ensures.is in
    record { is = before_gains d a.fwd r a.t1.0 a.t2.0 a.t3.0 a.t4.0 a.t5.0 a.g3 i.result b.result.0 c.dist.result g.result i.ensures b.ensures.is leg g.ensures c.if-gain-gt0.true; low3 = p.low3; low4 = p.low4; low5 = p.low5; low6 = omega (arith, b.ensures.below, c.requires.size) }

pub returns : goal.returns
returns c =
    let a = c.args in
    let p = c.requires.tries in
    let n = a.plan.now.matrix.n in
    let r = a.round.now.stops.now in
    let d = legs_in a.plan.now in
    let i = c.between_dir-inside in
    let b = c.beside-t6 in
    let g = c.closed-gain in
    let leg : c.dist.result ≡ d a.t5.0 b.result.0 = cc c.dist.ensures.is in
    chosen_is (before_fails d a.fwd r a.t1.0 a.t2.0 a.t3.0 a.t4.0 a.t5.0 a.g3 i.result b.result.0 c.dist.result g.result i.ensures b.ensures.is leg g.ensures c.if-gain-gt0.false) (c.no_move.ensures n (omega (arith, p.low1)))
