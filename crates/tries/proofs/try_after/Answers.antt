use native.Mathlib.Omega.{arith}
use Rattle.tries.specs.Picks.{legs_in}
use Rattle.tries.proofs.PickLaws.{chosen_is}
use Rattle.tries.proofs.TryLaws.{outside, segment_gains, segment_alone, inner_gains, inner_fails}
use Rattle.tries.proofs.try_after.Goals as goal

pub returns-then-not-inside : goal.returns-then-not-inside
returns-then-not-inside c =
    let a = c.args in
    let p = c.requires.tries in
    let n = a.plan.now.matrix.n in
    let r = a.round.now.stops.now in
    let d = legs_in a.plan.now in
    let i = c.between_dir-inside in
    chosen_is (outside d a.fwd r a.t1.0 a.t2.0 a.t3.0 a.t4.0 a.t5.0 a.g3 i.result i.ensures c.if-not-inside.true) (c.no_move.ensures n (omega (arith, p.low1)))

pub returns-then-gain-gt0 : goal.returns-then-gain-gt0
returns-then-gain-gt0 c =
    let a = c.args in
    let p = c.requires.tries in
    let r = a.round.now.stops.now in
    let d = legs_in a.plan.now in
    let i = c.between_dir-inside in
    let s = c.ahead-next in
    let g = c.closed-gain in
    record { is = segment_gains d a.fwd r a.t1.0 a.t2.0 a.t3.0 a.t4.0 a.t5.0 a.g3 i.result i.ensures c.if-not-inside.false s.result.0 c.dist.result g.result s.ensures.is c.dist.ensures.is g.ensures c.if-gain-gt0.true; low3 = p.low3; low4 = p.low4; low5 = p.low5; low6 = omega (arith, s.ensures.below, c.requires.size) }

pub returns-then-eq : goal.returns-then-eq
returns-then-eq c =
    let a = c.args in
    let p = c.requires.tries in
    let n = a.plan.now.matrix.n in
    let r = a.round.now.stops.now in
    let d = legs_in a.plan.now in
    let i = c.between_dir-inside in
    let s = c.ahead-next in
    let g = c.closed-gain in
    chosen_is (segment_alone d a.fwd r a.t1.0 a.t2.0 a.t3.0 a.t4.0 a.t5.0 a.g3 i.result i.ensures c.if-not-inside.false s.result.0 c.dist.result g.result s.ensures.is c.dist.ensures.is g.ensures c.if-gain-gt0.false (cc (c.eq.ensures, c.if-eq.true))) (c.no_move-then-eq.ensures n (omega (arith, p.low1)))

pub returns-then-more-gt0 : goal.returns-then-more-gt0
returns-then-more-gt0 c =
    let a = c.args in
    let p = c.requires.tries in
    let r = a.round.now.stops.now in
    let d = legs_in a.plan.now in
    let i = c.between_dir-inside in
    let s = c.ahead-next in
    let g = c.closed-gain in
    let l = c.behind-last in
    let h = c.closed-more in
    record { is = inner_gains d a.fwd r a.t1.0 a.t2.0 a.t3.0 a.t4.0 a.t5.0 a.g3 i.result i.ensures c.if-not-inside.false s.result.0 c.dist.result g.result s.ensures.is c.dist.ensures.is g.ensures c.if-gain-gt0.false (cc (c.eq.ensures, c.if-eq.false)) l.result.0 c.dist-2.result h.result l.ensures.is c.dist-2.ensures.is h.ensures c.if-more-gt0.true; low3 = p.low3; low4 = p.low4; low5 = p.low5; low6 = omega (arith, l.ensures.below, c.requires.size) }

pub returns : goal.returns
returns c =
    let a = c.args in
    let p = c.requires.tries in
    let n = a.plan.now.matrix.n in
    let r = a.round.now.stops.now in
    let d = legs_in a.plan.now in
    let i = c.between_dir-inside in
    let s = c.ahead-next in
    let g = c.closed-gain in
    let l = c.behind-last in
    let h = c.closed-more in
    chosen_is (inner_fails d a.fwd r a.t1.0 a.t2.0 a.t3.0 a.t4.0 a.t5.0 a.g3 i.result i.ensures c.if-not-inside.false s.result.0 c.dist.result g.result s.ensures.is c.dist.ensures.is g.ensures c.if-gain-gt0.false (cc (c.eq.ensures, c.if-eq.false)) l.result.0 c.dist-2.result h.result l.ensures.is c.dist-2.ensures.is h.ensures c.if-more-gt0.false) (c.no_move-2.ensures n (omega (arith, p.low1)))
