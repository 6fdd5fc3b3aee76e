use Prim.Native.Nat.{◌≤◌, ◌<◌}
use mathlib.Core.Path.{◌≡◌, refl, sym, ap, ◌∙◌}
use native.Mathlib.Omega.{arith}
use lib.ListN.{length, take}
use Rattle.rules.specs.Lists.{at}
use Rattle.rules.specs.Ring.{next, turn}
use Rattle.rules.specs.Queue.{push}
use Rattle.ring.proofs.AroundLaws.{around_0, next_around}
use Rattle.queue.proofs.PushLaws.{push_turn, push_done, length_places, at_places}
use Rattle.queue.proofs.SameLaws.{queue_stays, queue_through}
use Rattle.queue.proofs.queue.Queue.push_places.Goals as goal

pub loop-step-init : goal.loop-step-init
loop-step-init c =
    let hs = c.requires.start_low in
    (queue_stays _, (refl, (omega arith, (hs, (sym (around_0 _ c.args.start hs), refl)))))

pub loop-step-preserved : goal.loop-step-preserved
loop-step-preserved c =
    let a = c.args in
    let r = a.round.now in
    let lp = c.loop-step in
    let i = lp._step in
    let p = c.push.ensures in
    let hs = c.requires.start_low in
    let hp = c.requires.places_low in
    let h = c.loop-step-test.true in
    let l : i < length (take a.places (turn a.start r)) = omega (arith, h, length_places a.start a.places r hs hp) in
    let e = lp.invariant.1.1.1.1.0 in
    let v : at r lp.at ≡ at (take a.places (turn a.start r)) i = ap (at r) e ∙ sym (at_places a.start a.places r hs hp i h) in
    let q = c.next-at.ensures.is ∙ ap (next (length r)) e ∙ next_around (length r) a.start i hs (omega (arith, h, hp)) in
    (queue_through lp.invariant.0 p.same, (p.waits.head_is ∙ lp.invariant.1.0, (omega (arith, h), (c.next-at.ensures.below, (q, push_turn _ _ (take a.places (turn a.start r)) i _ l (p.waits.is ∙ ap (push _) v) lp.invariant.1.1.1.1.1)))))

pub returns-clause-waits : goal.returns-clause-waits
returns-clause-waits c =
    let a = c.args in
    let lp = c.loop-step in
    let l : length (take a.places (turn a.start a.round.now)) ≤ lp._step = omega (arith, c.loop-step-test.false, length_places a.start a.places a.round.now c.requires.start_low c.requires.places_low) in
    record { is = push_done _ (take a.places (turn a.start a.round.now)) lp._step _ l lp.invariant.1.1.1.1.1; head_is = lp.invariant.1.0; line = lp.self.in_line }
