use Rattle.kicks.specs.Kicking.{legs_in}
use Rattle.kicks.proofs.ExchangeLaws.{exchange_made}
use Rattle.kicks.proofs.exchange.Goals as goal

pub returns-clause-made : goal.returns-clause-made
returns-clause-made c =
    let a = c.args in
    let t = a.work.now.track.now in
    exchange_made a.bridge (legs_in a.matrix.now) a.cut t.stops.now t.journal.now t.held (rw c.round-round.ensures.stops at c.of-ends.ensures) c.rotate.ensures.moved c.push.ensures.waits (rw c.exchanged.ensures at c.joints-added.ensures) c.joints-removed.ensures
