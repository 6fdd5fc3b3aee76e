use lib.ListN.{length}
use Rattle.rules.specs.Plan.{leg_in}
use Rattle.kicks.proofs.PartLaws.{shuffle_made}
use Rattle.kicks.proofs.shuffle_kick.Goals as goal

pub returns-clause-kicked : goal.returns-clause-kicked
returns-clause-kicked c =
    let a = c.args in
    let t = a.work.now.track.now in
    let before = c.round-before.ensures.stops in
    let after = c.round-after.ensures.stops in
    rw c.requires.ready.size
    (shuffle_made (leg_in (length t.stops.now) a.matrix.now.times.now) t.stops.now t.journal.now t.held a.state.now c.len-n.result (rw before at c.len-n.ensures) c.requires.few c.shuffle.ensures.shuffled (rw after at c.push_all.ensures.waits) (rw (after, c.shuffle.ensures.same.size) at c.cost-added.ensures) (rw before at c.cost-removed.ensures))
