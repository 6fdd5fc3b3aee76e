use Rattle.kicks.specs.Kicking.{legs_in}
use Rattle.kicks.proofs.PartLaws.{bridge_made}
use Rattle.kicks.proofs.bridge_kick.Goals as goal

pub returns-clause-kicked : goal.returns-clause-kicked
returns-clause-kicked c =
    let a = c.args in
    bridge_made (legs_in a.matrix.now) a.state.now c.draw_bridge-cut.new.state c.draw_bridge-cut.result a.work.now c.exchange-k.new.work c.window_kick-w.new.work c.exchange-k.result c.window_kick-w.result _ c.requires.many (rw c.requires.ready.size at c.draw_bridge-cut.ensures) c.exchange-k.ensures.made c.window_kick-w.ensures.kicked
