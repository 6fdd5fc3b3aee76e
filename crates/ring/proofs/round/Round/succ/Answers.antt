use mathlib.Core.Path.{ap, sym, ◌∙◌}
use Rattle.rules.specs.Lists.{at}
use Rattle.laws.proofs.TiedLaws.{succ_tied}
use Rattle.ring.proofs.round.Round.succ.Goals as goal

pub returns : goal.returns
returns c =
    let t = c.args.self.now.tied in
    record {
      is = ap (at c.args.self.now.stops.now) c.next-q.ensures.is ∙ sym (succ_tied t c.args.v.0 c.requires);
      below = t.stop c.next-q.result c.next-q.ensures.below;
    }
