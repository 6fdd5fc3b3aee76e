use mathlib.Core.Path.{ap, sym, ◌∙◌}
use Rattle.rules.specs.Lists.{at}
use Rattle.laws.proofs.TiedLaws.{pred_tied}
use Rattle.ring.proofs.round.Round.pred.Goals as goal

pub returns : goal.returns
returns c =
    let t = c.args.self.now.tied in
    record {
      is = ap (at c.args.self.now.stops.now) c.prev-q.ensures.is ∙ sym (pred_tied t c.args.v.0 c.requires);
      below = t.stop c.prev-q.result c.prev-q.ensures.below;
    }
