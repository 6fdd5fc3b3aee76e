use mathlib.Core.Path.{◌∙◌, ap}
use Rattle.rules.specs.Lists.{at}
use Rattle.kicks.proofs.EndsLaws.{stop_wrapped}
use Rattle.kicks.proofs.ends.stop_on.Goals as goal

pub returns : goal.returns
returns c =
    let r = c.args.round.now.stops.now in
    record { is = c.stop_at.ensures.is ∙ ap (at r) c.wrap-i.ensures.is ∙ (rw c.len.ensures (stop_wrapped r c.args.start.0 c.args.k c.requires.start_low c.requires.k_low)); below = c.stop_at.ensures.below }
