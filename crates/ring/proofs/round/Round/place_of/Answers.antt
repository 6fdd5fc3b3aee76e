use mathlib.Core.Path.{sym}
use Rattle.laws.proofs.TiedLaws.{place_tied}
use Rattle.ring.proofs.round.Round.place_of.Goals as goal

pub returns : goal.returns
returns c =
    let t = c.args.self.now.tied in
    record { is = sym (place_tied t c.args.v.0 c.requires); below = t.place c.args.v.0 c.requires }
