use Rattle.rules.specs.Moves.{flip}
use Rattle.moves.proofs.MadeLaws.{made_made}
use Rattle.moves.proofs.moves.flip_twice.Goals as goal

pub returns-clause-made : goal.returns-clause-made
returns-clause-made c = made_made (flip c.args.d.0 c.args.e.0 c.args.f.0) c.flip.ensures.made c.flip-2.ensures.made
