use Rattle.sheet_plan.proofs.LoadLaws.{leg_room}
use Rattle.sheet_plan.proofs.leg_at.Goals as goal

pub read16-requires : goal.read16-requires
read16-requires c = leg_room c.args.s.now c.args.n c.args.a c.args.b c.requires.1 c.requires.2 c.requires.3
