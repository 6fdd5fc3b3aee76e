use Rattle.descent.proofs.RunningLaws.{descended}
use Rattle.descent.proofs.descend.Goals as goal

pub returns-clause-descended : goal.returns-clause-descended
returns-clause-descended c = descended c.args.keeps _ c.run-descent.ensures.ended c.clear.ensures.waits
