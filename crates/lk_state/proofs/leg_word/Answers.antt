use Rattle.lk_state.proofs.StackLaws.{word_leg}
use Rattle.lk_state.proofs.leg_word.Goals as goal

pub returns : goal.returns
returns c = word_leg c.args.a.0 c.args.b.0 _ c.requires.a_bound c.requires.b_bound c.edge.ensures
