use Rattle.lk_state.proofs.StackLaws.{has_hit, has_turn, has_done}
use Rattle.lk_state.proofs.has.Goals as goal

pub returns-then-legs-i : goal.returns-then-legs-i
returns-then-legs-i g c = has_hit c.args.legs.now c.args.word _ c.loop-i.i c.loop-i-test.true c.if-legs-i.true c.loop-i.invariant

pub loop-i-preserved : goal.loop-i-preserved
loop-i-preserved g c = has_turn c.args.legs.now c.args.word _ c.loop-i.i c.loop-i-test.true c.if-legs-i.false c.loop-i.invariant

pub returns : goal.returns
returns g c = has_done c.args.legs.now c.args.word _ c.loop-i.i c.loop-i-test.false c.loop-i.invariant
