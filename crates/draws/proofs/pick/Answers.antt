use native.Mathlib.Omega.{arith}
use Rattle.rules.specs.Draws.{drawn}
use Rattle.laws.proofs.DrawLaws.{drawn_most}
use Rattle.draws.proofs.pick.Goals as goal

pub overflow_cast-result : goal.overflow_cast-result
unfolding drawn
overflow_cast-result c = omega (arith, drawn_most c.args.low c.args.high c.args.new c.requires)

pub overflow_add-result : goal.overflow_add-result
unfolding drawn
overflow_add-result c = omega (arith, drawn_most c.args.low c.args.high c.args.new c.requires)

pub returns : goal.returns
unfolding drawn
returns c =
    record {
      is = omega arith;
      least = omega arith;
      most = omega (arith, drawn_most c.args.low c.args.high c.args.new c.requires);
    }
