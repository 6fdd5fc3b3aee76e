use Prim.Native.Nat.{◌<◌, ◌^◌}
use native.Mathlib.Omega.{arith}
use Rattle.laws.proofs.DrawLaws.{moved_is, moved_kept}
use Rattle.draws.proofs.step.Goals as goal

pub returns : goal.returns
returns c =
    let fits : c.args.x < 2 ^ 64 = omega arith in
    record {
      is = omega (arith, moved_is c.args.x fits);
      some = λ p. omega (arith, moved_is c.args.x fits, (moved_kept c.args.x fits).some p);
    }
