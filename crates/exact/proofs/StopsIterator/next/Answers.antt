use Rattle.std.proofs.Common.{refl, arith}
use Rattle.exact.proofs.Bits.{lowest_is, rest_is}
use Rattle.exact.proofs.StopsIterator.next.Goals as goal

pub returns-clause-steps : goal.returns-clause-steps
returns-clause-steps c = let s = c.args.self.now in
    (lowest_is s.left (omega (arith, c.if-self-eq0.false)) s.few _ refl, rest_is s.left)
