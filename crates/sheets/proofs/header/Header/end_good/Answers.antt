use Rattle.std.proofs.Common.{rules, arith}
use borrow.Author.Tests.{tests}
use Rattle.sheets.specs.Sheet.{header_of}
use Rattle.sheets.proofs.EndLaws.{end_is}
use Rattle.sheets.proofs.header.Header.end_good.Goals as goal

pub returns-then-ends-eq0 : goal.returns-then-ends-eq0
returns-then-ends-eq0 c = let e = end_is (header_of c.args.self) c.args.s.now (λ i. omega (arith, c.type_inv.s i)) in search (rules, tests)

pub returns-else-ends-eq0 : goal.returns-else-ends-eq0
returns-else-ends-eq0 c = let e = end_is (header_of c.args.self) c.args.s.now (λ i. omega (arith, c.type_inv.s i)) in search (rules, tests)

pub returns-else-s-div_ceil : goal.returns-else-s-div_ceil
returns-else-s-div_ceil c = let e = end_is (header_of c.args.self) c.args.s.now (λ i. omega (arith, c.type_inv.s i)) in search (rules, tests)
