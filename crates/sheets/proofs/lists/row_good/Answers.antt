use Rattle.std.proofs.Common.{rules, ◌∙◌, ◌+◌, ◌*◌, ◌&&◌, not, eqb, ltb, refl, arith}
use Rattle.std.proofs.lemmas.Iterator.{YieldsList-from_range}
use Rattle.std.proofs.lemmas.Iterator.Search.{all_from_yields_List}
use borrow.Author.Tests.{tests}
use Rattle.rules.specs.Bits.{bits_of, field}
use Rattle.sheets.proofs.ListLaws.{row_all}
use Rattle.sheets.proofs.lists.row_good.Goals as goal

pub returns : goal.returns
returns c =
    all_from_yields_List (λ j. ltb (field (bits_of c.args.s.now) (c.args.at + 12 * j) 12) c.args.n && not (eqb (field (bits_of c.args.s.now) (c.args.at + 12 * j) 12) c.args.v)) _ _ c.all.result c.all.ensures.ran
    (YieldsList-from_range 0 c.args.k c.args.k refl (omega arith)) (λ x b q k. (search rules, search (rules, tests)))
    ∙ row_all (bits_of c.args.s.now) c.args.at c.args.n c.args.k c.args.v
