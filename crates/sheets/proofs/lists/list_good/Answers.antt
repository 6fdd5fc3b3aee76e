use Rattle.std.proofs.Common.{rules, ◌∙◌, ◌+◌, ◌*◌, drop, refl, arith}
use Rattle.std.proofs.lemmas.Iterator.{YieldsList-from_range}
use Rattle.std.proofs.lemmas.Iterator.Search.{all_from_yields_List}
use borrow.Author.Tests.{tests}
use Rattle.rules.specs.Bits.{bits_of, fields}
use Rattle.sheets.specs.Sheet.{good_row}
use Rattle.sheets.proofs.ListLaws.{list_is}
use Rattle.sheets.proofs.lists.list_good.Goals as goal

pub returns : goal.returns
returns c =
    all_from_yields_List (λ v. good_row c.args.n v (fields 12 c.args.k (drop (c.args.at + 12 * (v * c.args.k)) (bits_of c.args.s.now)))) _ _ c.all.result c.all.ensures.ran
    (YieldsList-from_range 0 c.args.n c.args.n refl (omega arith)) (λ x b q k. (search rules, search (rules, tests)))
    ∙ list_is (bits_of c.args.s.now) c.args.at c.args.n c.args.k
