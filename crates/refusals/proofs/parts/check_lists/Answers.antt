use mathlib.Core.Path.{sym, ◌∙◌}
use Rattle.refusals.proofs.ListLaws.{not_even, odd_near_list, odd_alpha_list, good_lists}
use Rattle.refusals.proofs.parts.check_lists.Goals as goal

pub returns-then-not-symmetric : goal.returns-then-not-symmetric
returns-then-not-symmetric c =
    let a = c.args in
    not_even a.n a.k a.ka a.times.now a.near.now a.alpha.now (sym c.symmetric.ensures ∙ c.if-not-symmetric.true)

pub returns-then-not-list_good : goal.returns-then-not-list_good
returns-then-not-list_good c =
    let a = c.args in
    odd_near_list a.n a.k a.ka a.times.now a.near.now a.alpha.now (sym c.symmetric.ensures ∙ c.if-not-symmetric.false) (sym c.list_good.ensures ∙ c.if-not-list_good.true)

pub returns-then-not-list_good-2 : goal.returns-then-not-list_good-2
returns-then-not-list_good-2 c =
    let a = c.args in
    odd_alpha_list a.n a.k a.ka a.times.now a.near.now a.alpha.now (sym c.symmetric.ensures ∙ c.if-not-symmetric.false) (sym c.list_good.ensures ∙ c.if-not-list_good.false) (sym c.list_good-2.ensures ∙ c.if-not-list_good-2.true)

pub returns : goal.returns
returns c =
    let a = c.args in
    good_lists a.n a.k a.ka a.times.now a.near.now a.alpha.now (sym c.symmetric.ensures ∙ c.if-not-symmetric.false) (sym c.list_good.ensures ∙ c.if-not-list_good.false) (sym c.list_good-2.ensures ∙ c.if-not-list_good-2.false)
