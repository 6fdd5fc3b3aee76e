use mathlib.Core.Path.{sym, ◌∙◌}
use native.Mathlib.Omega.{arith}
use lib.ListN.{length}
use Rattle.std.proofs.lemmas.Result.{err_from_is_err_and}
use Rattle.numbers.proofs.RefusalLaws.{refused_some}
use Rattle.refusals.proofs.SizeLaws.{sized, long_all}
use Rattle.refusals.proofs.PartLaws.{sizes_refuse, lengths_refuse, lists_decide}
use Rattle.refusals.proofs.parts.check_by_lengths.Goals as goal

pub returns-in_err-check_sizes : goal.returns-in_err-check_sizes
returns-in_err-check_sizes c =
    let a = c.args in
    let p = err_from_is_err_and c.from_residual.result c.from_residual.ensures.1 in
    let e = c.in_err-check_sizes.ensures in
    let some = refused_some c.in_err-check_sizes.field-0.0 in
    rw (p.1, p.2) (e ∙ sizes_refuse a.n a.k a.ka a.times.now a.near.now a.alpha.now a.lengths.now a.words a.told (λ z. omega (arith, z, e, some)))

pub check_lengths-requires : goal.check_lengths-requires
check_lengths-requires c =
    let a = c.args in
    let s = sized a.n a.k a.ka a.told (sym c.in_ok-check_sizes.ensures) in
    record { n_bound = s.few; k_bound = s.short_near; ka_bound = s.short_alpha }

pub returns-in_err-check_lengths : goal.returns-in_err-check_lengths
returns-in_err-check_lengths c =
    let a = c.args in
    let p = err_from_is_err_and c.from_residual-in_err-check_lengths.result c.from_residual-in_err-check_lengths.ensures.1 in
    let e = c.in_err-check_lengths.ensures in
    let some = refused_some c.in_err-check_lengths.field-0.0 in
    rw (p.1, p.2) (e ∙ lengths_refuse a.n a.k a.ka a.times.now a.near.now a.alpha.now a.lengths.now a.words a.told (sym c.in_ok-check_sizes.ensures) (λ z. omega (arith, z, e, some)))

pub check_lists-requires : goal.check_lists-requires
check_lists-requires c =
    let a = c.args in
    let s = sized a.n a.k a.ka a.told (sym c.in_ok-check_sizes.ensures) in
    let g = long_all a.n a.k a.ka (length a.times.now) (length a.near.now) (length a.alpha.now) a.lengths.now a.words (sym c.in_ok-check_lengths.ensures) in
    record { square = record { few = s.few; cells = g.cells_are }; k_bound = (s.short_near, g.near_are); ka_bound = (s.short_alpha, g.alpha_are) }

pub returns : goal.returns
returns c =
    let a = c.args in
    c.check_lists.ensures ∙ lists_decide a.n a.k a.ka a.times.now a.near.now a.alpha.now a.lengths.now a.words a.told (sym c.in_ok-check_sizes.ensures) (sym c.in_ok-check_lengths.ensures)
