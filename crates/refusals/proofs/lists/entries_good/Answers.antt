use native.Mathlib.Omega.{arith}
use borrow.Author.Count.{below_more}
use Rattle.laws.proofs.CellLaws.{row_within, cells_few}
use Rattle.refusals.proofs.EntriesLaws.{entries_pass, entry_beyond, entry_own}
use Rattle.refusals.proofs.lists.entries_good.Goals as goal

pub overflow_mul-first : goal.overflow_mul-first
overflow_mul-first c =
    let a = c.args in
    let pre = c.requires in
    omega (arith, row_within a.n a.count a.v pre.v_lt_n, cells_few a.n a.count pre.n_bound (omega (arith, pre.count_bound)))

pub offset_bounds-entries-first : goal.offset_bounds-entries-first
offset_bounds-entries-first c =
    let a = c.args in
    let pre = c.requires in
    omega (arith, row_within a.n a.count a.v pre.v_lt_n, cells_few a.n a.count pre.n_bound (omega (arith, pre.count_bound)))

pub bounds-entries-first : goal.bounds-entries-first
bounds-entries-first c =
    let a = c.args in
    let pre = c.requires in
    omega (arith, row_within a.n a.count a.v pre.v_lt_n, pre.entries_len)

pub returns-then-n-e : goal.returns-then-n-e
returns-then-n-e c =
    let a = c.args in
    let pre = c.requires in
    entry_beyond a.entries.now a.count a.n a.v pre.entries_len pre.v_lt_n c.loop-i.i c.loop-i-test.true (omega (arith, c.if-n-e.true))

pub returns-then-e-v : goal.returns-then-e-v
returns-then-e-v c =
    let a = c.args in
    let pre = c.requires in
    entry_own a.entries.now a.count a.n a.v pre.entries_len pre.v_lt_n c.loop-i.i c.loop-i-test.true c.if-e-v.true

pub loop-i-preserved : goal.loop-i-preserved
loop-i-preserved c =
    (omega (arith, c.loop-i-test.true), below_more _ _ c.loop-i.invariant.1 (omega arith, λ e. omega (arith, e)))

pub returns : goal.returns
returns c =
    let a = c.args in
    let pre = c.requires in
    entries_pass a.entries.now a.count a.n a.v pre.entries_len pre.v_lt_n (λ i h. c.loop-i.invariant.1 i (omega (arith, c.loop-i-test.false)))
