use Prim.Native.Nat.{ℕ}
use mathlib.Core.Path.{◌≡◌, sym, ap, ◌∙◌}
use native.Mathlib.Omega.{arith}
use Rattle.rules.specs.Lists.{at}
use Rattle.rules.specs.Plan.{leg_in}
use Rattle.laws.proofs.CellLaws.{row_within, cells_few}
use Rattle.refusals.proofs.EvenRowLaws.{row_passes, row_fails, one_further}
use Rattle.refusals.proofs.even.row_even.Goals as goal

pub overflow_mul-row : goal.overflow_mul-row
overflow_mul-row c =
    let a = c.args in
    omega (arith, a.matrix.now.square.few, a.matrix.now.square.cells, row_within a.matrix.now.n a.matrix.now.n a.a c.requires, cells_few a.matrix.now.n a.matrix.now.n a.matrix.now.square.few a.matrix.now.square.few)

pub overflow_add-back : goal.overflow_add-back
overflow_add-back c =
    let a = c.args in
    omega (arith, a.matrix.now.square.few, a.matrix.now.square.cells, row_within a.matrix.now.n a.matrix.now.n a.a c.requires, cells_few a.matrix.now.n a.matrix.now.n a.matrix.now.square.few a.matrix.now.square.few)

pub overflow_add-back-2 : goal.overflow_add-back-2
overflow_add-back-2 c =
    let a = c.args in
    omega (arith, a.matrix.now.square.few, a.matrix.now.square.cells, row_within a.matrix.now.n a.matrix.now.n a.a c.requires, cells_few a.matrix.now.n a.matrix.now.n a.matrix.now.square.few a.matrix.now.square.few)

pub overflow_add-row : goal.overflow_add-row
overflow_add-row c =
    let a = c.args in
    omega (arith, a.matrix.now.square.few, a.matrix.now.square.cells, row_within a.matrix.now.n a.matrix.now.n a.a c.requires, cells_few a.matrix.now.n a.matrix.now.n a.matrix.now.square.few a.matrix.now.square.few)

pub offset_bounds-times-row : goal.offset_bounds-times-row
offset_bounds-times-row c =
    let a = c.args in
    omega (arith, a.matrix.now.square.few, a.matrix.now.square.cells, row_within a.matrix.now.n a.matrix.now.n a.a c.requires, cells_few a.matrix.now.n a.matrix.now.n a.matrix.now.square.few a.matrix.now.square.few)

pub bounds-times-row : goal.bounds-times-row
bounds-times-row c =
    let a = c.args in
    omega (arith, a.matrix.now.square.few, a.matrix.now.square.cells, row_within a.matrix.now.n a.matrix.now.n a.a c.requires, cells_few a.matrix.now.n a.matrix.now.n a.matrix.now.square.few a.matrix.now.square.few)

pub offset_bounds-times-back : goal.offset_bounds-times-back
offset_bounds-times-back c =
    let a = c.args in
    omega (arith, a.matrix.now.square.few, a.matrix.now.square.cells, row_within a.matrix.now.n a.matrix.now.n c.loop-b.b c.loop-b-test.true, cells_few a.matrix.now.n a.matrix.now.n a.matrix.now.square.few a.matrix.now.square.few)

pub bounds-times-back : goal.bounds-times-back
bounds-times-back c =
    let a = c.args in
    omega (arith, a.matrix.now.square.few, a.matrix.now.square.cells, row_within a.matrix.now.n a.matrix.now.n c.loop-b.b c.loop-b-test.true, cells_few a.matrix.now.n a.matrix.now.n a.matrix.now.square.few a.matrix.now.square.few)

pub returns-then-times-row : goal.returns-then-times-row
unfolding leg_in
returns-then-times-row c =
    let a = c.args in
    let loop = c.loop-b in
    row_fails (leg_in a.matrix.now.n a.matrix.now.times.now) a.matrix.now.n a.a loop.b loop.invariant.0 c.loop-b-test.true (λ e. c.if-times-row.true (e ∙ sym (ap (at a.matrix.now.times.now) loop.invariant.1.1.0)))

pub overflow_add-back-in-loop-b : goal.overflow_add-back-in-loop-b
overflow_add-back-in-loop-b c =
    let a = c.args in
    omega (arith, a.matrix.now.square.few, a.matrix.now.square.cells, row_within a.matrix.now.n a.matrix.now.n c.loop-b.b c.loop-b-test.true, cells_few a.matrix.now.n a.matrix.now.n a.matrix.now.square.few a.matrix.now.square.few)

pub loop-b-preserved : goal.loop-b-preserved
unfolding leg_in
loop-b-preserved c =
    let a = c.args in
    let loop = c.loop-b in
    (omega (arith, loop.invariant.0), (omega (arith, c.loop-b-test.true), (omega (arith, loop.invariant.1.1.0), one_further (λ (x : ℕ). leg_in a.matrix.now.n a.matrix.now.times.now a.a x ≡ leg_in a.matrix.now.n a.matrix.now.times.now x a.a) a.a loop.b loop.invariant.1.1.1 (c.if-times-row.false ∙ ap (at a.matrix.now.times.now) loop.invariant.1.1.0))))

pub returns : goal.returns
returns c =
    let a = c.args in
    row_passes (leg_in a.matrix.now.n a.matrix.now.times.now) a.matrix.now.n a.a (λ b l m. c.loop-b.invariant.1.1.1 b l (omega (arith, c.loop-b-test.false)))
