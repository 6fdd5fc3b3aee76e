use native.Mathlib.Omega.{arith}
use Rattle.laws.proofs.CellLaws.{cells_few}
use Rattle.refusals.proofs.SizeLaws.{odd_cells, odd_near, plan_left}
use Rattle.refusals.proofs.sizes.plan_long.Goals as goal

pub overflow_mul-n : goal.overflow_mul-n
overflow_mul-n c =
    let a = c.args in
    let pre = c.requires in
    omega (arith, cells_few a.n a.n pre.n_bound pre.n_bound)

pub returns-then-cells-n : goal.returns-then-cells-n
returns-then-cells-n c =
    let a = c.args in
    odd_cells a.n a.k a.ka a.cells a.near a.alpha c.if-cells-n.true

pub overflow_mul-n-2 : goal.overflow_mul-n-2
overflow_mul-n-2 c =
    let a = c.args in
    let pre = c.requires in
    omega (arith, cells_few a.n a.k pre.n_bound (omega (arith, pre.k_bound)))

pub returns-then-near-n : goal.returns-then-near-n
returns-then-near-n c =
    let a = c.args in
    odd_near a.n a.k a.ka a.cells a.near a.alpha c.if-cells-n.false c.if-near-n.true

pub overflow_mul-result : goal.overflow_mul-result
overflow_mul-result c =
    let a = c.args in
    let pre = c.requires in
    omega (arith, cells_few a.n a.ka pre.n_bound (omega (arith, pre.ka_bound)))

pub returns : goal.returns
returns c =
    let a = c.args in
    plan_left a.n a.k a.ka a.cells a.near a.alpha c.if-cells-n.false c.if-near-n.false
