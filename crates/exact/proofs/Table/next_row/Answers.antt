use Rattle.std.proofs.Common.{◌-◌, refl, ap, ◌∙◌, arith}
use Rattle.rules.specs.Table.{members}
use Rattle.rules.specs.Plan.{leg_in}
use Rattle.laws.proofs.OnwardLaws.{onward}
use Rattle.exact.proofs.Cells.{sets_few, stop_in}
use Rattle.exact.proofs.Rows.{rowing_starts, rowing_next, rowing_done, others_less}
use Rattle.exact.proofs.Table.next_row.Goals as goal

pub invariant_of-k-items : goal.invariant_of-k-items
invariant_of-k-items c = let t = c.args.self.now in
    record { few = omega (arith, c.requires, sets_few t.matrix.n t.sized.high) }

pub loop-k-init : goal.loop-k-init
loop-k-init c = let t = c.args.self.now in
    rw c.into_iter-k-iterator.ensures.into_iter_gives (rowing_starts t.matrix.times.now t.matrix.n t.sets t.sized.high c.requires _ refl)

pub overflow_sub-others : goal.overflow_sub-others
overflow_sub-others c = let k = c.in-Some.ensures.steps in
    omega (arith, c.alone.ensures, others_less c.loop-k.invariant k.0 k.1)

pub cheapest-requires-clause-there : goal.cheapest-requires-clause-there
cheapest-requires-clause-there c = let k = c.in-Some.ensures.steps in
    omega (arith, c.alone.ensures, others_less c.loop-k.invariant k.0 k.1)

pub cheapest-requires-clause-stop : goal.cheapest-requires-clause-stop
cheapest-requires-clause-stop c = (stop_in c.args.self.now.sized.low c.loop-k.invariant.within c.in-Some.ensures.steps.0).1

pub loop-k-preserved : goal.loop-k-preserved
loop-k-preserved c = let t = c.args.self.now in
    let k = c.in-Some.ensures.steps in
    rowing_next c.loop-k.invariant k.0 k.1 t.sized.high (c.cheapest.ensures ∙ ap (λ x. onward (leg_in t.matrix.n t.matrix.times.now) c.in-Some.k.0 (members (t.matrix.n - 1) (t.sets - x))) c.alone.ensures)

pub returns : goal.returns
returns c = rowing_done c.loop-k.invariant c.in-None.ensures.steps
