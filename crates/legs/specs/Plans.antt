-- The plan that is lent. Assumes nothing.
use Rattle.rules.specs.Plan.{Plan as PlanOf}
use Rattle.legs.specs.declared.plan.Plan.{Plan}

-- the plan that stands there
abbrev pub plan_in : Plan → PlanOf
plan_in p = record { n = p.matrix.n; matrix = p.matrix.times.now; k = p.near.count; near = p.near.entries.now; ka = p.alpha.count; alpha = p.alpha.entries.now }
