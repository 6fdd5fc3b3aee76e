-- What the scans find. Assumes nothing.
use Rattle.std.specs.Prelude.{ℕ, Bool, List}
use Rattle.rules.specs.Words.{Stop, Time, Round}
use Rattle.rules.specs.Lists.{keep_while}
use Rattle.rules.specs.Ring.{ahead}
use Rattle.rules.specs.Plan.{leg_in, list_in}
use Rattle.rules.specs.Improve.{trials}
use Rattle.legs.specs.declared.plan.Plan.{Plan}
use Rattle.tries.specs.Picks.{Pick, first_of}

-- the move that `improve` takes from t1 in a direction, over a matrix of n rows and near lists of k entries
unfoldable pub found_in : ℕ → List Time → ℕ → List Stop → Bool → Round → Stop → Pick
found_in n matrix k near fwd r t1 =
    let d = leg_in n matrix in
    let t2 = ahead fwd r t1 in
    first_of d t1 (trials d d (list_in k near) keep_while fwd r t1 t2 (d t1 t2))

-- the same over the plan that is lent
abbrev pub found_on : Plan → Bool → Round → Stop → Pick
found_on p = found_in p.matrix.n p.matrix.times.now p.near.count p.near.entries.now
