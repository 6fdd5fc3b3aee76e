-- The memory and the state that a public call is lent and handed, made of its arguments. Assumes nothing.
use Rattle.std.specs.Prelude.{ℕ, List}
use Rattle.rules.specs.Words.{Stop, Place, Time, Round}
use Rattle.rules.specs.Memory.{Lent, Carried}

abbrev pub lending : ℕ → ℕ → ℕ → List Time → List Stop → List Stop → Round → List Place → List ℕ → List ℕ → List ℕ → List ℕ → Lent
lending n k ka matrix near alpha round places queue flags scratch journal =
    record { n = n; k = k; ka = ka; matrix = matrix; near = near; alpha = alpha; round = round; places = places; queue = queue; flags = flags; scratch = scratch; journal = journal }

abbrev pub carrying : Place → ℕ → ℕ → Time → Carried
carrying head count held time = record { head = head; count = count; held = held; time = time }
