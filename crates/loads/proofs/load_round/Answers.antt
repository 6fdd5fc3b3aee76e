use Prim.Native.Nat.{ℕ}
use mathlib.Core.Path.{ap, ◌∙◌}
use mathlib.Core.List.{[]}
use Rattle.rules.specs.Queue.{flags_of}
use Rattle.loads.proofs.LayLaws.{all_down}
use Rattle.loads.proofs.load_round.Goals as goal

pub returns : goal.returns
returns c =
    record { laid = c.lay.ensures; flags_are = c.fill.ensures.after (λ y e. e) ∙ all_down _ ∙ ap (λ (n : ℕ). flags_of n []) c.requires.flags_fit; takes = c.cost.ensures }
