use Prim.Native.Nat.{ℕ}
use mathlib.Core.Path.{ap, ◌∙◌}
use Rattle.rules.specs.Kicks.{kind_at}
use Rattle.kicks.specs.Kinds.{kick_number}
use Rattle.kicks.proofs.KindLaws.{carried_out}
use Rattle.kicks.proofs.cuts.kick_kind_at.Goals as goal

pub returns : goal.returns
returns c =
    let a = c.args in
    ap kick_number c.of.ensures ∙ carried_out a.n _ a.kind (c.kind_at.ensures ∙ ap (λ (k : ℕ). kind_at a.n k) c.number.ensures)
