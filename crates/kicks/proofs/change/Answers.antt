use mathlib.Core.Path.{◌∙◌, ap}
use lib.IntN.{ℤ, pos, ◌+ℤ◌, ◌-ℤ◌, -ℤ-+ℤ_cancel}
use mir.Syntax.{w32}
use mir.ValLaws.{to_z-of_z, to_z_pos}
use Rattle.kicks.proofs.ChangeLaws.{sub-fits}
use Rattle.kicks.proofs.change.Goals as goal

pub overflow_sub-result : goal.overflow_sub-result
overflow_sub-result c =
    let a = c.args in
    rw (to_z_pos w32 a.added c.requires.added_bound, to_z_pos w32 a.removed c.requires.removed_bound) (sub-fits a.added a.removed c.requires.added_bound c.requires.removed_bound)

pub returns : goal.returns
returns c =
    let a = c.args in
    ap (λ (z : ℤ). z +ℤ pos a.removed) (to_z-of_z w32 _ (overflow_sub-result c) ∙ (λ i. to_z_pos w32 a.added c.requires.added_bound i -ℤ to_z_pos w32 a.removed c.requires.removed_bound i)) ∙ -ℤ-+ℤ_cancel (pos a.added) (pos a.removed)
