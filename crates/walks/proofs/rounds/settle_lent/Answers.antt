use mathlib.Core.Path.{refl}
use native.Mathlib.Omega.{arith}
use Rattle.loads.proofs.UndoLaws.{back_laid}
use Rattle.walks.proofs.rounds.settle_lent.Goals as goal

pub returns-then-accept : goal.returns-then-accept
returns-then-accept c = rw c.if-accept.true (record { round_is = refl; tied = c.requires.tied })

pub rollback-requires : goal.rollback-requires
rollback-requires c = record { tied = c.requires.tied; scratch_len = c.requires.scratch_len; held_value = c.requires.held_value; mark_le_held = omega arith }

pub returns : goal.returns
returns c =
    let a = c.args in
    rw c.if-accept.false (back_laid a.round.now a.journal.now a.held c.rollback.new.round c.rollback.new.places a.journal.now c.rollback.result c.rollback.ensures)
