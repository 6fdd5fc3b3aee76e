use mathlib.Core.Path.{sym, ◌∙◌}
use native.Mathlib.Omega.{arith}
use Rattle.rules.specs.Journal.{entries_of}
use Rattle.loads.proofs.UndoLaws.{back_laid, undone_lies}
use Rattle.loads.proofs.undo_lent.Goals as goal

pub rollback-requires : goal.rollback-requires
rollback-requires c =
    let pre = c.requires in
    record { tied = pre.tied; scratch_len = pre.scratch_len; held_value = pre.held_value; mark_le_held = omega arith }

pub cost-requires : goal.cost-requires
cost-requires c = record { size = c.requires.size ∙ sym c.rollback.auto.round; stops = record { below = c.rollback.ensures.tied.stop } }

pub returns : goal.returns
returns c =
    let a = c.args in
    let b = c.rollback in
    let q = c.clear_queue in
    undone_lies a.matrix.now.times.now (entries_of a.journal.now a.held) a.round.now b.new.round b.new.places a.queue.now q.new.flags q.result.head q.result.count c.cost.result c.requires.queue_len (back_laid a.round.now a.journal.now a.held b.new.round b.new.places a.journal.now b.result b.ensures) q.ensures c.cost.ensures
