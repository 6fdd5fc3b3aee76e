use native.Mathlib.Omega.{arith}
use Rattle.rules.specs.Journal.{entries_of, undo_all}
use Rattle.walks.specs.Standing.{tally_in}
use Rattle.walks.proofs.JudgeLaws.{lesser_low, judge_done}
use Rattle.walks.proofs.turns.judge.Goals as goal

pub overflow_sub-accept : goal.overflow_sub-accept
overflow_sub-accept c = omega (arith, lesser_low c.args.time c.args.t.walk, c.lesser-walk.ensures)

pub overflow_add-t : goal.overflow_add-t
overflow_add-t c = omega (arith, c.requires.counts_low.0)

pub overflow_add-t-2 : goal.overflow_add-t-2
overflow_add-t-2 c = omega (arith, c.requires.counts_low.1.0)

pub overflow_add-result : goal.overflow_add-result
overflow_add-result c = omega (arith, c.requires.counts_low.1.1)

pub returns-clause-judges : goal.returns-clause-judges
returns-clause-judges c =
    let a = c.args in
    let t = a.track.now in
    judge_done a.slack a.time a.left (tally_in a.t) t.stops.now (undo_all (entries_of t.journal.now t.held) t.stops.now) a.best.now _ _ c.keep_best.new.best c.lesser-walk.result c.carried.result c.lesser.result c.counted.result c.counted-2.result c.lesser-walk.ensures c.keep_best.ensures c.settle.ensures.laid c.carried.ensures c.lesser.ensures c.counted.ensures c.counted-2.ensures
