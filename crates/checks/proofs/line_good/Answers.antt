use mathlib.Core.Path.{◌∙◌}
use native.Mathlib.Omega.{arith}
use lib.ListN.{length}
use Rattle.checks.proofs.MarkLaws.{head_beyond, count_beyond, unmarked, marked}
use Rattle.checks.proofs.line_good.Goals as goal

pub returns-then-queue-head : goal.returns-then-queue-head
returns-then-queue-head c =
    head_beyond _ c.args.queue.now c.args.flags.now c.args.head c.args.count c.if-queue-head.true

pub returns-then-queue-count : goal.returns-then-queue-count
returns-then-queue-count c =
    count_beyond _ c.args.queue.now c.args.flags.now c.args.head c.args.count c.if-queue-head.false c.if-queue-count.true

pub flags_marked-requires : goal.flags_marked-requires
flags_marked-requires c =
    omega (arith, c.mark_waiting.auto, c.requires.queue_in_bounds, c.requires.flags_len)

pub returns-then-mark_waiting : goal.returns-then-mark_waiting
returns-then-mark_waiting c =
    let a = c.args in
    let m = c.mark_waiting in
    c.flags_marked.ensures ∙ marked (length a.queue.now) a.queue.now a.flags.now a.head a.count c.if-queue-head.false c.if-queue-count.false m.result _ m.ensures c.if-mark_waiting.true c.requires.flags_len

pub returns-else-mark_waiting : goal.returns-else-mark_waiting
returns-else-mark_waiting c =
    let a = c.args in
    let m = c.mark_waiting in
    c.if-mark_waiting.false ∙ unmarked (length a.queue.now) a.queue.now a.flags.now a.head a.count c.if-queue-head.false c.if-queue-count.false m.result _ m.ensures c.if-mark_waiting.false
