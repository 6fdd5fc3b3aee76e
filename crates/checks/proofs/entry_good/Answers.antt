use native.Mathlib.Omega.{arith}
use Rattle.checks.proofs.EntryLaws.{start_beyond, test_reversal, test_rotation, test_swap, test_none}
use Rattle.checks.proofs.entry_good.Goals as goal

pub returns-then-n-start : goal.returns-then-n-start
returns-then-n-start c = start_beyond c.args.n c.args.journal.now c.args.i c.if-n-start.true

pub returns-then-word : goal.returns-then-word
returns-then-word c =
    let a = c.args in
    test_reversal a.n a.journal.now a.i (omega (arith, c.if-n-start.false)) (omega (arith, c.if-word.true))

pub returns-then-word-2 : goal.returns-then-word-2
returns-then-word-2 c =
    let a = c.args in
    test_rotation a.n a.journal.now a.i (omega (arith, c.if-n-start.false)) (omega (arith, c.if-word-2.true))

pub returns-then-word-3 : goal.returns-then-word-3
returns-then-word-3 c =
    let a = c.args in
    test_swap a.n a.journal.now a.i (omega (arith, c.if-n-start.false)) (omega (arith, c.if-word-3.true))

pub returns : goal.returns
returns c =
    test_none c.args.n c.args.journal.now c.args.i c.if-word.false c.if-word-2.false c.if-word-3.false
