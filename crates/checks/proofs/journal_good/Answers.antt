use mathlib.Core.Path.{sym, ◌∙◌}
use native.Mathlib.Omega.{arith}
use borrow.Author.Count.{below_more}
use Rattle.laws.proofs.ChoiceLaws.{true_false, not_so}
use Rattle.laws.proofs.JournalWordLaws.{good_entry, good_room, good_each, good_all}
use borrow.Author.Rules.{rules}
use Rattle.checks.proofs.journal_good.Goals as goal

pub returns-then-journal-held : goal.returns-then-journal-held
returns-then-journal-held c = sym (not_so _ (λ e. omega (arith, c.if-journal-held.true, good_room c.args.n c.args.journal.now c.args.held e)))

pub loop-i-init : goal.loop-i-init
loop-i-init c = (search rules, (omega (arith, c.if-journal-held.false), λ k h. absurd (omega arith)))

pub loop-i-preserved : goal.loop-i-preserved
unfolding good_entry
loop-i-preserved c = (search rules, (c.loop-i.invariant.1.0, below_more _ _ c.loop-i.invariant.1.1 (sym c.entry_good.ensures ∙ c.if-not-entry_good.false)))

pub returns-then-not-entry_good : goal.returns-then-not-entry_good
unfolding good_entry
returns-then-not-entry_good c =
    sym (not_so _ (λ e. true_false (sym (good_each c.args.n c.args.journal.now c.args.held e c.loop-i.i c.loop-i-test.true) ∙ sym c.entry_good.ensures ∙ c.if-not-entry_good.true)))

pub returns : goal.returns
returns c =
    sym (good_all c.args.n c.args.journal.now c.args.held c.loop-i.invariant.1.0 (λ k h. c.loop-i.invariant.1.1 k (omega (arith, c.loop-i-test.false))))
