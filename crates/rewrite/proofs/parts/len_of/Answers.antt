use borrow.Author.Tests.{le-leb, lt-leb}
use Rattle.rules.specs.Rewrite.{len_of}
use borrow.Author.Rules.{rules}
use Rattle.rewrite.proofs.parts.len_of.Goals as goal

pub returns-then-start-end : goal.returns-then-start-end
unfolding len_of
returns-then-start-end c = record { is = simp (le-leb _ _ c.if-start-end.true); below = search rules }

pub returns-else-start-end : goal.returns-else-start-end
unfolding len_of
returns-else-start-end c = record { is = simp (lt-leb _ _ c.if-start-end.false); below = search rules }
