use mathlib.Core.Path.{sym, ◌∙◌}
use borrow.Author.Rules.{rules}
use borrow.Author.Tests.{le-leb, lt-leb}
use native.Mathlib.Omega.{arith}
use Rattle.laws.proofs.MoveWayLaws.{over_stays, first_stays, second_stays}
use Rattle.moves.proofs.cuts.window.Goals as goal

pub returns-then-longest : goal.returns-then-longest
returns-then-longest c =
    let a = c.args in
    record { is = λ t e. over_stays a.n a.a a.b a.c t e (sym c.longest.ensures ∙ c.if-longest.true); start_low = search rules; fits = search rules }

pub returns-then-second-first : goal.returns-then-second-first
returns-then-second-first c =
    let a = c.args in
    record { is = λ t e. first_stays a.n a.a a.b a.c t e (sym c.longest.ensures ∙ c.if-longest.false) (le-leb _ _ (omega arith)); start_low = search rules; fits = search rules }

pub returns : goal.returns
returns c =
    let a = c.args in
    record { is = λ t e. second_stays a.n a.a a.b a.c t e (sym c.longest.ensures ∙ c.if-longest.false) (lt-leb _ _ (omega arith)); start_low = search rules; fits = search rules }
