use mathlib.Core.Bool.{true, false}
use mathlib.Core.Path.{◌≡◌, refl, sym, ◌∙◌}
use native.Mathlib.Omega.{arith}
use borrow.Author.Tests.{eq-eqb, ne_eqb}
use lib.Dec.{eqb}
use Rattle.rules.specs.Draws.{moved, drawn}
use Rattle.kicks.proofs.KindLaws.{number_most}
use Rattle.walks.specs.Walking.{kind_of}
use Rattle.walks.proofs.turns.choose_kind.Goals as goal

pub returns-then-draw-eq0 : goal.returns-then-draw-eq0
unfolding kind_of
returns-then-draw-eq0 c = let a = c.args in let v = drawn 0 15 (moved a.state.now) in let e : eqb v 0 ≡ true = eq-eqb v 0 (sym c.draw.ensures.is ∙ c.if-draw-eq0.true) in record { is = rw e refl; known = omega arith; state = c.draw.ensures.state }

pub returns-else-draw-eq0 : goal.returns-else-draw-eq0
unfolding kind_of
returns-else-draw-eq0 c = let a = c.args in let v = drawn 0 15 (moved a.state.now) in let e : eqb v 0 ≡ false = ne_eqb v 0 (λ z. c.if-draw-eq0.false (c.draw.ensures.is ∙ z)) in record { is = rw e refl; known = number_most a.kind; state = c.draw.ensures.state }
