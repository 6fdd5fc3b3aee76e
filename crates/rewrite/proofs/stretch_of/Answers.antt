use Prim.Native.Nat.{◌-◌, ◌*◌, ◌<◌, ◌≤◌}
use mathlib.Core.Path.{sym, ◌∙◌}
use native.Mathlib.Omega.{arith}
use lib.ListN.{length}
use Rattle.rules.specs.Rewrite.{len_of}
use Rattle.laws.proofs.StretchLaws.{stretch_others, stretch_these}
use borrow.Author.Rules.{rules}
use Rattle.rewrite.proofs.stretch_of.Goals as goal

pub returns-then-n-len : goal.returns-then-n-len
returns-then-n-len c =
    let a = c.args in
    let n = length a.round.now in
    let e = c.len_of-len.ensures.is in
    let h : n < 2 * len_of n a.start a.end = omega (arith, c.if-n-len.true, e) in
    record {
      is = (λ i. record { start = c.next.ensures.is i; len = n - e i }) ∙ sym (stretch_others n a.start a.end h);
      below = c.next.ensures.below;
      short = search rules;
    }

pub returns : goal.returns
returns c =
    let a = c.args in
    let n = length a.round.now in
    let e = c.len_of-len.ensures.is in
    let h : 2 * len_of n a.start a.end ≤ n = omega (arith, c.if-n-len.false, e) in
    record {
      is = (λ i. record { start = a.start; len = e i }) ∙ sym (stretch_these n a.start a.end h);
      below = c.requires.start_low;
      short = search rules;
    }
