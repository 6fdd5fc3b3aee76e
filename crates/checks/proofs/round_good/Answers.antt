use mathlib.Core.Path.{sym, ap, ◌∙◌}
use native.Mathlib.Omega.{arith}
use borrow.Author.Count.{below_more}
use Rattle.rules.specs.Lists.{at}
use Rattle.checks.proofs.RoundLaws.{all_pass, one_fails}
use borrow.Author.Rules.{rules}
use Rattle.checks.proofs.round_good.Goals as goal

pub loop-i-init : goal.loop-i-init
loop-i-init c = (search rules, λ k h. absurd (omega arith))

pub returns-then-n-v : goal.returns-then-n-v
returns-then-n-v c =
    one_fails c.args.round.now c.args.places.now c.requires.round_len_bound c.requires.places_len (λ t. omega (arith, c.if-n-v.true, t.stop c.loop-i.i c.loop-i-test.true))

pub returns-then-places-v : goal.returns-then-places-v
returns-then-places-v c =
    one_fails c.args.round.now c.args.places.now c.requires.round_len_bound c.requires.places_len (λ t. c.if-places-v.true (t.back c.loop-i.i c.loop-i-test.true))

pub returns-then-n-p : goal.returns-then-n-p
returns-then-n-p c =
    one_fails c.args.round.now c.args.places.now c.requires.round_len_bound c.requires.places_len (λ t. omega (arith, c.if-n-p.true, t.place c.loop-i.i c.loop-i-test.true))

pub returns-then-round-p : goal.returns-then-round-p
returns-then-round-p c =
    one_fails c.args.round.now c.args.places.now c.requires.round_len_bound c.requires.places_len (λ t. c.if-round-p.true (t.forth c.loop-i.i c.loop-i-test.true))

pub loop-i-preserved : goal.loop-i-preserved
loop-i-preserved c = (
  search rules,
  below_more _ _ c.loop-i.invariant.1 (record {
    stop = omega (arith, c.if-n-v.false);
    place = omega (arith, c.if-n-p.false);
    back = c.if-places-v.false;
    forth = c.if-round-p.false;
  }),
)

pub returns : goal.returns
returns c =
    all_pass c.args.round.now c.args.places.now c.requires.round_len_bound c.requires.places_len (λ k h. c.loop-i.invariant.1 k (omega (arith, c.loop-i-test.false)))
