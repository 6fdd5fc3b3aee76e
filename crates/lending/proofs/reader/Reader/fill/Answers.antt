use Rattle.std.proofs.Common.{◌∙◌, ◌-◌, ◌*◌, ◌≤◌, length, ap, sym, drop, arith}
use Rattle.std.proofs.lemmas.Grind.{div_ceil_times}
use Rattle.std.specs.Int.{w16, from_le_bytes}
use Rattle.lending.specs.Reading.{next_bytes, half_at}
use Rattle.lending.proofs.Reading.{drop_next, holds_next, half_past, both_hold}
use Rattle.lending.proofs.reader.Reader.fill.Goals as goal

pub loop-word-preserved : goal.loop-word-preserved
loop-word-preserved g c = let i = c.loop-word.invariant in record {
  rest = c.half.ensures.rest ∙ (ap (λ s. drop 2 s) i.rest ∙ drop_next c.loop-word.word-index c.args.self.now);
  words =
      let here = c.half.ensures.value ∙ ap (λ s. from_le_bytes w16 (next_bytes 2 s)) i.rest in
      holds_next (λ k x. g.T.From.from_gives (half_at c.args.self.now k) x) _ _ _ (omega arith) i.words (rw (sym here) c.from.ensures);
}

pub returns-clause-words : goal.returns-clause-words
returns-clause-words g c k d below =
    both_hold (λ j x. g.T.From.from_gives (half_at c.args.self.now j) x) c.loop-word.word-items c.loop-past_word.past_word-items
    (λ j e near. c.loop-word.invariant.words j e (omega arith))
    (λ j e past near.
    let ended : length c.args.self.now ≤ 2 * j = omega (arith, c.div_ceil.ensures, ap (λ s. length s) c.self.view_is, (div_ceil_times (length c.self.inside.rest.now) 2 (omega arith)).0) in
    rw (half_past c.args.self.now j ended) (c.loop-past_word.invariant (j - length c.loop-word.word-items) e (omega arith)))
    k d (omega arith)
