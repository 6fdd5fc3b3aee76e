use Rattle.std.proofs.Common.{◌∙◌, ap, drop}
use Rattle.std.specs.Int.{w16, from_le_bytes}
use Rattle.lending.specs.Reading.{next_bytes}
use Rattle.lending.proofs.Reading.{drop_next, gives_next}
use Rattle.lending.proofs.reader.Reader.gives.Goals as goal

pub loop-word-preserved : goal.loop-word-preserved
loop-word-preserved c = let i = c.loop-word.invariant in record {
  rest = c.half.ensures.rest ∙ (ap (λ s. drop 2 s) i.rest ∙ drop_next c.loop-word.word-index c.args.self.now);
  same = gives_next _ _ _ i.same (c.if-word-from.false ∙ (c.from.ensures ∙ (c.half.ensures.value ∙ ap (λ s. from_le_bytes w16 (next_bytes 2 s)) i.rest)));
}
