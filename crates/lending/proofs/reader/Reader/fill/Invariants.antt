use Rattle.std.proofs.Common.{◌≡◌, ℕ, ◌*◌, ◌<◌, drop, slice_index_or}
use Rattle.lending.specs.Reading.{half_at}
use Rattle.lending.proofs.reader.Reader.fill.Given as goal

abbrev pub invariant-loop-word : goal.invariant-loop-word
invariant-loop-word g l = record {
  rest : l.self ≡ drop (2 * l.word-index) l.initial.self;
  words : (k : ℕ) (d : _) → k < l.word-index → g.T.From.from_gives (half_at l.initial.self k) (slice_index_or l.word-items k d);
}

abbrev pub invariant-loop-past_word : goal.invariant-loop-past_word
invariant-loop-past_word g l = (k : ℕ) (d : _) → k < l.past_word-index → g.T.From.from_gives 0 (slice_index_or l.past_word-items k d)
