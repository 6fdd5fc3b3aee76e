use Rattle.std.proofs.Common.{◌≡◌, ◌*◌}
use Rattle.std.proofs.Common.{drop}
use Rattle.lending.specs.Reading.{Gives}
use Rattle.lending.proofs.reader.Reader.gives.Given as goal

abbrev pub invariant-loop-word : goal.invariant-loop-word
invariant-loop-word l = record { rest : l.self ≡ drop (2 * l.word-index) l.initial.self; same : Gives l.initial.self l.words l.word-index }
