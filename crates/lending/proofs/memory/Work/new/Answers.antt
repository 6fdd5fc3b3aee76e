use Rattle.std.proofs.Common.{rules}
use Rattle.lending.proofs.memory.Work.new.Goals as goal

pub returns : goal.returns
returns c = record {
  round = search rules;
  places = search rules;
  queue = search rules;
  flags = search rules;
  scratch = search rules;
  journal = search rules;
}
