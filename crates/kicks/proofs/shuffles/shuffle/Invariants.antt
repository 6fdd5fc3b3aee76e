use Rattle.journal.specs.Tracks.{SameTrack}
use Rattle.kicks.proofs.ShuffleLaws.{Shuffling}
use Rattle.kicks.proofs.shuffles.shuffle.Given as goal

abbrev pub invariant-loop-k : goal.invariant-loop-k
invariant-loop-k l = SameTrack l.initial.track l.track × Shuffling l.start.0 l.len l.initial.state l.initial.track l.track l.state l.k
