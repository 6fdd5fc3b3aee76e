use Rattle.moves.specs.Cuts.{cut_of}
use Rattle.moves.proofs.or_moves.cut.Goals.{then-fwd, else-fwd}
use Rattle.moves.proofs.or_moves.cut.Goals as goal

pub returns : goal.returns
unfolding cut_of
returns c = elim c.if-fwd.branch [
  | then-fwd w ↦ rw (w.if-fwd.true, ← w.later-is) c.place_of.ensures
  | else-fwd w ↦ rw (w.if-fwd.false, ← w.later-is) c.place_of.ensures
]
