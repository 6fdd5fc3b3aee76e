use borrow.Author.Rules.{rules}
use native.Mathlib.Omega.{arith}
use Rattle.journal.specs.Tracks.{track_in}
use Rattle.moves.proofs.MadeLaws.{made_is}
use Rattle.moves.proofs.MoveLaws.{seq_two, seq_flips, seq_segment, seq_inner}
use Rattle.moves.proofs.moves.apply_seq3.Goals as goal

pub returns-in-1-clause-made : goal.returns-in-1-clause-made
returns-in-1-clause-made c = let a = c.args in let m = a.mv in made_is (seq_two a.fwd m.case a.t1.0 a.t2.0 m.t3.0 m.t4.0 m.t5.0 m.t6.0 (track_in a.track.now) c.in-1.is) (omega arith) c.flip.ensures.made

pub returns-in-2-clause-made : goal.returns-in-2-clause-made
returns-in-2-clause-made c = let a = c.args in let m = a.mv in made_is (seq_flips a.fwd m.case a.t1.0 a.t2.0 m.t3.0 m.t4.0 m.t5.0 m.t6.0 (track_in a.track.now) c.in-2.is) (omega arith) c.flip_twice.ensures.made

pub returns-in-3-clause-made : goal.returns-in-3-clause-made
returns-in-3-clause-made c = let a = c.args in let m = a.mv in made_is (seq_segment a.fwd m.case a.t1.0 a.t2.0 m.t3.0 m.t4.0 m.t5.0 m.t6.0 (track_in a.track.now) c.in-3.is) (omega arith) c.or_move.ensures.made

pub returns-in_default-clause-made : goal.returns-in_default-clause-made
returns-in_default-clause-made c = let a = c.args in let m = a.mv in made_is (seq_inner a.fwd m.case a.t1.0 a.t2.0 m.t3.0 m.t4.0 m.t5.0 m.t6.0 (track_in a.track.now) (search rules) (search rules) (search rules)) (omega arith) c.flip_twice-in_default.ensures.made
