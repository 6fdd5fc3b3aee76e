use Rattle.std.proofs.Common.{refl, ◌∙◌, arith}
use Rattle.std.proofs.Math.ListN.{length-set}
use Rattle.start.proofs.Walks.{walking_start, walking_left, walking_next, walking_done}
use Rattle.start.proofs.walk.Goals as goal

pub loop-i-init : goal.loop-i-init
loop-i-init g c = let m = c.args.matrix in
    (walking_start m.times.now m.n c.args.mask.now c.args.round.now m.square.few c.requires.some c.requires.blank c.requires.round_len _ _ _ refl refl refl, refl)

pub nearest-last-requires : goal.nearest-last-requires
nearest-last-requires g c = walking_left c.loop-i.invariant.0 c.args.matrix.square refl (omega arith)

pub loop-i-preserved : goal.loop-i-preserved
loop-i-preserved g c =
    (walking_next c.loop-i.invariant.0 c.args.matrix.square refl (omega arith) c.nearest-last.ensures _ _ _ _ refl refl refl refl, length-set c.loop-i.mask c.nearest-last.result.0 _ ∙ c.loop-i.invariant.1)

pub returns : goal.returns
returns g c = walking_done c.loop-i.invariant.0 (omega arith)
