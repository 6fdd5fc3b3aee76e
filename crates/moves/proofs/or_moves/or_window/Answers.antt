use Rattle.moves.proofs.CutLaws.{cuts_exchange}
use Rattle.moves.proofs.or_moves.or_window.Goals as goal

pub returns : goal.returns
returns c = let a = c.args in cuts_exchange a.fwd a.round.now.stops.now a.x1.0 a.y1.0 a.x2.0 a.y2.0 a.x3.0 a.y3.0 c.cut-p.ensures.is c.cut-q.ensures.is c.cut-s.ensures.is c.sorted-c.ensures (rw c.len.ensures at c.window.ensures)
