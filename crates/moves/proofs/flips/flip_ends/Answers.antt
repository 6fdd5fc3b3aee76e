use mathlib.Core.Path.{◌≡◌, ap, ◌∙◌}
use mathlib.Core.Bool.{true, false}
use lib.Dec.{eqb}
use Rattle.rules.specs.Ring.{place, succ as succ_of}
use Rattle.laws.proofs.MoveWayLaws.{flip_ahead, flip_back}
use Rattle.moves.proofs.flips.flip_ends.Goals as goal

pub returns-then-eq : goal.returns-then-eq
returns-then-eq c =
    let a = c.args in
    let r = a.round.now.stops.now in
    let b : eqb (succ_of r a.t1.0) a.t2.0 ≡ true = cc (c.succ.ensures.is, c.eq.ensures, c.if-eq.true) in
    record { is = flip_ahead r a.t1.0 a.t2.0 a.t3.0 c.place_of.result.0 c.place_of-then-eq.result.0 b c.place_of.ensures.is (c.place_of-then-eq.ensures.is ∙ ap (place r) c.pred-t4.ensures.is); start_low = c.place_of.ensures.below; end_low = c.place_of-then-eq.ensures.below }

pub returns : goal.returns
returns c =
    let a = c.args in
    let r = a.round.now.stops.now in
    let b : eqb (succ_of r a.t1.0) a.t2.0 ≡ false = cc (c.succ.ensures.is, c.eq.ensures, c.if-eq.false) in
    record { is = flip_back r a.t1.0 a.t2.0 a.t3.0 c.place_of-2.result.0 c.place_of-3.result.0 b c.place_of-2.ensures.is c.place_of-3.ensures.is; start_low = c.place_of-2.ensures.below; end_low = c.place_of-3.ensures.below }
