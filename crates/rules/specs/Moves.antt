-- 01, "The port", 6: `flip`, `or_move`, `apply_seq3`. Assumes nothing.
use Rattle.std.specs.Prelude.{◌+◌, ◌-◌, min, max, Bool, ◌&&◌, leb, eqb, length}
use Rattle.rules.specs.Words.{Stop, Place}
use Rattle.rules.specs.Lists.{when◌then◌else◌}
use Rattle.rules.specs.Ring.{place, succ, pred}
use Rattle.rules.specs.Journal.{Track, rotation, doing, reversing}

-- `flip`, the 2-opt move: t1 t2 .. t4 t3 reverses t2..t4, t2 t1 .. t3 t4 reverses t1..t3
unfoldable pub flip : Stop → Stop → Stop → Track → Track
flip t1 t2 t3 t =
    let r = t.round in
    when eqb (succ r t1) t2 then reversing (place r t2) (place r (pred r t3)) t else reversing (place r t1) (place r t3) t

-- "`or_move` keeps the longest path in place, with the source's ties": three cuts in rising order leave three paths, and the other two
-- change places; of equals the path over the ring's end stays, then the first
unfoldable pub exchange : Place → Place → Place → Track → Track
exchange c0 c1 c2 t =
    let a = c1 - c0 in
    let b = c2 - c1 in
    let c = length t.round - (c2 - c0) in
    when leb a c && leb b c then doing (rotation c0 a 0 b) t else
    when leb b a then doing (rotation c1 b 0 c) t else
    doing (rotation c2 c 0 a) t

-- `or_move`: the cut of a leg x-y that goes is the place of its later stop in the ring's own direction
unfoldable pub or_move : Bool → Stop → Stop → Stop → Stop → Stop → Stop → Track → Track
or_move fwd x1 y1 x2 y2 x3 y3 t =
    let p = place t.round (when fwd then y1 else x1) in
    let q = place t.round (when fwd then y2 else x2) in
    let s = place t.round (when fwd then y3 else x3) in
    let lo = min p (min q s) in
    let hi = max p (max q s) in
    exchange lo (p + q + s - lo - hi) hi t

-- `Seq3`, how the stops of a move lie, and beside it the 2-opt move
pub data Case : Type 0 where
  two flips segment inner : Case

-- `apply_seq3`: the legs t1-t2, t3-t4, t5-t6 go, t2-t3, t4-t5, t6-t1 come; in a 2-opt move t1-t2, t3-t4 go, t2-t3, t4-t1 come
unfoldable pub seq3 : Bool → Case → Stop → Stop → Stop → Stop → Stop → Stop → Track → Track
seq3 fwd two t1 t2 t3 t4 t5 t6 t = flip t1 t2 t3 t
seq3 fwd flips t1 t2 t3 t4 t5 t6 t = flip t1 t4 t5 (flip t1 t2 t3 t)
seq3 fwd segment t1 t2 t3 t4 t5 t6 t = or_move fwd t1 t2 t5 t6 t3 t4 t
seq3 fwd inner t1 t2 t3 t4 t5 t6 t = flip t2 t5 t4 (flip t1 t2 t5 t)
