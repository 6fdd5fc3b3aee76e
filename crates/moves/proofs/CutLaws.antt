-- 01, 6: an or-move is the exchange of its cuts in rising order.
use Prim.Native.Nat.{ℕ}
use mathlib.Core.Path.{◌≡◌, refl, ◌∙◌}
use mathlib.Core.Bool.{Bool}
use lib.ListN.{length}
use Rattle.rules.specs.Words.{Stop, Place, Round}
use Rattle.rules.specs.Moves.{or_move}
use Rattle.moves.specs.Cuts.{cut_of, Rising, IsWindow, IsOrMove}

pub cuts_exchange : (fwd : Bool) (r : Round) (x1 y1 x2 y2 x3 y3 : Stop) {p q s a b c start : Place} {first last : ℕ}
    → p ≡ cut_of fwd r x1 y1 → q ≡ cut_of fwd r x2 y2 → s ≡ cut_of fwd r x3 y3 → Rising p q s a b c → IsWindow (length r) a b c start first last
    → IsOrMove fwd r x1 y1 x2 y2 x3 y3 start first last
unfolding or_move cut_of
cuts_exchange fwd r x1 y1 x2 y2 x3 y3 ep eq es o w =
    record {
      is = λ j. w.is (record { round = r; journal = j }) refl ∙ cc (o.low, o.high, o.mid, ep, eq, es);
      start_low = w.start_low;
      fits = w.fits;
    }
