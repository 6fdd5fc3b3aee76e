-- 01, 6: the two ways of a flip, and the three of an exchange.
use Prim.Native.Nat.{ℕ, ◌-◌}
use mathlib.Core.Path.{◌≡◌}
use mathlib.Core.Bool.{◌&&◌, false, true}
use mathlib.Core.List.{List}
use lib.Dec.{eqb, leb}
use lib.ListN.{length}
use Rattle.rules.specs.Journal.{Entry, Track, doing, reversing, rotation}
use Rattle.rules.specs.Moves.{exchange, flip}
use Rattle.rules.specs.Ring.{place, pred, succ}
use Rattle.rules.specs.Words.{Place, Round, Stop}

module _ (r : Round) (t1 t2 t3 : Stop) (s e : Place) where
  -- t1 t2 .. t4 t3
  pub flip_ahead : eqb (succ r t1) t2 ≡ true → s ≡ place r t2 → e ≡ place r (pred r t3)
      → (j : List Entry) → reversing s e (record { round = r; journal = j }) ≡ flip t1 t2 t3 (record { round = r; journal = j })
  unfolding flip
  flip_ahead b es ee j = rw (es, ee, b)

  -- t2 t1 .. t3 t4
  pub flip_back : eqb (succ r t1) t2 ≡ false → s ≡ place r t1 → e ≡ place r t3
      → (j : List Entry) → reversing s e (record { round = r; journal = j }) ≡ flip t1 t2 t3 (record { round = r; journal = j })
  unfolding flip
  flip_back b es ee j = rw (es, ee, b)

module _ (n : ℕ) (a b c : Place) (t : Track) (e : length t.round ≡ n) where
  -- the path over the ring's end stays
  pub over_stays : leb (b - a) (n - (c - a)) && leb (c - b) (n - (c - a)) ≡ true → doing (rotation a (b - a) 0 (c - b)) t ≡ exchange a b c t
  unfolding exchange
  over_stays w = rw (e, w)

  module _ (w : leb (b - a) (n - (c - a)) && leb (c - b) (n - (c - a)) ≡ false) where
    -- the first path stays
    pub first_stays : leb (c - b) (b - a) ≡ true → doing (rotation b (c - b) 0 (n - (c - a))) t ≡ exchange a b c t
    unfolding exchange
    first_stays f = rw (e, w, f)

    -- the second path stays
    pub second_stays : leb (c - b) (b - a) ≡ false → doing (rotation c (n - (c - a)) 0 (b - a)) t ≡ exchange a b c t
    unfolding exchange
    second_stays f = rw (e, w, f)
