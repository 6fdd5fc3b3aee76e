-- The ring read from a place on: what stands so many steps on, and a store and an exchange there.
use Prim.Native.Nat.{ℕ, ◌<◌}
use mathlib.Core.Path.{◌≡◌}
use mathlib.Core.List.{List}
use native.Mathlib.Omega.{arith}
use lib.ListN.{length, set, length-set}
use Rattle.rules.specs.Words.{Place}
use Rattle.rules.specs.Lists.{at}
use Rattle.rules.specs.Ring.{turn}
use Rattle.rules.specs.Rewrite.{swap_at}
use Rattle.laws.proofs.TurnLaws.{turn_on, turn_set}
use Rattle.ring.specs.Around.{around}
use Rattle.ring.proofs.AroundLaws.{on}

-- what stands a steps after s
pub at_turn : (s : Place) (a : ℕ) (r : List ℕ) → s < length r → a < length r → at (turn s r) a ≡ at r (around (length r) s a)
at_turn s a r hs ha = turn_on s a (around (length r) s a) r (omega arith) ha (on (length r) s a)

-- a store there
pub set_turn : (s : Place) (a v : ℕ) (r : List ℕ) → s < length r → a < length r → turn s (set r (around (length r) s a) v) ≡ set (turn s r) a v
set_turn s a v r hs ha = turn_set s a (around (length r) s a) v r (omega arith) ha (on (length r) s a)

-- an exchange of two places there
pub swap_turn : (s : Place) (a b : ℕ) (r : List ℕ) → s < length r → a < length r → b < length r
    → turn s (swap_at (around (length r) s a) (around (length r) s b) r) ≡ swap_at a b (turn s r)
unfolding swap_at
swap_turn s a b r hs ha hb =
    let n : ℕ = length r in
    let y : List ℕ = set r (around n s a) (at r (around n s b)) in
    let e : length y ≡ n = length-set r _ _ in
    let h1 : turn s (set y (around (length y) s b) (at r (around n s a))) ≡ set (turn s y) b (at r (around n s a)) = set_turn s b _ y (omega arith) (omega arith) in
    let h2 : turn s (set y (around n s b) (at r (around n s a))) ≡ set (turn s y) b (at r (around n s a)) = rw e at h1 in
    cc (h2, set_turn s a (at r (around n s b)) r hs ha, at_turn s a r hs ha, at_turn s b r hs hb)
