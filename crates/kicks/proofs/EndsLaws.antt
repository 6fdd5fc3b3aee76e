-- The stops beside the cuts: the ring's place by its remainder.
use Prim.Native.Nat.{ℕ, ◌+◌, ◌<◌}
use mathlib.Core.Path.{◌≡◌, sym, ◌∙◌}
use lib.ListN.{length}
use Rattle.rules.specs.Words.{Place, Round}
use Rattle.rules.specs.Lists.{at}
use Rattle.laws.proofs.TurnLaws.{turn_mod}
use Rattle.ring.specs.Around.{wrapped, around}
use Rattle.ring.proofs.TurnAtLaws.{at_turn}
use Rattle.kicks.specs.Exchanging.{stop_on}

pub stop_wrapped : (r : Round) (start : Place) (k : ℕ) → start < length r → k < length r → at r (wrapped (length r) (start + k)) ≡ stop_on r start k
unfolding stop_on around
stop_wrapped r start k hs hk = sym (at_turn start k r hs hk) ∙ turn_mod start k r hs hk
