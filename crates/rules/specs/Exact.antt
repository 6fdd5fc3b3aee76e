-- 01, "The port", 13: the exact round. Unequal times allowed. Assumes nothing.
use Rattle.std.specs.Prelude.{ℕ, zero, suc, ◌-◌, ◌≤◌, ◌<◌, ◌≡◌, true, List, [], ◌∷◌, map, ltb}
use Rattle.rules.specs.Words.{Stop, Round, Legs}
use Rattle.rules.specs.Lists.{when◌then◌else◌, at, rising, each}
use Rattle.rules.specs.Ring.{is_round, recount}
use Rattle.rules.specs.Start.{without}

-- ---- the promise: "the first, in dictionary order, of the cheapest rounds from stop 0"
-- p stands before q in the dictionary, or is q
pub data Before : List Stop → List Stop → Type 0 where
  same : Before [] []
  less : {a b : Stop} {p q : List Stop} → a < b → Before (a ∷ p) (b ∷ q)
  more : {a : Stop} {p q : List Stop} → Before p q → Before (a ∷ p) (a ∷ q)

-- a round from stop 0
pub record FromZero (n : ℕ) (r : Round) : Type 0 where
  pub zero_first : at r 0 ≡ 0
  pub each_once : is_round n r ≡ true

pub record Exact (d : Legs) (n : ℕ) (r : Round) : Type 0 where
  pub from_zero : FromZero n r
  pub cheapest : (q : Round) → FromZero n q → recount d r ≤ recount d q
  pub first : (q : Round) → FromZero n q → recount d q ≡ recount d r → Before r q

-- ---- the same, computed: the plain walk over all orders
-- every order of `count` stops, in dictionary order where they rise
unfoldable pub orders : ℕ → List Stop → List (List Stop)
orders zero l = [] ∷ []
orders (suc count) l = each (λ v. map (λ o. v ∷ o) (orders count (without v l))) l

-- every round from stop 0
unfoldable pub rounds : ℕ → List Round
rounds n = map (λ o. 0 ∷ o) (orders (n - 1) (rising (n - 1) 1))

-- of `so` and the rounds of a list, the first that none is cheaper than
unfoldable pub cheapest_of : Legs → Round → List Round → Round
cheapest_of d so [] = so
cheapest_of d so (r ∷ rs) = cheapest_of d (when ltb (recount d r) (recount d so) then r else so) rs

unfoldable pub exact_round : Legs → ℕ → Round
exact_round d n = cheapest_of d (rising n 0) (rounds n)
