-- 7: round, queue, journal and time, test by test.
use Prim.Native.Nat.{ℕ}
use mathlib.Core.Path.{◌≡◌, refl}
use mathlib.Core.Bool.{true, false, ◌&&◌}
use mathlib.Core.List.{List}
use lib.Dec.{eqb}
use Rattle.rules.specs.Words.{Place, Time, Round}
use Rattle.rules.specs.Lists.{same}
use Rattle.rules.specs.Ring.{places_of, is_round, recount}
use Rattle.rules.specs.Journal.{good_journal}
use Rattle.rules.specs.Plan.{leg_in, leg_of}
use Rattle.rules.specs.Memory.{Lent, Carried, plan_in}
use Rattle.rules.specs.Numbers.{agree, good_state}
use Rattle.laws.proofs.ChoiceLaws.{and-true}
use Rattle.refusals.specs.Refusing.{state_good}

module _ (n : ℕ) (matrix : List Time) (round : Round) (places : List Place) (queue flags journal : List ℕ) (c : Carried) where
  pub round_fails : (is_round n round && same places (places_of round)) ≡ false → false ≡ state_good n matrix round places queue flags journal c
  unfolding state_good
  round_fails h = rw h refl

  module _ (h : (is_round n round && same places (places_of round)) ≡ true) where
    pub queue_fails : agree n queue flags c.head c.count ≡ false → false ≡ state_good n matrix round places queue flags journal c
    unfolding state_good
    queue_fails g = rw (h, g) refl

    module _ (g : agree n queue flags c.head c.count ≡ true) where
      pub journal_fails : good_journal n journal c.held ≡ false → false ≡ state_good n matrix round places queue flags journal c
      unfolding state_good
      journal_fails f = rw (h, g, f) refl

      pub time_tells : good_journal n journal c.held ≡ true → eqb c.time (recount (leg_in n matrix) round) ≡ state_good n matrix round places queue flags journal c
      unfolding state_good
      time_tells f = rw (h, g, f) refl

  -- all hold
  pub record StateHolds : Type 0 where
    pub round_holds : (is_round n round && same places (places_of round)) ≡ true
    pub queue_holds : agree n queue flags c.head c.count ≡ true
    pub journal_holds : good_journal n journal c.held ≡ true
    pub time_holds : eqb c.time (recount (leg_in n matrix) round) ≡ true

  pub state_holds : state_good n matrix round places queue flags journal c ≡ true → StateHolds
  unfolding state_good
  state_holds e =
      let r = is_round n round && same places (places_of round) in
      let q = agree n queue flags c.head c.count in
      let j = good_journal n journal c.held in
      let z = and-true (r && q && j) (eqb c.time (recount (leg_in n matrix) round)) e in
      let y = and-true (r && q) j z.0 in
      let x = and-true r q y.0 in
      record { round_holds = x.0; queue_holds = x.1; journal_holds = y.1; time_holds = z.1 }

pub state_is : (l : Lent) (c : Carried) → state_good l.n l.matrix l.round l.places l.queue l.flags l.journal c ≡ good_state l c
unfolding state_good good_state plan_in leg_of
state_is l c = refl
