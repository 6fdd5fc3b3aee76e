-- The checks 1 to 6 in three parts, by the numbers and lengths that they look at. Assumes nothing.
use Rattle.std.specs.Prelude.{ℕ, ◌+◌, ◌-◌, ◌*◌, ◌/◌, Bool, not, ◌&&◌, List, [], ◌∷◌, ◌++◌, leb, ltb, eqb, length}
use Rattle.rules.specs.Words.{Stop, Place, Time, Round, Legs}
use Rattle.rules.specs.Lists.{rising, same, every}
use Rattle.rules.specs.Ring.{places_of, is_round, recount}
use Rattle.rules.specs.Journal.{good_journal}
use Rattle.rules.specs.Memory.{Carried}
use Rattle.rules.specs.Plan.{leg_in, list_in}
use Rattle.rules.specs.Numbers.{Check, ◌or◌, verdict, within, good_sizes, long, symmetric, good_list, agree}

-- stop a's legs to the stops after it, there and back
unfoldable pub row_even : Legs → ℕ → Stop → Bool
row_even d n a = every (λ b. eqb (d a b) (d b a)) (rising (n - (a + 1)) (a + 1))

-- the entries of stop v's list
unfoldable pub good_entries : ℕ → Stop → List Stop → Bool
good_entries n v entries = every (λ e. ltb e n && not (eqb e v)) entries

-- 1 and 2
unfoldable pub size_checks : ℕ → ℕ → ℕ → Bool → List Check
size_checks n k ka told = (within 2 4096 n or 1) ∷ ((good_sizes k ka && told) or 2) ∷ []

-- matrix and lists are as long as n, k and ka say
unfoldable pub plan_long : ℕ → ℕ → ℕ → ℕ → ℕ → ℕ → Bool
plan_long n k ka cells near alpha = eqb cells (n * n) && eqb near (n * k) && eqb alpha (n * ka)

-- 3 and 4: `lengths` are those of what has n elements, `words` the journal's
unfoldable pub length_checks : ℕ → ℕ → ℕ → ℕ → ℕ → ℕ → List ℕ → ℕ → List Check
unfolding plan_long
length_checks n k ka cells near alpha lengths words = ((plan_long n k ka cells near alpha && long n lengths) or 3) ∷ (leb 512 (words / 5) or 4) ∷ []

-- 5 and 6
unfoldable pub list_checks : ℕ → ℕ → ℕ → List Time → List Stop → List Stop → List Check
list_checks n k ka matrix near alpha = (symmetric n (leg_in n matrix) or 5) ∷ ((good_list n (list_in k near) && good_list n (list_in ka alpha)) or 6) ∷ []

-- 1 to 6
unfoldable pub lent_number : ℕ → ℕ → ℕ → List Time → List Stop → List Stop → List ℕ → ℕ → Bool → ℕ
unfolding size_checks length_checks list_checks
lent_number n k ka matrix near alpha lengths words told =
    verdict (size_checks n k ka told ++ (length_checks n k ka (length matrix) (length near) (length alpha) lengths words ++ list_checks n k ka matrix near alpha))

-- 7
unfoldable pub state_good : ℕ → List Time → Round → List Place → List ℕ → List ℕ → List ℕ → Carried → Bool
state_good n matrix round places queue flags journal c =
    is_round n round &&
    same places (places_of round) &&
    agree n queue flags c.head c.count &&
    good_journal n journal c.held &&
    eqb c.time (recount (leg_in n matrix) round)
