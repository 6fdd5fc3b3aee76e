-- What a sheet that is not refused gives a search. Assumes nothing.
use Rattle.std.specs.Prelude.{◌*◌, ◌≤◌, ◌≡◌, ◌&&◌, true, List, leb, length}
use Rattle.rules.specs.Words.{Stop, Time}
use Rattle.rules.specs.Plan.{Plan, leg_in, list_in}
use Rattle.rules.specs.Numbers.{good_sizes, good_step, good_list, symmetric}
use Rattle.rules.specs.Sheets.{Header}

-- its header, and lists that hold its plan
pub record Passes (h : Header) (m : List Time) (near alpha : List Stop) : Type 0 where
  pub low : 2 ≤ h.n
  pub high : h.n ≤ 128
  pub sizes : good_sizes h.k h.ka ≡ true
  pub step : good_step h.ka h.step ≡ true
  pub seed : leb 1 h.seed ≡ true
  pub cells : length m ≡ h.n * h.n
  pub nears : length near ≡ h.n * h.k
  pub alphas : length alpha ≡ h.n * h.ka
  pub even : symmetric h.n (leg_in h.n m) ≡ true
  pub lists : (good_list h.n (list_in h.k near) && good_list h.n (list_in h.ka alpha)) ≡ true

-- the plan that the lists hold
abbrev pub plan_held : Header → List Time → List Stop → List Stop → Plan
plan_held h m near alpha = record { n = h.n; matrix = m; k = h.k; near = near; ka = h.ka; alpha = alpha }
