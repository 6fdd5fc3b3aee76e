-- What a call that is not refused may build on. Assumes nothing.
use Rattle.std.specs.Prelude.{◌≤◌, ◌≡◌, Bool, true, length}
use Rattle.rules.specs.Ring.{recount}
use Rattle.rules.specs.Journal.{good_journal}
use Rattle.rules.specs.Plan.{leg_in}
use Rattle.rules.specs.Memory.{Lent, Carried, room_in, plan_in}
use Rattle.rules.specs.SharedWords.{Tied, Square, Listed}
use Rattle.laws.proofs.GainLaws.{Fit}
use Rattle.queue.specs.Lines.{InLine}

-- 1 to 6 passed
pub record LentPassed (l : Lent) (told : Bool) : Type 0 where
  pub two : 2 ≤ l.n
  pub few : l.n ≤ 4096
  pub asked : told ≡ true
  pub square : Square l.matrix l.n
  pub some_near : 1 ≤ l.k
  pub near_listed : Listed l.near l.k l.n
  pub short_alpha : l.ka ≤ 5
  pub alpha_listed : Listed l.alpha l.ka l.n
  pub round_long : length l.round ≡ l.n
  pub places_long : length l.places ≡ l.n
  pub queue_long : length l.queue ≡ l.n
  pub flags_long : length l.flags ≡ l.n
  pub scratch_long : length l.scratch ≡ l.n
  pub room : 512 ≤ room_in l
  pub fits : Fit (plan_in l) l.n

-- 1 to 7 passed
pub record CallPassed (l : Lent) (c : Carried) (told : Bool) : Type 0 where
  pub lent : LentPassed l told
  pub tied : Tied l.round l.places
  pub line : InLine l.queue l.flags c.head c.count
  pub journal : good_journal l.n l.journal c.held ≡ true
  pub time : c.time ≡ recount (leg_in l.n l.matrix) l.round
