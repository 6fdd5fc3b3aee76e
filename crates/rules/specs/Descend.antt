-- 01, "The port", 10: `descend`, kept and committed. Assumes nothing.
use Rattle.std.specs.Prelude.{ℕ, zero, suc, ◌-◌, Bool, true, false, List, [], ◌∷◌, ltb, length}
use Rattle.rules.specs.Words.{Stop, Time}
use Rattle.rules.specs.Lists.{when◌then◌else◌}
use Rattle.rules.specs.Queue.{push_all}
use Rattle.rules.specs.Journal.{Track, cleared}
use Rattle.rules.specs.Plan.{Plan}
use Rattle.rules.specs.Improve.{Found, or_else, improve_both}
use Rattle.rules.specs.Lk.{lk_from}
use Rattle.rules.specs.Lk3.{lk3_from}
use Rattle.rules.specs.State.{State}

-- "Lk: `lk_from`, and where it gains 0 `improve`, forward then backward; Lk3 the same with `lk3_from`; Lk3Only `lk3_from` alone, below 5
-- stops `improve` alone"
unfoldable pub step_from : Plan → ℕ → Stop → Track → Found
step_from p zero v t = or_else (lk_from p v t) (improve_both p v)
step_from p (suc zero) v t = or_else (lk3_from p v t) (improve_both p v)
step_from p (suc (suc kind)) v t = when ltb (length t.round) 5 then improve_both p v t else lk3_from p v t

-- a kept descent has a journal of so many entries
pub data Manner : Type 0 where
  kept : ℕ → Manner
  committed : Manner

-- "in a kept descent fewer than 100 free entries"
unfoldable pub short : Manner → Track → Bool
short (kept room) t = ltb (room - length t.journal) 100
short committed t = false

-- "A committed descent empties the journal before each stop and on leaving, and so commits"
unfoldable pub journalled : Manner → Track → Track
journalled (kept room) t = t
journalled committed t = cleared t

-- the state that a descent leaves, the units left, and how it ended
pub record Ran : Type 0 where
  pub state : State
  pub left : ℕ
  pub ended : ℕ

-- on leaving the queue is empty
unfoldable pub leave : Manner → ℕ → ℕ → Track → Time → Ran
leave m ended left t time = record { state = record { track = journalled m t; queue = []; time = time }; left = left; ended = ended }

module _ (p : Plan) (kind : ℕ) (m : Manner) where
  -- "Before each stop: queue empty, ended 0; no unit left, queue emptied, ended 1; in a kept descent fewer than 100 free entries, queue
  -- emptied, ended 2". Then a stop is taken, which is a unit: the step from it, its stops wait, its gain leaves the time
  unfoldable pub descending : ℕ → List Stop → Track → Time → Ran
  descending zero [] t time = leave m 0 zero t time
  descending (suc left) [] t time = leave m 0 (suc left) t time
  descending zero (v ∷ vs) t time = leave m 1 zero t time
  descending (suc left) (v ∷ vs) t time =
      elim (short m t) [
        | true ↦ leave m 2 (suc left) t time
        | false ↦ let f = step_from p kind v (journalled m t) in descending left (push_all vs f.touched) f.track (time - f.gain)
      ]

  unfoldable pub descend : ℕ → State → Ran
  descend budget s = descending budget s.queue s.track s.time
