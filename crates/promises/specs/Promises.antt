-- 01, "Answer numbers" and "What the underwriter will try": what each public call promises. It is lent the memory l, it is handed the state c
-- and, where it draws, the draw state x; it leaves l' and x' and gives back a number, the state c' and its results. Assumes nothing.
use Rattle.std.specs.Prelude.{ℕ, zero, suc, ◌≡◌, ◌≢◌, Bool, ℤ, pos, ◌+ℤ◌}
use Rattle.rules.specs.Words.{Round, Time}
use Rattle.rules.specs.Numbers.{load_number, commit_number, undo_number, kick_number, descend_number, search_number}
use Rattle.rules.specs.Memory.{Lent, Carried, Leaves}
use Rattle.rules.specs.Calls.{Done, load_done, commit_done, undo_done, kick_done, descend_done, search_done}

-- "Every refusal returns its number, the state as it came and 0 in every other result, and changes nothing lent": what a call gives is
-- `done` where its number is 0, and `came` where it is refused
unfoldable pub given : ℕ → ℕ → ℕ → ℕ
given zero done came = done
given (suc k) done came = came

-- memory and state after a call with this number
pub record Stands (number : ℕ) (done : Done) (l : Lent) (c : Carried) (l' : Lent) (c' : Carried) : Type 0 where
  pub lent_refused : number ≢ 0 → l' ≡ l
  pub state_refused : number ≢ 0 → c' ≡ c
  pub left : number ≡ 0 → Leaves l c done.state done.head l' c'

pub record Loads (l : Lent) (c : Carried) (start : Round) (l' : Lent) (c' : Carried) (number : ℕ) : Type 0 where
  pub number_is : number ≡ load_number l start
  pub stands : Stands number (load_done l start) l c l' c'

pub record Commits (l : Lent) (c : Carried) (l' : Lent) (c' : Carried) (number : ℕ) : Type 0 where
  pub number_is : number ≡ commit_number l c
  pub stands : Stands number (commit_done l c) l c l' c'

pub record Undoes (l : Lent) (c : Carried) (l' : Lent) (c' : Carried) (number : ℕ) : Type 0 where
  pub number_is : number ≡ undo_number l c
  pub stands : Stands number (undo_done l c) l c l' c'

-- the change is signed: the legs added less those removed
pub record KicksOnce (l : Lent) (c : Carried) (kind x : ℕ) (l' : Lent) (c' : Carried) (x' number : ℕ) (change : ℤ) : Type 0 where
  pub number_is : number ≡ kick_number l c kind x
  pub stands : Stands number (kick_done l c kind x) l c l' c'
  pub draw_is : x' ≡ given number (kick_done l c kind x).draw x
  pub change_is : change +ℤ pos (given number (kick_done l c kind x).removed 0) ≡ pos (given number (kick_done l c kind x).added 0)

pub record Descends (l : Lent) (c : Carried) (keeps : Bool) (step budget : ℕ) (l' : Lent) (c' : Carried) (number : ℕ) (gain : Time) (units ended : ℕ) : Type 0 where
  pub number_is : number ≡ descend_number l c step
  pub stands : Stands number (descend_done l c keeps step budget) l c l' c'
  pub gain_is : gain ≡ given number (descend_done l c keeps step budget).gain 0
  pub units_is : units ≡ given number (descend_done l c keeps step budget).units 0
  pub ended_is : ended ≡ given number (descend_done l c keeps step budget).ended 0

-- the second round that a search is lent, b, holds the best round too
pub record Searches (l : Lent) (c : Carried) (b : Round) (step kind : ℕ) (stop : Bool) (budget x : ℕ) (l' : Lent) (c' : Carried) (b' : Round) (x' number : ℕ) (time : Time) (units kicks ended : ℕ) : Type 0 where
  pub number_is : number ≡ search_number l b step kind x
  pub stands : Stands number (search_done l step kind stop budget x) l c l' c'
  pub best_refused : number ≢ 0 → b' ≡ b
  pub best_is : number ≡ 0 → b' ≡ (search_done l step kind stop budget x).state.track.round
  pub draw_is : x' ≡ given number (search_done l step kind stop budget x).draw x
  pub time_is : time ≡ given number (search_done l step kind stop budget x).state.time 0
  pub units_is : units ≡ given number (search_done l step kind stop budget x).units 0
  pub kicks_is : kicks ≡ given number (search_done l step kind stop budget x).kicks 0
  pub ended_is : ended ≡ given number (search_done l step kind stop budget x).ended 0
