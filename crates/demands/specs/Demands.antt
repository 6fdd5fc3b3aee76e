-- Demands 1 and 3 of the mission, said of what the public calls promise (crate promises); `demand_1` and `demand_3` in proofs/ prove them.
-- A `data` lists the cases in which something holds, a `record` what holds together; `l.n` is l's field n; `{x : A}` and `(x : A) →` read "for
-- any x of A", `A → B` "if A then B", `A × B` "A and B", `A ⊎ B` "A or B", `A → ⊥` "not A"; `recount` and the like are rules. Assumes nothing.
use Rattle.std.specs.Prelude.{ℕ, ◌+◌, ◌*◌, ◌/◌, ◌<◌, ◌≤◌, ◌≡◌, ◌≢◌, ◌⊎◌, Bool, true, false, not, ◌&&◌, List, eqb, ℤ, length}
use Rattle.rules.specs.Words.{Stop, Round, Time}
use Rattle.rules.specs.Lists.{when◌then◌else◌, at}
use Rattle.rules.specs.Ring.{is_round, places_of, recount}
use Rattle.rules.specs.Journal.{good_journal}
use Rattle.rules.specs.Plan.{leg_in, list_in}
use Rattle.rules.specs.Memory.{Lent, Carried}
use Rattle.rules.specs.Numbers.{agree}
use Rattle.promises.specs.Promises.{Loads, Commits, Undoes, KicksOnce, Descends, Searches}

-- the public calls, each with what it is handed beside lent memory and state
pub data Call : Type 0 where
  load : (start : Round) → Call
  kick : (kind draw : ℕ) → Call
  descent : (keeps : Bool) (step budget : ℕ) → Call
  commit : Call
  undo : Call
  search : (best : Round) (step kind : ℕ) (stop : Bool) (budget draw : ℕ) → Call

-- a call happened, as it promises: lent l and handed c, it gave its number, left l' and gave back c'. Refused calls, of any number, happened too
pub data Made (l : Lent) (c : Carried) (number : ℕ) (l' : Lent) (c' : Carried) : Call → Type 0 where
  loaded : {start : Round} → Loads l c start l' c' number → Made l c number l' c' (load start)
  kicked : {kind x x' : ℕ} {change : ℤ} → KicksOnce l c kind x l' c' x' number change → Made l c number l' c' (kick kind x)
  descended : {keeps : Bool} {step budget : ℕ} {gain : Time} {units ended : ℕ} → Descends l c keeps step budget l' c' number gain units ended → Made l c number l' c' (descent keeps step budget)
  committed : Commits l c l' c' number → Made l c number l' c' commit
  undone : Undoes l c l' c' number → Made l c number l' c' undo
  searched : {b : Round} {step kind : ℕ} {stop : Bool} {budget x : ℕ} {b' : Round} {x' : ℕ} {time : Time} {units kicks ended : ℕ}
      → Searches l c b step kind stop budget x l' c' b' x' number time units kicks ended → Made l c number l' c' (search b step kind stop budget x)

-- ---- demand 1. "Single calls (kick, descent, commit, undo) check 1 to 7 each time"
unfoldable pub single : Call → Bool
single (load start) = false
single (kick kind draw) = true
single (descent keeps step budget) = true
single commit = true
single undo = true
single (search best step kind stop budget draw) = false

-- the table of 01, line by line: the grounds on which a call, lent l and handed c, may be given a number
pub data Ground (l : Lent) (c : Carried) : Call → ℕ → Type 0 where
  -- 1: n outside its range
  no_size : {q : Call} → (l.n < 2) ⊎ (4096 < l.n) → Ground l c q 1
  -- 2: k, ka, step kind or kick kind not as above, or a lent draw state of 0
  no_near : {q : Call} → (l.k < 1) ⊎ (20 < l.k) → Ground l c q 2
  no_alpha : {q : Call} → 5 < l.ka → Ground l c q 2
  descent_step : {keeps : Bool} {step budget : ℕ} → 2 < step → Ground l c (descent keeps step budget) 2
  descent_alpha : {keeps : Bool} {step budget : ℕ} → step ≢ 0 → l.ka < 1 → Ground l c (descent keeps step budget) 2
  kick_kind : {kind draw : ℕ} → 2 < kind → Ground l c (kick kind draw) 2
  kick_draw : {kind draw : ℕ} → draw < 1 → Ground l c (kick kind draw) 2
  search_step : {best : Round} {step kind : ℕ} {stop : Bool} {budget draw : ℕ} → 2 < step → Ground l c (search best step kind stop budget draw) 2
  search_alpha : {best : Round} {step kind : ℕ} {stop : Bool} {budget draw : ℕ} → step ≢ 0 → l.ka < 1 → Ground l c (search best step kind stop budget draw) 2
  search_kind : {best : Round} {step kind : ℕ} {stop : Bool} {budget draw : ℕ} → 2 < kind → Ground l c (search best step kind stop budget draw) 2
  search_draw : {best : Round} {step kind : ℕ} {stop : Bool} {budget draw : ℕ} → draw < 1 → Ground l c (search best step kind stop budget draw) 2
  -- 3: a lent length is not what n, k, ka say
  matrix_long : {q : Call} → length l.matrix ≢ l.n * l.n → Ground l c q 3
  near_long : {q : Call} → length l.near ≢ l.n * l.k → Ground l c q 3
  alpha_long : {q : Call} → length l.alpha ≢ l.n * l.ka → Ground l c q 3
  round_long : {q : Call} → length l.round ≢ l.n → Ground l c q 3
  places_long : {q : Call} → length l.places ≢ l.n → Ground l c q 3
  queue_long : {q : Call} → length l.queue ≢ l.n → Ground l c q 3
  flags_long : {q : Call} → length l.flags ≢ l.n → Ground l c q 3
  scratch_long : {q : Call} → length l.scratch ≢ l.n → Ground l c q 3
  start_long : {start : Round} → length start ≢ l.n → Ground l c (load start) 3
  best_long : {best : Round} {step kind : ℕ} {stop : Bool} {budget draw : ℕ} → length best ≢ l.n → Ground l c (search best step kind stop budget draw) 3
  -- 4: journal under 512 entries, of five words each
  journal_short : {q : Call} → length l.journal / 5 < 512 → Ground l c q 4
  -- 5: matrix not symmetric: two stops a and b
  uneven : {q : Call} (a b : Stop) → a < l.n → b < l.n → leg_in l.n l.matrix a b ≢ leg_in l.n l.matrix b a → Ground l c q 5
  -- 6: a list entry, the i-th of the stop v, is n or more, or the stop itself
  near_entry : {q : Call} (v i : ℕ) → v < l.n → i < length (list_in l.k l.near v) → (l.n ≤ at (list_in l.k l.near v) i) ⊎ (at (list_in l.k l.near v) i ≡ v) → Ground l c q 6
  alpha_entry : {q : Call} (v i : ℕ) → v < l.n → i < length (list_in l.ka l.alpha v) → (l.n ≤ at (list_in l.ka l.alpha v) i) ⊎ (at (list_in l.ka l.alpha v) i ≡ v) → Ground l c q 6
  -- 7: round no permutation, places no inverse, queue and flags disagree, a journal entry out of range, or carried time not the recount
  no_round : {q : Call} → single q ≡ true → is_round l.n l.round ≡ false → Ground l c q 7
  no_inverse : {q : Call} → single q ≡ true → l.places ≢ places_of l.round → Ground l c q 7
  disagree : {q : Call} → single q ≡ true → agree l.n l.queue l.flags c.head c.count ≡ false → Ground l c q 7
  no_entry : {q : Call} → single q ≡ true → good_journal l.n l.journal c.held ≡ false → Ground l c q 7
  no_time : {q : Call} → single q ≡ true → c.time ≢ recount (leg_in l.n l.matrix) l.round → Ground l c q 7
  -- "a caller's start round that is no permutation gets 7"
  no_start : {start : Round} → is_round l.n start ≡ false → Ground l c (load start) 7
  -- 8: a kick with fewer than 30 free journal entries
  few_free : {kind draw : ℕ} → length l.journal / 5 < c.held + 30 → Ground l c (kick kind draw) 8

-- "Lowest number first": 0 exactly where there is no ground, a number exactly where there is a ground for it, `G number`, and none for a lower one
pub record Right (G : ℕ → Type 0) (number : ℕ) : Type 0 where
  pub done : number ≡ 0 → (k : ℕ) → G k → ⊥
  pub accepted : ((k : ℕ) → G k → ⊥) → number ≡ 0
  pub refused : number ≢ 0 → G number × ((j : ℕ) → G j → number ≤ j)
  pub lowest : (k : ℕ) → G k → ((j : ℕ) → G j → k ≤ j) → number ≡ k

-- every input has exactly one number, and whoever keeps the promise gives that one
pub record Demand1 (l : Lent) (c : Carried) (q : Call) : Type 0 where
  pub number : ℕ
  pub right : Right (Ground l c q) number
  pub only : (other : ℕ) → Right (Ground l c q) other → other ≡ number
  pub given : (other : ℕ) (l' : Lent) (c' : Carried) → Made l c other l' c' q → other ≡ number

-- ---- demand 3
-- "memory nobody else touches": a call left l; the next is lent m. One matrix throughout; n, k, ka, both lists and scratch may be any
pub record Untouched (matrix : List Time) (l m : Lent) : Type 0 where
  pub same_matrix : m.matrix ≡ matrix
  pub same_round : m.round ≡ l.round
  pub same_places : m.places ≡ l.places
  pub same_queue : m.queue ≡ l.queue
  pub same_flags : m.flags ≡ l.flags
  pub same_journal : m.journal ≡ l.journal

-- a run, and the memory and state that it left: a load that was not refused, of n stops on a matrix; or a run, and one more call
pub data Run (n : ℕ) (matrix : List Time) : Lent → Carried → Type 0 where
  begun : {l : Lent} {c : Carried} {start : Round} {l' : Lent} {c' : Carried} → l.n ≡ n → l.matrix ≡ matrix → Made l c 0 l' c' (load start) → Run n matrix l' c'
  onward : {l : Lent} {c : Carried} {m : Lent} {number : ℕ} {l' : Lent} {c' : Carried} → Run n matrix l c → Untouched matrix l m → (q : Call) → Made m c number l' c' q → Run n matrix l' c'

-- it committed: it was not refused, and it is a load, a commit, a committed descent, or a search (which leaves its best round loaded)
unfoldable pub commits : Call → ℕ → Bool
commits (load start) number = eqb number 0
commits (kick kind draw) number = false
commits (descent keeps step budget) number = not keeps && eqb number 0
commits commit number = eqb number 0
commits undo number = false
commits (search best step kind stop budget draw) number = eqb number 0

-- the last commit of a run: the round and the time that it left
pub record Committed : Type 0 where
  pub round : Round
  pub time : Time

unfoldable pub last_commit : {n : ℕ} {matrix : List Time} {l : Lent} {c : Carried} → Run n matrix l c → Committed
last_commit {l = l} {c = c} (begun n_is matrix_is made) = record { round = l.round; time = c.time }
last_commit {l = l} {c = c} (onward {number = number} run untouched q made) = when commits q number then record { round = l.round; time = c.time } else last_commit run

-- what holds after every run
pub record Demand3 {n : ℕ} {matrix : List Time} {l : Lent} {c : Carried} (run : Run n matrix l c) : Type 0 where
  -- "the carried time equals a plain recount"
  pub time_is_recount : c.time ≡ recount (leg_in n matrix) l.round
  -- "the round holds each stop once"
  pub each_stop_once : is_round n l.round ≡ true
  -- "the places are its inverse"
  pub places_inverse : l.places ≡ places_of l.round
  -- "each undo that isn't refused gives the last commit's round and time"
  pub undo_gives : (m l' : Lent) (c' : Carried) → Untouched matrix l m → Made m c 0 l' c' undo → (l'.round ≡ (last_commit run).round) × (c'.time ≡ (last_commit run).time)
