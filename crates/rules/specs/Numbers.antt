-- 01, "Answer numbers": what is checked of lent memory, in which order, and the number that is given. Assumes nothing.
use Rattle.std.specs.Prelude.{ℕ, ◌-◌, ◌*◌, ◌^◌, Bool, true, false, not, ◌&&◌, ◌||◌, List, [], ◌∷◌, ◌++◌, leb, ltb, eqb, length}
use Rattle.rules.specs.Words.{Stop, Place, Round, Legs}
use Rattle.rules.specs.Lists.{rising, once, same, every}
use Rattle.rules.specs.Ring.{places_of, is_round, recount}
use Rattle.rules.specs.Queue.{waiting, flags_of}
use Rattle.rules.specs.Journal.{good_journal}
use Rattle.rules.specs.Plan.{leg_of, near_of, alpha_of}
use Rattle.rules.specs.Memory.{Lent, Carried, room_in, plan_in}

-- a test, and the number that is given where it fails
pub record Check : Type 0 where
  pub ok : Bool
  pub number : ℕ

infix 25 ◌or◌
abbrev pub ◌or◌ : Bool → ℕ → Check
ok or number = record { ok = ok; number = number }

-- the number of the first that fails; 0, "done", where none does
unfoldable pub verdict : List Check → ℕ
verdict [] = 0
verdict (c ∷ cs) = elim c.ok [ true ↦ verdict cs | false ↦ c.number ]

-- from low to high
unfoldable pub within : ℕ → ℕ → ℕ → Bool
within low high v = leb low v && leb v high

-- "k per stop, 1 to 20"; "ka per stop, 0 to 5"
unfoldable pub good_sizes : ℕ → ℕ → Bool
good_sizes k ka = within 1 20 k && leb ka 5

-- "Step kind: 0 Lk, 1 Lk3, 2 Lk3Only. Kinds 1 and 2 scan the alpha list and need ka of 1 or more"
unfoldable pub good_step : ℕ → ℕ → Bool
good_step ka step = leb step 2 && (eqb step 0 || leb 1 ka)

-- "Kick kind: 0 .., 1 .., 2 .."; "a seed or lent draw state of 0" is none
unfoldable pub good_kick : ℕ → ℕ → Bool
good_kick kind draw = leb kind 2 && leb 1 draw

-- all lengths are n
unfoldable pub long : ℕ → List ℕ → Bool
long n lengths = every (λ w. eqb w n) lengths

-- "matrix not symmetric" is 5
unfoldable pub symmetric : ℕ → Legs → Bool
symmetric n d = every (λ a. every (λ b. eqb (d a b) (d b a)) (rising n 0)) (rising n 0)

-- "Entries are below n and not the stop itself"
unfoldable pub good_list : ℕ → (Stop → List Stop) → Bool
good_list n list = every (λ v. every (λ e. ltb e n && not (eqb e v)) (list v)) (rising n 0)

-- "A queue head of n or more, more than n waiting, or a flag other than 0 and 1 counts as a disagreement": the stops that wait are below
-- n, each once, and the flags are 1 for exactly those
unfoldable pub agree : ℕ → List ℕ → List ℕ → Place → ℕ → Bool
agree n queue flags head count =
    let q = waiting queue head count in
    ltb head n && leb count n && every (λ v. ltb v n) q && once q && same flags (flags_of n q)

-- "a lent length is not what n, k, ka say" is 3; `more` are the lengths of what else is lent, n words each
unfoldable pub good_lengths : Lent → List ℕ → Bool
good_lengths l more =
    eqb (length l.matrix) (l.n * l.n) &&
    eqb (length l.near) (l.n * l.k) &&
    eqb (length l.alpha) (l.n * l.ka) &&
    long l.n (length l.round ∷ length l.places ∷ length l.queue ∷ length l.flags ∷ length l.scratch ∷ more)

-- 1 to 6. `told` is what else 2 asks of the call
unfoldable pub lent_checks : Lent → Bool → List ℕ → List Check
lent_checks l told more =
    (within 2 4096 l.n or 1)
    ∷ ((good_sizes l.k l.ka && told) or 2)
    ∷ (good_lengths l more or 3)
    ∷ (leb 512 (room_in l) or 4)
    ∷ (symmetric l.n (leg_of (plan_in l)) or 5)
    ∷ ((good_list l.n (near_of (plan_in l)) && good_list l.n (alpha_of (plan_in l))) or 6)
    ∷ []

-- "round no permutation, places no inverse, queue and flags disagree, a journal entry out of range, or carried time not the recount" is 7
unfoldable pub good_state : Lent → Carried → Bool
good_state l c =
    is_round l.n l.round &&
    same l.places (places_of l.round) &&
    agree l.n l.queue l.flags c.head c.count &&
    good_journal l.n l.journal c.held &&
    eqb c.time (recount (leg_of (plan_in l)) l.round)

-- "Single calls (kick, descent, commit, undo) check 1 to 7 each time"
unfoldable pub call_checks : Lent → Carried → Bool → List Check
call_checks l c told = lent_checks l told [] ++ ((good_state l c or 7) ∷ [])

-- commit and undo ask no more
unfoldable pub commit_number : Lent → Carried → ℕ
commit_number l c = verdict (call_checks l c true)

unfoldable pub undo_number : Lent → Carried → ℕ
undo_number l c = verdict (call_checks l c true)

-- a descent is told its step kind
unfoldable pub descend_number : Lent → Carried → ℕ → ℕ
descend_number l c step = verdict (call_checks l c (good_step l.ka step))

-- "a kick with fewer than 30 free journal entries" is 8
unfoldable pub kick_number : Lent → Carried → ℕ → ℕ → ℕ
kick_number l c kind draw = verdict (call_checks l c (good_kick kind draw) ++ ((leb 30 (room_in l - c.held) or 8) ∷ []))

-- "A load checks 1 to 6"; "a caller's start round that is no permutation gets 7"
unfoldable pub load_number : Lent → Round → ℕ
load_number l start = verdict (lent_checks l true (length start ∷ []) ++ ((is_round l.n start or 7) ∷ []))

-- "a whole search checks 1 to 6 once"; it is lent a second round for the best
unfoldable pub search_number : Lent → Round → ℕ → ℕ → ℕ → ℕ
search_number l best step kind draw = verdict (lent_checks l (good_step l.ka step && good_kick kind draw) (length best ∷ []))

-- the start round: 1 and 3; 5 is "not asked by the start round and the exact solver"
unfoldable pub start_number : ℕ → List ℕ → Round → ℕ
start_number n matrix round = verdict ((within 1 4096 n or 1) ∷ ((eqb (length matrix) (n * n) && eqb (length round) n) or 3) ∷ [])

-- the exact solver: 1, 3, and "exact table under 2^(n-1) times (n-1) words", 4
unfoldable pub exact_number : ℕ → List ℕ → Round → List ℕ → ℕ
exact_number n matrix round table =
    verdict (
    (within 1 25 n or 1) ∷
    ((eqb (length matrix) (n * n) && eqb (length round) n) or 3) ∷
    (leb (2 ^ (n - 1) * (n - 1)) (length table) or 4) ∷ [])
