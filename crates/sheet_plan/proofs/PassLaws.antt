-- A sheet that is not refused: its search is not refused either, and gives the sheet's answer.
use Prim.Native.Nat.{◌*◌, ◌-◌, ◌/◌, ◌≤◌, ℕ}
use mathlib.Core.Path.{◌≡◌, refl, sym}
use mathlib.Core.Bool.{Bool, ◌&&◌, false, true}
use mathlib.Core.List.{List, [], ◌∷◌}
use native.Mathlib.Omega.{arith}
use lib.Dec.{eqb, leb}
use lib.ListN.{drop, length}
use borrow.Author.Tests.{eq-eqb, le-leb, leb-true}
use Rattle.rules.specs.Bits.{bits_of, fields}
use Rattle.rules.specs.Calls.{settings_in}
use Rattle.rules.specs.Memory.{Lent, plan_in, room_in}
use Rattle.rules.specs.Numbers.{◌or◌, good_kick, good_lengths, good_list, good_sizes, good_step, lent_checks, long, search_number, verdict, within}
use Rattle.rules.specs.Plan.{alpha_of, leg_of, near_of}
use Rattle.rules.specs.Search.{search}
use Rattle.rules.specs.Sheets.{Header, alpha_at, header_in, near_at, plan_on, settings_on, sheet_checks, triangle_leg}
use Rattle.rules.specs.Words.{Round, Stop, Time}
use Rattle.laws.proofs.BitLaws.{length_fields}
use Rattle.laws.proofs.CheckLaws.{plan_fits}
use Rattle.laws.proofs.ChoiceLaws.{and-true, true-and}
use Rattle.laws.proofs.EveryLaws.{all_every, more, none}
use Rattle.laws.proofs.GainLaws.{Fit}
use Rattle.laws.proofs.MatrixLaws.{matrix_length}
use Rattle.laws.proofs.SearchTimeLaws.{Answers, search_answers}
use Rattle.laws.proofs.SheetLaws.{even_symmetric, sheet_even}
use Rattle.sheet_plan.specs.Passes.{Passes, plan_held}

lists_pass : (h : Header) (bs : List ℕ) → 2 ≤ h.n → h.n ≤ 128 → good_sizes h.k h.ka ≡ true → good_step h.ka h.step ≡ true → leb 1 h.seed ≡ true →
    (good_list h.n (near_of (plan_on h bs)) && good_list h.n (alpha_of (plan_on h bs))) ≡ true → Passes h (plan_on h bs).matrix (plan_on h bs).near (plan_on h bs).alpha
unfolding plan_on near_of alpha_of leg_of
lists_pass h bs low high sizes step seed lists =
    record {
      low = low;
      high = high;
      sizes = sizes;
      step = step;
      seed = seed;
      cells = matrix_length (triangle_leg (h.n) (fields 16 (h.n * (h.n - 1) / 2) (drop 128 bs))) (h.n);
      nears = length_fields 12 (h.n * h.k) (drop (near_at h) bs);
      alphas = length_fields 12 (h.n * h.ka) (drop (alpha_at h) bs);
      even = even_symmetric (leg_of (plan_on h bs)) (h.n) (sheet_even h bs);
      lists = lists;
    }

six : (a b c d e f : Bool) → 0 ≡ verdict ((a or 9) ∷ (b or 1) ∷ (c or 2) ∷ (d or 10) ∷ (e or 4) ∷ (f or 6) ∷ []) → (b ≡ true) × (c ≡ true) × (f ≡ true)
unfolding verdict
six false b c d e f z = absurd (omega arith)
six true false c d e f z = absurd (omega arith)
six true true false d e f z = absurd (omega arith)
six true true true false e f z = absurd (omega arith)
six true true true true false f z = absurd (omega arith)
six true true true true true false z = absurd (omega arith)
six true true true true true true z = (refl, refl, refl)

pub sheet_passes : (sheet : List ℕ) (room : ℕ) → 0 ≡ verdict (sheet_checks sheet room) →
    let h = header_in (bits_of sheet) in
    let p = plan_on h (bits_of sheet) in
    Passes h p.matrix p.near p.alpha
unfolding sheet_checks within
sheet_passes sheet room z =
    let h = header_in (bits_of sheet) in
    let x = six _ _ _ _ _ _ z in
    let n = and-true (leb 2 h.n) (leb h.n 128) x.0 in
    let t = and-true (good_sizes h.k h.ka && good_step h.ka h.step) (leb 1 h.seed) x.1 in
    let u = and-true (good_sizes h.k h.ka) (good_step h.ka h.step) t.0 in
    lists_pass h (bits_of sheet) (leb-true 2 h.n n.0) (leb-true h.n 128 n.1) u.0 u.1 t.1 x.2

long_six : (n a b c d e f : ℕ) → a ≡ n → b ≡ n → c ≡ n → d ≡ n → e ≡ n → f ≡ n → long n (a ∷ b ∷ c ∷ d ∷ e ∷ f ∷ []) ≡ true
unfolding long
long_six n a b c d e f ha hb hc hd he hf =
    all_every (λ w. eqb w n) (a ∷ b ∷ c ∷ d ∷ e ∷ f ∷ [])
    (more (eq-eqb a n ha) (more (eq-eqb b n hb) (more (eq-eqb c n hc) (more (eq-eqb d n hd) (more (eq-eqb e n he) (more (eq-eqb f n hf) none))))))

all_pass : (a b c d e f : Bool) → a ≡ true → b ≡ true → c ≡ true → d ≡ true → e ≡ true → f ≡ true → verdict ((a or 1) ∷ (b or 2) ∷ (c or 3) ∷ (d or 4) ∷ (e or 5) ∷ (f or 6) ∷ []) ≡ 0
unfolding verdict
all_pass a b c d e f ha hb hc hd he hf = rw (ha, hb, hc, hd, he, hf)

module _ (h : Header) (m : List Time) (near alpha : List Stop) (g : Passes h m near alpha) where
  -- the plan is one that a search's laws take
  pub plan_fits_search : Fit (plan_held h m near alpha) (h.n)
  unfolding leg_of near_of alpha_of
  plan_fits_search = plan_fits (plan_held h m near alpha) (h.n) g.even g.lists

  -- memory that holds it
  module _ (round : Round) (places queue flags scratch journal : List ℕ) (best : Round) where
    abbrev mem : Lent
    mem =
        record {
          n = h.n;
          k = h.k;
          ka = h.ka;
          matrix = m;
          near = near;
          alpha = alpha;
          round = round;
          places = places;
          queue = queue;
          flags = flags;
          scratch = scratch;
          journal = journal;
        }

    plan_is : plan_in mem ≡ plan_held h m near alpha
    unfolding plan_in
    plan_is = refl

    told : (good_sizes (h.k) (h.ka) && (good_step (h.ka) (h.step) && good_kick 0 (h.seed))) ≡ true
    unfolding good_kick
    told = true-and (good_sizes (h.k) (h.ka)) _ g.sizes (true-and (good_step (h.ka) (h.step)) _ g.step g.seed)

    lengths : length round ≡ h.n → length places ≡ h.n → length queue ≡ h.n → length flags ≡ h.n → length scratch ≡ h.n → length best ≡ h.n →
        good_lengths mem (length best ∷ []) ≡ true
    unfolding good_lengths
    lengths er ep eq ef es eb =
        let c = eq-eqb (length m) (h.n * h.n) g.cells in
        let k = eq-eqb (length near) (h.n * h.k) g.nears in
        let a = eq-eqb (length alpha) (h.n * h.ka) g.alphas in
        true-and _ _ (true-and _ _ (true-and _ _ c k) a) (long_six (h.n) (length round) (length places) (length queue) (length flags) (length scratch) (length best) er ep eq ef es eb)

    room : length journal ≡ 2560 → room_in mem ≡ 512
    unfolding room_in
    room e = rw e

    -- a search in it is not refused
    pub search_passes : length round ≡ h.n → length places ≡ h.n → length queue ≡ h.n → length flags ≡ h.n → length scratch ≡ h.n → length best ≡ h.n →
        length journal ≡ 2560 → 0 ≡ search_number mem best (h.step) 0 (h.seed)
    unfolding search_number lent_checks within plan_in leg_of near_of alpha_of
    search_passes er ep eq ef es eb ej =
        let range : within 2 4096 (h.n) ≡ true = true-and (leb 2 (h.n)) (leb (h.n) 4096) (le-leb 2 (h.n) g.low) (le-leb (h.n) 4096 (omega (arith, g.high))) in
        let free : leb 512 (room_in mem) ≡ true = rw (room ej) in
        sym (all_pass _ _ _ _ _ _ range told (lengths er ep eq ef es eb) free g.even g.lists)

    -- and it is told what the sheet says
    settings_are : length journal ≡ 2560 → settings_in mem (h.step) 0 (eqb (h.stop) 1) (h.budget) (h.seed) ≡ settings_on h
    unfolding settings_in settings_on
    settings_are e = rw (room e)

    -- so it gives the sheet's answer
    pub searched_is : length journal ≡ 2560 → search (plan_in mem) (settings_in mem (h.step) 0 (eqb (h.stop) 1) (h.budget) (h.seed)) ≡ search (plan_held h m near alpha) (settings_on h)
    searched_is e = rw (plan_is, settings_are e)

  -- which is a round of the sheet's stops, with its time
  pub sheet_answers : Answers (plan_held h m near alpha) (h.n) (h.budget) (search (plan_held h m near alpha) (settings_on h))
  unfolding settings_on
  sheet_answers = search_answers (plan_held h m near alpha) (settings_on h) (omega (arith, g.low)) plan_fits_search (omega arith)
