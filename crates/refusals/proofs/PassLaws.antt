-- What a call that is not refused may build on, from its number.
use Prim.Native.Nat.{ℕ, zero, suc, ◌+◌, ◌-◌, ◌*◌, ◌≤◌, ◌<◌}
use mathlib.Core.Path.{◌≡◌, refl, ap, ◌∙◌}
use mathlib.Core.Bool.{Bool, true}
use mathlib.Core.List.{List, [], ◌∷◌, ◌++◌}
use native.Mathlib.Omega.{arith}
use native.Mathlib.Decide.{dec_lt}
use borrow.Author.Tests.{leb-true, eqb-true}
use lib.Dec.{leb, eqb}
use lib.ListN.{length}
use Rattle.rules.specs.Words.{Stop, Round}
use Rattle.rules.specs.Lists.{at, every}
use Rattle.rules.specs.Ring.{is_round, recount}
use Rattle.rules.specs.Plan.{leg_in, list_in, leg_of, near_of, alpha_of}
use Rattle.rules.specs.Memory.{Lent, Carried, room_in, plan_in}
use Rattle.rules.specs.Numbers.{◌or◌, verdict, long, good_list, good_kick, good_state, lent_checks, call_checks, kick_number, load_number}
use Rattle.rules.specs.SharedWords.{Listed}
use Rattle.laws.proofs.ChoiceLaws.{and-true, both_true}
use Rattle.laws.proofs.CheckLaws.{good_list_good, passes_tied, plan_fits}
use Rattle.laws.proofs.EntryLaws.{entry_at}
use Rattle.laws.proofs.EveryLaws.{all_map, below_at}
use Rattle.queue.proofs.AgreeLaws.{agree_line}
use Rattle.refusals.specs.Refusing.{lent_number, size_checks, length_checks, list_checks}
use Rattle.refusals.specs.Passed.{LentPassed, CallPassed}
use Rattle.refusals.proofs.VerdictLaws.{Numbered, verdict_both, alone_passes}
use Rattle.refusals.proofs.SizeLaws.{Sized, sized, Long, long_all}
use Rattle.refusals.proofs.ListLaws.{lists_told}
use Rattle.refusals.proofs.PartLaws.{sizes_numbered, lengths_numbered, lent_is}
use Rattle.refusals.proofs.StateLaws.{state_holds, state_is}
use Rattle.refusals.proofs.EntriesLaws.{list_long}

-- ---- the row of a cell
record Row (n w i : ℕ) : Type 0 where
  row : ℕ
  below : row < n
  first : row * w ≤ i
  last : i < row * w + w

row_of : (n w i : ℕ) → i < n * w → Row n w i
row_of zero w i h = absurd (omega arith)
row_of (suc n) w i h = go (dec_lt i (n * w)) (λ l. row_of n w i l)
  where
    go : Dec (i < n * w) → (i < n * w → Row n w i) → Row (suc n) w i
    go (yes l) f = let r = f l in record { row = r.row; below = omega (arith, r.below); first = r.first; last = r.last }
    go (no l) f = record { row = n; below = omega arith; first = omega arith; last = omega arith }

pub good_listed : (n count : ℕ) (entries : List Stop) → count ≤ 20 → length entries ≡ n * count → good_list n (list_in count entries) ≡ true → Listed entries count n
good_listed n count entries short cells e =
    record { short = short; cells = cells; stops = λ i h. go i (row_of n count i (omega arith)) }
  where
    go : (i : ℕ) → Row n count i → at entries i < n
    go i r =
        let g = good_list_good n (list_in count entries) e r.row r.below in
        let j = i - r.row * count in
        let jh : j < count = omega (arith, r.first, r.last) in
        let l = list_long entries count n r.row cells r.below in
        let b = below_at n (list_in count entries r.row) (all_map (list_in count entries r.row) (λ w p. p.0) g) j (omega arith) in
        let ij : r.row * count + j ≡ i = omega (arith, r.first) in
        omega (arith, entry_at entries count r.row j jh, ap (at entries) ij)

-- ---- 1 to 6
five_long : (n a b c d e : ℕ) (more : List ℕ) → long n (a ∷ b ∷ c ∷ d ∷ e ∷ more) ≡ true
    → (a ≡ n) × ((b ≡ n) × ((c ≡ n) × ((d ≡ n) × ((e ≡ n) × (long n more ≡ true)))))
unfolding long every
five_long n a b c d e more h =
    let p = every (λ w. eqb w n) in
    let h1 = both_true (eqb a n) (p (b ∷ c ∷ d ∷ e ∷ more)) h in
    let h2 = both_true (eqb b n) (p (c ∷ d ∷ e ∷ more)) h1.1 in
    let h3 = both_true (eqb c n) (p (d ∷ e ∷ more)) h2.1 in
    let h4 = both_true (eqb d n) (p (e ∷ more)) h3.1 in
    let h5 = both_true (eqb e n) (p more) h4.1 in
    (eqb-true a n h1.0, (eqb-true b n h2.0, (eqb-true c n h3.0, (eqb-true d n h4.0, (eqb-true e n h5.0, h5.1)))))

module _ (l : Lent) (told : Bool) (more : List ℕ) (e : verdict (lent_checks l told more) ≡ 0) where
  lengths : List ℕ
  lengths = length l.round ∷ length l.places ∷ length l.queue ∷ length l.flags ∷ length l.scratch ∷ more

  parts : (verdict (size_checks l.n l.k l.ka told) ≡ 0)
      × ((verdict (length_checks l.n l.k l.ka (length l.matrix) (length l.near) (length l.alpha) lengths (length l.journal)) ≡ 0) × (verdict (list_checks l.n l.k l.ka l.matrix l.near l.alpha) ≡ 0))
  unfolding lent_number lengths
  parts =
      let one = size_checks l.n l.k l.ka told in
      let two = length_checks l.n l.k l.ka (length l.matrix) (length l.near) (length l.alpha) lengths (length l.journal) in
      let three = list_checks l.n l.k l.ka l.matrix l.near l.alpha in
      let a = verdict_both one (two ++ three) (sizes_numbered l.n l.k l.ka l.matrix l.near l.alpha lengths (length l.journal) told) (lent_is l told more ∙ e) in
      let b = verdict_both two three (lengths_numbered l.n l.k l.ka l.matrix l.near l.alpha lengths (length l.journal) told) a.1 in
      (a.0, (b.0, b.1))

  sizes : Sized l.n l.k l.ka told
  sizes = sized l.n l.k l.ka told parts.0

  longs : Long l.n l.k l.ka (length l.matrix) (length l.near) (length l.alpha) lengths (length l.journal)
  longs = long_all l.n l.k l.ka (length l.matrix) (length l.near) (length l.alpha) lengths (length l.journal) parts.1.0

  pub lent_passed : LentPassed l told
  unfolding lengths room_in plan_in leg_of near_of alpha_of
  lent_passed =
      let lists = lists_told l.n l.k l.ka l.matrix l.near l.alpha parts.1.1 in
      let both = and-true (good_list l.n (list_in l.k l.near)) (good_list l.n (list_in l.ka l.alpha)) lists.1 in
      let five = five_long l.n (length l.round) (length l.places) (length l.queue) (length l.flags) (length l.scratch) more longs.lengths_are in
      record {
        two = sizes.two;
        few = sizes.few;
        asked = sizes.asked;
        square = record { few = sizes.few; cells = longs.cells_are };
        some_near = sizes.some_near;
        near_listed = good_listed l.n l.k l.near sizes.short_near longs.near_are both.0;
        short_alpha = sizes.short_alpha;
        alpha_listed = good_listed l.n l.ka l.alpha (omega (arith, sizes.short_alpha)) longs.alpha_are both.1;
        round_long = five.0;
        places_long = five.1.0;
        queue_long = five.1.1.0;
        flags_long = five.1.1.1.0;
        scratch_long = five.1.1.1.1.0;
        room = longs.room;
        fits = plan_fits (plan_in l) l.n lists.0 lists.1;
      }

  pub more_long : long l.n more ≡ true
  unfolding lengths
  more_long = (five_long l.n (length l.round) (length l.places) (length l.queue) (length l.flags) (length l.scratch) more longs.lengths_are).1.1.1.1.1

-- what else is lent has n words
pub last_length : (l : Lent) (told : Bool) (more : ℕ) → verdict (lent_checks l told (more ∷ [])) ≡ 0 → more ≡ l.n
unfolding long every
last_length l told more e = eqb-true more l.n (both_true (eqb more l.n) true (more_long l told (more ∷ []) e)).0

pub lent_numbered : (l : Lent) (told : Bool) (more : List ℕ) → Numbered (lent_checks l told more)
unfolding lent_checks every
lent_numbered l told more = refl

-- ---- 1 to 7
pub call_numbered : (l : Lent) (c : Carried) (told : Bool) → Numbered (call_checks l c told)
unfolding call_checks lent_checks every
call_numbered l c told = refl

pub call_passed : (l : Lent) (c : Carried) (told : Bool) → verdict (call_checks l c told) ≡ 0 → CallPassed l c told
unfolding call_checks
call_passed l c told e =
    let v = verdict_both (lent_checks l told []) ((good_state l c or 7) ∷ []) (lent_numbered l told []) e in
    let p = lent_passed l told [] v.0 in
    let s = state_holds l.n l.matrix l.round l.places l.queue l.flags l.journal c (state_is l c ∙ alone_passes (good_state l c) 7 (omega arith) v.1) in
    record {
      lent = p;
      tied = passes_tied l.n l.round l.places p.few s.round_holds;
      line = agree_line l.queue l.flags c.head c.count (omega (arith, p.queue_long, p.few)) (rw p.queue_long s.queue_holds);
      journal = s.journal_holds;
      time = eqb-true c.time (recount (leg_in l.n l.matrix) l.round) s.time_holds;
    }

-- ---- a kick, and a load
pub kick_passed : (l : Lent) (c : Carried) (kind draw : ℕ) → kick_number l c kind draw ≡ 0 → CallPassed l c (good_kick kind draw) × (30 ≤ room_in l - c.held)
unfolding kick_number
kick_passed l c kind draw e =
    let v = verdict_both (call_checks l c (good_kick kind draw)) ((leb 30 (room_in l - c.held) or 8) ∷ []) (call_numbered l c (good_kick kind draw)) e in
    (call_passed l c (good_kick kind draw) v.0, leb-true 30 (room_in l - c.held) (alone_passes (leb 30 (room_in l - c.held)) 8 (omega arith) v.1))

pub load_passed : (l : Lent) (start : Round) → load_number l start ≡ 0 → LentPassed l true × ((length start ≡ l.n) × (is_round l.n start ≡ true))
unfolding load_number
load_passed l start e =
    let v = verdict_both (lent_checks l true (length start ∷ [])) ((is_round l.n start or 7) ∷ []) (lent_numbered l true (length start ∷ [])) e in (
      lent_passed l true (length start ∷ []) v.0,
      (
        last_length l true (length start) v.0,
        alone_passes (is_round l.n start) 7 (omega arith) v.1,
      ),
    )
