-- 01, "Answer numbers", 5 to 7: what the checks give, as the premises of the laws, and what passes them.
use Prim.Native.Nat.{◌*◌, ◌<◌, ◌≤◌, suc, zero, ℕ}
use mathlib.Core.Path.{◌∙◌, ◌≡◌, ap, ap₂, refl, subst, sym}
use mathlib.Core.Bool.{◌&&◌, not, true}
use mathlib.Core.List.{List, [], ◌∷◌}
use native.Mathlib.Omega.{arith}
use lib.Dec.{eqb, leb, ltb}
use lib.ListN.{length}
use borrow.Author.Tests.{eq-eqb, eqb-false, eqb-true, leb-true, ltb-true, not-true}
use Rattle.rules.specs.SharedWords.{Tied}
use Rattle.rules.specs.Journal.{entries_of, entry_at, good_journal, in_range, track_of}
use Rattle.rules.specs.Lists.{every, once, rising, same}
use Rattle.rules.specs.Memory.{Carried, Lent, plan_in, state_in}
use Rattle.rules.specs.Numbers.{agree, good_list, good_state, symmetric}
use Rattle.rules.specs.Plan.{Plan, alpha_of, leg_of, near_of}
use Rattle.rules.specs.Queue.{flags_of, waiting}
use Rattle.rules.specs.Ring.{is_round, places_of, recount}
use Rattle.rules.specs.Words.{Legs, Place, Round, Stop}
use Rattle.laws.proofs.ChoiceLaws.{and-true, both_true, equal_tests, true-and, true_false}
use Rattle.laws.proofs.DescendLaws.{Sound}
use Rattle.laws.proofs.EvenLaws.{Even}
use Rattle.laws.proofs.EveryLaws.{Below, all_map, at_below, below_every, every_all, every_below}
use Rattle.laws.proofs.GainLaws.{Fit}
use Rattle.laws.proofs.JournalWordLaws.{good_each, good_range, good_room}
use Rattle.laws.proofs.PermLaws.{once_each, perm_at, round_is, round_length, round_perm}
use Rattle.laws.proofs.QueueLaws.{once_tally, tally_once}
use Rattle.laws.proofs.RisingLaws.{every_rising}
use Rattle.laws.proofs.TiedLaws.{round_tied, tied_places, tied_round}
use Rattle.laws.proofs.TrialLaws.{GoodList}

-- ---- 5: "matrix not symmetric"
pub symmetric_even : (d : Legs) (n : ℕ) → symmetric n d ≡ true → Even d n
unfolding symmetric
symmetric_even d n e a b ha hb =
    let row = every_rising (λ a. every (λ b. eqb (d a b) (d b a)) (rising n 0)) n 0 e a (omega arith) (omega arith) in
    eqb-true (d a b) (d b a) (every_rising (λ b. eqb (d a b) (d b a)) n 0 row b (omega arith) (omega arith))

-- ---- 6: "a list entry is n or more, or the stop itself"
pub good_list_good : (n : ℕ) (list : Stop → List Stop) → good_list n list ≡ true → GoodList n list
unfolding good_list
good_list_good n list e v h =
    let row = every_rising (λ v. every (λ e. ltb e n && not (eqb e v)) (list v)) n 0 e v (omega arith) (omega arith) in
    all_map (list v) (λ w q. let g = and-true (ltb w n) (not (eqb w v)) q in (ltb-true w n g.0, eqb-false w v (not-true (eqb w v) g.1))) (every_all (λ e. ltb e n && not (eqb e v)) (list v) row)

-- a plan that passed both
pub plan_fits : (p : Plan) (n : ℕ) → symmetric n (leg_of p) ≡ true → (good_list n (near_of p) && good_list n (alpha_of p)) ≡ true → Fit p n
plan_fits p n s e =
    let g = and-true (good_list n (near_of p)) (good_list n (alpha_of p)) e in
    record { even = symmetric_even (leg_of p) n s; lists = record { near = good_list_good n (near_of p) g.0; alpha = good_list_good n (alpha_of p) g.1 } }

-- ---- 7
-- two lists that pass are one
pub same_is : (a b : List ℕ) → same a b ≡ true → a ≡ b
unfolding same
same_is [] [] e = refl
same_is [] (y ∷ b) e = absurd (true_false (sym e))
same_is (x ∷ a) [] e = absurd (true_false (sym e))
same_is (x ∷ a) (y ∷ b) e = let g = both_true (eqb x y) (same a b) e in ap₂ (λ h t. h ∷ t) (eqb-true x y g.0) (same_is a b g.1)

pub same_self : (l : List ℕ) → same l l ≡ true
unfolding same
same_self [] = refl
same_self (x ∷ l) = rw (eq-eqb x x refl, same) (same_self l)

-- round and places pass where they are tied, and there alone
pub passes_tied : (n : ℕ) (r : Round) (places : List Place) → n ≤ 4096 → (is_round n r && same places (places_of r)) ≡ true → Tied r places
passes_tied n r places few e =
    let g = and-true (is_round n r) (same places (places_of r)) e in
    subst (Tied r) (sym (same_is places (places_of r) g.1)) (round_tied n r g.0 few)

pub tied_passes : (r : Round) (places : List Place) → Tied r places → (is_round (length r) r && same places (places_of r)) ≡ true
tied_passes r places t = true-and (is_round (length r) r) (same places (places_of r)) (tied_round t) (ap (same places) (sym (tied_places t)) ∙ same_self places)

-- a round is n stops below n, each once
pub round_stops : (n : ℕ) (r : Round) → length r ≡ n → (every (λ v. ltb v n) r && once r) ≡ is_round n r
round_stops n r l =
    equal_tests (every (λ v. ltb v n) r && once r) (is_round n r)
    (λ e.
    let g = and-true (every (λ v. ltb v n) r) (once r) e in
    round_is n r l (once_each n r l (at_below n r (every_below n r g.0)) (once_tally r g.1)))
    (λ e.
    let p = round_perm n r e in
    true-and (every (λ v. ltb v n) r) (once r) (below_every n r (λ i h. omega (arith, perm_at r p i h))) (tally_once r p.once))

-- "queue and flags disagree"
pub record Agrees (n : ℕ) (queue flags : List ℕ) (head : Place) (count : ℕ) : Type 0 where
  pub head_below : head < n
  pub count_few : count ≤ n
  pub stops : Below n (waiting queue head count)
  pub each_once : once (waiting queue head count) ≡ true
  pub flagged : flags ≡ flags_of n (waiting queue head count)

pub agree_agrees : (n : ℕ) (queue flags : List ℕ) (head : Place) (count : ℕ) → agree n queue flags head count ≡ true → Agrees n queue flags head count
unfolding agree
agree_agrees n queue flags head count e =
    let q = waiting queue head count in
    let below = every (λ v. ltb v n) q in
    let a = and-true (ltb head n && leb count n && below && once q) (same flags (flags_of n q)) e in
    let b = and-true (ltb head n && leb count n && below) (once q) a.0 in
    let c = and-true (ltb head n && leb count n) below b.0 in
    let f = and-true (ltb head n) (leb count n) c.0 in
    record {
      head_below = ltb-true head n f.0;
      count_few = leb-true count n f.1;
      stops = all_map q (λ v y. ltb-true v n y) (every_all (λ v. ltb v n) q c.1);
      each_once = b.1;
      flagged = same_is flags (flags_of n q) a.1;
    }

-- "a journal entry out of range"
entries_ranged : (n : ℕ) (ws : List ℕ) (k : ℕ) → ((i : ℕ) → i < k → in_range n (entry_at ws i) ≡ true) → every (in_range n) (entries_of ws k) ≡ true
unfolding entries_of every
entries_ranged n ws zero h = refl
entries_ranged n ws (suc k) h = rw (h k (omega arith), every) (entries_ranged n ws k (λ i l. h i (omega arith)))

pub good_journal_ranged : (n : ℕ) (ws : List ℕ) (held : ℕ) → good_journal n ws held ≡ true → every (in_range n) (entries_of ws held) ≡ true
good_journal_ranged n ws held e = entries_ranged n ws held (λ i h. good_range n ws i (good_each n ws held e i h))

-- a state that passed 7: a round of n stops, tied to its places, its time the recount
pub record Passed (l : Lent) (c : Carried) : Type 0 where
  pub tied : l.n ≤ 4096 → Tied l.round l.places
  pub sound : Sound (leg_of (plan_in l)) l.n (state_in l c)
  pub agrees : Agrees l.n l.queue l.flags c.head c.count
  pub ranged : every (in_range l.n) (state_in l c).track.journal ≡ true
  pub fits : 5 * c.held ≤ length l.journal

pub good_state_passed : (l : Lent) (c : Carried) → good_state l c ≡ true → Passed l c
unfolding good_state state_in track_of
good_state_passed l c e =
    let d = leg_of (plan_in l) in
    let a = and-true (is_round l.n l.round && same l.places (places_of l.round) && agree l.n l.queue l.flags c.head c.count && good_journal l.n l.journal c.held) (eqb c.time (recount d l.round)) e in
    let b = and-true (is_round l.n l.round && same l.places (places_of l.round) && agree l.n l.queue l.flags c.head c.count) (good_journal l.n l.journal c.held) a.0 in
    let f = and-true (is_round l.n l.round && same l.places (places_of l.round)) (agree l.n l.queue l.flags c.head c.count) b.0 in
    let g = and-true (is_round l.n l.round) (same l.places (places_of l.round)) f.0 in
    let q = agree_agrees l.n l.queue l.flags c.head c.count f.1 in
    record {
      tied = λ few. passes_tied l.n l.round l.places few f.0;
      sound = record {
        stands = record { perm = round_perm l.n l.round g.0; size = round_length l.n l.round g.0; queued = q.stops };
        carried = eqb-true c.time (recount d l.round) a.1;
      };
      agrees = q;
      ranged = good_journal_ranged l.n l.journal c.held b.1;
      fits = good_room l.n l.journal c.held b.1;
    }
