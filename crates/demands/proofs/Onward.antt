-- What a run leaves passes the checks 1, 5 and 7 of the next call.
use Prim.Native.Nat.{◌<◌, ◌≤◌, ℕ}
use mathlib.Core.Path.{◌∙◌, ◌≡◌, ap, ap₂, refl, subst, sym}
use mathlib.Core.Bool.{Bool, false, true}
use mathlib.Core.List.{List, [], ◌∷◌}
use native.Mathlib.Omega.{arith}
use lib.Dec.{eqb, leb}
use lib.ListN.{length}
use borrow.Author.Tests.{eq-eqb, eqb-false, le-leb}
use Rattle.rules.specs.Journal.{good_journal}
use Rattle.rules.specs.Lists.{same}
use Rattle.rules.specs.Memory.{Carried, Lent, plan_in}
use Rattle.rules.specs.Numbers.{agree, good_state, lent_checks, load_number, symmetric, within}
use Rattle.rules.specs.Plan.{leg_in, leg_of}
use Rattle.rules.specs.Ring.{is_round, places_of, recount}
use Rattle.rules.specs.Words.{Legs, Time}
use Rattle.laws.proofs.AcceptLaws.{even_symmetric, lendable}
use Rattle.laws.proofs.CheckLaws.{same_self}
use Rattle.laws.proofs.ChoiceLaws.{true-and, true_false}
use Rattle.laws.proofs.EvenLaws.{Even}
use Rattle.laws.proofs.EveryLaws.{All, more, none}
use Rattle.laws.proofs.VerdictLaws.{never_fails}
use Rattle.demands.specs.Demands.{Call, Committed, Ground, Run, begun, commit, descent, kick, last_commit, load, loaded, onward, search, single, undo}
use Rattle.demands.specs.Onward.{Onward}
use Rattle.demands.proofs.Demand3.{run_holds, untouched_holds}
use Rattle.demands.proofs.GroundLaws.{checks_of, ground_fails, rest}
use Rattle.demands.proofs.HoldsLaws.{Holds}

-- what the accepted load was lent
record Begun (n : ℕ) (matrix : List Time) : Type 0 where
  two : 2 ≤ n
  most : n ≤ 4096
  even : Even (leg_in n matrix) n

run_begun : (n : ℕ) (matrix : List Time) (l : Lent) (c : Carried) → Run n matrix l c → Begun n matrix
unfolding load_number leg_of plan_in
run_begun n matrix l c (begun {l = m} {start = start} n_is matrix_is (loaded p)) =
    let a = (lendable m true (length start ∷ []) _ (sym p.number_is)).0 in
    subst (λ (x : ℕ). Begun x matrix) n_is (subst (λ (x : List Time). Begun m.n x) matrix_is (record { two = a.low; most = a.high; even = a.fit.even }))
run_begun n matrix l c (onward {l = l₀} {c = c₀} run u q made) = run_begun n matrix l₀ c₀ run

-- a check with another number
apart : (j k : ℕ) {b : Bool} → eqb j k ≡ false → j ≡ k → b ≡ true
apart j k h e = absurd (eqb-false j k h e)

-- ---- the next call, lent m and handed c
module _ (m : Lent) (c : Carried) where
  -- 7 and 8 have other numbers
  rest_other : (k : ℕ) → k < 7 → (q : Call) → All (λ x. x.number ≡ k → x.ok ≡ true) (rest m c q)
  unfolding rest
  rest_other k h (load start) = more (λ (e : 7 ≡ k). absurd (omega arith)) none
  rest_other k h (kick kind draw) = more (λ (e : 7 ≡ k). absurd (omega arith)) (more (λ (e : 8 ≡ k). absurd (omega arith)) none)
  rest_other k h (descent keeps step budget) = more (λ (e : 7 ≡ k). absurd (omega arith)) none
  rest_other k h commit = more (λ (e : 7 ≡ k). absurd (omega arith)) none
  rest_other k h undo = more (λ (e : 7 ≡ k). absurd (omega arith)) none
  rest_other k h (search best step kind stop budget draw) = none

  rest_seven : good_state m c ≡ true → (q : Call) → single q ≡ true → All (λ x. x.number ≡ 7 → x.ok ≡ true) (rest m c q)
  unfolding rest single
  rest_seven g (load start) s = absurd (true_false (sym s))
  rest_seven g (kick kind draw) s = more (λ e. g) (more (apart 8 7 refl) none)
  rest_seven g (descent keeps step budget) s = more (λ e. g) none
  rest_seven g commit s = more (λ e. g) none
  rest_seven g undo s = more (λ e. g) none
  rest_seven g (search best step kind stop budget draw) s = none

  module _ (q : Call) where
    size_passes : within 2 4096 m.n ≡ true → Ground m c q 1 → ⊥
    unfolding checks_of lent_checks
    size_passes g d =
        never_fails 1 (checks_of m c q)
        (more (λ e. g) (more (apart 2 1 refl) (more (apart 3 1 refl) (more (apart 4 1 refl) (more (apart 5 1 refl) (more (apart 6 1 refl) (rest_other 1 (omega arith) q)))))))
        (ground_fails m c q 1 d)

    matrix_passes : symmetric m.n (leg_of (plan_in m)) ≡ true → Ground m c q 5 → ⊥
    unfolding checks_of lent_checks
    matrix_passes g d =
        never_fails 5 (checks_of m c q)
        (more (apart 1 5 refl) (more (apart 2 5 refl) (more (apart 3 5 refl) (more (apart 4 5 refl) (more (λ e. g) (more (apart 6 5 refl) (rest_other 5 (omega arith) q)))))))
        (ground_fails m c q 5 d)

    state_passes : good_state m c ≡ true → single q ≡ true → Ground m c q 7 → ⊥
    unfolding checks_of lent_checks
    state_passes g s d =
        never_fails 7 (checks_of m c q)
        (more (apart 1 7 refl) (more (apart 2 7 refl) (more (apart 3 7 refl) (more (apart 4 7 refl) (more (apart 5 7 refl) (more (apart 6 7 refl) (rest_seven g q s)))))))
        (ground_fails m c q 7 d)

  -- the state that a run left
  pub holds_good : (n : ℕ) (matrix : List Time) (k : Committed) → m.n ≡ n → m.matrix ≡ matrix → Holds n matrix m c k → good_state m c ≡ true
  unfolding good_state leg_of plan_in
  holds_good n matrix k n_is matrix_is h =
      let round_ok : is_round m.n m.round ≡ true = ap (λ (x : ℕ). is_round x m.round) n_is ∙ h.once in
      let places_ok : same m.places (places_of m.round) ≡ true = ap (λ (x : List ℕ). same x (places_of m.round)) h.inverse ∙ same_self (places_of m.round) in
      let queue_ok : agree m.n m.queue m.flags c.head c.count ≡ true = ap (λ (x : ℕ). agree x m.queue m.flags c.head c.count) n_is ∙ h.agrees in
      let journal_ok : good_journal m.n m.journal c.held ≡ true = ap (λ (x : ℕ). good_journal x m.journal c.held) n_is ∙ h.ranged in
      let legs : leg_in m.n m.matrix ≡ leg_in n matrix = ap₂ leg_in n_is matrix_is in
      let time_ok : eqb c.time (recount (leg_in m.n m.matrix) m.round) ≡ true
      = eq-eqb c.time (recount (leg_in m.n m.matrix) m.round) (h.carried ∙ ap (λ (d : Legs). recount d m.round) (sym legs)) in
      rw (round_ok, places_ok, queue_ok, journal_ok, time_ok) refl

pub what_follows : {n : ℕ} {matrix : List Time} {l : Lent} {c : Carried} (run : Run n matrix l c) → Onward run
unfolding within leg_of plan_in
what_follows {n} {matrix} {l} {c} run =
    let b = run_begun n matrix l c run in
    let h = run_holds n matrix l c run in
    record {
      two = b.two;
      most = b.most;
      symmetric = b.even;
      never_1 = λ m q u n_is. size_passes m c q (true-and (leb 2 m.n) (leb m.n 4096) (le-leb 2 m.n (omega (arith, b.two))) (le-leb m.n 4096 (omega (arith, b.most))));
      never_5 = λ m q u n_is. matrix_passes m c q (ap₂ symmetric n_is (ap₂ leg_in n_is u.same_matrix) ∙ even_symmetric (leg_in n matrix) n b.even);
      never_7 = λ m q u n_is. state_passes m c q (holds_good m c n matrix (last_commit run) n_is u.same_matrix (untouched_holds n matrix l m c (last_commit run) u h));
    }
