-- Demand 1: a ground for a number is a check with that number that fails.
use Prim.Native.Nat.{◌*◌, ◌-◌, ◌/◌, ◌<◌, ℕ}
use mathlib.Core.Path.{◌≡◌, refl, sym}
use mathlib.Core.Logic.{◌≢◌, ◌⊎◌, inl, inr}
use mathlib.Core.Bool.{Bool, ◌&&◌, ◌||◌, false, true}
use mathlib.Core.List.{List, [], ◌++◌, ◌∷◌}
use native.Mathlib.Omega.{arith}
use lib.Dec.{eqb, leb}
use lib.ListN.{length}
use borrow.Author.Tests.{eqb-false, leb-false, lt-leb, ne_eqb}
use Rattle.rules.specs.Journal.{good_journal}
use Rattle.rules.specs.Lists.{at, every, same}
use Rattle.rules.specs.Memory.{Carried, Lent, plan_in, room_in}
use Rattle.rules.specs.Numbers.{Check, ◌or◌, agree, good_kick, good_lengths, good_list, good_sizes, good_state, good_step, lent_checks, long, symmetric, within}
use Rattle.rules.specs.Plan.{alpha_of, leg_in, leg_of, list_in, near_of}
use Rattle.rules.specs.Ring.{is_round, places_of, recount}
use Rattle.laws.proofs.ChoiceLaws.{true_false}
use Rattle.laws.proofs.EveryLaws.{All, more, none}
use Rattle.laws.proofs.FailLaws.{bad_entry, bad_fails, differ_fails, either_fails, left_fails, long_fails, neither, one_long, outside, outside_fails, right_fails, same_fails, uneven_fails, uneven_pair}
use Rattle.laws.proofs.VerdictLaws.{Fails, Rises, fails_give, later, next, this, top}
use Rattle.demands.specs.Demands.{Call, Ground, alpha_entry, alpha_long, best_long, commit, descent, descent_alpha, descent_step, disagree, few_free, flags_long, journal_short, kick, kick_draw, kick_kind, load, matrix_long, near_entry, near_long, no_alpha, no_entry, no_inverse, no_near, no_round, no_size, no_start, no_time, places_long, queue_long, round_long, scratch_long, search, search_alpha, search_draw, search_kind, search_step, single, start_long, undo, uneven}

-- ---- the checks of a call
-- what else 2 asks
unfoldable pub told : Lent → Call → Bool
told l (load start) = true
told l (kick kind draw) = good_kick kind draw
told l (descent keeps step budget) = good_step l.ka step
told l commit = true
told l undo = true
told l (search best step kind stop budget draw) = good_step l.ka step && good_kick kind draw

-- what else 3 asks
unfoldable pub more_lent : Call → List ℕ
more_lent (load start) = length start ∷ []
more_lent (kick kind draw) = []
more_lent (descent keeps step budget) = []
more_lent commit = []
more_lent undo = []
more_lent (search best step kind stop budget draw) = length best ∷ []

-- 7 and 8
unfoldable pub rest : Lent → Carried → Call → List Check
rest l c (load start) = (is_round l.n start or 7) ∷ []
rest l c (kick kind draw) = (good_state l c or 7) ∷ (leb 30 (room_in l - c.held) or 8) ∷ []
rest l c (descent keeps step budget) = (good_state l c or 7) ∷ []
rest l c commit = (good_state l c or 7) ∷ []
rest l c undo = (good_state l c or 7) ∷ []
rest l c (search best step kind stop budget draw) = []

unfoldable pub checks_of : Lent → Carried → Call → List Check
checks_of l c q = lent_checks l (told l q) (more_lent q) ++ rest l c q

module _ (l : Lent) (c : Carried) where
  -- their numbers rise
  rest_rises : (q : Call) → Rises 7 (rest l c q)
  unfolding rest
  rest_rises (load start) = next 7 top
  rest_rises (kick kind draw) = next 7 (next 8 top)
  rest_rises (descent keeps step budget) = next 7 top
  rest_rises commit = next 7 top
  rest_rises undo = next 7 top
  rest_rises (search best step kind stop budget draw) = top

  pub checks_rise : (q : Call) → Rises 1 (checks_of l c q)
  unfolding checks_of lent_checks
  checks_rise q = next 1 (next 2 (next 3 (next 4 (next 5 (next 6 (rest_rises q))))))

  -- ---- tests that are made of several
  abbrev cells_ok : Bool
  cells_ok = eqb (length l.matrix) (l.n * l.n)

  abbrev near_ok : Bool
  near_ok = eqb (length l.near) (l.n * l.k)

  abbrev alpha_ok : Bool
  alpha_ok = eqb (length l.alpha) (l.n * l.ka)

  abbrev words : Call → List ℕ
  words q = length l.round ∷ length l.places ∷ length l.queue ∷ length l.flags ∷ length l.scratch ∷ more_lent q

  abbrev round_ok : Bool
  round_ok = is_round l.n l.round

  abbrev places_ok : Bool
  places_ok = same l.places (places_of l.round)

  abbrev queue_ok : Bool
  queue_ok = agree l.n l.queue l.flags c.head c.count

  abbrev journal_ok : Bool
  journal_ok = good_journal l.n l.journal c.held

  abbrev time_ok : Bool
  time_ok = eqb c.time (recount (leg_of (plan_in l)) l.round)

  abbrev near_good : Bool
  near_good = good_list l.n (near_of (plan_in l))

  abbrev alpha_good : Bool
  alpha_good = good_list l.n (alpha_of (plan_in l))

  -- ---- a ground: a check fails
  module _ (q : Call) where
    second : (good_sizes l.k l.ka && told l q) ≡ false → Fails (checks_of l c q) 2
    unfolding checks_of lent_checks
    second e = later (this e)

    third : good_lengths l (more_lent q) ≡ false → Fails (checks_of l c q) 3
    unfolding checks_of lent_checks
    third e = later (later (this e))

    sixth : (good_list l.n (near_of (plan_in l)) && good_list l.n (alpha_of (plan_in l))) ≡ false → Fails (checks_of l c q) 6
    unfolding checks_of lent_checks
    sixth e = later (later (later (later (later (this e)))))

    after : (k : ℕ) → Fails (rest l c q) k → Fails (checks_of l c q) k
    unfolding checks_of lent_checks
    after k f = later (later (later (later (later (later f)))))

    tells : told l q ≡ false → Fails (checks_of l c q) 2
    tells e = second (right_fails (good_sizes l.k l.ka) (told l q) e)

    -- one of the lengths that are n
    longs : (i : ℕ) → i < length (words q) → at (words q) i ≢ l.n → Fails (checks_of l c q) 3
    unfolding good_lengths
    longs i h e = third (right_fails (cells_ok && near_ok && alpha_ok) (long l.n (words q)) (long_fails l.n (words q) i h e))

    -- one of the others
    cells : (cells_ok && near_ok && alpha_ok) ≡ false → Fails (checks_of l c q) 3
    unfolding good_lengths
    cells e = third (left_fails (cells_ok && near_ok && alpha_ok) (long l.n (words q)) e)

    sizes : good_sizes l.k l.ka ≡ false → Fails (checks_of l c q) 2
    sizes e = second (left_fails (good_sizes l.k l.ka) (told l q) e)

  -- 7 of a single call
  seventh : (q : Call) → single q ≡ true → good_state l c ≡ false → Fails (checks_of l c q) 7
  unfolding single rest
  seventh (load start) s e = absurd (true_false (sym s))
  seventh (kick kind draw) s e = after (kick kind draw) 7 (this e)
  seventh (descent keeps step budget) s e = after (descent keeps step budget) 7 (this e)
  seventh commit s e = after commit 7 (this e)
  seventh undo s e = after undo 7 (this e)
  seventh (search best step kind stop budget draw) s e = absurd (true_false (sym s))

  -- a step kind, a kick kind or a draw state that is not as it should be
  bad_step : (step : ℕ) → 2 < step → good_step l.ka step ≡ false
  unfolding good_step
  bad_step step h = left_fails (leb step 2) (eqb step 0 || leb 1 l.ka) (lt-leb step 2 h)

  lacks_alpha : (step : ℕ) → step ≢ 0 → l.ka < 1 → good_step l.ka step ≡ false
  unfolding good_step
  lacks_alpha step h g = right_fails (leb step 2) (eqb step 0 || leb 1 l.ka) (rw (ne_eqb step 0 h, lt-leb 1 l.ka g) refl)

  bad_kind : (kind draw : ℕ) → 2 < kind → good_kick kind draw ≡ false
  unfolding good_kick
  bad_kind kind draw h = left_fails (leb kind 2) (leb 1 draw) (lt-leb kind 2 h)

  lacks_draw : (kind draw : ℕ) → draw < 1 → good_kick kind draw ≡ false
  unfolding good_kick
  lacks_draw kind draw h = right_fails (leb kind 2) (leb 1 draw) (lt-leb 1 draw h)

  pub ground_fails : (q : Call) (k : ℕ) → Ground l c q k → Fails (checks_of l c q) k
  unfolding checks_of lent_checks good_sizes good_lengths good_state told more_lent rest room_in plan_in leg_of near_of alpha_of
  ground_fails q k (no_size h) = this (outside_fails 2 4096 l.n h)
  ground_fails q k (no_near h) = sizes q (left_fails (within 1 20 l.k) (leb l.ka 5) (outside_fails 1 20 l.k h))
  ground_fails q k (no_alpha h) = sizes q (right_fails (within 1 20 l.k) (leb l.ka 5) (lt-leb l.ka 5 h))
  ground_fails (descent keeps step budget) k (descent_step h) = tells (descent keeps step budget) (bad_step step h)
  ground_fails (descent keeps step budget) k (descent_alpha h g) = tells (descent keeps step budget) (lacks_alpha step h g)
  ground_fails (kick kind draw) k (kick_kind h) = tells (kick kind draw) (bad_kind kind draw h)
  ground_fails (kick kind draw) k (kick_draw h) = tells (kick kind draw) (lacks_draw kind draw h)
  ground_fails (search best step kind stop budget draw) k (search_step h) = tells (search best step kind stop budget draw) (left_fails (good_step l.ka step) (good_kick kind draw) (bad_step step h))
  ground_fails (search best step kind stop budget draw) k (search_alpha h g) = tells (search best step kind stop budget draw) (left_fails (good_step l.ka step) (good_kick kind draw) (lacks_alpha step h g))
  ground_fails (search best step kind stop budget draw) k (search_kind h) = tells (search best step kind stop budget draw) (right_fails (good_step l.ka step) (good_kick kind draw) (bad_kind kind draw h))
  ground_fails (search best step kind stop budget draw) k (search_draw h) = tells (search best step kind stop budget draw) (right_fails (good_step l.ka step) (good_kick kind draw) (lacks_draw kind draw h))
  ground_fails q k (matrix_long h) = cells q (left_fails (cells_ok && near_ok) alpha_ok (left_fails cells_ok near_ok (ne_eqb (length l.matrix) (l.n * l.n) h)))
  ground_fails q k (near_long h) = cells q (left_fails (cells_ok && near_ok) alpha_ok (right_fails cells_ok near_ok (ne_eqb (length l.near) (l.n * l.k) h)))
  ground_fails q k (alpha_long h) = cells q (right_fails (cells_ok && near_ok) alpha_ok (ne_eqb (length l.alpha) (l.n * l.ka) h))
  ground_fails q k (round_long h) = longs q 0 (omega arith) h
  ground_fails q k (places_long h) = longs q 1 (omega arith) h
  ground_fails q k (queue_long h) = longs q 2 (omega arith) h
  ground_fails q k (flags_long h) = longs q 3 (omega arith) h
  ground_fails q k (scratch_long h) = longs q 4 (omega arith) h
  ground_fails (load start) k (start_long h) = longs (load start) 5 (omega arith) h
  ground_fails (search best step kind stop budget draw) k (best_long h) = longs (search best step kind stop budget draw) 5 (omega arith) h
  ground_fails q k (journal_short h) = later (later (later (this (lt-leb 512 (length l.journal / 5) h))))
  ground_fails q k (uneven a b ha hb h) = later (later (later (later (this (uneven_fails l.n (leg_in l.n l.matrix) a b ha hb h)))))
  ground_fails q k (near_entry v i hv hi h) = sixth q (left_fails near_good alpha_good (bad_fails l.n (list_in l.k l.near) v i hv hi h))
  ground_fails q k (alpha_entry v i hv hi h) = sixth q (right_fails near_good alpha_good (bad_fails l.n (list_in l.ka l.alpha) v i hv hi h))
  ground_fails q k (no_round s e) = seventh q s (left_fails (round_ok && places_ok && queue_ok && journal_ok) time_ok (left_fails (round_ok && places_ok && queue_ok) journal_ok (left_fails (round_ok && places_ok) queue_ok (left_fails round_ok places_ok e))))
  ground_fails q k (no_inverse s e) = seventh q s (left_fails (round_ok && places_ok && queue_ok && journal_ok) time_ok (left_fails (round_ok && places_ok && queue_ok) journal_ok (left_fails (round_ok && places_ok) queue_ok (right_fails round_ok places_ok (differ_fails l.places (places_of l.round) e)))))
  ground_fails q k (disagree s e) = seventh q s (left_fails (round_ok && places_ok && queue_ok && journal_ok) time_ok (left_fails (round_ok && places_ok && queue_ok) journal_ok (right_fails (round_ok && places_ok) queue_ok e)))
  ground_fails q k (no_entry s e) = seventh q s (left_fails (round_ok && places_ok && queue_ok && journal_ok) time_ok (right_fails (round_ok && places_ok && queue_ok) journal_ok e))
  ground_fails q k (no_time s e) = seventh q s (right_fails (round_ok && places_ok && queue_ok && journal_ok) time_ok (ne_eqb c.time (recount (leg_in l.n l.matrix) l.round) e))
  ground_fails (load start) k (no_start e) = after (load start) 7 (this e)
  ground_fails (kick kind draw) k (few_free h) = after (kick kind draw) 8 (later (this (lt-leb 30 (length l.journal / 5 - c.held) (omega arith))))

  -- ---- a check that fails is a ground
  module _ (q : Call) where
    two_ground : (good_sizes l.k l.ka && told l q) ≡ false → (told l q ≡ false → Ground l c q 2) → Ground l c q 2
    unfolding good_sizes
    two_ground e f = elim (either_fails (good_sizes l.k l.ka) (told l q) e) [
      | inl h ↦ elim (either_fails (within 1 20 l.k) (leb l.ka 5) h) [ inl g ↦ no_near (outside 1 20 l.k g) | inr g ↦ no_alpha (leb-false l.ka 5 g) ]
      | inr h ↦ f h
    ]

    three_ground : good_lengths l (more_lent q) ≡ false → (long l.n (more_lent q) ≡ false → Ground l c q 3) → Ground l c q 3
    unfolding good_lengths
    three_ground e f = elim (either_fails (cells_ok && near_ok && alpha_ok) (long l.n (words q)) e) [
      | inl h ↦ elim (either_fails (cells_ok && near_ok) alpha_ok h) [
        | inl g ↦ elim (either_fails cells_ok near_ok g) [ inl i ↦ matrix_long (eqb-false (length l.matrix) (l.n * l.n) i) | inr i ↦ near_long (eqb-false (length l.near) (l.n * l.k) i) ]
        | inr g ↦ alpha_long (eqb-false (length l.alpha) (l.n * l.ka) g)
      ]
      | inr h ↦ elim (one_long l.n (length l.round) (length l.places ∷ length l.queue ∷ length l.flags ∷ length l.scratch ∷ more_lent q) h) [
        | inl g ↦ round_long g
        | inr g ↦ elim (one_long l.n (length l.places) (length l.queue ∷ length l.flags ∷ length l.scratch ∷ more_lent q) g) [
          | inl i ↦ places_long i
          | inr i ↦ elim (one_long l.n (length l.queue) (length l.flags ∷ length l.scratch ∷ more_lent q) i) [
            | inl j ↦ queue_long j
            | inr j ↦ elim (one_long l.n (length l.flags) (length l.scratch ∷ more_lent q) j) [
              | inl k ↦ flags_long k
              | inr k ↦ elim (one_long l.n (length l.scratch) (more_lent q) k) [ inl m ↦ scratch_long m | inr m ↦ f m ]
            ]
          ]
        ]
      ]
    ]

    five_ground : symmetric l.n (leg_of (plan_in l)) ≡ false → Ground l c q 5
    unfolding leg_of plan_in
    five_ground e = let r = uneven_pair l.n (leg_in l.n l.matrix) e in uneven r.0 r.1 r.2 r.3 r.4

    six_ground : (near_good && alpha_good) ≡ false → Ground l c q 6
    unfolding near_of alpha_of plan_in
    six_ground e = elim (either_fails near_good alpha_good e) [
      | inl h ↦ (let r = bad_entry l.n (list_in l.k l.near) h in near_entry r.0 r.1 r.2 r.3 r.4)
      | inr h ↦ (let r = bad_entry l.n (list_in l.ka l.alpha) h in alpha_entry r.0 r.1 r.2 r.3 r.4)
    ]

    seven_ground : single q ≡ true → good_state l c ≡ false → Ground l c q 7
    unfolding good_state leg_of plan_in
    seven_ground s e = elim (either_fails (round_ok && places_ok && queue_ok && journal_ok) time_ok e) [
      | inl h ↦ elim (either_fails (round_ok && places_ok && queue_ok) journal_ok h) [
        | inl g ↦ elim (either_fails (round_ok && places_ok) queue_ok g) [
          | inl i ↦ elim (either_fails round_ok places_ok i) [ inl j ↦ no_round s j | inr j ↦ no_inverse s (same_fails l.places (places_of l.round) j) ]
          | inr i ↦ disagree s i
        ]
        | inr g ↦ no_entry s g
      ]
      | inr h ↦ no_time s (eqb-false c.time (recount (leg_in l.n l.matrix) l.round) h)
    ]

  -- a step kind that is refused
  step_grounds : (step : ℕ) → good_step l.ka step ≡ false → (2 < step) ⊎ ((step ≢ 0) × (l.ka < 1))
  unfolding good_step
  step_grounds step e = elim (either_fails (leb step 2) (eqb step 0 || leb 1 l.ka) e) [
    | inl h ↦ inl (leb-false step 2 h)
    | inr h ↦ (let g = neither (eqb step 0) (leb 1 l.ka) h in inr (eqb-false step 0 g.0, leb-false 1 l.ka g.1))
  ]

  -- a kick kind or draw state that is refused
  kick_grounds : (kind draw : ℕ) → good_kick kind draw ≡ false → (2 < kind) ⊎ (draw < 1)
  unfolding good_kick
  kick_grounds kind draw e = elim (either_fails (leb kind 2) (leb 1 draw) e) [ inl h ↦ inl (leb-false kind 2 h) | inr h ↦ inr (leb-false 1 draw h) ]

  told_ground : (q : Call) → told l q ≡ false → Ground l c q 2
  unfolding told
  told_ground (load start) e = absurd (true_false e)
  told_ground (kick kind draw) e = elim (kick_grounds kind draw e) [ inl h ↦ kick_kind h | inr h ↦ kick_draw h ]
  told_ground (descent keeps step budget) e = elim (step_grounds step e) [ inl h ↦ descent_step h | inr h ↦ descent_alpha h.0 h.1 ]
  told_ground commit e = absurd (true_false e)
  told_ground undo e = absurd (true_false e)
  told_ground (search best step kind stop budget draw) e = elim (either_fails (good_step l.ka step) (good_kick kind draw) e) [
    | inl h ↦ elim (step_grounds step h) [ inl g ↦ search_step g | inr g ↦ search_alpha g.0 g.1 ]
    | inr h ↦ elim (kick_grounds kind draw h) [ inl g ↦ search_kind g | inr g ↦ search_draw g ]
  ]

  -- one more length
  one_more : (a : ℕ) → long l.n (a ∷ []) ≡ false → a ≢ l.n
  unfolding long every
  one_more a e = elim (one_long l.n a [] e) [ inl h ↦ h | inr h ↦ absurd (true_false h) ]

  more_ground : (q : Call) → long l.n (more_lent q) ≡ false → Ground l c q 3
  unfolding more_lent long every
  more_ground (load start) e = start_long (one_more (length start) e)
  more_ground (kick kind draw) e = absurd (true_false e)
  more_ground (descent keeps step budget) e = absurd (true_false e)
  more_ground commit e = absurd (true_false e)
  more_ground undo e = absurd (true_false e)
  more_ground (search best step kind stop budget draw) e = best_long (one_more (length best) e)

  rest_grounds : (q : Call) → All (λ x. x.ok ≡ false → Ground l c q x.number) (rest l c q)
  unfolding rest room_in single
  rest_grounds (load start) = more (λ e. no_start e) none
  rest_grounds (kick kind draw) =
      more (λ e. seven_ground (kick kind draw) refl e) (more (λ e. let h : length l.journal / 5 - c.held < 30 = leb-false 30 (length l.journal / 5 - c.held) e in few_free (omega arith)) none)
  rest_grounds (descent keeps step budget) = more (λ e. seven_ground (descent keeps step budget) refl e) none
  rest_grounds commit = more (λ e. seven_ground commit refl e) none
  rest_grounds undo = more (λ e. seven_ground undo refl e) none
  rest_grounds (search best step kind stop budget draw) = none

  pub fails_ground : (q : Call) (k : ℕ) → Fails (checks_of l c q) k → Ground l c q k
  unfolding checks_of lent_checks room_in
  fails_ground q =
      fails_give (Ground l c q) (checks_of l c q)
      (more (λ e. no_size (outside 2 4096 l.n e))
      (more (λ e. two_ground q e (told_ground q))
      (more (λ e. three_ground q e (more_ground q))
      (more (λ e. journal_short (leb-false 512 (length l.journal / 5) e))
      (more (λ e. five_ground q e) (more (λ e. six_ground q e) (rest_grounds q)))))))
