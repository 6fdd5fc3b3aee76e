-- 01, "Draws" and 11: draws in their spans, and that the draws that are made are.
use Prim.Native.Nat.{◌%◌, ◌+◌, ◌-◌, ◌/◌, ◌<◌, ◌≤◌, suc, zero, ℕ}
use mathlib.Core.Path.{◌≡◌, refl}
use mathlib.Core.Bool.{Bool, false, true}
use mathlib.Core.List.{List, [], ◌++◌, ◌∷◌}
use native.Mathlib.Nat.{mod-lt}
use native.Mathlib.Omega.{arith}
use lib.Dec.{eqb, ltb}
use lib.ListN.{drop, length}
use borrow.Author.Tests.{ltb-false}
use Rattle.rules.specs.Draws.{Span, ◌to◌, drawn, draws, moved}
use Rattle.rules.specs.Kicks.{global_spans, kind_at, longest, shuffle_spans, spans}
use Rattle.rules.specs.Lists.{at, when◌then◌else◌}
use Rattle.laws.proofs.ChoiceLaws.{either_if, either_way}
use Rattle.laws.proofs.EveryLaws.{All}
use Rattle.laws.proofs.KickTimeLaws.{Shuffles}

-- draws in their spans, one for each
unfoldable pub InSpans : List Span → List ℕ → Type 0
InSpans [] [] = Unit
InSpans [] (v ∷ vs) = ⊥
InSpans (s ∷ ss) [] = ⊥
InSpans (s ∷ ss) (v ∷ vs) = ((s.low ≤ v) × (v ≤ s.high)) × InSpans ss vs

head_in : (s : Span) (ss : List Span) (vs : List ℕ) → InSpans (s ∷ ss) vs → (s.low ≤ at vs 0) × (at vs 0 ≤ s.high)
unfolding InSpans
head_in s ss [] h = absurd h
head_in s ss (v ∷ vs) h = h.0

-- the draws behind those of some spans
pub drop_in : (i : ℕ) (before ss : List Span) (vs : List ℕ) → length before ≡ i → InSpans (before ++ ss) vs → InSpans ss (drop i vs)
unfolding InSpans
drop_in zero [] ss vs e h = h
drop_in zero (b ∷ bs) ss vs e h = absurd (omega arith)
drop_in (suc i) [] ss vs e h = absurd (omega arith)
drop_in (suc i) (b ∷ bs) ss [] e h = absurd h
drop_in (suc i) (b ∷ bs) ss (v ∷ vs) e h = drop_in i bs ss vs (omega arith) h.1

-- the draw of the span behind others
pub nth_in : (i : ℕ) (before : List Span) (s : Span) (ss : List Span) (vs : List ℕ) → length before ≡ i → InSpans (before ++ (s ∷ ss)) vs → (s.low ≤ at vs i) × (at vs i ≤ s.high)
unfolding InSpans
nth_in zero [] s ss vs e h = head_in s ss vs h
nth_in zero (b ∷ bs) s ss vs e h = absurd (omega arith)
nth_in (suc i) [] s ss vs e h = absurd (omega arith)
nth_in (suc i) (b ∷ bs) s ss [] e h = absurd h
nth_in (suc i) (b ∷ bs) s ss (v ∷ vs) e h = nth_in i bs s ss vs (omega arith) h.1

-- the draws of a shuffle
pub shuffle_in : (m : ℕ) (vs : List ℕ) → InSpans (shuffle_spans m) vs → Shuffles vs × (length vs ≡ m - 1)
unfolding InSpans shuffle_spans
shuffle_in zero [] h = (Shuffles.none, refl)
shuffle_in zero (v ∷ vs) h = absurd h
shuffle_in (suc zero) [] h = (Shuffles.none, refl)
shuffle_in (suc zero) (v ∷ vs) h = absurd h
shuffle_in (suc (suc k)) [] h = absurd h
shuffle_in (suc (suc k)) (v ∷ vs) h =
    let g = shuffle_in (suc k) vs h.1 in
    let l : length vs ≡ suc k - 1 = g.1 in
    let q : v ≤ suc (length vs) = omega (arith, h.0.1) in
    (Shuffles.more q g.0, omega arith)

-- ---- the draws that are made
-- spans that hold a number
abbrev Wide : List Span → Type 0
Wide ss = All (λ s. s.low ≤ s.high) ss

draws_in : (ss : List Span) (x : ℕ) → Wide ss → InSpans ss (draws ss x).values
unfolding InSpans draws drawn
draws_in [] x All.none = tt
draws_in (s ∷ ss) x (All.more h a) =
    let m : moved x % (s.high - s.low + 1) < s.high - s.low + 1 = mod-lt (moved x) (omega arith) in
    ((omega arith, omega arith), draws_in ss (moved x) a)

shuffle_wide : (m : ℕ) → Wide (shuffle_spans m)
unfolding shuffle_spans
shuffle_wide zero = All.none
shuffle_wide (suc zero) = All.none
shuffle_wide (suc (suc k)) = All.more {x = 0 to suc k} (omega arith) (shuffle_wide (suc k))

global_wide : (n : ℕ) → Wide (global_spans n)
unfolding global_spans
global_wide n =
    either_if Wide (ltb n 8) (λ e. shuffle_wide n)
    (λ e. let h : 8 ≤ n = ltb-false n 8 e in let q : 1 ≤ n / 4 = omega arith in
    All.more q (All.more q (All.more q (either_way Wide (ltb n 32) All.none (All.more {x = 0 to (n - 30)} (omega arith) (shuffle_wide 30))))))

spans_wide : (n kind : ℕ) → Wide (spans n kind)
unfolding spans kind_at
spans_wide n kind = go (ltb (longest n) 2) refl
  where
    pick : ℕ → List Span
    pick m = elim m as (λ x. List Span) [ zero ↦ (1 to longest n) ∷ (1 to longest n) ∷ (1 to longest n) ∷ (0 to (n - 1)) ∷ [] | suc k ↦ when eqb k 0 then ((1 to longest n) ∷ (1 to longest n) ∷ (0 to (n - 1)) ∷ []) else global_spans n ]

    any : 1 ≤ longest n → (m : ℕ) → Wide (pick m)
    any q zero = All.more q (All.more q (All.more q (All.more {x = 0 to (n - 1)} (omega arith) All.none)))
    any q (suc k) = either_way Wide (eqb k 0) (All.more q (All.more q (All.more {x = 0 to (n - 1)} (omega arith) All.none))) (global_wide n)

    go : (c : Bool) → ltb (longest n) 2 ≡ c → Wide (pick (when c then 2 else kind))
    go true e = global_wide n
    go false e = let h : 2 ≤ longest n = ltb-false (longest n) 2 e in any (omega arith) kind

-- a kick's draws are in its spans
pub kick_draws : (n kind x : ℕ) → InSpans (spans n kind) (draws (spans n kind) x).values
kick_draws n kind x = draws_in (spans n kind) x (spans_wide n kind)
