-- The loop of `lay`, and flags that are all 0.
use Prim.Native.Nat.{ℕ, ◌+◌, ◌≤◌, ◌<◌}
use mathlib.Core.Path.{◌≡◌, sym, ap, subst, ◌∙◌}
use mathlib.Core.Logic.{◌≢◌}
use mathlib.Core.Bool.{true}
use mathlib.Core.List.{List, []}
use native.Mathlib.Omega.{arith}
use native.Mathlib.Decide.{dec_lt}
use lib.ListN.{length, set, replicate, length-set, length-replicate, get_or-replicate}
use lib.Seq.{ext_get_or, get_or-set_other, get_or-set_same}
use Rattle.rules.specs.Words.{Place, Round}
use Rattle.rules.specs.Lists.{at, has}
use Rattle.rules.specs.Ring.{is_round, places_of}
use Rattle.rules.specs.Queue.{flags_of}
use Rattle.rules.specs.SharedWords.{Tied}
use Rattle.laws.proofs.TiedLaws.{round_tied}
use Rattle.laws.proofs.WaitLaws.{flags_of_length, flags_of_at}
use Rattle.loads.specs.Lying.{Laid}

-- the first i stops were copied, and their places written
pub record Laying (start round : Round) (places : List Place) (i : ℕ) : Type 0 where
  pub round_long : length round ≡ length start
  pub places_long : length places ≡ length start
  pub copied : (k : ℕ) → k < i → at round k ≡ at start k
  pub placed : (k : ℕ) → k < i → at places (at start k) ≡ k

module _ (start : Round) (is : is_round (length start) start ≡ true) (few : length start ≤ 4096) where
  tied : Tied start (places_of start)
  tied = round_tied (length start) start is few

  pub stop_below : (i : ℕ) → i < length start → at start i < length start
  stop_below = tied.stop

  -- a stop is there once
  apart : (k i : ℕ) → k < length start → i < length start → k < i → at start k ≢ at start i
  apart k i hk hi l e = omega (arith, tied.back k hk, tied.back i hi, ap (at (places_of start)) e)

  pub laying_turn : (round : Round) (places : List Place) (i : ℕ) → Laying start round places i → i < length start → Laying start (set round i (at start i)) (set places (at start i) i) (i + 1)
  laying_turn round places i l h =
      record {
        round_long = length-set round i (at start i) ∙ l.round_long;
        places_long = length-set places (at start i) i ∙ l.places_long;
        copied = λ k g. copy k (dec_lt k i) g;
        placed = λ k g. put k (dec_lt k i) g;
      }
    where
      copy : (k : ℕ) → Dec (k < i) → k < i + 1 → at (set round i (at start i)) k ≡ at start k
      copy k (yes q) g = let ne : k ≢ i = omega arith in get_or-set_other round i k (at start i) 0 ne ∙ l.copied k q
      copy k (no q) g = let e : k ≡ i = omega arith in rw e (get_or-set_same round i (at start i) 0 (omega (arith, l.round_long)))

      put : (k : ℕ) → Dec (k < i) → k < i + 1 → at (set places (at start i) i) (at start k) ≡ k
      put k (yes q) g = get_or-set_other places (at start i) (at start k) i 0 (apart k i (omega arith) h q) ∙ l.placed k q
      put k (no q) g = let e : k ≡ i = omega arith in rw e (get_or-set_same places (at start i) i 0 (omega (arith, l.places_long, tied.stop i h)))

  pub laying_done : (round : Round) (places : List Place) (i : ℕ) → Laying start round places i → length start ≤ i → Laid start round places
  laying_done round places i l h =
      record {
        round_is = ext_get_or 0 round start l.round_long (λ k g. l.copied k (omega (arith, l.round_long)));
        tied = subst (Tied start) (sym all) tied;
      }
    where
      all : places ≡ places_of start
      all = ext_get_or 0 places (places_of start) (l.places_long ∙ sym tied.same) (λ v g.
          let hv : v < length start = omega (arith, l.places_long) in
          let k : ℕ = at (places_of start) v in
          let hk : k < i = omega (arith, tied.place v hv) in
          ap (at places) (sym (tied.forth v hv)) ∙ l.placed k hk)

-- ---- flags
pub all_down : (n : ℕ) → replicate n 0 ≡ flags_of n []
unfolding has
all_down n =
    ext_get_or 0 (replicate n 0) (flags_of n []) (length-replicate {A = ℕ} n 0 ∙ sym (flags_of_length n [])) (λ k g.
    let hk : k < n = omega (arith, length-replicate {A = ℕ} n 0) in
    get_or-replicate {A = ℕ} n k 0 0 hk ∙ sym (flags_of_at n [] k hk))
