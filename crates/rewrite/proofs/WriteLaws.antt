-- The loops of `gather` and `put`, and what a run of writes leaves, as it is read from a place on.
use Prim.Native.Nat.{ℕ, zero, suc, ◌+◌, ◌≤◌, ◌<◌}
use mathlib.Core.Path.{◌≡◌, refl, sym, ap, ◌∙◌}
use mathlib.Core.Logic.{◌⊎◌, inl, inr}
use mathlib.Core.List.{List, [], ◌∷◌, ◌++◌}
use native.Mathlib.Omega.{arith}
use native.Mathlib.Numerals.{add-one}
use native.Mathlib.Decide.{ℕ_discrete}
use native.Mathlib.Nat.{add-zero}
use lib.ListN.{length, take, drop, set, length-set, drop_of_length-le}
use Rattle.rules.specs.Lists.{at}
use Rattle.rules.specs.Ring.{next, turn}
use Rattle.ring.specs.Around.{around}
use Rattle.ring.proofs.AroundLaws.{next_around}
use Rattle.ring.proofs.TurnAtLaws.{set_turn}
use Rattle.rewrite.specs.Writes.{writes, placings}
use lib.Seq.{drop-cons, take-suc, set_at, append_snoc, length-take-le, sets, get_or-set_same, get_or-set_other}

-- a turn of `gather`
pub gather_turn : (k : ℕ) (s d : List ℕ) → k < length s → k < length d → set (take k s ++ drop k d) k (at s k) ≡ take (k + 1) s ++ drop (k + 1) d
gather_turn k s d hs hd =
    rw (drop-cons d k 0 hd, set_at (take k s) (at d k) (drop (suc k) d) (at s k) k (length-take-le k s (omega arith)), add-one k, take-suc s k 0 hs)
    (sym (append_snoc (take k s) (at s k) (drop (suc k) d)))

-- a turn of `put`
pub writes_turn : (n i k : ℕ) (vs xs goal : List ℕ) → k < length vs → writes n i (drop k vs) xs ≡ goal → writes n (next n i) (drop (k + 1) vs) (set xs i (at vs k)) ≡ goal
unfolding writes
writes_turn n i k vs xs goal h e = rw (add-one k) (rw (drop-cons vs k 0 h) at e)

pub placings_turn : (n i k : ℕ) (vs ps goal : List ℕ) → k < length vs → placings n i (drop k vs) ps ≡ goal → placings n (next n i) (drop (k + 1) vs) (set ps (at vs k) i) ≡ goal
unfolding placings
placings_turn n i k vs ps goal h e = rw (add-one k) (rw (drop-cons vs k 0 h) at e)

pub writes_done : (n i k : ℕ) (vs xs goal : List ℕ) → length vs ≤ k → writes n i (drop k vs) xs ≡ goal → xs ≡ goal
unfolding writes
writes_done n i k vs xs goal h e = rw (drop_of_length-le vs h) at e

pub placings_done : (n i k : ℕ) (vs ps goal : List ℕ) → length vs ≤ k → placings n i (drop k vs) ps ≡ goal → ps ≡ goal
unfolding placings
placings_done n i k vs ps goal h e = rw (drop_of_length-le vs h) at e

pub length_writes : (n i : ℕ) (vs xs : List ℕ) → length (writes n i vs xs) ≡ length xs
unfolding writes
length_writes n i [] xs = refl
length_writes n i (v ∷ vs) xs = length_writes n (next n i) vs (set xs i v) ∙ length-set xs i v

pub length_placings : (n i : ℕ) (vs ps : List ℕ) → length (placings n i vs ps) ≡ length ps
unfolding placings
length_placings n i [] ps = refl
length_placings n i (v ∷ vs) ps = length_placings n (next n i) vs (set ps v i) ∙ length-set ps v i

-- a run of writes, as it is read from s on
pub turn_writes : (n s a : ℕ) (vs xs : List ℕ) → length xs ≡ n → s < n → a + length vs ≤ n
    → turn s (writes n (around n s a) vs xs) ≡ sets (turn s xs) a vs
unfolding writes
turn_writes n s a [] xs e hs h = refl
turn_writes n s a (v ∷ vs) xs e hs h =
    let ys : List ℕ = set xs (around n s a) v in
    let e' : length ys ≡ n = length-set xs _ _ ∙ e in
    let ih : turn s (writes n (around n s (a + 1)) vs ys) ≡ sets (turn s ys) (a + 1) vs = turn_writes n s (a + 1) vs ys e' hs (omega arith) in
    let w : turn s (set xs (around (length xs) s a) v) ≡ set (turn s xs) a v = set_turn s a v xs (omega arith) (omega arith) in
    let w' : turn s ys ≡ set (turn s xs) a v = rw e at w in
    rw (next_around n s a hs (omega arith)) (ih ∙ ap (λ (l : List ℕ). sets l (a + 1) vs) w' ∙ ap (λ (m : ℕ). sets (set (turn s xs) a v) m vs) (add-one a))

pub writes_append : (n s a : ℕ) (vs ws xs : List ℕ) → s < n → a + length vs ≤ n
    → writes n (around n s a) (vs ++ ws) xs ≡ writes n (around n s (a + length vs)) ws (writes n (around n s a) vs xs)
unfolding writes
writes_append n s a [] ws xs hs h = ap (λ (m : ℕ). writes n (around n s m) ws xs) (sym (add-zero a))
writes_append n s a (v ∷ vs) ws xs hs h =
    let q : a + 1 + length vs ≡ a + suc (length vs) = omega arith in
    cc (next_around n s a hs (omega arith), writes_append n s (a + 1) vs ws (set xs (around n s a) v) hs (omega arith))

pub placings_append : (n s a : ℕ) (vs ws ps : List ℕ) → s < n → a + length vs ≤ n
    → placings n (around n s a) (vs ++ ws) ps ≡ placings n (around n s (a + length vs)) ws (placings n (around n s a) vs ps)
unfolding placings
placings_append n s a [] ws ps hs h = ap (λ (m : ℕ). placings n (around n s m) ws ps) (sym (add-zero a))
placings_append n s a (v ∷ vs) ws ps hs h =
    let q : a + 1 + length vs ≡ a + suc (length vs) = omega arith in
    cc (next_around n s a hs (omega arith), placings_append n s (a + 1) vs ws (set ps v (around n s a)) hs (omega arith))

-- v is at t after a run of writes if every write of v puts it at t, and it was there already or is written
pub data Has (vs : List ℕ) (v : ℕ) : Type 0 where
  has : (j : ℕ) → j < length vs → at vs j ≡ v → Has vs v

pub placings_at : (n s a : ℕ) (vs ps : List ℕ) (v t : ℕ) → s < n → a + length vs ≤ n → v < length ps
    → ((j : ℕ) → j < length vs → at vs j ≡ v → around n s (a + j) ≡ t)
    → (at ps v ≡ t) ⊎ Has vs v
    → at (placings n (around n s a) vs ps) v ≡ t
unfolding placings
placings_at n s a [] ps v t hs h hv each (inl e) = e
placings_at n s a [] ps v t hs h hv each (inr (has j hj e)) = absurd (omega arith)
placings_at n s a (u ∷ us) ps v t hs h hv each d =
    rw (next_around n s a hs (omega arith))
    (placings_at n s (a + 1) us (set ps u (around n s a)) v t hs (omega arith) (simp length-set hv)
    (λ j hj e. let q : a + 1 + j ≡ a + suc j = omega arith in ap (around n s) q ∙ each (suc j) (omega arith) e)
    (go (ℕ_discrete v u) d))
  where
    go : Dec (v ≡ u) → (at ps v ≡ t) ⊎ Has (u ∷ us) v → (at (set ps u (around n s a)) v ≡ t) ⊎ Has us v
    go (yes e) d' =
        let q : around n s a ≡ t = ap (around n s) (sym (add-zero a)) ∙ each 0 (omega arith) (sym e) in
        inl (ap (λ (m : ℕ). at (set ps u (around n s a)) m) e ∙ get_or-set_same ps u _ 0 (omega arith) ∙ q)
    go (no g) (inl e) = inl (get_or-set_other ps u v _ 0 g ∙ e)
    go (no g) (inr (has zero hj e)) = absurd (g (sym e))
    go (no g) (inr (has (suc j) hj e)) = inr (has j (omega arith) e)
