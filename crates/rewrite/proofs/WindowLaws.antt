-- A window of m places from s on, rewritten with the stops that stood there in another order, keeps round and places tied.
use Prim.Native.Nat.{ℕ, ◌+◌, ◌-◌, ◌≤◌, ◌<◌}
use mathlib.Core.Path.{◌≡◌, refl, sym, ap, ◌∙◌}
use mathlib.Core.Logic.{◌⊎◌, inl, inr}
use mathlib.Core.List.{List, ◌++◌}
use native.Mathlib.Omega.{arith}
use native.Mathlib.Nat.{zero-add}
use native.Mathlib.Decide.{dec_lt}
use lib.ListN.{length, drop, get_or-append}
use Rattle.rules.specs.Lists.{at}
use Rattle.rules.specs.Ring.{turn}
use Rattle.rules.specs.SharedWords.{Tied}
use Rattle.ring.specs.Around.{around}
use Rattle.ring.proofs.AroundLaws.{around_lt, around_0, around_inj, Steps, steps_to}
use Rattle.laws.proofs.TurnLaws.{turn_length}
use Rattle.ring.proofs.TurnAtLaws.{at_turn}
use Rattle.rewrite.specs.Writes.{writes, placings}
use Rattle.rewrite.proofs.WriteLaws.{turn_writes, length_writes, length_placings, placings_at, Has, has}
use lib.Seq.{sets, sets-eq, get_or-append-add, get_or-drop}

-- the writes of vs from s on, as they are read from s on
pub turn_written : (s : ℕ) (vs xs : List ℕ) → s < length xs → length vs ≤ length xs → turn s (writes (length xs) s vs xs) ≡ vs ++ drop (length vs) (turn s xs)
turn_written s vs xs hs h =
    let n : ℕ = length xs in
    let e : around n s 0 ≡ s = around_0 n s hs in
    let w : turn s (writes n (around n s 0) vs xs) ≡ sets (turn s xs) 0 vs = turn_writes n s 0 vs xs refl hs (omega arith) in
    let q : sets (turn s xs) 0 vs ≡ vs ++ drop (0 + length vs) (turn s xs) = sets-eq vs (turn s xs) 0 (omega (arith, turn_length s xs)) in
    ap (λ (m : ℕ). turn s (writes n m vs xs)) (sym e) ∙ w ∙ q ∙ ap (λ (m : ℕ). vs ++ drop m (turn s xs)) (zero-add (length vs))

-- R j i says that the j-th stop that is written is the i-th of those that stood there
pub record Order (R : ℕ → ℕ → Type 0) (s : ℕ) (vs xs : List ℕ) : Type 0 where
  pub start : s < length xs
  pub short : length vs ≤ length xs
  pub old : (j : ℕ) → j < length vs → (i : ℕ) × R j i
  pub new : (i : ℕ) → i < length vs → (j : ℕ) × (j < length vs) × R j i
  pub within : (j i : ℕ) → j < length vs → R j i → i < length vs
  pub same : (j i : ℕ) → j < length vs → R j i → at vs j ≡ at (turn s xs) i
  pub once : (j j' i : ℕ) → R j i → R j' i → j ≡ j'

module _ (R : ℕ → ℕ → Type 0) (s : ℕ) (vs xs ps : List ℕ) (t : Tied xs ps) (o : Order R s vs xs) where
  xs' : List ℕ
  xs' = writes (length xs) s vs xs

  ps' : List ℕ
  ps' = placings (length xs) s vs ps

  x_len : length xs' ≡ length xs
  unfolding xs'
  x_len = length_writes (length xs) s vs xs

  -- the stop at a steps from s
  x_at : (a : ℕ) → a < length xs → at xs' (around (length xs) s a) ≡ at (vs ++ drop (length vs) (turn s xs)) a
  unfolding xs'
  x_at a h =
      let w : at (turn s xs') a ≡ at xs' (around (length xs') s a) = at_turn s a xs' (omega (arith, o.start, x_len)) (omega (arith, x_len)) in
      sym (rw x_len at w) ∙ ap (λ (l : List ℕ). at l a) (turn_written s vs xs o.start o.short)

  x_in : (j : ℕ) → j < length vs → at xs' (around (length xs) s j) ≡ at vs j
  x_in j h = x_at j (omega (arith, o.short)) ∙ get_or-append vs _ 0 j h

  x_out : (a : ℕ) → length vs ≤ a → a < length xs → at xs' (around (length xs) s a) ≡ at xs (around (length xs) s a)
  x_out a h g =
      let q : a ≡ length vs + (a - length vs) = omega arith in
      x_at a g ∙ ap (λ (b : ℕ). at (vs ++ drop (length vs) (turn s xs)) b) q ∙ get_or-append-add vs (drop (length vs) (turn s xs)) (a - length vs) 0
      ∙ get_or-drop (length vs) (turn s xs) (a - length vs) 0 ∙ ap (λ (b : ℕ). at (turn s xs) b) (sym q) ∙ at_turn s a xs o.start g

  -- what was written stood at some place of the window
  v_is : (j i : ℕ) → j < length vs → R j i → at vs j ≡ at xs (around (length xs) s i)
  v_is j i h r = o.same j i h r ∙ at_turn s i xs o.start (omega (arith, o.short, o.within j i h r))

  -- the round holds each stop once
  x_inj : (a b : ℕ) → a < length xs → b < length xs → at xs (around (length xs) s a) ≡ at xs (around (length xs) s b) → a ≡ b
  x_inj a b ha hb e =
      let pa = t.back (around (length xs) s a) (around_lt _ s a o.start (omega arith)) in
      let pb = t.back (around (length xs) s b) (around_lt _ s b o.start (omega arith)) in
      around_inj (length xs) s a b o.start ha hb (cc (pa, pb, e))

  p_at : (v w : ℕ) → v < length xs → ((j : ℕ) → j < length vs → at vs j ≡ v → around (length xs) s j ≡ w) → (at ps v ≡ w) ⊎ Has vs v → at ps' v ≡ w
  unfolding ps'
  p_at v w hv each d =
      let e : around (length xs) s 0 ≡ s = around_0 (length xs) s o.start in
      rw e at (placings_at (length xs) s 0 vs ps v w o.start (omega (arith, o.short)) (omega (arith, t.same)) (λ j hj q. ap (around (length xs) s) (zero-add j) ∙ each j hj q) d)

  p_in : (j : ℕ) → j < length vs → at ps' (at vs j) ≡ around (length xs) s j
  p_in j h =
      let r = o.old j h in
      let hi : r.0 < length xs = omega (arith, o.short, o.within j r.0 h r.1) in
      p_at (at vs j) (around (length xs) s j)
      (rw (v_is j r.0 h r.1) (t.stop _ (around_lt _ s r.0 o.start (omega arith))))
      (λ j' h' q.
      let r' = o.old j' h' in
      let hi' : r'.0 < length xs = omega (arith, o.short, o.within j' r'.0 h' r'.1) in
      let i_is : r'.0 ≡ r.0 = x_inj r'.0 r.0 hi' hi (sym (v_is j' r'.0 h' r'.1) ∙ q ∙ v_is j r.0 h r.1) in
      ap (around (length xs) s) (o.once j' j r.0 (rw i_is at r'.1) r.1))
      (inr (has j h refl))

  p_out : (a : ℕ) → length vs ≤ a → a < length xs → at ps' (at xs (around (length xs) s a)) ≡ around (length xs) s a
  p_out a h g =
      let ha : around (length xs) s a < length xs = around_lt _ s a o.start (omega arith) in
      p_at (at xs (around (length xs) s a)) (around (length xs) s a) (t.stop _ ha)
      (λ j hj q.
      let r = o.old j hj in
      let hi : r.0 < length vs = o.within j r.0 hj r.1 in
      let i_is : r.0 ≡ a = x_inj r.0 a (omega (arith, o.short)) g (sym (v_is j r.0 hj r.1) ∙ q) in
      absurd (omega arith))
      (inl (t.back _ ha))

  -- where the stop v now is
  record Now (v : ℕ) : Type 0 where
    steps : ℕ
    short : steps < length xs
    place : at ps' v ≡ around (length xs) s steps
    stop : at xs' (around (length xs) s steps) ≡ v

  now_of : (v : ℕ) → v < length xs → Now v
  now_of v hv = go (dec_lt k.steps (length vs))
    where
      k : Steps (length xs) s (at ps v)
      k = steps_to (length xs) s (at ps v) o.start (t.place v hv)

      v_at : at xs (around (length xs) s k.steps) ≡ v
      v_at = ap (λ (b : ℕ). at xs b) (sym k.there) ∙ t.forth v hv

      go : Dec (k.steps < length vs) → Now v
      go (yes h) =
          let r = o.new k.steps h in
          let e : at vs r.0 ≡ v = v_is r.0 k.steps r.1 r.2 ∙ v_at in
          record { steps = r.0; short = omega (arith, o.short, r.1); place = ap (λ (b : ℕ). at ps' b) (sym e) ∙ p_in r.0 r.1; stop = x_in r.0 r.1 ∙ e }
      go (no h) =
          record { steps = k.steps; short = k.short; place = ap (λ (b : ℕ). at ps' b) (sym v_at) ∙ p_out k.steps (omega arith) k.short; stop = x_out k.steps (omega arith) k.short ∙ v_at }

  -- which stop is now at the place k
  record Here (k : ℕ) : Type 0 where
    stop : at xs' k < length xs
    place : at ps' (at xs' k) ≡ k

  here_of : (k : ℕ) → k < length xs → Here k
  here_of k hk = go (dec_lt a.steps (length vs))
    where
      a : Steps (length xs) s k
      a = steps_to (length xs) s k o.start hk

      go : Dec (a.steps < length vs) → Here k
      go (yes h) =
          let r = o.old a.steps h in
          let e : at xs' k ≡ at vs a.steps = ap (λ (b : ℕ). at xs' b) a.there ∙ x_in a.steps h in
          let hi : r.0 ≤ length xs = omega (arith, o.short, o.within a.steps r.0 h r.1) in
          record {
            stop = rw (e, v_is a.steps r.0 h r.1) (t.stop _ (around_lt _ s r.0 o.start hi));
            place = ap (λ (b : ℕ). at ps' b) e ∙ p_in a.steps h ∙ sym a.there;
          }
      go (no h) =
          let e : at xs' k ≡ at xs (around (length xs) s a.steps) = ap (λ (b : ℕ). at xs' b) a.there ∙ x_out a.steps (omega arith) a.short in
          record {
            stop = rw e (t.stop _ (around_lt _ s a.steps o.start (omega (arith, a.short))));
            place = ap (λ (b : ℕ). at ps' b) e ∙ p_out a.steps (omega arith) a.short ∙ sym a.there;
          }

  pub tied_window : Tied (writes (length xs) s vs xs) (placings (length xs) s vs ps)
  unfolding xs' ps'
  tied_window = rw'
    where
      rw' : Tied xs' ps'
      rw' = record {
        few = omega (arith, x_len, t.few);
        same = length_placings (length xs) s vs ps ∙ t.same ∙ sym x_len;
        stop = λ k h. rw x_len (here_of k (omega (arith, x_len))).stop;
        place = λ v h. let w = now_of v (omega (arith, x_len)) in rw (x_len, w.place) (around_lt _ s w.steps o.start (omega (arith, w.short)));
        back = λ k h. (here_of k (omega (arith, x_len))).place;
        forth = λ v h. let w = now_of v (omega (arith, x_len)) in ap (λ (b : ℕ). at xs' b) w.place ∙ w.stop;
      }
