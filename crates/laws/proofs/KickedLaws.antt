-- 01, 11: a whole kick, whatever it draws: the recount after it is the recount before with the legs that came, without those that went. No leg
-- is asked to take as long as its return.
use Prim.Native.Nat.{◌*◌, ◌-◌, ◌/◌, ◌<◌, ◌≤◌, suc, zero, ℕ}
use mathlib.Core.Path.{◌≡◌, refl, subst}
use mathlib.Core.Bool.{Bool, false, true}
use mathlib.Core.List.{List, [], ◌∷◌}
use native.Mathlib.Omega.{arith}
use lib.Dec.{eqb, ltb}
use lib.ListN.{drop, length}
use borrow.Author.Tests.{ltb-false, ltb-true}
use Rattle.rules.specs.Draws.{Span, ◌to◌, draws}
use Rattle.rules.specs.Journal.{Track}
use Rattle.rules.specs.Kicks.{Kicked, and_then, bridge_kick, global_kick, global_spans, kick, kicked, kicked_state, kind_at, longest, segment_kick, shuffle_kick, shuffle_spans, spans, window_kick}
use Rattle.rules.specs.Lists.{at, when◌then◌else◌}
use Rattle.rules.specs.Numbers.{long}
use Rattle.rules.specs.Queue.{push_all}
use Rattle.rules.specs.Ring.{recount}
use Rattle.rules.specs.State.{State}
use Rattle.rules.specs.Words.{Legs, Stop}
use Rattle.laws.proofs.DescendLaws.{Sound}
use Rattle.laws.proofs.EveryLaws.{Below}
use Rattle.laws.proofs.KickLaws.{Kicks, bridge_kicks, segment_kicks, shuffle_kicks, then_kicks, window_kicks}
use Rattle.laws.proofs.PermLaws.{Perm}
use Rattle.laws.proofs.QueueLaws.{push_all_some}
use Rattle.laws.proofs.RunLaws.{Stands, stands_since}
use Rattle.laws.proofs.SinceLaws.{since_length, since_more, since_perm}
use Rattle.laws.proofs.SpanLaws.{InSpans, drop_in, kick_draws, nth_in, shuffle_in}

kicks_more : {d : Legs} {t : Track} (j most : ℕ) (k : Kicked) → Kicks d t j k → j ≤ most → Kicks d t most k
kicks_more j most k h l = record { counted = h.counted; since = since_more j most h.since l; stops = h.stops; some = h.some }

-- three segments of the longest leave a stop over
longest_fits : (n : ℕ) → 1 ≤ n → 3 * longest n < n
unfolding longest
longest_fits n h = omega arith

module _ (d : Legs) (t : Track) (pm : Perm t.round) (pos : 1 ≤ length t.round) where
  -- three lengths, each from 1 to n/4
  bridged : (vs : List ℕ) (ss : List Span) → 8 ≤ length t.round → InSpans ((1 to length t.round / 4) ∷ (1 to length t.round / 4) ∷ (1 to length t.round / 4) ∷ ss) vs
      → Kicks d t 1 (bridge_kick d (at vs 0) (at vs 1) (at vs 2) t)
  bridged vs ss long f =
      let q = 1 to length t.round / 4 in
      let a = nth_in 0 [] q (q ∷ q ∷ ss) vs refl f in
      let b = nth_in 1 (q ∷ []) q (q ∷ ss) vs refl f in
      let c = nth_in 2 (q ∷ q ∷ []) q ss vs refl f in
      bridge_kicks d t pm (at vs 0) (at vs 1) (at vs 2) (omega (arith, a.0)) (omega (arith, b.0)) (omega (arith, c.0)) (omega (arith, a.1, b.1, c.1))

  global_kicks : (vs : List ℕ) → InSpans (global_spans (length t.round)) vs → Kicks d t 30 (global_kick d vs t)
  unfolding global_kick global_spans
  global_kicks vs f = go (ltb (length t.round) 8) refl f
    where
      go2 : 8 ≤ length t.round → (c : Bool) → ltb (length t.round) 32 ≡ c
          → InSpans ((1 to length t.round / 4) ∷ (1 to length t.round / 4) ∷ (1 to length t.round / 4) ∷ (when c then [] else ((0 to (length t.round - 30)) ∷ shuffle_spans 30))) vs
          → Kicks d t 30 (when c then bridge_kick d (at vs 0) (at vs 1) (at vs 2) t else and_then (bridge_kick d (at vs 0) (at vs 1) (at vs 2) t) (window_kick d (at vs 3) (drop 4 vs)))
      go2 long true e f = kicks_more 1 30 _ (bridged vs [] long f) (omega arith)
      go2 long false e f =
          let n = length t.round in
          let q = 1 to n / 4 in
          let w = 0 to (n - 30) in
          let big : 32 ≤ n = ltb-false n 32 e in
          let b = bridged vs (w ∷ shuffle_spans 30) long f in
          let left = nth_in 3 (q ∷ q ∷ q ∷ []) w (shuffle_spans 30) vs refl f in
          let g = shuffle_in 30 (drop 4 vs) (drop_in 4 (q ∷ q ∷ q ∷ w ∷ []) (shuffle_spans 30) vs refl f) in
          let k = bridge_kick d (at vs 0) (at vs 1) (at vs 2) t in
          let z : length k.track.round ≡ n = since_length b.since in
          then_kicks d t 1 29 k (window_kick d (at vs 3) (drop 4 vs)) b (window_kicks d k.track (since_perm b.since pm) (at vs 3) (drop 4 vs) g.0 g.1 (omega (arith, left.1)) (omega arith))

      go : (c : Bool) → ltb (length t.round) 8 ≡ c
          → InSpans (when c then shuffle_spans (length t.round) else ((1 to length t.round / 4) ∷ (1 to length t.round / 4) ∷ (1 to length t.round / 4) ∷ (when ltb (length t.round) 32 then [] else ((0 to (length t.round - 30)) ∷ shuffle_spans 30)))) vs
          → Kicks d t 30 (when c then shuffle_kick d vs t else (when ltb (length t.round) 32 then bridge_kick d (at vs 0) (at vs 1) (at vs 2) t else and_then (bridge_kick d (at vs 0) (at vs 1) (at vs 2) t) (window_kick d (at vs 3) (drop 4 vs))))
      go true e f =
          let g = shuffle_in (length t.round) vs f in
          let l : length vs ≡ length t.round - 1 = g.1 in
          kicks_more (length vs) 30 _ (shuffle_kicks d t pm vs g.0 (omega arith)) (omega (arith, ltb-true (length t.round) 8 e))
      go false e f = go2 (ltb-false (length t.round) 8 e) (ltb (length t.round) 32) refl f

  -- a kick of any kind, with any draws in its spans
  pub kicked_kicks : (kind : ℕ) (vs : List ℕ) → InSpans (spans (length t.round) kind) vs → Kicks d t 30 (kicked d kind vs t)
  unfolding kicked spans
  kicked_kicks kind vs f = go (kind_at (length t.round) kind) f
    where
      swaps : (c : Bool)
          → InSpans (when c then ((1 to longest (length t.round)) ∷ (1 to longest (length t.round)) ∷ (0 to (length t.round - 1)) ∷ []) else global_spans (length t.round)) vs
          → Kicks d t 30 (when c then segment_kick d (at vs 0) 0 (at vs 1) (at vs 2) t else global_kick d vs t)
      swaps true f =
          let n = length t.round in
          let q = 1 to longest n in
          let w = 0 to (n - 1) in
          let a = nth_in 0 [] q (q ∷ w ∷ []) vs refl f in
          let c = nth_in 1 (q ∷ []) q (w ∷ []) vs refl f in
          let s = nth_in 2 (q ∷ q ∷ []) w [] vs refl f in
          kicks_more 1 30 _ (segment_kicks d t pm (at vs 0) 0 (at vs 1) (at vs 2) (omega (arith, s.1, pos)) (omega (arith, a.0)) (omega (arith, c.0)) (omega (arith, a.1, c.1, longest_fits n pos))) (omega arith)
      swaps false f = global_kicks vs f

      go : (m : ℕ)
          → InSpans (elim m as (λ x. List Span) [ zero ↦ (1 to longest (length t.round)) ∷ (1 to longest (length t.round)) ∷ (1 to longest (length t.round)) ∷ (0 to (length t.round - 1)) ∷ [] | suc k ↦ when eqb k 0 then ((1 to longest (length t.round)) ∷ (1 to longest (length t.round)) ∷ (0 to (length t.round - 1)) ∷ []) else global_spans (length t.round) ]) vs
          → Kicks d t 30 (elim m as (λ x. Kicked) [ zero ↦ segment_kick d (at vs 0) (at vs 1) (at vs 2) (at vs 3) t | suc k ↦ when eqb k 0 then segment_kick d (at vs 0) 0 (at vs 1) (at vs 2) t else global_kick d vs t ])
      go zero f =
          let n = length t.round in
          let q = 1 to longest n in
          let w = 0 to (n - 1) in
          let a = nth_in 0 [] q (q ∷ q ∷ w ∷ []) vs refl f in
          let b = nth_in 1 (q ∷ []) q (q ∷ w ∷ []) vs refl f in
          let c = nth_in 2 (q ∷ q ∷ []) q (w ∷ []) vs refl f in
          let s = nth_in 3 (q ∷ q ∷ q ∷ []) w [] vs refl f in
          kicks_more 1 30 _ (segment_kicks d t pm (at vs 0) (at vs 1) (at vs 2) (at vs 3) (omega (arith, s.1, pos)) (omega (arith, a.0)) (omega (arith, c.0)) (omega (arith, a.1, b.1, c.1, longest_fits n pos))) (omega arith)
      go (suc k) f = swaps (eqb k 0) f

  -- a kick that draws
  pub kick_kicks : (kind x : ℕ) → Kicks d t 30 (kick d kind x t).made
  unfolding kick
  kick_kicks kind x = kicked_kicks kind (draws (spans (length t.round) kind) x).values (kick_draws (length t.round) kind x)

-- the round keeps its stops, the queue holds stops
pub kicked_state_stands : (d : Legs) (n : ℕ) (s : State) (k : Kicked) (most : ℕ) → Stands n s.track s.queue → Kicks d s.track most k → Stands n (kicked_state k s).track (kicked_state k s).queue
unfolding kicked_state
kicked_state_stands d n s k most h c = stands_since s.queue k.touched h c.since (subst (λ m. Below m k.touched) h.size c.stops)

kicked_state_time : (d : Legs) (n : ℕ) (s : State) (k : Kicked) (most : ℕ) → Sound d n s → Kicks d s.track most k → (kicked_state k s).time ≡ recount d (kicked_state k s).track.round
unfolding kicked_state
kicked_state_time d n s k most h c = omega (arith, c.counted.legs, h.carried)

-- the carried time stays the recount
pub kicked_state_sound : (d : Legs) (n : ℕ) (s : State) (k : Kicked) (most : ℕ) → Sound d n s → Kicks d s.track most k → Sound d n (kicked_state k s)
kicked_state_sound d n s k most h c = record { stands = kicked_state_stands d n s k most h.stands c; carried = kicked_state_time d n s k most h c }

pub kick_sound : (d : Legs) (n kind x : ℕ) (s : State) → 1 ≤ n → Sound d n s → Sound d n (kicked_state (kick d kind x s.track).made s)
kick_sound d n kind x s pos h = kicked_state_sound d n s (kick d kind x s.track).made 30 h (kick_kicks d s.track h.stands.perm (omega (arith, h.stands.size)) kind x)

-- somebody waits after it
pub kicked_some : (d : Legs) (s : State) (k : Kicked) (most : ℕ) → Kicks d s.track most k → 0 < length (kicked_state k s).queue
unfolding kicked_state
kicked_some d s k most c = go k.touched c.some
  where
    go : (vs : List Stop) → 0 < length vs → 0 < length (push_all s.queue vs)
    go [] h = absurd (omega arith)
    go (v ∷ vs) h = push_all_some s.queue v vs
