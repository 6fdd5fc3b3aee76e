-- A kick of kind 0 takes five journal entries at most: one where segments are long enough, else the shuffle of six places or fewer.
use Prim.Native.Nat.{ℕ, zero, suc, ◌+◌, ◌-◌, ◌*◌, ◌/◌, ◌≤◌, ◌<◌, min}
use mathlib.Core.Path.{◌≡◌, refl, sym, ap, ap₂, ◌∙◌}
use mathlib.Core.Bool.{Bool, true, false}
use mathlib.Core.List.{List, [], ◌∷◌}
use native.Mathlib.Omega.{arith}
use borrow.Author.Tests.{lt-ltb, ltb-true}
use lib.Dec.{eqb, ltb}
use lib.ListN.{length}
use Rattle.rules.specs.Words.{Legs, Place}
use Rattle.rules.specs.Lists.{when◌then◌else◌, at}
use Rattle.rules.specs.Draws.{Span, ◌to◌, draws}
use Rattle.rules.specs.Journal.{Track, track_of, entries_of, doing, swap}
use Rattle.rules.specs.Kicks.{Kicked, kick, kicked, kicked_state, kind_at, longest, spans, global_spans, global_kick, segment_kick, shuffle_kick, shuffled}
use Rattle.rules.specs.Plan.{leg_in}
use Rattle.rules.specs.State.{State}
use Rattle.rules.specs.Search.{Shaken, shaken}
use Rattle.rules.specs.Memory.{Lent, Carried, state_in}
use Rattle.laws.proofs.ChoiceLaws.{either_way}
use Rattle.laws.proofs.JournalLaws.{entries_of_length}
use Rattle.laws.proofs.SpanLaws.{InSpans, kick_draws, shuffle_in}
use Rattle.walks.specs.Walking.{Works, Shook}

-- a swap for each draw at most
shuffled_few : (start : Place) (vs : List ℕ) (t : Track) → length (shuffled start vs t).journal ≤ length t.journal + length vs
unfolding shuffled doing
shuffled_few start [] t = omega arith
shuffled_few start (v ∷ vs) t =
    let k = length (v ∷ vs) in
    let t' : Track = (when eqb v k then t else doing (swap (start + v) (start + k)) t) in
    let one : length t'.journal ≤ length t.journal + 1 = either_way (λ (u : Track). length u.journal ≤ length t.journal + 1) (eqb v k) (omega arith) (omega arith) in
    let rest : length (shuffled start vs t').journal ≤ length t'.journal + length vs = shuffled_few start vs t' in
    omega arith

six : (n : ℕ) → ltb (longest n) 2 ≡ true → n ≤ 6
unfolding longest
six n e = let h : min 200 ((n - 1) / 3) < 2 = ltb-true (min 200 ((n - 1) / 3)) 2 e in omega arith

module _ (d : Legs) (t : Track) where
  -- six stops or fewer
  global_few : (vs : List ℕ) → length t.round ≤ 6 → InSpans (global_spans (length t.round)) vs → length (global_kick d vs t).track.journal ≤ length t.journal + 5
  unfolding global_spans global_kick shuffle_kick
  global_few vs h f =
      let less : length t.round < 8 = omega arith in
      let e : ltb (length t.round) 8 ≡ true = lt-ltb (length t.round) 8 less in
      let g = shuffle_in (length t.round) vs (rw e at f) in
      rw e (omega (arith, shuffled_few 0 vs t, g.1))

  -- a segment kick is one rotation
  segment_few : (a b c : ℕ) (start : Place) → length (segment_kick d a b c start t).track.journal ≤ length t.journal + 5
  unfolding segment_kick doing
  segment_few a b c start = omega arith

  pub kick_short : (x : ℕ) → length (kick d 0 x t).made.track.journal ≤ length t.journal + 5
  unfolding kick kicked spans kind_at
  kick_short x = go (ltb (longest (length t.round)) 2) refl (draws (spans (length t.round) 0) x).values (kick_draws (length t.round) 0 x)
    where
      go : (c : Bool) → ltb (longest (length t.round)) 2 ≡ c → (vs : List ℕ)
          → InSpans (elim (when◌then◌else◌ {A = ℕ} c 2 0) as (λ m. List Span) [ zero ↦ (1 to longest (length t.round)) ∷ (1 to longest (length t.round)) ∷ (1 to longest (length t.round)) ∷ (0 to (length t.round - 1)) ∷ [] | suc k ↦ when eqb k 0 then ((1 to longest (length t.round)) ∷ (1 to longest (length t.round)) ∷ (0 to (length t.round - 1)) ∷ []) else global_spans (length t.round) ]) vs
          → length (elim (when◌then◌else◌ {A = ℕ} c 2 0) as (λ m. Kicked) [ zero ↦ segment_kick d (at vs 0) (at vs 1) (at vs 2) (at vs 3) t | suc k ↦ when eqb k 0 then segment_kick d (at vs 0) 0 (at vs 1) (at vs 2) t else global_kick d vs t ]).track.journal ≤ length t.journal + 5
      go true e vs f = global_few vs (six (length t.round) e) f
      go false e vs f = segment_few (at vs 0) (at vs 1) (at vs 2) (at vs 3)

-- ---- the loop of `shake`
-- i kicks were made, the others are left
pub record Shaking (goal : Shaken) (l : Lent) (c : Carried) (x i : ℕ) : Type 0 where
  pub works : Works l c
  pub most : i ≤ 32
  pub few : c.held ≤ 5 * i
  pub is : shaken (leg_in l.n l.matrix) (32 - i) 0 (state_in l c) x ≡ goal

pub shaking_starts : (l : Lent) (c : Carried) (x : ℕ) → Works l c → c.held ≡ 0 → Shaking (shaken (leg_in l.n l.matrix) 32 0 (state_in l c) x) l c x 0
shaking_starts l c x w e = record { works = w; most = omega arith; few = omega arith; is = refl }

-- there is room for the next
pub shaking_room : (goal : Shaken) (l : Lent) (c : Carried) (x i : ℕ) → Shaking goal l c x i → i < 32 → 5 * (c.held + 30) ≤ length l.journal
shaking_room goal l c x i s h = omega (arith, s.few, s.works.desk.room)

module _ (l : Lent) (c : Carried) (x : ℕ) {l' : Lent} {c' : Carried} {x' : ℕ} (k : Shook (shaken (leg_in l.n l.matrix) 1 0 (state_in l c) x) l' c' x') where
  shook_few : c'.held ≤ c.held + 5
  unfolding shaken kicked_state state_in track_of
  shook_few =
      let t : Track = track_of l.round l.journal c.held in
      let e : entries_of l'.journal c'.held ≡ (kick (leg_in l.n l.matrix) 0 x t).made.track.journal = ap (λ (s : State). s.track.journal) k.holds.is in
      omega (arith, kick_short (leg_in l.n l.matrix) t x, ap length e, entries_of_length l'.journal c'.held, entries_of_length l.journal c.held)

  shook_step : (m : ℕ) → shaken (leg_in l.n l.matrix) (suc m) 0 (state_in l c) x ≡ shaken (leg_in l.n l.matrix) m 0 (state_in l' c') x'
  unfolding shaken
  shook_step m = sym (λ i. shaken (leg_in l.n l.matrix) m 0 (k.holds.is i) (k.draw_is i))

  pub shaking_turn : (goal : Shaken) (i : ℕ) → l'.n ≡ l.n → l'.matrix ≡ l.matrix → i < 32 → Shaking goal l c x i → Shaking goal l' c' x' (i + 1)
  shaking_turn goal i en em h s =
      let m : 32 - i ≡ suc (32 - (i + 1)) = omega arith in
      let a : shaken (leg_in l.n l.matrix) (suc (32 - (i + 1))) 0 (state_in l c) x ≡ goal = rw m at s.is in
      record {
        works = k.holds.works;
        most = omega arith;
        few = omega (arith, s.few, shook_few);
        is = ap₂ (λ (n : ℕ) (z : List ℕ). shaken (leg_in n z) (32 - (i + 1)) 0 (state_in l' c') x') en em ∙ sym (shook_step (32 - (i + 1))) ∙ a;
      }

pub shaking_done : (goal : Shaken) (l : Lent) (c : Carried) (x i : ℕ) → Shaking goal l c x i → 32 ≤ i → Shook goal l c x
unfolding shaken
shaking_done goal l c x i s h =
    let z : 32 - i ≡ 0 = omega arith in
    let e : shaken (leg_in l.n l.matrix) 0 0 (state_in l c) x ≡ goal = rw z at s.is in
    record { holds = record { works = s.works; is = ap (λ (k : Shaken). k.state) e }; draw_is = ap (λ (k : Shaken). k.draw) e }
