-- The queue on its ring of words: one stop more behind, one less in front.
use Prim.Native.Nat.{ℕ, suc, ◌+◌, ◌-◌, ◌≤◌, ◌<◌}
use mathlib.Core.Path.{◌≡◌, refl, sym, ap, ◌∙◌, subst}
use mathlib.Core.Bool.{true, false}
use mathlib.Core.List.{List, [], ◌∷◌, ◌++◌}
use native.Mathlib.Omega.{arith}
use native.Mathlib.Decide.{dec_lt}
use lib.ListN.{length, set, length-set, length-append, get_or-append}
use lib.Seq.{get_or-take, get_or_at}
use Rattle.rules.specs.Words.{Stop, Place}
use Rattle.rules.specs.Lists.{at, has, tally}
use Rattle.rules.specs.Ring.{next, turn}
use Rattle.rules.specs.Queue.{push, waiting, flags_of}
use Rattle.laws.proofs.EveryLaws.{at_below}
use Rattle.laws.proofs.PlaceLaws.{next_below}
use Rattle.laws.proofs.QueueLaws.{once_room, push_new, single_push, single_take, tally_once}
use Rattle.laws.proofs.WaitLaws.{flag_down, flag_up, flags_of_length, flags_of_push, flags_of_take, waiting_length, waiting_push, waiting_take}
use Rattle.ring.specs.Around.{around}
use Rattle.ring.specs.Legs.{Stops}
use Rattle.ring.proofs.AroundLaws.{on}
use Rattle.ring.proofs.TurnAtLaws.{at_turn}
use Rattle.queue.specs.Lines.{InLine, Waits, Took}

-- who waits i places behind the first
pub at_waiting : (queue : List ℕ) (head : Place) (count i : ℕ) → head < length queue → count ≤ length queue → i < count
    → at (waiting queue head count) i ≡ at queue (around (length queue) head i)
unfolding waiting
at_waiting queue head count i hh hc hi = get_or-take count (turn head queue) i 0 hi ∙ at_turn head i queue hh (omega arith)

-- ---- one more
stops_more : (q : List Stop) (v n : ℕ) → Stops q n → v < n → Stops (q ++ (v ∷ [])) n
stops_more q v n s h = record { below = λ i g. go i g (dec_lt i (length q)) }
  where
    go : (i : ℕ) → i < length (q ++ (v ∷ [])) → Dec (i < length q) → at (q ++ (v ∷ [])) i < n
    go i g (yes l) = rw (get_or-append q (v ∷ []) 0 i l) (s.below i l)
    go i g (no l) =
        let e : length q ≡ i = omega (arith, length-append q (v ∷ [])) in
        rw (get_or_at q v [] 0 i e) h

module _ (queue flags : List ℕ) (head : Place) (count : ℕ) (i : InLine queue flags head count) where
  -- a flag says who waits
  pub line_gone : (v : Stop) → v < length queue → at flags v ≡ 0 → has (waiting queue head count) v ≡ false
  line_gone v h e = flag_down (length queue) (waiting queue head count) v h (ap (λ (f : List ℕ). at f v) (sym i.agreed) ∙ e)

  pub line_waits : (v : Stop) → v < length queue → 0 < at flags v → has (waiting queue head count) v ≡ true
  line_waits v h e = flag_up (length queue) (waiting queue head count) v h (rw i.agreed at e)

  -- there is room for one who does not wait
  pub line_room : (v : Stop) → v < length queue → has (waiting queue head count) v ≡ false → count < length queue
  line_room v h gone =
      let r = once_room (length queue) (waiting queue head count) v (tally_once (waiting queue head count) i.single) (at_below (length queue) (waiting queue head count) i.stops.below) h gone in
      omega (arith, waiting_length queue head count i.room)

  pub line_pushed : (v : Stop) → v < length queue → has (waiting queue head count) v ≡ false
      → Waits (push (waiting queue head count) v) head (set queue (around (length queue) head count) v) (set flags v 1) head (count + 1)
  line_pushed v h gone =
      let n : ℕ = length queue in
      let q : List Stop = waiting queue head count in
      let r : count < n = line_room v h gone in
      let l : length (set queue (around n head count) v) ≡ n = length-set queue (around n head count) v in
      let w : waiting (set queue (around n head count) v) head (count + 1) ≡ q ++ (v ∷ []) = waiting_push queue head count (around n head count) v i.start r (on n head count) in
      record {
        is = w ∙ sym (push_new q v gone);
        head_is = refl;
        line = record {
          few = omega (arith, i.few);
          start = omega (arith, i.start);
          room = omega arith;
          stops = rw (l, w) (stops_more q v n i.stops h);
          single = rw w (single_push q v i.single gone);
          agreed = ap (λ (f : List ℕ). set f v 1) i.agreed ∙ sym (flags_of_push n q v h) ∙ ap (flags_of n) (push_new q v gone) ∙ sym (rw (l, w));
        };
      }

  -- ---- one less
  waiting_less : 0 < count → waiting queue head count ≡ at queue head ∷ waiting queue (next (length queue) head) (count - 1)
  waiting_less h =
      let q : count ≡ count - 1 + 1 = omega arith in
      ap (waiting queue head) q ∙ waiting_take queue head (count - 1) i.start (omega (arith, i.room))

  pub first_below : 0 < count → at queue head < length queue
  first_below h =
      let l : length (waiting queue head count) ≡ count = waiting_length queue head count i.room in
      let e : at (waiting queue head count) 0 ≡ at queue head = ap (λ (x : List Stop). at x 0) (waiting_less h) in
      omega (arith, i.stops.below 0 (omega arith))

  pub line_took : 0 < count → Took queue flags head count (at queue head) (set flags (at queue head) 0) (next (length queue) head) (count - 1)
  line_took h =
      let n : ℕ = length queue in
      let v : Stop = at queue head in
      let p : List Stop = waiting queue (next n head) (count - 1) in
      let w : waiting queue head count ≡ v ∷ p = waiting_less h in
      let s : (u : Stop) → tally (v ∷ p) u ≤ 1 = subst (λ (x : List Stop). (u : Stop) → tally x u ≤ 1) w i.single in
      let b : Stops (v ∷ p) n = subst (λ (x : List Stop). Stops x n) w i.stops in
      record {
        is = w;
        below = b.below 0 (omega arith);
        head_is = refl;
        count_is = omega arith;
        line = record {
          few = i.few;
          start = next_below n head i.start;
          room = omega (arith, i.room);
          stops = record { below = λ k g. b.below (suc k) (omega arith) };
          single = single_take v p s;
          agreed = ap (λ (f : List ℕ). set f v 0) (i.agreed ∙ ap (flags_of n) w) ∙ sym (flags_of_take n v p (b.below 0 (omega arith)) (tally_once (v ∷ p) s));
        };
      }

  pub length_flags_are : length flags ≡ length queue
  length_flags_are = ap length i.agreed ∙ flags_of_length (length queue) (waiting queue head count)

  -- nobody waits: the head may as well be 0
  pub line_cleared : count ≡ 0 → Waits [] 0 queue flags 0 0
  unfolding waiting tally
  line_cleared e =
      record {
        is = refl;
        head_is = refl;
        line = record {
          few = i.few;
          start = omega (arith, i.start);
          room = omega arith;
          stops = record { below = λ k g. absurd (omega arith) };
          single = λ v. let z : tally (waiting queue 0 0) v ≡ 0 = refl in omega arith;
          agreed = rw e at i.agreed;
        };
      }
