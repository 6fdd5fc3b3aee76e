-- The parts of a global kick, as they are made.
use Prim.Native.Nat.{ℕ, ◌+◌, ◌-◌, ◌≤◌, ◌<◌}
use mathlib.Core.Path.{◌≡◌, refl, ap, subst}
use mathlib.Core.Bool.{true}
use mathlib.Core.List.{List}
use native.Mathlib.Omega.{arith}
use lib.ListN.{length, take}
use borrow.Author.Tests.{lt-ltb, le-ltb}
use Rattle.rules.specs.Words.{Stop, Place, Round, Legs}
use Rattle.rules.specs.Draws.{◌to◌, drawn, draws, moved}
use Rattle.rules.specs.Ring.{prev, turn, path_cost, recount}
use Rattle.rules.specs.Queue.{push_all}
use Rattle.rules.specs.Journal.{Track, track_of}
use Rattle.rules.specs.Kicks.{shuffle_spans, shuffled, shuffle_kick, window_kick, bridge_kick}
use Rattle.laws.proofs.DrawLaws.{draws_values, draws_state}
use Rattle.ring.specs.Legs.{IsTime}
use Rattle.journal.specs.Tracks.{track_in}
use Rattle.journal.proofs.GrewLaws.{grew_self}
use Rattle.queue.specs.Lines.{Waits}
use Rattle.work.specs.declared.work.Work.{Work}
use Rattle.kicks.specs.declared.Kicked.{Kicked as KickedOf}
use Rattle.kicks.specs.declared.cuts.Cut.{Cut}
use Rattle.kicks.specs.Drawing.{BridgeDrawn}
use Rattle.kicks.specs.Exchanging.{exchanging}
use Rattle.kicks.specs.Kicking.{Shuffled, MadeOn, Kicks, KicksOn, still, shuffle_drawn, window_drawn, global_drawn}
use Rattle.kicks.proofs.ExchangeLaws.{exchange_bridge}
use Rattle.kicks.proofs.GlobalLaws.{global_bridge}
use Rattle.kicks.proofs.KickingLaws.{waits_as, tracked_wider, time_wider, made_then}

module _ (d : Legs) (r : Round) (journal : List ℕ) (held x : ℕ) {q : List Stop} {head : Place} {round : Round} {places : List Place} {journal' : List ℕ} {held' : ℕ} {queue flags : List ℕ} {head' : Place} {count added removed new : ℕ} where
  -- all places shuffled
  pub shuffle_made : (len : ℕ) → len ≡ length r → length r < 8
      → Shuffled (shuffled 0 (draws (shuffle_spans len) x).values (track_of r journal held)) (draws (shuffle_spans len) x).state (len - 1) x journal held round places journal' held' new
      → Waits (push_all q round) head queue flags head' count
      → IsTime (length r) (recount d round) added → IsTime (length r) (recount d r) removed
      → Kicks (shuffle_drawn d x (track_of r journal held)) x 30 35 q head journal held round places journal' held' queue flags head' count added removed new
  unfolding shuffle_drawn shuffle_kick track_of
  shuffle_made len l few s w come go =
      let e : round ≡ (shuffled 0 (draws (shuffle_spans (length r)) x).values (track_of r journal held)).round = ap (λ (t : Track). t.round) (rw l at s.moved.is) in
      record {
        made = record {
          moved = tracked_wider 30 (omega arith) (rw l at s.moved);
          waits = waits_as q round w _ e;
          added_is = time_wider 35 (omega arith) (subst (λ (y : Round). IsTime (length r) (recount d y) added) e come);
          removed_is = time_wider 35 (omega arith) go;
        };
        state = rw l at s.state;
        some = s.some;
      }

  -- 30 places shuffled
  pub window_made : (x1 left first : ℕ) → 32 ≤ length r → x1 ≡ moved x → (0 < x → 0 < x1) → left ≡ drawn 0 (length r - 30) (moved x) → first ≡ prev (length r) left
      → Shuffled (shuffled left (draws (shuffle_spans 30) x1).values (track_of r journal held)) (draws (shuffle_spans 30) x1).state 29 x1 journal held round places journal' held' new
      → Waits (push_all q (take 32 (turn first round))) head queue flags head' count
      → IsTime 31 (path_cost d first 31 round) added → IsTime 31 (path_cost d first 31 r) removed
      → Kicks (window_drawn d x (track_of r journal held)) x 29 31 q head journal held round places journal' held' queue flags head' count added removed new
  unfolding window_drawn window_kick track_of
  window_made x1 left first big ex some el ef s w come go =
      let e : round ≡ (shuffled left (draws (shuffle_spans 30) x1).values (track_of r journal held)).round = ap (λ (t : Track). t.round) s.moved.is in
      rw (le-ltb (length r) 32 big, draws_values (0 to (length r - 30)) (shuffle_spans 30) x, draws_state (0 to (length r - 30)) (shuffle_spans 30) x, ← el, ← ef, ← ex)
      (record {
        made = record {
          moved = s.moved;
          waits = waits_as q (take 32 (turn first round)) w _ (ap (λ (y : Round). take 32 (turn first y)) e);
          added_is = subst (λ (y : Round). IsTime 31 (path_cost d first 31 y) added) e come;
          removed_is = go;
        };
        state = s.state;
        some = λ p. s.some (some p);
      })

-- no window below 32 stops
pub window_still : (d : Legs) (x : ℕ) (a : Work) → length a.track.now.stops.now < 32 → KicksOn (window_drawn d x (track_in a.track.now)) x 29 31 a a (record { added = 0; removed = 0 }) x
unfolding window_drawn still track_of push_all
window_still d x a h =
    let t = a.track.now in
    rw (lt-ltb (length t.stops.now) 32 h)
    (record {
      made = record {
        moved = record { is = refl; tied = t.tied; good = t.good; grew = grew_self t.journal.now t.held; high = omega arith };
        waits = record { is = refl; head_is = refl; line = a.queue.now.in_line };
        added_is = record { is = refl; small = omega arith };
        removed_is = record { is = refl; small = omega arith };
      };
      state = refl;
      some = λ p. p;
    })

-- a double bridge, and what follows it
pub bridge_made : (d : Legs) (x x3 : ℕ) (cut : Cut) (a b c : Work) (k w : KickedOf) (new : ℕ) → 8 ≤ length a.track.now.stops.now → BridgeDrawn (length a.track.now.stops.now) x x3 cut
    → MadeOn (exchanging true d cut (track_in a.track.now)) 1 4 a b k → KicksOn (window_drawn d x3 (track_in b.track.now)) x3 29 31 b c w new
    → KicksOn (global_drawn d x (track_in a.track.now)) x 30 35 a c (record { added = k.added + w.added; removed = k.removed + w.removed }) new
unfolding track_of
bridge_made d x x3 cut a b c k w new long g m o =
    let t = track_in a.track.now in
    let u = bridge_kick d cut.start.0 cut.a cut.b t in
    let e : exchanging true d cut t ≡ u = exchange_bridge d cut.start.0 cut.a cut.b cut.c t g.before g.segments.first g.middle (omega (arith, g.rest, g.segments.last)) g.rest in
    let m' = rw e at m in
    let o' = rw m'.moved.is at o in
    rw (global_bridge d x x3 cut.start.0 cut.a cut.b t long g.is)
    (record {
      made = made_then m' (window_drawn d x3 u.track).made o'.made;
      state = o'.state;
      some = λ p. o'.some (g.some p);
    })
