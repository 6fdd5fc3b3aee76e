-- Segments that change places: what the ends are gives the rule's kick; a double bridge is such a kick.
use Prim.Native.Nat.{ℕ, ◌+◌, ◌-◌, ◌%◌, ◌<◌}
use mathlib.Core.Path.{◌≡◌, refl, sym, ◌∙◌}
use mathlib.Core.Bool.{Bool, true, false}
use mathlib.Core.List.{List, [], ◌∷◌}
use native.Mathlib.Omega.{arith}
use lib.ListN.{length}
use borrow.Author.Tests.{ne_eqb}
use Rattle.rules.specs.Words.{Stop, Place, Round, Legs}
use Rattle.rules.specs.Lists.{at}
use Rattle.rules.specs.Journal.{Track, rotation, track_of, doing}
use Rattle.rules.specs.Kicks.{segment_kick, bridge_kick}
use Rattle.rules.specs.Queue.{push_all}
use Rattle.laws.proofs.TurnLaws.{On, low, high, turn_on, turn_mod}
use Rattle.ring.specs.Legs.{IsTime}
use Rattle.journal.specs.Journalled.{Moved}
use Rattle.queue.specs.Lines.{Waits}
use Rattle.kicks.specs.declared.cuts.Cut.{Cut}
use Rattle.kicks.specs.declared.ends.Ends.{Ends}
use Rattle.kicks.specs.Exchanging.{stop_on, joining, queued, joints_of, ends_queued, exchanged, EndsOf, exchange_kick, exchanging}
use Rattle.kicks.specs.Kicking.{Made}
use Rattle.kicks.proofs.KickingLaws.{tracked_moved, waits_as}

-- a segment kick is one
pub exchange_segment : (d : Legs) (a b c : ℕ) (start : Place) (t : Track) → exchange_kick false d a b c start t ≡ segment_kick d a b c start t
unfolding exchange_kick segment_kick stop_on queued
exchange_segment d a b c start t = refl

module _ (bridge : Bool) (d : Legs) (cut : Cut) (r : Round) (journal : List ℕ) (held : ℕ) {e : Ends} (g : EndsOf r cut e) where
  -- the ends, their legs and the rotation make up the kick
  pub exchange_made : {w : List Stop} {head : Place} {round : Round} {places : List Place} {journal' : List ℕ} {held' : ℕ} {queue flags : List ℕ} {head' : Place} {count added removed : ℕ}
      → Moved (doing (rotation cut.start.0 cut.a cut.b cut.c) (track_of r journal held)) journal held round places journal' held'
      → Waits (push_all w (ends_queued bridge cut.b e)) head queue flags head' count
      → IsTime 4 (joints_of d cut.b (exchanged e)) added → IsTime 4 (joints_of d cut.b e) removed
      → Made (exchanging bridge d cut (track_of r journal held)) 1 4 w head journal held round places journal' held' queue flags head' count added removed
  unfolding exchange_kick segment_kick stop_on joining track_of
  exchange_made {w = w} m v come go = record {
    moved = tracked_moved m;
    waits = waits_as w (ends_queued bridge cut.b e) v _ (rw (g.p_is.is, g.x0_is.is, g.x1_is.is, g.y0_is.is, g.y1_is.is, g.z0_is.is, g.z1_is.is, g.q_is.is) refl);
    added_is = record { is = come.is ∙ (rw (g.p_is.is, g.x0_is.is, g.x1_is.is, g.y0_is.is, g.y1_is.is, g.z0_is.is, g.z1_is.is, g.q_is.is) refl); small = come.small };
    removed_is = record { is = go.is ∙ (rw (g.p_is.is, g.x0_is.is, g.x1_is.is, g.y0_is.is, g.y1_is.is, g.z0_is.is, g.z1_is.is, g.q_is.is) refl); small = go.small };
  }

-- the double bridge A B C D to A D C B: B, C and D from the end of A on
pub exchange_bridge : (d : Legs) (la lb lc e : ℕ) (t : Track) → 0 < la → 0 < lb → 0 < lc → la + lb + lc < length t.round → e ≡ length t.round - (la + lb + lc)
    → exchange_kick true d lb lc e la t ≡ bridge_kick d la lb lc t
unfolding exchange_kick segment_kick bridge_kick stop_on queued
exchange_bridge d la lb lc e t ha hb hc h he =
    let r = t.round in
    let n = length r in
    let w : ℕ → Stop = λ k. at r ((la + k) % n) in
    let on : (k : ℕ) (m : Place) → k < n → On n la k m → w k ≡ at r m = λ k m hk o. sym (turn_mod la k r (omega arith) hk) ∙ turn_on la k m r (omega arith) hk o in
    let p : w (n - 1) ≡ at r (la - 1) = on (n - 1) (la - 1) (omega arith) (high (omega arith) (omega arith)) in
    let x0 : w 0 ≡ at r la = on 0 la (omega arith) (low (omega arith) (omega arith)) in
    let x1 : w (lb - 1) ≡ at r (la + lb - 1) = on (lb - 1) (la + lb - 1) (omega arith) (low (omega arith) (omega arith)) in
    let y0 : w lb ≡ at r (la + lb) = on lb (la + lb) (omega arith) (low (omega arith) (omega arith)) in
    let y1 : w (lb + lc - 1) ≡ at r (la + lb + lc - 1) = on (lb + lc - 1) (la + lb + lc - 1) (omega arith) (low (omega arith) (omega arith)) in
    let z0 : w (lb + lc) ≡ at r (la + lb + lc) = on (lb + lc) (la + lb + lc) (omega arith) (low (omega arith) (omega arith)) in
    let z1 : w (lb + lc + e - 1) ≡ at r (n - 1) = on (lb + lc + e - 1) (n - 1) (omega arith) (low (omega arith) (omega arith)) in
    let q : w (lb + lc + e) ≡ at r 0 = on (lb + lc + e) 0 (omega arith) (high (omega arith) (omega arith)) in
    let some : lc ≡ 0 → ⊥ = λ z. omega arith in
    rw (ne_eqb lc 0 some, p, x0, x1, y0, y1, z0, z1, q, he) (λ i. record {
      track = doing (rotation la lb lc (n - (la + lb + lc))) t;
      touched = at r 0 ∷ at r (la - 1) ∷ at r la ∷ at r (la + lb - 1) ∷ at r (la + lb) ∷ at r (la + lb + lc - 1) ∷ at r (la + lb + lc) ∷ at r (n - 1) ∷ [];
      added = come (d (at r (la - 1)) (at r (la + lb + lc))) (d (at r (n - 1)) (at r (la + lb))) (d (at r (la + lb + lc - 1)) (at r la)) (d (at r (la + lb - 1)) (at r 0)) i;
      removed = come (d (at r (la - 1)) (at r la)) (d (at r (la + lb - 1)) (at r (la + lb))) (d (at r (la + lb + lc - 1)) (at r (la + lb + lc))) (d (at r (n - 1)) (at r 0)) i;
    })
  where
    come : (a b c e : ℕ) → a + (b + c) + e ≡ a + b + c + e
    come a b c e = omega arith
