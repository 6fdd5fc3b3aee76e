-- 01, 11: each kick counts its legs right, journals few entries, all in range, and queues stops, at least one. No leg is asked to take as
-- long as its return.
use Prim.Native.Nat.{◌%◌, ◌+◌, ◌-◌, ◌<◌, ◌≤◌, ℕ}
use mathlib.Core.Path.{◌≡◌, subst}
use mathlib.Core.List.{List, [], ◌++◌, ◌∷◌}
use native.Mathlib.Nat.{mod-lt}
use native.Mathlib.Omega.{arith}
use lib.Dec.{eqb}
use lib.ListN.{drop, length, length-append, take}
use lib.Seq.{length-take-le}
use Rattle.rules.specs.Journal.{Track, doing, swap}
use Rattle.rules.specs.Kicks.{Kicked, and_then, bridge_kick, segment_kick, shuffle_kick, shuffled, window_kick}
use Rattle.rules.specs.Lists.{at, when◌then◌else◌}
use Rattle.rules.specs.Numbers.{long}
use Rattle.rules.specs.Ring.{prev, turn}
use Rattle.rules.specs.Words.{Legs, Place}
use Rattle.laws.proofs.ChoiceLaws.{either_way}
use Rattle.laws.proofs.EveryLaws.{Below, all_drop, all_join, all_take, more, none}
use Rattle.laws.proofs.KickTimeLaws.{Counted, Shuffles, bridge_counted, segment_counted, shuffle_counted, then_counted, window_counted}
use Rattle.laws.proofs.PermLaws.{Perm, perm_at, perm_below}
use Rattle.laws.proofs.RangeLaws.{in_swap}
use Rattle.laws.proofs.SinceLaws.{Since, since_doing, since_length, since_more, since_perm, since_refl, since_rotating, since_since}
use Rattle.laws.proofs.TurnLaws.{turn_length}

-- a kick with at most so many entries
pub record Kicks (d : Legs) (t : Track) (most : ℕ) (k : Kicked) : Type 0 where
  pub counted : Counted d t k
  pub since : Since t most k.track
  pub stops : Below (length t.round) k.touched
  pub some : 0 < length k.touched

-- ---- the kicks one by one
module _ (d : Legs) (t : Track) (pm : Perm t.round) where
  stop : (i : Place) → i < length t.round → at t.round i < length t.round
  stop = perm_at t.round pm

  -- p X Y Z q to p Z Y X q
  pub segment_kicks : (a b c : ℕ) (start : Place) → start < length t.round → 0 < a → 0 < c → a + b + c < length t.round → Kicks d t 1 (segment_kick d a b c start t)
  unfolding segment_kick
  segment_kicks a b c start hs ha hc h = record { counted = segment_counted d t a b c start hs ha hc h; since = since_rotating t start a b c hs (omega arith); stops = low; some = omega arith }
    where
      w : (k : ℕ) → at t.round ((start + k) % length t.round) < length t.round
      w k = stop ((start + k) % length t.round) (mod-lt (start + k) (omega (arith, hs)))

      low : Below (length t.round) (segment_kick d a b c start t).touched
      low = more (w _) (more (w _) (more (w _) (more (w _) (more (w _) (more (w _) (either_way (Below (length t.round)) (eqb b 0) none (more (w _) (more (w _) none))))))))

  -- A B C D to A D C B
  pub bridge_kicks : (la lb lc : ℕ) → 0 < la → 0 < lb → 0 < lc → la + lb + lc < length t.round → Kicks d t 1 (bridge_kick d la lb lc t)
  unfolding bridge_kick
  bridge_kicks la lb lc ha hb hc h =
      let n = length t.round in
      let a0 = stop 0 (omega arith) in
      let a1 = stop (la - 1) (omega arith) in
      let b0 = stop la (omega arith) in
      let b1 = stop (la + lb - 1) (omega arith) in
      let c0 = stop (la + lb) (omega arith) in
      let c1 = stop (la + lb + lc - 1) (omega arith) in
      let d0 = stop (la + lb + lc) h in
      let d1 = stop (n - 1) (omega arith) in
      record {
        counted = bridge_counted d t la lb lc ha hb hc h;
        since = since_rotating t la lb lc (n - (la + lb + lc)) (omega arith) (omega arith);
        stops = more a0 (more a1 (more b0 (more b1 (more c0 (more c1 (more d0 (more d1 none)))))));
        some = omega arith;
      }

-- ---- shuffles: a swap for a draw at most
since_shuffled : (start : Place) (vs : List ℕ) (t : Track) → Shuffles vs → start + length vs < length t.round → Since t (length vs) (shuffled start vs t)
unfolding shuffled
since_shuffled start [] t Shuffles.none h = since_refl 0 t
since_shuffled start (v ∷ vs) t (Shuffles.more q c) h =
    let n = length t.round in
    let k = length (v ∷ vs) in
    let u = (when eqb v k then t else doing (swap (start + v) (start + k)) t) in
    let lv : start + v < n = omega arith in
    let lk : start + k < n = omega arith in
    let one : Since t 1 u = either_way (Since t 1) (eqb v k) (since_refl 1 t) (since_doing (swap (start + v) (start + k)) t (in_swap n (start + v) (start + k) lv lk)) in
    let all = since_since one (since_shuffled start vs u c (omega (arith, since_length one))) in
    since_more (1 + length vs) k all (omega arith)

module _ (d : Legs) (t : Track) (pm : Perm t.round) where
  shuffled_below : (k : ℕ) (start : Place) (vs : List ℕ) → Since t k (shuffled start vs t) → Below (length t.round) (shuffled start vs t).round
  shuffled_below k start vs s = subst (λ n. Below n (shuffled start vs t).round) (since_length s) (perm_below (shuffled start vs t).round (since_perm s pm))

  -- all n places
  pub shuffle_kicks : (vs : List ℕ) → Shuffles vs → length vs < length t.round → Kicks d t (length vs) (shuffle_kick d vs t)
  unfolding shuffle_kick
  shuffle_kicks vs c h =
      let s = since_shuffled 0 vs t c (omega arith) in
      record { counted = shuffle_counted d t vs; since = s; stops = shuffled_below (length vs) 0 vs s; some = omega (arith, since_length s) }

  -- 30 places from `left` on
  pub window_kicks : (left : Place) (vs : List ℕ) → Shuffles vs → length vs ≡ 29 → left + 30 ≤ length t.round → 32 ≤ length t.round → Kicks d t 29 (window_kick d left vs t)
  unfolding window_kick turn
  window_kicks left vs c l fits long =
      let s = since_shuffled left vs t c (omega arith) in
      let r = (shuffled left vs t).round in
      let first = prev (length t.round) left in
      let low = shuffled_below (length vs) left vs s in
      let whole : Below (length t.round) (drop first r ++ take first r) = all_join (drop first r) (take first r) (all_drop first r low) (all_take first r low) in
      let e : length (drop first r ++ take first r) ≡ length r = turn_length first r in
      record {
        counted = window_counted d t left vs c l fits long;
        since = since_more (length vs) 29 s (omega arith);
        stops = all_take 32 (drop first r ++ take first r) whole;
        some = omega (arith, length-take-le 32 (drop first r ++ take first r) (omega (arith, since_length s)));
      }

-- one kick after another
pub then_kicks : (d : Legs) (t : Track) (j m : ℕ) (k : Kicked) (other : Track → Kicked) → Kicks d t j k → Kicks d k.track m (other k.track) → Kicks d t (j + m) (and_then k other)
unfolding and_then
then_kicks d t j m k other a b =
    let o = other k.track in
    record {
      counted = then_counted d t k other a.counted b.counted;
      since = since_since a.since b.since;
      stops = all_join k.touched o.touched a.stops (subst (λ n. Below n o.touched) (since_length a.since) b.stops);
      some = omega (arith, a.some, length-append k.touched o.touched);
    }
