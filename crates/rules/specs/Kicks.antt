-- 01, "The port", 11: kicks. n and the kind decide a kick's spans, so what it draws (`spans`) and what it does with that (`kicked`) are
-- apart. Assumes nothing.
use Rattle.std.specs.Prelude.{ℕ, zero, suc, ◌+◌, ◌-◌, ◌/◌, ◌%◌, min, List, [], ◌∷◌, ◌++◌, ltb, eqb, length, take, drop}
use Rattle.rules.specs.Words.{Stop, Place, Time, Legs}
use Rattle.rules.specs.Lists.{when◌then◌else◌, at}
use Rattle.rules.specs.Draws.{Span, ◌to◌, draws}
use Rattle.rules.specs.Ring.{prev, turn, path_cost, recount}
use Rattle.rules.specs.Queue.{push_all}
use Rattle.rules.specs.Journal.{Track, rotation, swap, doing}
use Rattle.rules.specs.State.{State}

-- "Longest segment: the lesser of 200 and (n-1)/3"
unfoldable pub longest : ℕ → ℕ
longest n = min 200 ((n - 1) / 3)

-- "under 2 it becomes a global kick": the kind that is carried out
unfoldable pub kind_at : ℕ → ℕ → ℕ
kind_at n kind = when ltb (longest n) 2 then 2 else kind

-- ---- what is drawn
-- "A shuffle draws from 0 to k, k falling from length-1 to 1"
unfoldable pub shuffle_spans : ℕ → List Span
shuffle_spans zero = []
shuffle_spans (suc zero) = []
shuffle_spans (suc (suc k)) = (0 to suc k) ∷ shuffle_spans (suc k)

-- "Global below 8 stops: shuffle all. Else three lengths, each from 1 to n/4; at 32 stops or more it then draws a left place from 0 to n-30
-- and shuffles 30 places"
unfoldable pub global_spans : ℕ → List Span
global_spans n =
    let length4 = 1 to n / 4 in
    when ltb n 8 then shuffle_spans n else
    (length4 ∷ length4 ∷ length4 ∷ (when ltb n 32 then [] else ((0 to (n - 30)) ∷ shuffle_spans 30)))

-- "Draw order: a, b, c, start. Swap kick: no b"
unfoldable pub spans : ℕ → ℕ → List Span
spans n kind =
    let segment = 1 to longest n in
    let start = 0 to (n - 1) in
    elim (kind_at n kind) [
      | zero ↦ segment ∷ segment ∷ segment ∷ start ∷ []
      | suc k ↦ when eqb k 0 then (segment ∷ segment ∷ start ∷ []) else global_spans n
    ]

-- ---- what is done with it: the track, the stops that the source queues, in its order, the legs that come and those that go
pub record Kicked : Type 0 where
  pub track : Track
  pub touched : List Stop
  pub added : Time
  pub removed : Time

-- `shuffle` of the places from `start` on: the first of k draws is for place start + k
unfoldable pub shuffled : Place → List ℕ → Track → Track
shuffled start [] t = t
shuffled start (v ∷ vs) t =
    let k = length (v ∷ vs) in
    shuffled start vs (when eqb v k then t else doing (swap (start + v) (start + k)) t)

-- a segment kick: p X Y Z q becomes p Z Y X q; without Y p X Z q becomes p Z X q
unfoldable pub segment_kick : Legs → ℕ → ℕ → ℕ → Place → Track → Kicked
segment_kick d a b c start t =
    let n = length t.round in
    let w : ℕ → Stop = λ k. at t.round ((start + k) % n) in
    let p = w (n - 1) in
    let x0 = w 0 in
    let x1 = w (a - 1) in
    let y0 = w a in
    let y1 = w (a + b - 1) in
    let z0 = w (a + b) in
    let z1 = w (a + b + c - 1) in
    let q = w (a + b + c) in
    let no_y = eqb b 0 in
    record {
      track = doing (rotation start a b c) t;
      touched = p ∷ x0 ∷ x1 ∷ z0 ∷ z1 ∷ q ∷ (when no_y then [] else (y0 ∷ y1 ∷ []));
      added = d p z0 + (when no_y then d z1 x0 else d z1 y0 + d y1 x0) + d x1 q;
      removed = d p x0 + (when no_y then d x1 z0 else d x1 y0 + d y1 z0) + d z1 q;
    }

-- all places shuffled: every leg is counted anew
unfoldable pub shuffle_kick : Legs → List ℕ → Track → Kicked
shuffle_kick d vs t =
    let t' = shuffled 0 vs t in
    record { track = t'; touched = t'.round; added = recount d t'.round; removed = recount d t.round }

-- three lengths: A B C D becomes A D C B
unfoldable pub bridge_kick : Legs → ℕ → ℕ → ℕ → Track → Kicked
bridge_kick d la lb lc t =
    let n = length t.round in
    let w : Place → Stop = at t.round in
    let b = la + lb in
    let c = la + lb + lc in
    record {
      track = doing (rotation la lb lc (n - c)) t;
      touched = w 0 ∷ w (la - 1) ∷ w la ∷ w (b - 1) ∷ w b ∷ w (c - 1) ∷ w c ∷ w (n - 1) ∷ [];
      added = d (w (la - 1)) (w c) + d (w (n - 1)) (w b) + d (w (c - 1)) (w la) + d (w (b - 1)) (w 0);
      removed = d (w (la - 1)) (w la) + d (w (b - 1)) (w b) + d (w (c - 1)) (w c) + d (w (n - 1)) (w 0);
    }

-- 30 places from `left` on shuffled: the legs of the window and the two beside it, its stops and the two beside it
unfoldable pub window_kick : Legs → Place → List ℕ → Track → Kicked
window_kick d left vs t =
    let first = prev (length t.round) left in
    let t' = shuffled left vs t in
    record { track = t'; touched = take 32 (turn first t'.round); added = path_cost d first 31 t'.round; removed = path_cost d first 31 t.round }

-- one kick after another
unfoldable pub and_then : Kicked → (Track → Kicked) → Kicked
and_then k more =
    let m = more k.track in
    record { track = m.track; touched = k.touched ++ m.touched; added = k.added + m.added; removed = k.removed + m.removed }

-- `global_kick`
unfoldable pub global_kick : Legs → List ℕ → Track → Kicked
global_kick d vs t =
    let n = length t.round in
    let bridge = bridge_kick d (at vs 0) (at vs 1) (at vs 2) t in
    when ltb n 8 then shuffle_kick d vs t else
    when ltb n 32 then bridge else
    and_then bridge (window_kick d (at vs 3) (drop 4 vs))

-- "Kick kind: 0 SegmentDoubleBridge, 1 SegmentSwap, 2 Global", with what it drew
unfoldable pub kicked : Legs → ℕ → List ℕ → Track → Kicked
kicked d kind vs t =
    elim (kind_at (length t.round) kind) [
      | zero ↦ segment_kick d (at vs 0) (at vs 1) (at vs 2) (at vs 3) t
      | suc k ↦ when eqb k 0 then segment_kick d (at vs 0) 0 (at vs 1) (at vs 2) t else global_kick d vs t
    ]

-- the state with a kick made: the time with the legs that come, without those that go
unfoldable pub kicked_state : Kicked → State → State
kicked_state k s = record { track = k.track; queue = push_all s.queue k.touched; time = s.time + k.added - k.removed }

-- `kick`: what was done, and the draw state that is left
pub record Kick : Type 0 where
  pub made : Kicked
  pub draw : ℕ

unfoldable pub kick : Legs → ℕ → ℕ → Track → Kick
kick d kind x t =
    let g = draws (spans (length t.round) kind) x in
    record { made = kicked d kind g.values t; draw = g.state }
