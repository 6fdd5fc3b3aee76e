-- 01, 11: what a kick adds and removes is what the recount changes by. No leg is asked to take as long as its return.
use Prim.Native.Nat.{◌%◌, ◌+◌, ◌-◌, ◌<◌, ◌≤◌, suc, zero, ℕ}
use mathlib.Core.Path.{◌∙◌, ◌≡◌, ap₂, refl, subst, sym}
use mathlib.Core.Logic.{◌≢◌}
use mathlib.Core.List.{List, [], ◌∷◌}
use native.Mathlib.Omega.{arith}
use lib.Dec.{eqb, eqb-suc-zero}
use lib.ListN.{length, set}
use lib.Seq.{get_or-set_other}
use Rattle.rules.specs.Draws.{drawn}
use Rattle.rules.specs.Journal.{Track, carry_out, doing}
use Rattle.rules.specs.Kicks.{Kicked, and_then, bridge_kick, segment_kick, shuffle_kick, shuffled, window_kick}
use Rattle.rules.specs.Lists.{at}
use Rattle.rules.specs.Numbers.{long}
use Rattle.rules.specs.Rewrite.{swap_at}
use Rattle.rules.specs.Ring.{prev, recount, turn}
use Rattle.rules.specs.Words.{Legs, Place, Round, Stop}
use Rattle.laws.proofs.ChoiceLaws.{either_way}
use Rattle.laws.proofs.PlaceLaws.{on_before}
use Rattle.laws.proofs.RewriteLaws.{swap_at_length}
use Rattle.laws.proofs.SegmentLaws.{rotate2_time, rotate3_time}
use Rattle.laws.proofs.TurnLaws.{On, high, low, on_below, on_mod, turn_mod, turn_on}
use Rattle.laws.proofs.WindowLaws.{window_time}

-- the recount after a kick with the legs that went is the recount before with the legs that came
pub record Counted (d : Legs) (t : Track) (k : Kicked) : Type 0 where
  pub legs : recount d k.track.round + k.removed ≡ recount d t.round + k.added

-- ---- the segment kicks
pub segment_counted : (d : Legs) (t : Track) (a b c : ℕ) (start : Place) → start < length t.round → 0 < a → 0 < c → a + b + c < length t.round → Counted d t (segment_kick d a b c start t)
unfolding segment_kick doing carry_out
segment_counted d t a zero c start hs ha hc h =
    let r = t.round in
    let w : ℕ → Stop = λ k. at r ((start + k) % length r) in
    let i : a + 0 ≡ a = omega arith in
    let g = rotate2_time d r start hs w (λ k hk. turn_mod start k r hs hk) a c ha hc (omega arith) in
    record { legs = rw i (omega (arith, g)) }
segment_counted d t a (suc b) c start hs ha hc h =
    let r = t.round in
    let w : ℕ → Stop = λ k. at r ((start + k) % length r) in
    let g = rotate3_time d r start hs w (λ k hk. turn_mod start k r hs hk) a (suc b) c ha (omega arith) hc h in
    record { legs = rw (eqb-suc-zero b) (omega (arith, g)) }

-- ---- the double bridge: A B C D to A D C B
pub bridge_counted : (d : Legs) (t : Track) (la lb lc : ℕ) → 0 < la → 0 < lb → 0 < lc → la + lb + lc < length t.round → Counted d t (bridge_kick d la lb lc t)
unfolding bridge_kick doing carry_out
bridge_counted d t la lb lc ha hb hc h =
    let r = t.round in
    let n = length r in
    let e = n - (la + lb + lc) in
    let w : ℕ → Stop = λ k. at (turn la r) k in
    let g = rotate3_time d r la (omega arith) w (λ k hk. refl) lb lc e hb hc (omega arith) (omega arith) in
    let on : (k : ℕ) (m : Place) → k < n → On n la k m → w k ≡ at r m = λ k m hk o. turn_on la k m r (omega arith) hk o in
    let p = on (n - 1) (la - 1) (omega arith) (high (omega arith) (omega arith)) in
    let x0 = on 0 la (omega arith) (low (omega arith) (omega arith)) in
    let x1 = on (lb - 1) (la + lb - 1) (omega arith) (low (omega arith) (omega arith)) in
    let y0 = on lb (la + lb) (omega arith) (low (omega arith) (omega arith)) in
    let y1 = on (lb + lc - 1) (la + lb + lc - 1) (omega arith) (low (omega arith) (omega arith)) in
    let z0 = on (lb + lc) (la + lb + lc) (omega arith) (low (omega arith) (omega arith)) in
    let z1 = on (lb + lc + e - 1) (n - 1) (omega arith) (low (omega arith) (omega arith)) in
    let q = on (lb + lc + e) 0 (omega arith) (high (omega arith) (omega arith)) in
    record { legs = omega (arith, g, ap₂ d p x0, ap₂ d x1 y0, ap₂ d y1 z0, ap₂ d z1 q, ap₂ d p z0, ap₂ d z1 y0, ap₂ d y1 x0, ap₂ d x1 q) }

-- ---- shuffles
-- all places: every leg is counted anew
pub shuffle_counted : (d : Legs) (t : Track) (vs : List ℕ) → Counted d t (shuffle_kick d vs t)
unfolding shuffle_kick
shuffle_counted d t vs = record { legs = omega arith }

-- draws in their spans: from 0 to k, k falling to 1
pub data Shuffles : List ℕ → Type 0 where
  none : Shuffles []
  more : {v : ℕ} {vs : List ℕ} → v ≤ suc (length vs) → Shuffles vs → Shuffles (v ∷ vs)

-- outside the places from start to start + k
data Out (start k m : ℕ) : Type 0 where
  under : m < start → Out start k m
  beyond : start + k < m → Out start k m

swap_other : (i j m : Place) (r : Round) → m ≢ i → m ≢ j → at (swap_at i j r) m ≡ at r m
unfolding swap_at
swap_other i j m r hi hj = get_or-set_other (set r i (at r j)) j m (at r i) 0 hj ∙ get_or-set_other r i m (at r j) 0 hi

shuffled_length : (start : Place) (vs : List ℕ) (t : Track) → length (shuffled start vs t).round ≡ length t.round
unfolding shuffled doing carry_out
shuffled_length start [] t = refl
shuffled_length start (v ∷ vs) t =
    let k = length (v ∷ vs) in
    shuffled_length start vs _ ∙ either_way (λ (u : Track). length u.round ≡ length t.round) (eqb v k) refl (swap_at_length (start + v) (start + k) t.round)

-- they leave the other places alone
shuffled_out : (start : Place) (vs : List ℕ) (t : Track) (m : Place) → Shuffles vs → Out start (length vs) m → at (shuffled start vs t).round m ≡ at t.round m
unfolding shuffled doing carry_out
shuffled_out start [] t m none o = refl
shuffled_out start (v ∷ vs) t m (more h c) (under o) =
    let k = length (v ∷ vs) in
    shuffled_out start vs _ m c (under o) ∙ either_way (λ (u : Track). at u.round m ≡ at t.round m) (eqb v k) refl (swap_other (start + v) (start + k) m t.round (omega arith) (omega arith))
shuffled_out start (v ∷ vs) t m (more h c) (beyond o) =
    let k = length (v ∷ vs) in
    shuffled_out start vs _ m c (beyond (omega arith)) ∙ either_way (λ (u : Track). at u.round m ≡ at t.round m) (eqb v k) refl (swap_other (start + v) (start + k) m t.round (omega arith) (omega arith))

-- 30 places from `left` on
pub window_counted : (d : Legs) (t : Track) (left : Place) (vs : List ℕ) → Shuffles vs → length vs ≡ 29 → left + 30 ≤ length t.round → 32 ≤ length t.round → Counted d t (window_kick d left vs t)
unfolding window_kick
window_counted d t left vs drawn many fits long =
    let r = t.round in
    let n = length r in
    let q = (shuffled left vs t).round in
    let o = on_mod n left (n - 1) (omega arith) (omega arith) in
    let first = prev n left in
    let back : On n left (n - 1) first = rw (on_before n left ((left + (n - 1)) % n) (omega arith) o) o in
    let hf : first < n = on_below n left (n - 1) first (omega arith) (omega arith) back in
    let out : (p : Place) → Out left 29 p → at q p ≡ at r p = λ p u. shuffled_out left vs t p drawn (subst (λ k. Out left k p) (sym many) u) in
    let w = window_time d r q first 31 hf (omega arith) (omega arith) (shuffled_length left vs t) (out first (ends left first n fits long back))
    (λ k p a b u. out p (rest left first n k p fits a b back u)) in
    record { legs = omega (arith, w) }
  where
    ends : (left first n : ℕ) → left + 30 ≤ n → 32 ≤ n → On n left (n - 1) first → Out left 29 first
    ends left first n f l (low a e) = beyond (omega arith)
    ends left first n f l (high a e) = under (omega arith)

    rest : (left first n k p : ℕ) → left + 30 ≤ n → 31 ≤ k → k < n → On n left (n - 1) first → On n first k p → Out left 29 p
    rest left first n k p f a b (low c e) (low g h) = absurd (omega arith)
    rest left first n k p f a b (low c e) (high g h) = beyond (omega arith)
    rest left first n k p f a b (high c e) (low g h) = beyond (omega arith)
    rest left first n k p f a b (high c e) (high g h) = under (omega arith)

-- one kick after another
pub then_counted : (d : Legs) (t : Track) (k : Kicked) (other : Track → Kicked) → Counted d t k → Counted d k.track (other k.track) → Counted d t (and_then k other)
unfolding and_then
then_counted d t k other a b = record { legs = omega (arith, a.legs, b.legs) }
