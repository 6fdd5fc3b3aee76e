-- 01, 12: the start round holds each of the n stops once, whatever the legs are.
use Prim.Native.Nat.{◌+◌, ◌-◌, ◌<◌, ◌≤◌, suc, zero, ℕ}
use mathlib.Core.Path.{◌∙◌, ◌≡◌, ap, refl, sym}
use mathlib.Core.Bool.{true}
use mathlib.Core.List.{List, [], ◌∷◌}
use native.Mathlib.Decide.{ℕ_discrete}
use native.Mathlib.Omega.{arith}
use lib.Dec.{ltb}
use lib.ListN.{length}
use Rattle.rules.specs.Lists.{one, rising, tally}
use Rattle.rules.specs.Ring.{is_round}
use Rattle.rules.specs.Start.{nearest, start_from, start_round, without}
use Rattle.rules.specs.Words.{Legs, Stop, Time}
use Rattle.laws.proofs.ChoiceLaws.{either_way}
use Rattle.laws.proofs.PermLaws.{round_is}
use Rattle.laws.proofs.RisingLaws.{rising_length, rising_once, zero_rising}
use Rattle.laws.proofs.TallyLaws.{one_other, one_same}
use Rattle.laws.proofs.WithoutLaws.{without_length, without_once, without_tally_other, without_tally_same}

-- ---- the nearest is one of them
nearest_in : (f : Stop → Time) (so : Stop) (vs : List Stop) → 0 < tally (so ∷ vs) (nearest f so vs)
unfolding nearest tally
nearest_in f so [] = omega (arith, one_same (refl {a = so}))
nearest_in f so (v ∷ vs) =
    either_way (λ (w : Stop). 0 < one so (nearest f w vs) + (one v (nearest f w vs) + tally vs (nearest f w vs))) (ltb (f v) (f so))
    (omega (arith, nearest_in f v vs)) (omega (arith, nearest_in f so vs))

-- ---- on from a stop over all that are left
start_from_tally : (d : Legs) (count : ℕ) (last : Stop) (left : List Stop) → length left ≡ count → ((v : Stop) → tally left v ≤ 1) → (u : Stop) → tally (start_from d count last left) u ≡ tally left u
unfolding start_from tally
start_from_tally d zero last [] e h u = refl
start_from_tally d zero last (v ∷ vs) e h u = absurd (omega arith)
start_from_tally d (suc count) last [] e h u = absurd (omega arith)
start_from_tally d (suc count) last (v ∷ vs) e h u =
    let w = nearest (d last) v vs in
    let l = v ∷ vs in
    let k : tally l w ≡ 1 = omega (arith, nearest_in (d last) v vs, h w) in
    let rest = start_from_tally d count w (without w l) (omega (arith, without_length w l, k)) (without_once w l h) u in
    elim (ℕ_discrete w u) [
      | yes z ↦ (let q : tally (without w l) u ≡ 0 = ap (tally (without w l)) (sym z) ∙ without_tally_same w l in let t : tally l u ≡ 1 = ap (tally l) (sym z) ∙ k in omega (arith, one_same z))
      | no ne ↦ omega (arith, one_other ne, without_tally_other w u l ne)
    ]

start_from_length : (d : Legs) (count : ℕ) (last : Stop) (left : List Stop) → length left ≡ count → ((v : Stop) → tally left v ≤ 1) → length (start_from d count last left) ≡ count
unfolding start_from
start_from_length d zero last [] e h = refl
start_from_length d zero last (v ∷ vs) e h = absurd (omega arith)
start_from_length d (suc count) last [] e h = absurd (omega arith)
start_from_length d (suc count) last (v ∷ vs) e h =
    let w = nearest (d last) v vs in
    let k : tally (v ∷ vs) w ≡ 1 = omega (arith, nearest_in (d last) v vs, h w) in
    ap suc (start_from_length d count w (without w (v ∷ vs)) (omega (arith, without_length w (v ∷ vs), k)) (without_once w (v ∷ vs) h))

-- "From stop 0"
pub start_round_lem : (d : Legs) (n : ℕ) → 1 ≤ n → is_round n (start_round d n) ≡ true
unfolding start_round tally
start_round_lem d n h =
    let left = rising (n - 1) 1 in
    let e = rising_length (n - 1) 1 in
    round_is n (start_round d n) (omega (arith, start_from_length d (n - 1) 0 left e (rising_once (n - 1) 1)))
    (λ v hv. omega (arith, start_from_tally d (n - 1) 0 left e (rising_once (n - 1) 1) v, zero_rising n v h hv))
