-- 01, 12: the start round goes on, always, to the lowest of the nearest stops that are left.
use Prim.Native.Nat.{ℕ, suc, ◌+◌, ◌≤◌, ◌<◌}
use mathlib.Core.Path.{◌≡◌, ap, ◌∙◌}
use mathlib.Core.Bool.{Bool, true, false}
use mathlib.Core.List.{List, [], ◌∷◌}
use mathlib.Core.Logic.{◌≢◌}
use native.Mathlib.Omega.{arith}
use native.Mathlib.Decide.{dec_lt}
use lib.ListN.{length}
use Rattle.rules.specs.Words.{Stop, Legs}
use Rattle.rules.specs.Lists.{rising, keep}
use Rattle.rules.specs.Start.{nearest, without, start_from}
use Rattle.laws.proofs.InLaws.{In, Up, in_keep, in_rising, in_some, keep_all, keep_in, keep_no, rising_in, top, up_keep, up_rising}
use Rattle.laws.proofs.NearestLaws.{nearest_is}
use Rattle.laws.proofs.WithoutLaws.{keep_without, length_without}

-- the stops that pass, of `count` from stop a on
unfoldable pub passing : (Stop → Bool) → ℕ → Stop → List Stop
passing p count a = keep p (rising count a)

module _ (p : Stop → Bool) (count a : ℕ) where
  pub passing_no : p a ≡ false → passing p (suc count) a ≡ passing p count (a + 1)
  unfolding passing rising
  passing_no = keep_no p a (rising count (a + 1))

  passing_up : Up a (passing p count a)
  unfolding passing
  passing_up = up_keep p a (rising count a) (up_rising count a)

  in_passing : {v : Stop} → a ≤ v → v < a + count → p v ≡ true → In v (passing p count a)
  unfolding passing
  in_passing {v} low high e = in_keep p (in_rising count a v low high) e

  passing_in : {v : Stop} → In v (passing p count a) → (a ≤ v) × (v < a + count) × (p v ≡ true)
  unfolding passing
  passing_in h =
      let r = keep_in p (rising count a) h in
      let z = rising_in count a r.0 in
      (z.0, z.1, r.1)

-- of the stops below n that pass none is nearer than k, and those before it are farther: there the start round goes on
module _ (d : Legs) (last : Stop) (count : ℕ) where
  start_step : (v : Stop) (vs : List Stop) {k : Stop} → nearest (d last) v vs ≡ k
      → start_from d (suc count) last (v ∷ vs) ≡ k ∷ start_from d count k (without k (v ∷ vs))
  unfolding start_from
  start_step v vs h = rw h

  pub start_on : (p : Stop → Bool) (n k : ℕ) → k < n → p k ≡ true
      → ((v : Stop) → v < n → p v ≡ true → d last k ≤ d last v)
      → ((v : Stop) → v < k → p v ≡ true → d last k < d last v)
      → start_from d (suc count) last (passing p n 0) ≡ k ∷ start_from d count k (without k (passing p n 0))
  start_on p n k below passes near first = go (passing p n 0) (passing_up p n 0) (in_passing p n 0 (omega arith) (omega arith) passes) (λ v h. passing_in p n 0 h)
    where
      go : (l : List Stop) → Up 0 l → In k l → ((v : Stop) → In v l → (0 ≤ v) × (v < 0 + n) × (p v ≡ true))
          → start_from d (suc count) last l ≡ k ∷ start_from d count k (without k l)
      go [] u h passed = absurd (omega (arith, in_some h))
      go (v ∷ vs) u h passed =
          let w = nearest (d last) v vs in
          let z = nearest_is (d last) 0 v vs u in
          let y = passed w z.there in
          let same : d last k ≤ d last w = near w (omega (arith, y.1)) y.2 in
          let e : w ≡ k = elim (dec_lt w k) [
            | yes l ↦ absurd (omega (arith, first w l y.2, z.low k h))
            | no l ↦ omega (arith, z.first k h (omega (arith, z.low k h)))
          ] in
          start_step v vs e

-- q passes what p does, but for k
module _ (p q : Stop → Bool) (k : Stop) (gone : q k ≡ false) (others : (v : Stop) → v ≢ k → q v ≡ p v) where
  pub passing_without : (count a : ℕ) → without k (passing p count a) ≡ passing q count a
  unfolding passing
  passing_without count a = keep_without p q k gone others (rising count a)

  -- there is one less
  pub passing_fewer : p k ≡ true → (count a : ℕ) → a ≤ k → k < a + count → length (passing p count a) ≡ suc (length (passing q count a))
  passing_fewer passes count a low high =
      length_without k a (passing_up p count a) (in_passing p count a low high passes) ∙ ap (λ (l : List Stop). suc (length l)) (passing_without count a)

-- one that passes
pub record Passes (p : Stop → Bool) (n : ℕ) : Type 0 where
  pub stop : Stop
  pub below : stop < n
  pub is : p stop ≡ true

pub some_passes : (p : Stop → Bool) (count a : ℕ) → 0 < length (passing p count a) → Passes p (a + count)
some_passes p count a h = go (passing p count a) (λ v z. passing_in p count a z) h
  where
    go : (l : List Stop) → ((v : Stop) → In v l → (a ≤ v) × (v < a + count) × (p v ≡ true)) → 0 < length l → Passes p (a + count)
    go [] passed h = absurd (omega arith)
    go (v ∷ l) passed h = let z = passed v top in record { stop = v; below = z.1; is = z.2 }

-- all pass
pub all_pass : (p : Stop → Bool) (count a : ℕ) → ((v : Stop) → a ≤ v → p v ≡ true) → passing p count a ≡ rising count a
unfolding passing
all_pass p count a h = keep_all p (rising count a) (λ v z. h v (rising_in count a z).0)
