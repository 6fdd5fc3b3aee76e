-- 01, 13: what the cheapest walk on from a stop takes, found stop by stop, and the first of the cheapest walks.
use Prim.Native.Nat.{ℕ, zero, suc, ◌+◌, ◌*◌, ◌≤◌, ◌<◌, min}
use mathlib.Core.Path.{◌≡◌, refl, sym, ap, subst, ◌∙◌}
use mathlib.Core.Logic.{◌⊎◌, inl, inr}
use mathlib.Core.List.{List, [], ◌∷◌, ◌++◌, map}
use native.Mathlib.Decide.{ℕ_discrete, dec_le}
use native.Mathlib.Nat.{mul-le-mul_right}
use native.Mathlib.Omega.{arith}
use lib.ListN.{length}
use Rattle.rules.specs.Words.{Stop, Time, Legs}
use Rattle.rules.specs.Lists.{each}
use Rattle.rules.specs.Ring.{along}
use Rattle.rules.specs.Start.{nearest, without}
use Rattle.rules.specs.Exact.{Before, same, less, more, orders}
use Rattle.rules.specs.Table.{unreached, least_of}
use Rattle.laws.proofs.InLaws.{In, top, down, in_some, Up}
use Rattle.laws.proofs.OrderLaws.{Order, none, next, order_self, order_in, in_order}
use Rattle.laws.proofs.ExactLaws.{homeward, homeward_on, First}
use Rattle.laws.proofs.NearestLaws.{Nearest, nearest_is}
use Rattle.laws.proofs.WithoutLaws.{up_without, length_without}

-- what the cheapest walk from stop k through the stops of l and home takes
unfoldable pub onward : Legs → Stop → List Stop → Time
onward d k l = least_of d k unreached (orders (length l) l)

-- the least of b and what g gives for the stops of a list
unfoldable pub lowest : (Stop → Time) → Time → List Stop → Time
lowest g b [] = b
lowest g b (v ∷ l) = lowest g (min b (g v)) l

pub lowest_same : (g h : Stop → Time) (b : Time) (l : List Stop) → ((v : Stop) → In v l → g v ≡ h v) → lowest g b l ≡ lowest h b l
unfolding lowest
lowest_same g h b [] e = refl
lowest_same g h b (v ∷ l) e = ap (λ x. lowest g (min b x) l) (e v top) ∙ lowest_same g h (min b (h v)) l (λ u k. e u (down k))

module _ (d : Legs) where
  -- ---- the least of many walks
  least_join : (k : Stop) (so : Time) (os ps : List (List Stop)) → least_of d k so (os ++ ps) ≡ least_of d k (least_of d k so os) ps
  unfolding least_of
  least_join k so [] ps = refl
  least_join k so (o ∷ os) ps = least_join k (min so (along d k (o ++ (0 ∷ [])))) os ps

  -- walks that all go on to v first
  least_ahead : (k v : Stop) (so rest : Time) (os : List (List Stop))
      → least_of d k (min so (d k v + rest)) (map (λ o. v ∷ o) os) ≡ min so (d k v + least_of d v rest os)
  unfolding least_of along
  least_ahead k v so rest [] = refl
  least_ahead k v so rest (o ∷ os) =
      let e : min (min so (d k v + rest)) (d k v + along d v (o ++ (0 ∷ []))) ≡ min so (d k v + min rest (along d v (o ++ (0 ∷ [])))) = omega arith in
      ap (λ x. least_of d k x (map (λ q. v ∷ q) os)) e ∙ least_ahead k v so (min rest (along d v (o ++ (0 ∷ [])))) os

  least_each : (k : Stop) (f : Stop → List (List Stop)) (so : Time) (l : List Stop) → so ≤ unreached
      → least_of d k so (each (λ v. map (λ o. v ∷ o) (f v)) l) ≡ lowest (λ v. d k v + least_of d v unreached (f v)) so l
  unfolding least_of lowest each unreached
  least_each k f so [] h = refl
  least_each k f so (v ∷ l) h =
      let e : so ≡ min so (d k v + unreached) = omega arith in
      least_join k so (map (λ o. v ∷ o) (f v)) (each (λ w. map (λ o. w ∷ o) (f w)) l)
      ∙ ap (λ x. least_of d k x (each (λ w. map (λ o. w ∷ o) (f w)) l)) (ap (λ x. least_of d k x (map (λ o. v ∷ o) (f v))) e ∙ least_ahead k v so unreached (f v))
      ∙ least_each k f (min so (d k v + least_of d v unreached (f v))) l (omega arith)

  pub least_low : (k : Stop) (so : Time) (os : List (List Stop)) → least_of d k so os ≤ so
  unfolding least_of
  least_low k so [] = omega arith
  least_low k so (o ∷ os) = omega (arith, least_low k (min so (along d k (o ++ (0 ∷ [])))) os)

  least_le : (k : Stop) (so : Time) (os : List (List Stop)) {o : List Stop} → In o os → least_of d k so os ≤ homeward d k o
  unfolding least_of homeward
  least_le k so [] h = elim h [ ]
  least_le k so (o ∷ os) top = omega (arith, least_low k (min so (along d k (o ++ (0 ∷ [])))) os)
  least_le k so (p ∷ os) (down h) = least_le k (min so (along d k (p ++ (0 ∷ [])))) os h

  least_is : (k : Stop) (so : Time) (os : List (List Stop)) → (least_of d k so os ≡ so) ⊎ ((o : List Stop) × In o os × (least_of d k so os ≡ homeward d k o))
  unfolding least_of homeward
  least_is k so [] = inl refl
  least_is k so (o ∷ os) = go (dec_le so x) (least_is k (min so x) os)
    where
      x : Time
      x = homeward d k o

      go : Dec (so ≤ x) → (least_of d k (min so x) os ≡ min so x) ⊎ ((p : List Stop) × In p os × (least_of d k (min so x) os ≡ homeward d k p))
          → (least_of d k (min so x) os ≡ so) ⊎ ((p : List Stop) × In p (o ∷ os) × (least_of d k (min so x) os ≡ homeward d k p))
      go (yes h) (inl e) = inl (omega arith)
      go (no h) (inl e) = inr (o, top, omega arith)
      go _ (inr z) = inr (z.0, down z.1, z.2)

  -- ---- the cheapest walk on, stop by stop
  pub onward_home : (k : Stop) → d k 0 ≤ unreached → onward d k [] ≡ d k 0
  unfolding onward orders least_of along unreached
  onward_home k h = omega arith

  pub onward_step : (k : Stop) (i : ℕ) (l : List Stop) → Up i l → 0 < length l → onward d k l ≡ lowest (λ v. d k v + onward d v (without v l)) unreached l
  unfolding onward orders
  onward_step k i [] u h = absurd (omega arith)
  onward_step k i (x ∷ l) u h =
      least_each k (λ v. orders (length l) (without v (x ∷ l))) unreached (x ∷ l) (omega arith)
      ∙ lowest_same (λ v. d k v + least_of d v unreached (orders (length l) (without v (x ∷ l)))) (λ v. d k v + onward d v (without v (x ∷ l))) unreached (x ∷ l)
      (λ v z. let e : length l ≡ length (without v (x ∷ l)) = omega (arith, length_without v i u z) in
      ap (λ c. d k v + least_of d v unreached (orders c (without v (x ∷ l)))) e)

-- ---- the least walk
-- v is what the cheapest walk from a through each of l and home takes
pub record Least (d : Legs) (a : Stop) (l : List Stop) (v : Time) : Type 0 where
  pub way : List Stop
  pub order : Order l way
  pub takes : homeward d a way ≡ v
  pub least : (q : List Stop) → Order l q → v ≤ homeward d a q

-- legs of 16 bits
module _ (d : Legs) (small : (a b : Stop) → d a b ≤ 65535) where
  homeward_le : (a : Stop) (o : List Stop) → homeward d a o ≤ suc (length o) * 65535
  unfolding homeward along
  homeward_le a [] = omega (arith, small a 0)
  homeward_le a (b ∷ o) = omega (arith, small a b, homeward_le b o)

  pub onward_le : (a : Stop) (i : ℕ) (l : List Stop) → Up i l → onward d a l ≤ suc (length l) * 65535
  unfolding onward
  onward_le a i l u =
      omega (arith, least_le d a unreached (orders (length l) l) (order_in (length l) i u refl (order_self i l u)), homeward_le a l)

  pub onward_least : (a : Stop) (i : ℕ) (l : List Stop) → Up i l → length l ≤ 24 → Least d a l (onward d a l)
  unfolding onward unreached
  onward_least a i l u few = go (least_is d a unreached (orders (length l) l))
    where
      short : onward d a l ≤ 1638375
      short = let z : suc (length l) ≤ 25 = omega arith in omega (arith, onward_le a i l u, mul-le-mul_right 65535 z)

      go : (onward d a l ≡ unreached) ⊎ ((o : List Stop) × In o (orders (length l) l) × (onward d a l ≡ homeward d a o)) → Least d a l (onward d a l)
      go (inl e) = absurd (omega (arith, short))
      go (inr z) =
          record {
            way = z.0;
            order = in_order (length l) i l u refl z.1;
            takes = sym z.2;
            least = λ q o. least_le d a unreached (orders (length l) l) (order_in (length l) i u refl o);
          }

-- ---- the walk that goes on, always, to the first stop by which the cheapest walk goes
unfoldable pub way_on : Legs → ℕ → Stop → List Stop → List Stop
way_on d zero a l = []
way_on d (suc count) a l =
    elim l [
      | [] ↦ []
      | v ∷ vs ↦
          let w = nearest (λ u. d a u + onward d u (without u (v ∷ vs))) v vs in
          w ∷ way_on d count w (without w (v ∷ vs))
    ]

first_home : (d : Legs) (a : Stop) → First d a [] []
first_home d a = record { order = none; cheapest = lo; first = fi }
  where
    lo : (q : List Stop) → Order [] q → homeward d a [] ≤ homeward d a q
    lo q none = omega arith
    lo q (next h o) = absurd (omega (arith, in_some h))

    fi : (q : List Stop) → Order [] q → homeward d a q ≡ homeward d a [] → Before [] q
    fi q none e = same
    fi q (next h o) e = absurd (omega (arith, in_some h))

-- how an order of a list that is not empty begins
begins : {l q : List Stop} → 0 < length l → Order l q → (v : Stop) × (o : List Stop) × (q ≡ v ∷ o) × In v l × Order (without v l) o
begins h none = absurd (omega arith)
begins h (next {v = v} {o = o} z k) = (v, o, refl, z, k)

-- one stop on: w is the first by which the cheapest walk goes, and p the first of the cheapest on from there
module _ (d : Legs) (a : Stop) (l : List Stop) (some : 0 < length l) (all : (v : Stop) → In v l → Least d v (without v l) (onward d v (without v l)))
    (w : Stop) (n : Nearest (λ v. d a v + onward d v (without v l)) l w) (p : List Stop) (f : First d w (without w l) p) where
  takes : homeward d w p ≡ onward d w (without w l)
  takes =
      let z = all w n.there in
      omega (arith, z.least p f.order, f.cheapest z.way z.order, z.takes)

  step_low : (v : Stop) (o : List Stop) → In v l → Order (without v l) o → homeward d a (w ∷ p) ≤ homeward d a (v ∷ o)
  step_low v o h k = omega (arith, homeward_on d a w p, homeward_on d a v o, takes, n.low v h, (all v h).least o k)

  step_first : (v : Stop) (o : List Stop) → In v l → Order (without v l) o → homeward d a (v ∷ o) ≡ homeward d a (w ∷ p) → Before (w ∷ p) (v ∷ o)
  step_first v o h k e =
      let tie : d a v + onward d v (without v l) ≡ d a w + onward d w (without w l) = omega (arith, homeward_on d a w p, homeward_on d a v o, takes, n.low v h, (all v h).least o k) in
      elim (ℕ_discrete w v) [
        | yes q ↦
            let on : Order (without w l) o = subst (λ (x : Stop). Order (without x l) o) (sym q) k in
            let same_rest : homeward d w o ≡ homeward d w p = omega (arith, homeward_on d a w p, homeward_on d a w o, ap (λ x. homeward d a (x ∷ o)) q) in
            subst (λ (x : Stop). Before (w ∷ p) (x ∷ o)) q (more (f.first o on same_rest))
        | no ne ↦ let z : w < v = omega (arith, n.first v h tie) in less z
      ]

  pub first_step : First d a l (w ∷ p)
  first_step =
      record {
        order = next n.there f.order;
        cheapest = λ q o. let z = begins some o in rw z.2 (step_low z.0 z.1 z.3 z.4);
        first = λ q o e. let z = begins some o in rw z.2 (step_first z.0 z.1 z.3 z.4 (rw z.2 at e));
      }

-- it is the first of the cheapest walks
pub way_first : (d : Legs) → ((a b : Stop) → d a b ≤ 65535) → (count : ℕ) (a : Stop) (i : ℕ) (l : List Stop) → Up i l → length l ≡ count → count ≤ 24
    → First d a l (way_on d count a l)
unfolding way_on
way_first d small zero a i [] u e few = first_home d a
way_first d small zero a i (v ∷ l) u e few = absurd (omega arith)
way_first d small (suc count) a i [] u e few = absurd (omega arith)
way_first d small (suc count) a i (v ∷ l) u e few =
    let g : Stop → Time = λ x. d a x + onward d x (without x (v ∷ l)) in
    let w = nearest g v l in
    let n = nearest_is g i v l u in
    first_step d a (v ∷ l) (omega arith)
    (λ x h. onward_least d small x i (without x (v ∷ l)) (up_without x i (v ∷ l) u) (omega (arith, length_without x i u h)))
    w n (way_on d count w (without w (v ∷ l)))
    (way_first d small count w i (without w (v ∷ l)) (up_without w i (v ∷ l) u) (omega (arith, length_without w i u n.there)) (omega arith))
