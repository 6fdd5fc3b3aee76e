-- The scan of a set for the stop to go to.
use Prim.Native.Nat.{ℕ, suc, ◌+◌, ◌-◌, ◌^◌, ◌≤◌, ◌<◌}
use mathlib.Core.Path.{◌≡◌, sym, ap, subst, ◌∙◌}
use mathlib.Core.List.{List, [], ◌∷◌}
use native.Mathlib.Omega.{arith}
use lib.ListN.{length}
use Rattle.rules.specs.Words.{Stop, Time, Legs}
use Rattle.rules.specs.Plan.{leg_in}
use Rattle.rules.specs.Start.{nearest, without}
use Rattle.rules.specs.Table.{members}
use Rattle.laws.proofs.InLaws.{In, Up}
use Rattle.laws.proofs.SetLaws.{members_up, members_in, members_less, members_none}
use Rattle.laws.proofs.NearestLaws.{Nearest, nearest_is, nearest_same, nearer, farther}
use Rattle.laws.proofs.OnwardLaws.{onward, way_on}
use Rattle.laws.proofs.TableLaws.{word_in}
use Rattle.exact.specs.Inner.{Lowest, Rest, Via, Choice}
use Rattle.exact.proofs.Cells.{on_by, opens, rest_less, members_some}

-- the first stop of a list that takes least by g
unfoldable pub first_by : (Stop → Time) → List Stop → Stop
first_by g [] = 0
first_by g (v ∷ l) = nearest g v l

first_nearest : (g : Stop → Time) (l : List Stop) → Up 1 l → 0 < length l → Nearest g l (first_by g l)
unfolding first_by
first_nearest g [] u h = absurd (omega arith)
first_nearest g (v ∷ l) u h = nearest_is g 1 v l u

-- where g says what the cheapest walk takes, the walk goes there
way_by : (d : Legs) (a : Stop) (l : List Stop) (g : Stop → Time) → ((u : Stop) → In u l → g u ≡ d a u + onward d u (without u l)) → 0 < length l → (count : ℕ)
    → way_on d (suc count) a l ≡ first_by g l ∷ way_on d count (first_by g l) (without (first_by g l) l)
unfolding first_by way_on
way_by d a [] g e h count = absurd (omega arith)
way_by d a (v ∷ l) g e h count =
    ap (λ (w : Stop). w ∷ way_on d count w (without w (v ∷ l))) (sym (nearest_same g (λ u. d a u + onward d u (without u (v ∷ l))) v l e))

-- stop k takes least of those looked at, and the stops of `left` are still to be looked at
pub record Choosing (matrix : List Time) (n set : ℕ) (a k : Stop) (best : Time) (left : ℕ) : Type 0 where
  pub within : left < 2 ^ (n - 1)
  pub worth : best ≡ on_by matrix n set a k
  pub same : nearest (on_by matrix n set a) k (members (n - 1) left) ≡ first_by (on_by matrix n set a) (members (n - 1) set)

pub choosing_starts : {matrix : List Time} {n set : ℕ} {a k : Stop} → set < 2 ^ (n - 1) → Lowest set k → {r : ℕ} → Rest set r → {time : Time} → Via matrix n set a k time
    → Choosing matrix n set a k time r
unfolding first_by
choosing_starts {matrix} {n} {set} {a} {k} b l t v =
    record {
      within = omega (arith, rest_less (n - 1) b l t);
      worth = v.is;
      same = ap (λ x. nearest (on_by matrix n set a) k (members (n - 1) x)) (t.is k l) ∙ sym (ap (first_by (on_by matrix n set a)) (opens (n - 1) b l));
    }

module _ {matrix : List Time} {n set : ℕ} {a k : Stop} {best : Time} {left : ℕ} (h : Choosing matrix n set a k best left) where
  module _ {j : Stop} (l : Lowest left j) {r : ℕ} (t : Rest left r) {time : Time} (v : Via matrix n set a j time) where
    on : nearest (on_by matrix n set a) k (j ∷ members (n - 1) r) ≡ first_by (on_by matrix n set a) (members (n - 1) set)
    on =
        ap (λ x. nearest (on_by matrix n set a) k (j ∷ members (n - 1) x)) (t.is j l)
        ∙ sym (ap (nearest (on_by matrix n set a) k) (opens (n - 1) h.within l)) ∙ h.same

    less : r < 2 ^ (n - 1)
    less = omega (arith, h.within, rest_less (n - 1) h.within l t)

    pub choosing_near : time < best → Choosing matrix n set a j time r
    choosing_near near =
        let c : on_by matrix n set a j < on_by matrix n set a k = omega (arith, v.is, h.worth) in
        record { within = less; worth = v.is; same = sym (nearer (on_by matrix n set a) k j (members (n - 1) r) c) ∙ on }

    pub choosing_far : best ≤ time → Choosing matrix n set a k best r
    choosing_far far =
        let c : on_by matrix n set a k ≤ on_by matrix n set a j = omega (arith, v.is, h.worth) in
        record { within = less; worth = h.worth; same = sym (farther (on_by matrix n set a) k j (members (n - 1) r) c) ∙ on }

  pub choosing_done : n ≤ 25 → set < 2 ^ (n - 1) → 0 < set → left ≡ 0 → Choice matrix n set a k
  unfolding nearest
  choosing_done few b some z = subst (Choice matrix n set a) (sym is) chosen
    where
      l : List Stop
      l = members (n - 1) set

      g : Stop → Time
      g = on_by matrix n set a

      is : k ≡ first_by g l
      is = sym (ap (nearest g k) (ap (members (n - 1)) z ∙ members_none (n - 1))) ∙ h.same

      full : 0 < length l
      full = members_some (n - 1) set (omega arith) b some

      first : Nearest g l (first_by g l)
      first = first_nearest g l (members_up set (n - 1)) full

      chosen : Choice matrix n set a (first_by g l)
      chosen =
          let q = members_in set (n - 1) (first_by g l) first.there in
          record {
            low = q.0;
            below = omega (arith, q.0, q.1);
            there = q.2;
            goes = λ count. way_by (leg_in n matrix) a l g (λ u y. ap (λ x. leg_in n matrix a u + x) (word_in (leg_in n matrix) (n - 1) set u (members_in set (n - 1) u y).2)) full count
                ∙ ap (λ (x : List Stop). first_by g l ∷ way_on (leg_in n matrix) count (first_by g l) x) (sym (members_less set (n - 1) (first_by g l) q.2));
          }
