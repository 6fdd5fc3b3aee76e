-- The walk back through the table.
use Prim.Native.Nat.{ℕ, suc, ◌+◌, ◌-◌, ◌*◌, ◌^◌, ◌≤◌, ◌<◌}
use mathlib.Core.Path.{◌≡◌, sym, ap, ◌∙◌}
use mathlib.Core.List.{List, [], ◌∷◌, ◌++◌, append_assoc, append-nil}
use native.Mathlib.Numerals.{add-one}
use native.Mathlib.Decide.{ℕ_discrete}
use native.Mathlib.Omega.{arith}
use lib.ListN.{length, set, take, length-set}
use lib.Pow.{pow_pos}
use lib.Seq.{take-suc-set, take_all}
use Rattle.rules.specs.Words.{Stop, Time, Round}
use Rattle.rules.specs.Lists.{rising}
use Rattle.rules.specs.Plan.{leg_in}
use Rattle.rules.specs.Table.{members}
use Rattle.laws.proofs.RisingLaws.{rising_length}
use Rattle.laws.proofs.WithoutLaws.{length_without}
use Rattle.laws.proofs.SetLaws.{in_members, member_fits, members_up, members_less, members_none, members_full}
use Rattle.laws.proofs.ExactLaws.{homeward, homeward_on, homeward_none}
use Rattle.laws.proofs.OnwardLaws.{way_on}
use Rattle.exact.specs.Inner.{Choice, Walked}

-- i stops of the round are there, `last` the last of them, and the stops of `left` are still to be visited
pub record Going (matrix : List Time) (n : ℕ) (round : Round) (left : ℕ) (last : Stop) (time : Time) (i : ℕ) : Type 0 where
  pub long : length round ≡ n
  pub here : last < n
  pub within : left < 2 ^ (n - 1)
  pub some : 1 ≤ i
  pub count : i + length (members (n - 1) left) ≡ n
  pub cheap : time ≤ i * 65535
  pub done : List Stop
  pub so : take i round ≡ 0 ∷ done
  pub goes : done ++ way_on (leg_in n matrix) (n - i) last (members (n - 1) left) ≡ way_on (leg_in n matrix) (n - 1) 0 (rising (n - 1) 1)
  pub adds : time + homeward (leg_in n matrix) last (way_on (leg_in n matrix) (n - i) last (members (n - 1) left)) ≡ homeward (leg_in n matrix) 0 (way_on (leg_in n matrix) (n - 1) 0 (rising (n - 1) 1))

pub going_starts : (matrix : List Time) (n : ℕ) → 2 ≤ n → (round : Round) → length round ≡ n → (left : ℕ) → left ≡ 2 ^ (n - 1) - 1 → Going matrix n (set round 0 0) left 0 0 1
going_starts matrix n two round e left f =
    let all : members (n - 1) left ≡ rising (n - 1) 1 = ap (members (n - 1)) f ∙ members_full (n - 1) in
    record {
      long = length-set round 0 0 ∙ e;
      here = omega arith;
      within = omega (arith, pow_pos (n - 1));
      some = omega arith;
      count = omega (arith, ap length all, rising_length (n - 1) 1);
      cheap = omega arith;
      done = [];
      so = take-suc-set round 0 0 (omega arith);
      goes = ap (way_on (leg_in n matrix) (n - 1) 0) all;
      adds = omega (arith, ap (λ (l : List Stop). homeward (leg_in n matrix) 0 (way_on (leg_in n matrix) (n - 1) 0 l)) all);
    }

module _ {matrix : List Time} {n : ℕ} {round : Round} {left : ℕ} {last : Stop} {time : Time} {i : ℕ} (g : Going matrix n round left last time i) where
  module _ {k : Stop} (c : Choice matrix n left last k) where
    fewer : length (members (n - 1) left) ≡ suc (length (members (n - 1) (left - 2 ^ (k - 1))))
    fewer =
        length_without k 1 (members_up left (n - 1)) (in_members left (n - 1) k c.low (omega (arith, c.below)) c.there)
        ∙ ap (λ (l : List Stop). suc (length l)) (sym (members_less left (n - 1) k c.there))

    pub going_in : (i < n) × (2 ^ (k - 1) ≤ left) × (0 < 2 ^ (k - 1))
    going_in = (omega (arith, g.count, fewer), member_fits left k c.there, pow_pos (k - 1))

    pub going_next : (bit : ℕ) → bit ≡ 2 ^ (k - 1) → (leg : Time) → leg ≡ leg_in n matrix last k → leg ≤ 65535 → (written : Stop) → written ≡ k
        → Going matrix n (set round i written) (left - bit) k (time + leg) (i + 1)
    going_next bit b leg is small written w =
        let l : i < n = going_in.0 in
        let step : n - i ≡ suc (n - (i + 1)) = omega arith in
        let p = way_on (leg_in n matrix) (n - (i + 1)) k (members (n - 1) (left - bit)) in
        let on : way_on (leg_in n matrix) (n - i) last (members (n - 1) left) ≡ k ∷ p =
        ap (λ x. way_on (leg_in n matrix) x last (members (n - 1) left)) step ∙ c.goes (n - (i + 1))
        ∙ ap (λ x. k ∷ way_on (leg_in n matrix) (n - (i + 1)) k (members (n - 1) (left - x))) (sym b) in
        record {
          long = length-set round i written ∙ g.long;
          here = c.below;
          within = omega (arith, g.within);
          some = omega arith;
          count = omega (arith, g.count, fewer, ap (λ x. length (members (n - 1) (left - x))) b);
          cheap = omega (arith, g.cheap);
          done = g.done ++ (k ∷ []);
          so = rw (add-one i) (take-suc-set round i written (omega (arith, g.long)) ∙ ap (λ (v : Stop). take i round ++ (v ∷ [])) w ∙ ap (λ (r : Round). r ++ (k ∷ [])) g.so);
          goes = append_assoc g.done (k ∷ []) p ∙ sym (ap (λ (r : List Stop). g.done ++ r) on) ∙ g.goes;
          adds = omega (arith, is, g.adds, ap (homeward (leg_in n matrix) last) on, homeward_on (leg_in n matrix) last k p);
        }

  -- while the round is not full a stop is left
  pub going_some : i < n → 0 < left
  going_some l = elim (ℕ_discrete left 0) [
    | yes z ↦ absurd (omega (arith, g.count, ap length (ap (members (n - 1)) z ∙ members_none (n - 1))))
    | no z ↦ omega arith
  ]

  pub going_done : n ≤ i → (total : Time) → total ≡ time + leg_in n matrix last 0 → Walked matrix n round total
  unfolding way_on
  going_done z total e =
      let all : i ≡ n = omega (arith, g.count) in
      let end : n - i ≡ 0 = omega arith in
      let over : way_on (leg_in n matrix) (n - i) last (members (n - 1) left) ≡ [] = ap (λ x. way_on (leg_in n matrix) x last (members (n - 1) left)) end in
      record {
        goes = sym (take_all i round (omega (arith, g.long))) ∙ g.so
            ∙ ap (λ (r : List Stop). 0 ∷ r) (sym (append-nil g.done) ∙ sym (ap (λ (r : List Stop). g.done ++ r) over) ∙ g.goes);
        takes = e ∙ ap (λ x. time + x) (sym (homeward_none (leg_in n matrix) last)) ∙ sym (ap (λ (r : List Stop). time + homeward (leg_in n matrix) last r) over) ∙ g.adds;
      }
