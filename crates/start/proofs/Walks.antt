-- The start round, stop by stop.
use Prim.Native.Nat.{ℕ, zero, suc, ◌+◌, ◌-◌, ◌*◌, ◌≤◌, ◌<◌}
use mathlib.Core.Path.{◌≡◌, refl, sym, ap, ◌∙◌}
use mathlib.Core.Bool.{Bool, true, false}
use mathlib.Core.List.{List, [], ◌∷◌, ◌++◌, append_assoc, append-nil}
use mathlib.Core.Logic.{◌≢◌}
use native.Mathlib.Omega.{arith}
use native.Mathlib.Numerals.{add-one}
use native.Mathlib.Decide.{ℕ_discrete}
use lib.Dec.{eqb}
use lib.ListN.{length, set, take, drop, replicate, length-set, length-take, length-drop, length-replicate}
use lib.Seq.{get_or-set_same, get_or-set_other, take-suc-set, take_all, get_or-take, get_or-drop}
use borrow.Author.Tests.{eq-eqb, ne_eqb, eqb-true}
use Rattle.rules.specs.Words.{Stop, Time, Round}
use Rattle.rules.specs.Lists.{at, rising}
use Rattle.rules.specs.Plan.{leg_in}
use Rattle.rules.specs.Start.{start_from, start_round}
use Rattle.rules.specs.SharedWords.{Square}
use Rattle.laws.proofs.CellLaws.{row_within}
use Rattle.laws.proofs.RisingLaws.{rising_length}
use Rattle.laws.proofs.StartLaws.{passing, passing_no, all_pass, start_on, passing_without, passing_fewer, some_passes}
use Rattle.start.specs.Mask.{Mask, Left, Blank}
use Rattle.start.specs.Near.{Nearest}

-- stop v is left
abbrev pub left : List ℕ → Stop → Bool
left mask v = eqb (at mask v) 0

-- i stops of the round are there, `last` the last of them: with what is left to do from here it is the start round
pub record Walking (matrix : List Time) (n : ℕ) (mask : List ℕ) (round : Round) (last i : ℕ) : Type 0 where
  pub masks : Mask n mask
  pub long : length round ≡ n
  pub below : last < n
  pub count : i + length (passing (left mask) n 0) ≡ n
  pub goes : take i round ++ start_from (leg_in n matrix) (n - i) last (passing (left mask) n 0) ≡ start_round (leg_in n matrix) n

-- stop k was visited
abbrev marked : List ℕ → Stop → List ℕ
marked mask k = set mask k 65535

module _ (mask : List ℕ) (k : Stop) (inside : k < length mask) where
  visited : left (marked mask k) k ≡ false
  visited = let e = get_or-set_same mask k 65535 0 inside in ne_eqb (at (marked mask k) k) 0 (λ z. omega arith)

  unchanged : (v : Stop) → v ≢ k → left (marked mask k) v ≡ left mask v
  unchanged v h = ap (λ (x : ℕ). eqb x 0) (get_or-set_other mask k v 65535 0 h)

  mask_set : {n : ℕ} → Mask n mask → Mask n (marked mask k)
  mask_set {n} m = record { few = m.few; room = omega (arith, m.room, length-set mask k 65535); flag = λ v l. go v l (ℕ_discrete v k) }
    where
      go : (v : Stop) → v < n → Dec (v ≡ k) → (at (marked mask k) v ≡ 0 → ⊥) → at (marked mask k) v ≡ 65535
      go v l (yes e) z = ap (at (marked mask k)) e ∙ get_or-set_same mask k 65535 0 inside
      go v l (no e) z = let q = get_or-set_other mask k v 65535 0 e in q ∙ m.flag v l (λ y. z (q ∙ y))

-- the mask as it is made
pub blank : (n : ℕ) → n ≤ 4096 → Blank n (replicate 4096 0)
blank n few = record { room = omega (arith, length-replicate {A = ℕ} 4096 0); zeros = zeros 4096 }
  where
    zeros : (count : ℕ) (v : Stop) → at (replicate count 0) v ≡ 0
    zeros zero v = refl
    zeros (suc count) zero = refl
    zeros (suc count) (suc v) = zeros count v

-- stop 0 is there, and all others are left
module _ (matrix : List Time) (n : ℕ) (mask : List ℕ) (round : Round) (few : n ≤ 4096) (some : 1 ≤ n) (b : Blank n mask) (long : length round ≡ n) where
  inside : 0 < length mask
  inside = omega (arith, b.room)

  all : passing (left (marked mask 0)) n 0 ≡ rising (n - 1) 1
  all =
      let e : n ≡ suc (n - 1) = omega arith in
      ap (λ (count : ℕ). passing (left (marked mask 0)) count 0) e
      ∙ passing_no (left (marked mask 0)) (n - 1) 0 (visited mask 0 inside)
      ∙ all_pass (left (marked mask 0)) (n - 1) 1
      (λ v h. let other : v ≢ 0 = omega arith in unchanged mask 0 inside v other ∙ eq-eqb (at mask v) 0 (b.zeros v))

  begun : Walking matrix n (marked mask 0) (set round 0 0) 0 1
  unfolding start_round
  begun =
      record {
        masks = mask_set mask 0 inside (record { few = few; room = b.room; flag = λ v l z. absurd (z (b.zeros v)) });
        long = length-set round 0 0 ∙ long;
        below = some;
        count = omega (arith, ap length all, rising_length (n - 1) 1);
        goes =
            ap (λ (r : Round). r ++ start_from (leg_in n matrix) (n - 1) 0 (passing (left (marked mask 0)) n 0)) (take-suc-set round 0 0 (omega arith))
            ∙ ap (λ (l : List Stop). 0 ∷ start_from (leg_in n matrix) (n - 1) 0 l) all;
      }

  -- `x` goes into the mask, `first` into the round, and the walk goes on from `last`
  pub walking_start : (x first last : ℕ) → x ≡ 65535 → first ≡ 0 → last ≡ 0 → Walking matrix n (set mask 0 x) (set round 0 first) last 1
  walking_start x first last e e' e'' = rw (e, e', e'') begun

-- the row of the matrix from cell s on
abbrev pub row_at : List Time → ℕ → ℕ → List Time
row_at matrix n s = take (s + n - s) (drop s matrix)

module _ {matrix : List Time} {n : ℕ} {mask : List ℕ} {round : Round} {last i : ℕ} (w : Walking matrix n mask round last i)
    (sq : Square matrix n) {a : ℕ} (e : a ≡ last) where
  pub row_ends : a * n + n ≤ length matrix
  row_ends = omega (arith, sq.cells, row_within n n a (omega (arith, w.below)))

  pub row_long : length (row_at matrix n (a * n)) ≡ n
  row_long = simp (length-take, length-drop) (omega (arith, row_ends))

  row_at_lem : (v : Stop) → v < n → at (row_at matrix n (a * n)) v ≡ leg_in n matrix last v
  unfolding leg_in
  row_at_lem v h =
      let l : v < a * n + n - a * n = omega arith in
      get_or-take (a * n + n - a * n) (drop (a * n) matrix) v 0 l ∙ get_or-drop (a * n) matrix v 0 ∙ ap (λ (u : Stop). at matrix (u * n + v)) e

  pub walking_left : i < n → Left (length (row_at matrix n (a * n))) mask
  walking_left l =
      let x = some_passes (left mask) n 0 (omega (arith, w.count)) in
      record { stop = x.stop; below = omega (arith, x.below, row_long); free = eqb-true (at mask x.stop) 0 x.is }

  module _ (l : i < n) {k : Stop} (near : Nearest (at (row_at matrix n (a * n))) (length (row_at matrix n (a * n))) mask k) where
    pub walking_inside : k < length mask
    walking_inside = omega (arith, near.below, row_long, w.masks.room)

    below : k < n
    below = omega (arith, near.below, row_long)

    passes : left mask k ≡ true
    passes = eq-eqb (at mask k) 0 near.free

    -- where the rule goes on
    on : start_from (leg_in n matrix) (n - i) last (passing (left mask) n 0) ≡ k ∷ start_from (leg_in n matrix) (n - (i + 1)) k (passing (left (marked mask k)) n 0)
    on =
        let one : n - i ≡ suc (n - (i + 1)) = omega arith in
        ap (λ (count : ℕ). start_from (leg_in n matrix) count last (passing (left mask) n 0)) one
        ∙ start_on (leg_in n matrix) last (n - (i + 1)) (left mask) n k below passes
        (λ v h q. omega (arith, row_at_lem k below, row_at_lem v h, near.near v (omega (arith, row_long)) (eqb-true (at mask v) 0 q)))
        (λ v h q. omega (arith, row_at_lem k below, row_at_lem v (omega (arith, below)), near.first v h (eqb-true (at mask v) 0 q)))
        ∙ ap (λ (s : List Stop). k ∷ start_from (leg_in n matrix) (n - (i + 1)) k s)
        (passing_without (left mask) (left (marked mask k)) k (visited mask k walking_inside) (unchanged mask k walking_inside) n 0)

    grown : take (i + 1) (set round i k) ≡ take i round ++ (k ∷ [])
    grown = ap (λ (c : ℕ). take c (set round i k)) (add-one i) ∙ take-suc-set round i k (omega (arith, w.long))

    gone_on : Walking matrix n (marked mask k) (set round i k) k (i + 1)
    gone_on =
        record {
          masks = mask_set mask k walking_inside w.masks;
          long = length-set round i k ∙ w.long;
          below = below;
          count = omega (arith, w.count, passing_fewer (left mask) (left (marked mask k)) k (visited mask k walking_inside) (unchanged mask k walking_inside) passes n 0 (omega arith) (omega (arith, below)));
          goes = rw (grown, append_assoc) (ap (λ (s : List Stop). take i round ++ s) (sym on) ∙ w.goes);
        }

    -- `x` goes into the mask at v, `next` into the round, and the walk goes on from `last'`
    pub walking_next : (v x next last' : ℕ) → v ≡ k → x ≡ 65535 → next ≡ k → last' ≡ k → Walking matrix n (set mask v x) (set round i next) last' (i + 1)
    walking_next v x next last' p q r s = rw (p, q, r, s) gone_on

-- no stop is left
pub walking_done : {matrix : List Time} {n : ℕ} {mask : List ℕ} {round : Round} {last i : ℕ} → Walking matrix n mask round last i → n ≤ i
    → round ≡ start_round (leg_in n matrix) n
unfolding start_from
walking_done {matrix} {n} {mask} {round} {last} {i} w l =
    let none : n - i ≡ 0 = omega arith in
    sym (take_all i round (omega (arith, w.long)))
    ∙ sym (append-nil (take i round))
    ∙ ap (λ (count : ℕ). take i round ++ start_from (leg_in n matrix) count last (passing (left mask) n 0)) (sym none)
    ∙ w.goes
