-- The scan of a set for its row.
use Prim.Native.Nat.{ℕ, ◌-◌, ◌^◌, ◌≤◌, ◌<◌}
use mathlib.Core.Path.{◌≡◌, refl, sym, ap, ◌∙◌}
use mathlib.Core.Logic.{◌≢◌}
use mathlib.Core.Bool.{Bool, true, false}
use mathlib.Core.List.{List}
use native.Mathlib.Decide.{ℕ_discrete}
use native.Mathlib.Omega.{arith}
use lib.ListN.{length, set, length-set, replicate, get_or-replicate}
use lib.Pow.{pow_pos}
use lib.Seq.{get_or-set_same, get_or-set_other}
use Rattle.rules.specs.Words.{Stop, Time}
use Rattle.rules.specs.Lists.{when◌then◌else◌, at}
use Rattle.rules.specs.Plan.{leg_in}
use Rattle.rules.specs.Table.{member, members, unreached, table_word}
use Rattle.laws.proofs.ChoiceLaws.{either_if, true_false}
use Rattle.laws.proofs.SetLaws.{less_same, less_other, members_less, member_fits, member_none}
use Rattle.laws.proofs.OnwardLaws.{onward}
use Rattle.laws.proofs.TableLaws.{word_in, word_out}
use Rattle.exact.specs.Inner.{Lowest, Rest, Row}
use Rattle.exact.proofs.Cells.{rest_less}

-- the stops of `left` have no word yet
pub record Rowing (matrix : List Time) (n s : ℕ) (row : List Time) (left : ℕ) : Type 0 where
  pub within : left < 2 ^ (n - 1)
  pub long : length row ≡ 24
  pub inside : (j : Stop) → member left j ≡ true → member s j ≡ true
  pub words : (j : Stop) → 1 ≤ j → j < n → at row (j - 1) ≡ (when member left j then unreached else table_word (leg_in n matrix) (n - 1) s j)

pub rowing_starts : (matrix : List Time) (n s : ℕ) → n ≤ 25 → s < 2 ^ (n - 1) → (blank : Time) → blank ≡ 2147483647 → Rowing matrix n s (replicate 24 blank) s
unfolding unreached
rowing_starts matrix n s few b blank e =
    record {
      within = b;
      long = refl;
      inside = λ j h. h;
      words = λ j low high. get_or-replicate 24 (j - 1) blank 0 (omega arith) ∙ e
          ∙ either_if (λ (x : Time). 2147483647 ≡ x) (member s j) (λ z. refl) (λ z. sym (word_out (leg_in n matrix) (n - 1) s j z));
    }

module _ {matrix : List Time} {n s : ℕ} {row : List Time} {left : ℕ} (h : Rowing matrix n s row left) {k : Stop} (l : Lowest left k) {later : ℕ} (t : Rest left later) where
  -- the other stops of s are a smaller set
  pub others_less : (s - 2 ^ (k - 1) < s) × (2 ^ (k - 1) ≤ s)
  others_less = omega (arith, pow_pos (k - 1), member_fits s k (h.inside k l.there))

  pub rowing_next : n ≤ 25 → {v : Time} → v ≡ onward (leg_in n matrix) k (members (n - 1) (s - 2 ^ (k - 1))) → Rowing matrix n s (set row (k - 1) v) later
  rowing_next few {v} o =
      record {
        within = omega (arith, h.within, rest_less (n - 1) h.within l t);
        long = length-set row (k - 1) v ∙ h.long;
        inside = λ j z. h.inside j (stays j z);
        words = λ j low high. elim (ℕ_discrete k j) [ yes q ↦ new j q | no ne ↦ old j low high ne ];
      }
    where
      gone : member later k ≡ false
      gone = ap (λ x. member x k) (t.is k l) ∙ less_same left k l.there

      other : (j : Stop) → k ≢ j → member later j ≡ member left j
      other j ne = ap (λ x. member x j) (t.is k l) ∙ less_other left k j l.there ne

      stays : (j : Stop) → member later j ≡ true → member left j ≡ true
      stays j z =
          elim (ℕ_discrete k j) [
            | yes q ↦ absurd (true_false (sym z ∙ ap (member later) (sym q) ∙ gone))
            | no ne ↦ sym (other j ne) ∙ z
          ]

      is_word : v ≡ table_word (leg_in n matrix) (n - 1) s k
      is_word =
          o ∙ ap (onward (leg_in n matrix) k) (members_less s (n - 1) k (h.inside k l.there))
          ∙ sym (word_in (leg_in n matrix) (n - 1) s k (h.inside k l.there))

      new : (j : Stop) → k ≡ j → at (set row (k - 1) v) (j - 1) ≡ (when member later j then unreached else table_word (leg_in n matrix) (n - 1) s j)
      new j q =
          let p : j - 1 ≡ k - 1 = omega arith in
          ap (at (set row (k - 1) v)) p ∙ get_or-set_same row (k - 1) v 0 (omega (arith, h.long, l.low)) ∙ is_word
          ∙ ap (table_word (leg_in n matrix) (n - 1) s) q
          ∙ ap (λ (b : Bool). when b then unreached else table_word (leg_in n matrix) (n - 1) s j) (sym (ap (member later) (sym q) ∙ gone))

      old : (j : Stop) → 1 ≤ j → j < n → k ≢ j → at (set row (k - 1) v) (j - 1) ≡ (when member later j then unreached else table_word (leg_in n matrix) (n - 1) s j)
      old j low high ne =
          let d : j - 1 ≢ k - 1 = omega (arith, l.low) in
          get_or-set_other row (k - 1) (j - 1) v 0 d ∙ h.words j low high
          ∙ ap (λ (b : Bool). when b then unreached else table_word (leg_in n matrix) (n - 1) s j) (sym (other j ne))

pub rowing_done : {matrix : List Time} {n s : ℕ} {row : List Time} {left : ℕ} → Rowing matrix n s row left → left ≡ 0 → Row matrix n s row
rowing_done {matrix} {n} {s} h z =
    record {
      word = λ k low high. h.words k low high
          ∙ ap (λ (b : Bool). when b then unreached else table_word (leg_in n matrix) (n - 1) s k) (ap (λ x. member x k) z ∙ member_none k);
    }
