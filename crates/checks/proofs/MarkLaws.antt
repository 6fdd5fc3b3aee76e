-- The loops of `mark_waiting` and `flags_marked`, and what they tell of `agree`.
use Prim.Native.Nat.{ℕ, ◌+◌, ◌-◌, ◌≤◌, ◌<◌}
use mathlib.Core.Path.{◌≡◌, refl, sym, ap, ◌∙◌}
use mathlib.Core.Bool.{Bool, true, false, ◌&&◌}
use mathlib.Core.List.{List, [], ◌∷◌, ◌++◌, append-nil}
use native.Mathlib.Omega.{arith}
use native.Mathlib.Decide.{dec_lt}
use native.Mathlib.Numerals.{add-one}
use borrow.Author.Tests.{lt-ltb, le-ltb, le-leb, lt-leb}
use lib.Dec.{ltb}
use lib.ListN.{length, take, set, replicate, length-replicate, replicate-append-replicate}
use lib.Seq.{take-suc, take-set-lt, get_or-take, ext_get_or, length-take-le, take_all, take_at, take-length}
use Rattle.rules.specs.Words.{Stop, Place}
use Rattle.rules.specs.Lists.{at, has, once, tally, same, every}
use Rattle.rules.specs.Ring.{turn, is_round}
use Rattle.rules.specs.Queue.{waiting, flags_of}
use Rattle.rules.specs.Numbers.{agree}
use Rattle.laws.proofs.CheckLaws.{same_self, same_is, round_stops}
use Rattle.laws.proofs.ChoiceLaws.{and-true, true-and, true_false, not_so}
use Rattle.laws.proofs.EveryLaws.{every_below, below_every}
use Rattle.laws.proofs.QueueLaws.{push_new, single_push, tally_split, once_tally, tally_once}
use Rattle.laws.proofs.WaitLaws.{flag_down, flag_up, flags_of_push, flags_of_none}
use Rattle.checks.specs.Marks.{Marked}

-- the first i stops of q are below n, each once, and marked
pub record Marking (n : ℕ) (q : List Stop) (i : ℕ) (marks : List ℕ) : Type 0 where
  pub below : (k : ℕ) → k < i → at q k < n
  pub single : (u : Stop) → tally (take i q) u ≤ 1
  pub marks_are : take n marks ≡ flags_of n (take i q)

pub marking_starts : (n : ℕ) (q : List Stop) (marks : List ℕ) → take n marks ≡ flags_of n [] → Marking n q 0 marks
unfolding tally
marking_starts n q marks e = record { below = λ k h. absurd (omega arith); single = λ u. omega arith; marks_are = e }

module _ (n : ℕ) (q : List Stop) (i : ℕ) (marks : List ℕ) (m : Marking n q i marks) (h : i < length q) where
  at_mark : (v : Stop) → v < n → at (flags_of n (take i q)) v ≡ at marks v
  at_mark v g = ap (λ (l : List ℕ). at l v) (sym m.marks_are) ∙ get_or-take n marks v 0 g

  -- one more stop marked
  pub marking_turn : at q i < n → at marks (at q i) ≡ 0 → Marking n q (i + 1) (set marks (at q i) 1)
  marking_turn g e =
      let v : Stop = at q i in
      let gone : has (take i q) v ≡ false = flag_down n (take i q) v g (at_mark v g ∙ e) in
      let t : take (i + 1) q ≡ take i q ++ (v ∷ []) = ap (λ (k : ℕ). take k q) (add-one i) ∙ take-suc q i 0 h in
      record {
        below = λ k l. go k l (dec_lt k i) g;
        single = rw t (single_push (take i q) v m.single gone);
        marks_are = take-set-lt n marks v 1 g ∙ ap (λ (l : List ℕ). set l v 1) m.marks_are ∙ sym (flags_of_push n (take i q) v g) ∙ ap (flags_of n) (push_new (take i q) v gone ∙ sym t);
      }
    where
      go : (k : ℕ) → k < i + 1 → Dec (k < i) → at q i < n → at q k < n
      go k l (yes p) g = m.below k p
      go k l (no p) g = let r : k ≡ i = omega arith in rw r g

  -- a stop that is none
  pub marking_beyond : n ≤ at q i → Marked n q false marks
  marking_beyond g =
      record {
        is = sym (not_so (every (λ v. ltb v n) q && once q) (λ e. omega (arith, every_below n q (and-true (every (λ v. ltb v n) q) (once q) e).0 i h)));
        marks_are = λ e. absurd (true_false (sym e));
      }

  -- a stop that is marked already
  pub marking_twice : at q i < n → 0 < at marks (at q i) → Marked n q false marks
  marking_twice g e =
      let v : Stop = at q i in
      let up : has (take i q) v ≡ true = flag_up n (take i q) v g (omega (arith, at_mark v g)) in
      record {
        is = sym (not_so (every (λ v. ltb v n) q && once q) (λ o. twice v up (once_tally q (and-true (every (λ v. ltb v n) q) (once q) o).1 v) refl));
        marks_are = λ e. absurd (true_false (sym e));
      }
    where
      twice : (v : Stop) → has (take i q) v ≡ true → tally q v ≤ 1 → at q i ≡ v → ⊥
      twice v up s e = omega (arith, tally_split q i v h e up)

-- all are
pub marking_done : (n : ℕ) (q : List Stop) (i : ℕ) (marks : List ℕ) → Marking n q i marks → length q ≤ i → Marked n q true marks
marking_done n q i marks m h =
    let t : take i q ≡ q = take_all i q h in
    record {
      is = sym (true-and (every (λ v. ltb v n) q) (once q) (below_every n q (λ k g. m.below k (omega arith))) (tally_once q (rw t at m.single)));
      marks_are = λ e. m.marks_are ∙ ap (flags_of n) t;
    }

-- ---- flags against marks
module _ (fs ms : List ℕ) (h : length fs ≤ length ms) where
  pub front_same : ((k : ℕ) → k < length fs → at fs k ≡ at ms k) → true ≡ same fs (take (length fs) ms)
  front_same e =
      let l : length (take (length fs) ms) ≡ length fs = length-take-le (length fs) ms h in
      let q : fs ≡ take (length fs) ms = ext_get_or 0 fs (take (length fs) ms) (sym l) (λ k g. e k g ∙ sym (get_or-take (length fs) ms k 0 g)) in
      sym (ap (same fs) (sym q) ∙ same_self fs)

  pub front_differs : (k : ℕ) → k < length fs → (at fs k ≡ at ms k → ⊥) → false ≡ same fs (take (length fs) ms)
  front_differs k g d =
      sym (not_so (same fs (take (length fs) ms)) (λ e. d (ap (λ (l : List ℕ). at l k) (same_is fs (take (length fs) ms) e) ∙ get_or-take (length fs) ms k 0 g)))

-- ---- queue and flags
module _ (n : ℕ) (queue flags : List ℕ) (head : Place) (count : ℕ) where
  agree_is : head < n → count ≤ n → agree n queue flags head count ≡ ((every (λ v. ltb v n) (waiting queue head count) && once (waiting queue head count)) && same flags (flags_of n (waiting queue head count)))
  unfolding agree
  agree_is h g = rw (lt-ltb head n h, le-leb count n g)

  pub head_beyond : n ≤ head → false ≡ agree n queue flags head count
  unfolding agree
  head_beyond h = rw (le-ltb head n h)

  pub count_beyond : head < n → n < count → false ≡ agree n queue flags head count
  unfolding agree
  count_beyond h g = rw (lt-ltb head n h, lt-leb count n g)

  pub unmarked : head < n → count ≤ n → (good : Bool) (marks : List ℕ) → Marked n (waiting queue head count) good marks → good ≡ false → false ≡ agree n queue flags head count
  unmarked h g good marks m e = sym (agree_is h g ∙ ap (λ (b : Bool). b && same flags (flags_of n (waiting queue head count))) (sym m.is ∙ e))

  pub marked : head < n → count ≤ n → (good : Bool) (marks : List ℕ) → Marked n (waiting queue head count) good marks → good ≡ true → length flags ≡ n
      → same flags (take (length flags) marks) ≡ agree n queue flags head count
  marked h g good marks m e l =
      ap (λ (k : ℕ). same flags (take k marks)) l ∙ ap (same flags) (m.marks_are e)
      ∙ sym (agree_is h g ∙ ap (λ (b : Bool). b && same flags (flags_of n (waiting queue head count))) (sym m.is ∙ e))

-- marks as they begin
pub clear_marks : (n m : ℕ) → n ≤ m → take n (replicate m 0) ≡ flags_of n []
clear_marks n m h =
    let q : m ≡ n + (m - n) = omega arith in
    ap (λ (k : ℕ). take n (replicate k 0)) q ∙ ap (take n) (sym (replicate-append-replicate n (m - n) 0))
    ∙ take_at (replicate n 0) (replicate (m - n) 0) n (length-replicate n 0) ∙ sym (flags_of_none n)

-- ---- a whole round, read as a queue from place 0
pub whole_round : (r : List Stop) (good : Bool) (marks : List ℕ) → Marked (length r) (waiting r 0 (length r)) good marks → good ≡ is_round (length r) r
unfolding waiting turn
whole_round r good marks m =
    let q : take (length r) (r ++ []) ≡ r = ap (take (length r)) (append-nil r) ∙ take-length r in
    m.is ∙ ap (λ (x : List Stop). every (λ v. ltb v (length r)) x && once x) q ∙ round_stops (length r) r refl
