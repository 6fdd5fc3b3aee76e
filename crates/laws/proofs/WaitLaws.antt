-- 01, "a ring of n places": what a stop pushed and a stop taken do to the words, the head and the flags of a queue.
use Prim.Native.Nat.{◌%◌, ◌+◌, ◌<◌, ◌≤◌, suc, zero, ℕ}
use mathlib.Core.Path.{◌∙◌, ◌≡◌, ap, refl, sym}
use mathlib.Core.Bool.{Bool, ◌||◌, false, not, true}
use mathlib.Core.List.{List, [], ◌++◌, ◌∷◌}
use native.Mathlib.Numerals.{add-one}
use native.Mathlib.Omega.{arith}
use lib.ListN.{get_or-replicate, length, length-replicate, replicate, set, take}
use lib.Seq.{ext_get_or, get_or-take, length-take-le, take-suc-set}
use borrow.Author.Tests.{eq-eqb, ne_eqb, not-true}
use Rattle.rules.specs.Lists.{at, has, when◌then◌else◌, once}
use Rattle.rules.specs.Queue.{flags_of, push, waiting}
use Rattle.rules.specs.Ring.{next, turn}
use Rattle.rules.specs.Words.{Place, Stop}
use Rattle.laws.proofs.ChoiceLaws.{and-true, or-false, or-true}
use Rattle.laws.proofs.PlaceLaws.{next_below, on_next}
use Rattle.laws.proofs.QueueLaws.{push_has}
use Rattle.laws.proofs.RisingLaws.{table_at, table_length, table_set}
use Rattle.laws.proofs.TurnLaws.{On, low, on_from, on_mod, turn_length, turn_on, turn_set}

-- so many wait
pub waiting_length : (ws : List ℕ) (head : Place) (count : ℕ) → count ≤ length ws → length (waiting ws head count) ≡ count
unfolding waiting
waiting_length ws head count h = length-take-le count (turn head ws) (omega (arith, turn_length head ws))

-- a stop is pushed: its word is written behind those that wait
pub waiting_push : (ws : List ℕ) (head : Place) (count : ℕ) (p : Place) (v : Stop) → head < length ws → count < length ws → On (length ws) head count p
    → waiting (set ws p v) head (count + 1) ≡ waiting ws head count ++ (v ∷ [])
unfolding waiting
waiting_push ws head count p v hh hc o =
    let e : turn head (set ws p v) ≡ set (turn head ws) count v = turn_set head count p v ws (omega arith) hc o in
    rw (add-one count, e) (take-suc-set (turn head ws) count v (omega (arith, turn_length head ws)))

-- the first is taken: the head moves on
pub waiting_take : (ws : List ℕ) (head : Place) (count : ℕ) → head < length ws → count < length ws
    → waiting ws head (count + 1) ≡ at ws head ∷ waiting ws (next (length ws) head) count
unfolding waiting
waiting_take ws head count hh hc =
    let n = length ws in
    let l : length (waiting ws head (count + 1)) ≡ count + 1 = waiting_length ws head (count + 1) (omega arith) in
    let r : length (waiting ws (next n head) count) ≡ count = waiting_length ws (next n head) count (omega arith) in
    ext_get_or 0 (waiting ws head (count + 1)) (at ws head ∷ waiting ws (next n head) count) (omega arith) (λ i h. read i (omega arith))
  where
    read : (i : ℕ) → i < count + 1 → at (take (count + 1) (turn head ws)) i ≡ at (at ws head ∷ take count (turn (next (length ws) head) ws)) i
    read zero h = get_or-take (count + 1) (turn head ws) 0 0 h ∙ turn_on head 0 head ws (omega arith) (omega arith) (low (omega arith) (omega arith))
    read (suc i) h =
        let n = length ws in
        let p = (head + suc i) % n in
        let self : On n head 0 head = low (omega arith) (omega arith) in
        let one : On n head (0 + 1) (next n head) = on_next n head 0 head hh (omega arith) self in
        let o : On n head (suc i) p = on_mod n head (suc i) hh (omega arith) in
        let o' : On n (next n head) i p = on_from n head (suc i) (0 + 1) i p (next n head) hh (omega arith) (omega arith) (omega arith) o one (low (omega arith) (omega arith)) in
        let b : next n head < n = next_below n head hh in
        get_or-take (count + 1) (turn head ws) (suc i) 0 h ∙ turn_on head (suc i) p ws (omega arith) (omega arith) o
        ∙ sym (get_or-take count (turn (next n head) ws) i 0 (omega arith) ∙ turn_on (next n head) i p ws (omega arith) (omega arith) o')

-- ---- flags
abbrev bit : Bool → ℕ
bit b = when b then 1 else 0

abbrev flag : List Stop → Stop → ℕ
flag q v = bit (has q v)

-- n flags
pub flags_of_length : (n : ℕ) (q : List Stop) → length (flags_of n q) ≡ n
unfolding flags_of
flags_of_length n q = table_length (flag q) n

-- each says whether its stop waits
pub flags_of_at : (n : ℕ) (q : List Stop) (v : Stop) → v < n → at (flags_of n q) v ≡ (when has q v then 1 else 0)
unfolding flags_of
flags_of_at n q v h = table_at (flag q) n v h

-- down, he does not; up, he does
pub flag_down : (n : ℕ) (q : List Stop) (v : Stop) → v < n → at (flags_of n q) v ≡ 0 → has q v ≡ false
flag_down n q v h e = go (has q v) (sym (flags_of_at n q v h) ∙ e)
  where
    go : (b : Bool) → bit b ≡ 0 → b ≡ false
    go true g = absurd (omega arith)
    go false g = refl

pub flag_up : (n : ℕ) (q : List Stop) (v : Stop) → v < n → 0 < at (flags_of n q) v → has q v ≡ true
flag_up n q v h e = go (has q v) (omega (arith, flags_of_at n q v h))
  where
    go : (b : Bool) → 0 < bit b → b ≡ true
    go true g = refl
    go false g = absurd (omega arith)

-- a stop is pushed: its flag is 1
pub flags_of_push : (n : ℕ) (q : List Stop) (v : Stop) → v < n → flags_of n (push q v) ≡ set (flags_of n q) v 1
unfolding flags_of
flags_of_push n q v h =
    table_set (flag q) (flag (push q v)) n v h
    (λ u ne. ap bit (push_has q v u ∙ ap (λ (b : Bool). has q u || b) (ne_eqb v u (λ e. ne (sym e))) ∙ or-false (has q u)))
    ∙ ap (λ (b : Bool). set (flags_of n q) v (bit b)) (push_has q v v ∙ ap (λ (b : Bool). has q v || b) (eq-eqb v v refl) ∙ or-true (has q v))

-- the first is taken: its flag is 0
pub flags_of_take : (n : ℕ) (v : Stop) (q : List Stop) → v < n → once (v ∷ q) ≡ true → flags_of n q ≡ set (flags_of n (v ∷ q)) v 0
unfolding flags_of once has
flags_of_take n v q h o =
    table_set (flag (v ∷ q)) (flag q) n v h (λ u ne. ap (λ (b : Bool). bit (when b then true else has q u)) (sym (ne_eqb v u (λ e. ne (sym e)))))
    ∙ ap (λ (b : Bool). set (flags_of n (v ∷ q)) v (bit b)) (not-true (has q v) (and-true (not (has q v)) (once q) o).0)

-- nobody waits: all flags are 0
pub flags_of_none : (n : ℕ) → flags_of n [] ≡ replicate n 0
unfolding has
flags_of_none n =
    ext_get_or 0 (flags_of n []) (replicate n 0) (flags_of_length n [] ∙ sym (length-replicate n 0)) (λ v h.
    let hv : v < n = omega (arith, flags_of_length n []) in flags_of_at n [] v hv ∙ sym (get_or-replicate n v 0 0 hv))
