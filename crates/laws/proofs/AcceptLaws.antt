-- 01, "Answer numbers": what a call that was not refused was lent.
use Prim.Native.Nat.{◌*◌, ◌<◌, ◌≤◌, ℕ}
use mathlib.Core.Path.{◌≡◌}
use mathlib.Core.Bool.{Bool, ◌&&◌, true}
use mathlib.Core.List.{List, [], ◌++◌, ◌∷◌}
use native.Mathlib.Decide.{dec_lt}
use native.Mathlib.Nat.{mul-le-mul_left, mul-lt-mul_of_pos_right}
use native.Mathlib.Omega.{arith}
use lib.Dec.{eqb, leb}
use lib.ListN.{length}
use borrow.Author.Tests.{eq-eqb, eqb-true, leb-true}
use Rattle.rules.specs.Lists.{every, rising}
use Rattle.rules.specs.Memory.{Carried, Lent, plan_in, room_in}
use Rattle.rules.specs.Numbers.{Check, ◌or◌, call_checks, good_lengths, good_state, lent_checks, symmetric, verdict, within}
use Rattle.rules.specs.Words.{Legs}
use Rattle.laws.proofs.CheckLaws.{Passed, good_state_passed, plan_fits}
use Rattle.laws.proofs.ChoiceLaws.{and-true}
use Rattle.laws.proofs.EvenLaws.{Even}
use Rattle.laws.proofs.GainLaws.{Fit}
use Rattle.laws.proofs.RisingLaws.{rising_every}
use Rattle.laws.proofs.VerdictLaws.{first_held}

-- 1 to 6 passed
pub record Lendable (l : Lent) : Type 0 where
  pub low : 2 ≤ l.n
  pub high : l.n ≤ 4096
  pub cells : length l.matrix ≡ l.n * l.n
  pub room : 512 ≤ room_in l
  pub fit : Fit (plan_in l) l.n

pub lendable : (l : Lent) (told : Bool) (more : List ℕ) (rest : List Check) → verdict (lent_checks l told more ++ rest) ≡ 0 → Lendable l × (verdict rest ≡ 0)
unfolding lent_checks good_lengths within
lendable l told more rest e =
    let a = first_held _ 0 _ e in
    let b = first_held _ 1 _ a.1 in
    let c = first_held _ 2 _ b.1 in
    let d = first_held _ 3 _ c.1 in
    let f = first_held _ 4 _ d.1 in
    let g = first_held _ 5 _ f.1 in
    let n = and-true (leb 2 l.n) (leb l.n 4096) a.0 in
    let m = eqb (length l.matrix) (l.n * l.n) in
    let near = eqb (length l.near) (l.n * l.k) in
    let alpha = eqb (length l.alpha) (l.n * l.ka) in
    let lengths = and-true (m && near && alpha) _ c.0 in
    let cells = and-true m near (and-true (m && near) alpha lengths.0).0 in
    (record { low = leb-true 2 l.n n.0; high = leb-true l.n 4096 n.1; cells = eqb-true (length l.matrix) (l.n * l.n) cells.0; room = leb-true 512 (room_in l) d.0; fit = plan_fits (plan_in l) l.n f.0 g.0 }, g.1)

-- 1 to 7 passed
pub callable : (l : Lent) (c : Carried) (told : Bool) (rest : List Check) → verdict (call_checks l c told ++ rest) ≡ 0 → Lendable l × Passed l c
unfolding call_checks lent_checks
callable l c told rest e =
    let a = lendable l told [] ((good_state l c or 7) ∷ rest) e in
    (a.0, good_state_passed l c (first_held (good_state l c) 6 rest a.1).0)

-- a matrix has one number of rows
pub one_root : (m n : ℕ) → m * m ≡ n * n → m ≡ n
one_root m n e = elim (dec_lt m n) [
  | yes h ↦ absurd (omega (arith, below m n h))
  | no h ↦ elim (dec_lt n m) [ yes g ↦ absurd (omega (arith, below n m g)) | no g ↦ omega arith ]
]
  where
    below : (a b : ℕ) → a < b → a * a < b * b
    below a b h = let p : a * a ≤ a * b = mul-le-mul_left a (omega arith) in let q : a * b < b * b = mul-lt-mul_of_pos_right h (omega arith) in omega arith

-- legs that take as long as their return pass 5
pub even_symmetric : (d : Legs) (n : ℕ) → Even d n → symmetric n d ≡ true
unfolding symmetric
even_symmetric d n h =
    rising_every (λ a. every (λ b. eqb (d a b) (d b a)) (rising n 0)) n 0 (λ a la ha.
    rising_every (λ b. eqb (d a b) (d b a)) n 0 (λ b lb hb. eq-eqb (d a b) (d b a) (h a b (omega arith) (omega arith))))
