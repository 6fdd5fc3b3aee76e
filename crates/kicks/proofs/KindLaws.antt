-- What a kick's kind says of its number.
use Prim.Native.Nat.{ℕ, zero, suc, ◌≤◌}
use mathlib.Core.Path.{◌≡◌, refl, ap, ◌∙◌}
use mathlib.Core.Bool.{Bool, true, false}
use native.Mathlib.Omega.{arith}
use lib.Dec.{ltb}
use Rattle.rules.specs.Lists.{when◌then◌else◌}
use Rattle.rules.specs.Kicks.{kind_at, longest}
use Rattle.laws.proofs.KickKindLaws.{kind_stays}
use Rattle.kicks.specs.declared.kinds.KickKind.{KickKind}
use Rattle.kicks.specs.declared.kinds.KickKind.TheVariants.{Bridge, Swap, Global}
use Rattle.kicks.specs.Kinds.{kick_number, kick_kind_in}

-- a number of a kind is read and written back
pub kind_number : (k : ℕ) → k ≤ 2 → kick_number (kick_kind_in k) ≡ k
kind_number zero h = refl
kind_number (suc zero) h = refl
kind_number (suc (suc zero)) h = refl
kind_number (suc (suc (suc k))) h = absurd (omega arith)

-- and so is one of a kind that was read
pub kind_read : (kind : KickKind) (k : ℕ) → kind ≡ kick_kind_in k → k ≤ 2 → kick_number kind ≡ k
kind_read kind k e h = ap kick_number e ∙ kind_number k h

-- no number of a kind is higher, nor is that of the kind that is carried out
pub number_most : (k : KickKind) → kick_number k ≤ 2
number_most Bridge = omega arith
number_most Swap = omega arith
number_most Global = omega arith

kind_most : (n k : ℕ) → k ≤ 2 → kind_at n k ≤ 2
unfolding kind_at
kind_most n k h = go (ltb (longest n) 2)
  where
    go : (l : Bool) → (when l then 2 else k) ≤ 2
    go true = omega arith
    go false = h

-- the kind that is carried out is read and written back
pub carried_out : (n k : ℕ) (kind : KickKind) → k ≡ kind_at n (kick_number kind) → kick_number (kick_kind_in k) ≡ kind_at n (kick_number kind)
carried_out n k kind e = kind_number k (rw e (kind_most n (kick_number kind) (number_most kind))) ∙ e

pub global_number : (k : KickKind) → kick_number k ≡ 2 → k ≡ Global
global_number Bridge e = absurd (omega arith)
global_number Swap e = absurd (omega arith)
global_number Global e = refl

-- what is no global kick is a kick of segments, and the kind stays
pub segments_stay : (n : ℕ) (kind done : KickKind) → kick_number done ≡ kind_at n (kick_number kind) → (done ≡ Global → ⊥)
    → (kick_number kind ≤ 1) × (kind_at n (kick_number kind) ≡ kick_number kind)
segments_stay n kind done e h = kind_stays n (kick_number kind) (number_most kind) (λ two. h (global_number done (e ∙ two)))
