-- The stops of a list but one, as start rounds and orders leave them.
use Prim.Native.Nat.{◌+◌, ◌<◌, ◌≤◌, suc, ℕ}
use mathlib.Core.Path.{◌∙◌, ◌≡◌, ap, refl, sym}
use mathlib.Core.Logic.{◌⊎◌, ◌≢◌, inl, inr}
use mathlib.Core.Bool.{Bool, false, not, true}
use mathlib.Core.List.{List, [], ◌∷◌}
use native.Mathlib.Decide.{ℕ_discrete}
use native.Mathlib.Omega.{arith}
use lib.Dec.{eqb}
use lib.ListN.{length}
use borrow.Author.Tests.{eq-eqb, eqb-false, eqb-true, ne_eqb, not-false, not-true}
use Rattle.rules.specs.Lists.{keep, one, tally}
use Rattle.rules.specs.Start.{without}
use Rattle.rules.specs.Words.{Stop}
use Rattle.laws.proofs.ChoiceLaws.{either, either_if}
use Rattle.laws.proofs.InLaws.{In, Up, down, in_some, keep_in, keep_no, keep_yes, top, up_in, up_keep}
use Rattle.laws.proofs.TallyLaws.{one_other, one_same}

module _ (v : Stop) where
  pub without_in : {u : Stop} (l : List Stop) → In u (without v l) → In u l × (u ≢ v)
  unfolding without
  without_in {u} l h = let r = keep_in (λ w. not (eqb w v)) l h in (r.0, eqb-false u v (not-true (eqb u v) r.1))

  pub up_without : (i : ℕ) (l : List Stop) → Up i l → Up i (without v l)
  unfolding without
  up_without i l u = up_keep (λ w. not (eqb w v)) i l u

  pub without_same : (x : Stop) (l : List Stop) → x ≡ v → without v (x ∷ l) ≡ without v l
  unfolding without
  without_same x l e = keep_no (λ w. not (eqb w v)) x l (rw (eq-eqb x v e))

  pub without_other : (x : Stop) (l : List Stop) → x ≢ v → without v (x ∷ l) ≡ x ∷ without v l
  unfolding without
  without_other x l ne = keep_yes (λ w. not (eqb w v)) x l (rw (ne_eqb x v ne))

  -- a list that rises above v has it not
  pub without_above : (i : ℕ) (l : List Stop) → Up i l → v < i → without v l ≡ l
  unfolding without keep
  without_above i [] u h = refl
  without_above i (x ∷ l) u h =
      without_other x l (λ e. omega (arith, u.0)) ∙ ap (λ (r : List Stop). x ∷ r) (without_above (suc x) l u.1 (omega (arith, u.0)))

  -- the first of a list that rises
  pub without_first : (l : List Stop) → Up (suc v) l → without v (v ∷ l) ≡ l
  without_first l u = without_same v l refl ∙ without_above (suc v) l u (omega arith)

  pub length_without : (i : ℕ) {l : List Stop} → Up i l → In v l → length l ≡ suc (length (without v l))
  length_without i u (top {l = l}) = ap (λ (r : List Stop). suc (length r)) (sym (without_first l u.1))
  length_without i u (down {y = y} {l = l} h) =
      let k = up_in (suc y) u.1 h in
      ap suc (length_without (suc y) u.1 h) ∙ ap (λ (r : List Stop). suc (length r)) (sym (without_other y l (λ e. omega arith)))

-- the least of a list that rises stands first
pub least_first : (k : Stop) (l : List Stop) → Up k l → In k l → l ≡ k ∷ without k l
least_first k (x ∷ l) u h =
    elim (ℕ_discrete x k) [
      | yes e ↦ ap (λ (v : Stop). v ∷ l) e ∙ ap (λ (r : List Stop). k ∷ r) (sym (without_same k x l e ∙ without_above k (suc x) l u.1 (omega arith)))
      | no ne ↦ absurd (ne (heads h))
    ]
  where
    heads : In k (x ∷ l) → x ≡ k
    heads h = omega (arith, u.0, up_in x (omega arith, u.1) h)
least_first k [] u h = absurd (omega (arith, in_some h))

-- q passes what p does, but for k: the stops that p keeps, without k
module _ (p q : Stop → Bool) (k : Stop) (gone : q k ≡ false) (others : (v : Stop) → v ≢ k → q v ≡ p v) where
  pub keep_without : (l : List Stop) → without k (keep p l) ≡ keep q l
  unfolding without keep
  keep_without [] = refl
  keep_without (x ∷ l) = go (keep_without l) (ℕ_discrete x k) (either (p x))
    where
      go : without k (keep p l) ≡ keep q l → Dec (x ≡ k) → (p x ≡ true) ⊎ (p x ≡ false) → without k (keep p (x ∷ l)) ≡ keep q (x ∷ l)
      go on (yes e) (inl y) = ap (without k) (keep_yes p x l y) ∙ without_same k x (keep p l) e ∙ on ∙ sym (keep_no q x l (ap q e ∙ gone))
      go on (yes e) (inr z) = ap (without k) (keep_no p x l z) ∙ on ∙ sym (keep_no q x l (ap q e ∙ gone))
      go on (no e) (inl y) =
          ap (without k) (keep_yes p x l y) ∙ without_other k x (keep p l) e ∙ ap (λ (r : List Stop). x ∷ r) on ∙ sym (keep_yes q x l (others x e ∙ y))
      go on (no e) (inr z) = ap (without k) (keep_no p x l z) ∙ on ∙ sym (keep_no q x l (others x e ∙ z))

-- ---- how often each is there
-- the one is gone
pub without_tally_same : (v : Stop) (l : List Stop) → tally (without v l) v ≡ 0
unfolding without keep tally
without_tally_same v [] = refl
without_tally_same v (x ∷ l) =
    either_if (λ (k : List Stop). tally k v ≡ 0) (not (eqb x v))
    (λ y. omega (arith, one_other (eqb-false x v (not-true (eqb x v) y)), without_tally_same v l))
    (λ y. without_tally_same v l)

-- the others stay
pub without_tally_other : (v u : Stop) (l : List Stop) → v ≢ u → tally (without v l) u ≡ tally l u
unfolding without keep tally
without_tally_other v u [] ne = refl
without_tally_other v u (x ∷ l) ne =
    either_if (λ (k : List Stop). tally k u ≡ one x u + tally l u) (not (eqb x v))
    (λ y. omega (arith, without_tally_other v u l ne))
    (λ y. let e : x ≡ v = eqb-true x v (not-false (eqb x v) y) in let q : x ≢ u = λ z. ne (sym e ∙ z) in omega (arith, one_other q, without_tally_other v u l ne))

-- as many fewer as there were
pub without_length : (v : Stop) (l : List Stop) → length (without v l) + tally l v ≡ length l
unfolding without keep tally
without_length v [] = refl
without_length v (x ∷ l) =
    either_if (λ (k : List Stop). length k + (one x v + tally l v) ≡ suc (length l)) (not (eqb x v))
    (λ y. omega (arith, one_other (eqb-false x v (not-true (eqb x v) y)), without_length v l))
    (λ y. omega (arith, one_same (eqb-true x v (not-false (eqb x v) y)), without_length v l))

-- none is there twice
pub without_once : (v : Stop) (l : List Stop) → ((u : Stop) → tally l u ≤ 1) → (u : Stop) → tally (without v l) u ≤ 1
without_once v l h u = elim (ℕ_discrete v u) [
  | yes e ↦ (let q : tally (without v l) u ≡ 0 = ap (tally (without v l)) (sym e) ∙ without_tally_same v l in omega arith)
  | no ne ↦ omega (arith, without_tally_other v u l ne, h u)
]
