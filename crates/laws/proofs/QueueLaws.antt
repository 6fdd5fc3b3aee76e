-- 01, 4: "a stop waits once, in order of arrival".
use Prim.Native.Nat.{◌+◌, ◌<◌, ◌≤◌, suc, zero, ℕ}
use mathlib.Core.Path.{◌∙◌, ◌≡◌, ap, refl, subst, sym}
use mathlib.Core.Bool.{Bool, ◌||◌, false, not, true}
use mathlib.Core.List.{List, [], ◌++◌, ◌∷◌, append_assoc, append-nil}
use native.Mathlib.Decide.{ℕ_discrete}
use native.Mathlib.Omega.{arith}
use lib.Dec.{eqb}
use lib.ListN.{length, length-append, take}
use borrow.Author.Tests.{eqb-false, eqb-true, not-true}
use Rattle.rules.specs.Lists.{at, has, when◌then◌else◌, once, one, tally}
use Rattle.rules.specs.Queue.{push, push_all}
use Rattle.rules.specs.Words.{Stop}
use Rattle.laws.proofs.ChoiceLaws.{and-true, either_if, either_way, not_so, or-false, true_false}
use Rattle.laws.proofs.EveryLaws.{Below, all_join, more, none}
use Rattle.laws.proofs.PermLaws.{once_few}
use Rattle.laws.proofs.PlaceLaws.{place_below, tally_at}
use Rattle.laws.proofs.TallyLaws.{one_other, one_same, tally_join}

-- ---- the tests `has` and `once` as counts
pub has_tally : (q : List Stop) (v : Stop) → has q v ≡ true → 0 < tally q v
unfolding has tally
has_tally [] v e = absurd (true_false (sym e))
has_tally (x ∷ q) v e =
    either_if (λ (b : Bool). b ≡ true → 0 < one x v + tally q v) (eqb x v)
    (λ y z. omega (arith, one_same (eqb-true x v y)))
    (λ y z. omega (arith, has_tally q v z))
    e

pub hasnt_tally : (q : List Stop) (v : Stop) → has q v ≡ false → tally q v ≡ 0
unfolding has tally
hasnt_tally [] v e = refl
hasnt_tally (x ∷ q) v e =
    either_if (λ (b : Bool). b ≡ false → one x v + tally q v ≡ 0) (eqb x v)
    (λ y z. absurd (true_false z))
    (λ y z. omega (arith, one_other (eqb-false x v y), hasnt_tally q v z))
    e

pub once_tally : (q : List Stop) → once q ≡ true → (v : Stop) → tally q v ≤ 1
unfolding once tally
once_tally [] e v = omega arith
once_tally (x ∷ q) e v =
    let g = and-true (not (has q x)) (once q) e in
    let h = hasnt_tally q x (not-true (has q x) g.0) in
    elim (ℕ_discrete x v) [
      | yes z ↦ (let k : tally q v ≡ 0 = ap (tally q) (sym z) ∙ h in omega (arith, one_same z))
      | no ne ↦ omega (arith, one_other ne, once_tally q g.1 v)
    ]

-- none twice: the first taken, the others are so too, and have it not
pub single_take : (v : Stop) (q : List Stop) → ((u : Stop) → tally (v ∷ q) u ≤ 1) → (u : Stop) → tally q u ≤ 1
unfolding tally
single_take v q s u = omega (arith, s u)

pub single_gone : (v : Stop) (q : List Stop) → ((u : Stop) → tally (v ∷ q) u ≤ 1) → has q v ≡ false
unfolding tally
single_gone v q s = not_so (has q v) (λ e. omega (arith, s v, one_same (refl {a = v}), has_tally q v e))

-- so nobody waits twice
pub tally_once : (q : List Stop) → ((v : Stop) → tally q v ≤ 1) → once q ≡ true
unfolding once tally
tally_once [] h = refl
tally_once (x ∷ q) h = rw (single_gone x q h) (tally_once q (single_take x q h))

-- a stop that waits before place i and stands at place i waits twice
pub tally_split : (q : List Stop) (i : ℕ) (v : Stop) → i < length q → at q i ≡ v → has (take i q) v ≡ true → 2 ≤ tally q v
unfolding has tally
tally_split [] i v h e up = absurd (omega arith)
tally_split (x ∷ q) zero v h e up = absurd (true_false (sym up))
tally_split (x ∷ q) (suc i) v h e up =
    either_if (λ (b : Bool). b ≡ true → 2 ≤ one x v + tally q v) (eqb x v)
    (λ y z. omega (arith, one_same (eqb-true x v y), subst (λ u. 0 < tally q u) e (tally_at q i (omega arith))))
    (λ y z. omega (arith, tally_split q i v (omega arith) e z))
    up

-- ---- push
pub push_old : (q : List Stop) (v : Stop) → has q v ≡ true → push q v ≡ q
unfolding push
push_old q v e = rw e

-- who does not wait yet waits last
pub push_new : (q : List Stop) (v : Stop) → has q v ≡ false → push q v ≡ q ++ (v ∷ [])
unfolding push
push_new q v e = rw e

tally_last : (q : List Stop) (v u : Stop) → tally (q ++ (v ∷ [])) u ≡ tally q u + one v u
unfolding tally
tally_last q v u = omega (arith, tally_join u q (v ∷ []))

-- who does not wait yet, put behind the others: none twice
pub single_push : (q : List Stop) (v : Stop) → ((u : Stop) → tally q u ≤ 1) → has q v ≡ false → (u : Stop) → tally (q ++ (v ∷ [])) u ≤ 1
single_push q v s e u = elim (ℕ_discrete v u) [
  | yes z ↦ (let k : tally q u ≡ 0 = ap (tally q) (sym z) ∙ hasnt_tally q v e in omega (arith, tally_last q v u, one_same z))
  | no ne ↦ omega (arith, tally_last q v u, one_other ne, s u)
]

-- nobody waits twice
pub push_once : (q : List Stop) (v : Stop) → once q ≡ true → once (push q v) ≡ true
unfolding push
push_once q v h =
    either_if (λ (l : List Stop). once l ≡ true) (has q v) (λ e. h) (λ e. tally_once (q ++ (v ∷ [])) (single_push q v (once_tally q h) e))

pub push_all_once : (q vs : List Stop) → once q ≡ true → once (push_all q vs) ≡ true
unfolding push_all
push_all_once q [] h = h
push_all_once q (v ∷ vs) h = push_all_once (push q v) vs (push_once q v h)

-- in order of arrival: who waits keeps his place
pub record Behind (q q' : List Stop) : Type 0 where
  pub newer : List Stop
  pub is : q' ≡ q ++ newer

push_behind : (q : List Stop) (v : Stop) → Behind q (push q v)
unfolding push
push_behind q v = either_way (Behind q) (has q v) (record { newer = []; is = sym (append-nil q) }) (record { newer = v ∷ []; is = refl })

pub push_all_behind : (q vs : List Stop) → Behind q (push_all q vs)
unfolding push_all
push_all_behind q [] = record { newer = []; is = sym (append-nil q) }
push_all_behind q (v ∷ vs) =
    let g = push_all_behind (push q v) vs in
    let h = push_behind q v in
    record { newer = h.newer ++ g.newer; is = g.is ∙ ap (λ l. l ++ g.newer) h.is ∙ append_assoc q h.newer g.newer }

-- and who was pushed waits
or_if : (a b c : Bool) → ((a || b) || c) ≡ (a || (when b then true else c))
or_if true b c = refl
or_if false true c = refl
or_if false false c = refl

if_or : (b a c : Bool) → (when b then true else (a || c)) ≡ ((when b then true else a) || c)
if_or true a c = refl
if_or false a c = refl

has_last : (q : List Stop) (v u : Stop) → has (q ++ (v ∷ [])) u ≡ (has q u || eqb v u)
unfolding has
has_last [] v u = go (eqb v u)
  where
    go : (b : Bool) → (when b then true else false) ≡ b
    go true = refl
    go false = refl
has_last (x ∷ q) v u = ap (λ (b : Bool). when eqb x u then true else b) (has_last q v u) ∙ if_or (eqb x u) (has q u) (eqb v u)

-- one stop more waits
pub push_has : (q : List Stop) (v u : Stop) → has (push q v) u ≡ (has q u || eqb v u)
unfolding push
push_has q v u = either_if (λ (l : List Stop). has l u ≡ (has q u || eqb v u)) (has q v) (λ e. old e (eqb v u) refl) (λ e. has_last q v u)
  where
    old : has q v ≡ true → (b : Bool) → eqb v u ≡ b → has q u ≡ (has q u || b)
    old e true y = let h : has q u ≡ true = ap (has q) (sym (eqb-true v u y)) ∙ e in rw h
    old e false y = sym (or-false (has q u))

pub push_all_has : (q vs : List Stop) (v : Stop) → has (push_all q vs) v ≡ (has q v || has vs v)
unfolding push_all has
push_all_has q [] v = sym (or-false (has q v))
push_all_has q (x ∷ vs) v = push_all_has (push q x) vs v ∙ ap (λ (b : Bool). b || has vs v) (push_has q x v) ∙ or_if (has q v) (eqb x v) (has vs v)

-- one list pushed after another
pub push_all_join : (q xs ys : List Stop) → push_all q (xs ++ ys) ≡ push_all (push_all q xs) ys
unfolding push_all
push_all_join q [] ys = refl
push_all_join q (x ∷ xs) ys = push_all_join (push q x) xs ys

-- the queue holds stops
pub push_below : (n : ℕ) (q : List Stop) (v : Stop) → Below n q → v < n → Below n (push q v)
unfolding push
push_below n q v b h = either_way (Below n) (has q v) b (all_join q (v ∷ []) b (more h none))

pub push_all_below : (n : ℕ) (q vs : List Stop) → Below n q → Below n vs → Below n (push_all q vs)
unfolding push_all
push_all_below n q [] b none = b
push_all_below n q (v ∷ vs) b (more h c) = push_all_below n (push q v) vs (push_below n q v b h) c

-- n places are enough
pub once_length : (n : ℕ) (q : List Stop) → once q ≡ true → Below n q → length q ≤ n
once_length n q h b = once_few n q b (once_tally q h)

-- a stop that does not wait leaves room for it
pub once_room : (n : ℕ) (q : List Stop) (v : Stop) → once q ≡ true → Below n q → v < n → has q v ≡ false → length q < n
once_room n q v h b hv e =
    let k : once (q ++ (v ∷ [])) ≡ true = subst (λ l. once l ≡ true) (push_new q v e) (push_once q v h) in
    omega (arith, once_length n (q ++ (v ∷ [])) k (all_join q (v ∷ []) b (more hv none)), length-append q (v ∷ []))

-- somebody waits once one was pushed
push_some : (q : List Stop) (v : Stop) → 0 < length (push q v)
unfolding push
push_some q v = either_if (λ (l : List Stop). 0 < length l) (has q v) (λ e. go q (has_tally q v e)) (λ e. omega (arith, length-append q (v ∷ [])))
  where
    go : (q : List Stop) → 0 < tally q v → 0 < length q
    go q h = omega (arith, place_below q v h)

pub push_all_some : (q : List Stop) (v : Stop) (vs : List Stop) → 0 < length (push_all q (v ∷ vs))
unfolding push_all
push_all_some q v vs = let g = push_all_behind (push q v) vs in omega (arith, push_some q v, ap length g.is, length-append (push q v) g.newer)
