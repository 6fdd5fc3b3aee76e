-- The loops of `cost` and `path_cost`: what is still ahead of place i of a walk.
use Prim.Native.Nat.{ℕ, suc, ◌+◌, ◌≤◌, ◌<◌}
use mathlib.Core.Path.{◌≡◌, refl, sym, ap, ◌∙◌}
use mathlib.Core.List.{List, [], ◌∷◌, ◌++◌}
use native.Mathlib.Omega.{arith}
use native.Mathlib.Numerals.{add-one}
use lib.ListN.{length, take, drop, length-append, drop_of_length-le, get_or-append}
use lib.Seq.{drop-cons, get_or_at, get_or-take, length-take-le}
use Rattle.rules.specs.Words.{Stop, Place, Time, Round, Legs}
use Rattle.rules.specs.Lists.{at}
use Rattle.rules.specs.Ring.{next, turn, along, path, path_cost, lap, recount}
use Rattle.laws.proofs.PlaceLaws.{Next, to_0, to_more, next_view}
use Rattle.ring.specs.Around.{around}
use Rattle.ring.proofs.AroundLaws.{next_around}
use Rattle.laws.proofs.TurnLaws.{turn_length}
use Rattle.ring.proofs.TurnAtLaws.{at_turn}

-- the legs from the stop at i on
unfoldable pub rest : Legs → List Stop → ℕ → Time
rest d y i = along d (at y i) (drop (i + 1) y)

rest_start : (d : Legs) (y : List Stop) → rest d y 0 ≡ path d y
unfolding rest path along
rest_start d [] = refl
rest_start d (a ∷ y) = refl

rest_turn : (d : Legs) (y : List Stop) (i : ℕ) → i + 1 < length y → rest d y i ≡ d (at y i) (at y (i + 1)) + rest d y (i + 1)
unfolding rest along
rest_turn d y i h =
    let e : drop (i + 1) y ≡ at y (i + 1) ∷ drop (suc (i + 1)) y = drop-cons y (i + 1) 0 h in
    let q : suc (i + 1) ≡ i + 1 + 1 = sym (add-one (i + 1)) in
    ap (along d (at y i)) e ∙ ap (λ (m : ℕ). d (at y i) (at y (i + 1)) + along d (at y (i + 1)) (drop m y)) q

rest_done : (d : Legs) (y : List Stop) (i : ℕ) → length y ≤ i + 1 → rest d y i ≡ 0
unfolding rest along
rest_done d y i h = ap (along d (at y i)) (drop_of_length-le y h)

-- ---- the whole round: its stops, closed by its first
unfoldable pub closed : Round → List Stop
closed r = r ++ (at r 0 ∷ [])

length_closed : (r : Round) → length (closed r) ≡ length r + 1
unfolding closed
length_closed r = length-append r _

closed_next : (r : Round) (i : Place) → i < length r → at (closed r) (i + 1) ≡ at r (next (length r) i)
unfolding closed
closed_next r i h = go _ (next_view (length r) i)
  where
    go : (x : Place) → Next (length r) i x → at (closed r) (i + 1) ≡ at r x
    go x (to_0 e e') = get_or_at r (at r 0) [] 0 (i + 1) (sym e) ∙ ap (at r) (sym e')
    go x (to_more e e') = get_or-append r _ 0 (i + 1) (omega arith) ∙ ap (at r) (sym e')

module _ (d : Legs) where
  pub cost_starts : (r : Round) → 2 ≤ length r → 0 + rest d (closed r) 0 ≡ recount d r
  unfolding rest closed recount lap along
  cost_starts [] h = absurd (omega arith)
  cost_starts (a ∷ []) h = absurd (omega arith)
  cost_starts (a ∷ b ∷ r) h = omega arith

  pub cost_turn : (r : Round) (i : Place) → i < length r → rest d (closed r) i ≡ d (at r i) (at r (next (length r) i)) + rest d (closed r) (i + 1)
  unfolding closed
  cost_turn r i h =
      rest_turn d (closed r) i (omega (arith, length_closed r))
      ∙ (λ k. d (get_or-append r (at r 0 ∷ []) 0 i h k) (closed_next r i h k) + rest d (closed r) (i + 1))

  pub cost_done : (r : Round) (i : Place) → length r ≤ i → rest d (closed r) i ≡ 0
  cost_done r i h = rest_done d (closed r) i (omega (arith, length_closed r))

  pub cost_none : (r : Round) → length r < 2 → 0 ≡ recount d r
  unfolding recount lap
  cost_none [] h = refl
  cost_none (a ∷ []) h = refl
  cost_none (a ∷ b ∷ r) h = absurd (omega arith)

-- ---- a part of it
unfoldable pub part : Place → ℕ → Round → List Stop
part start legs r = take (legs + 1) (turn start r)

module _ (d : Legs) (start : Place) (legs : ℕ) (r : Round) where
  pub path_starts : 0 + rest d (part start legs r) 0 ≡ path_cost d start legs r
  unfolding path_cost part
  path_starts = omega (arith, rest_start d (take (legs + 1) (turn start r)))

  length_part : legs < length r → length (part start legs r) ≡ legs + 1
  unfolding part
  length_part h = length-take-le (legs + 1) (turn start r) (omega (arith, turn_length start r))

  at_part : start < length r → legs < length r → (i : ℕ) → i ≤ legs → at (part start legs r) i ≡ at r (around (length r) start i)
  unfolding part
  at_part hs hl i h = get_or-take (legs + 1) (turn start r) i 0 (omega arith) ∙ at_turn start i r hs (omega arith)

  pub path_turn : start < length r → legs < length r → (i : ℕ) (x : Place) → i < legs → x ≡ around (length r) start i
      → rest d (part start legs r) i ≡ d (at r x) (at r (next (length r) x)) + rest d (part start legs r) (i + 1)
  path_turn hs hl i x h e =
      let l : length (part start legs r) ≡ legs + 1 = length_part hl in
      let q : next (length r) x ≡ around (length r) start (i + 1) = ap (next (length r)) e ∙ next_around (length r) start i hs (omega arith) in
      let a : at (part start legs r) i ≡ at r x = at_part hs hl i (omega arith) ∙ ap (at r) (sym e) in
      let b : at (part start legs r) (i + 1) ≡ at r (next (length r) x) = at_part hs hl (i + 1) (omega arith) ∙ ap (at r) (sym q) in
      rest_turn d (part start legs r) i (omega arith) ∙ (λ k. d (a k) (b k) + rest d (part start legs r) (i + 1))

  pub path_done : legs < length r → (i : ℕ) → legs ≤ i → rest d (part start legs r) i ≡ 0
  path_done hl i h = rest_done d (part start legs r) i (omega (arith, length_part hl))
