-- 01, 11, `shuffle`: where only the places inside a window change, only the window's legs and the two beside it do. No leg is asked to take as
-- long as its return.
use Prim.Native.Nat.{◌%◌, ◌+◌, ◌<◌, ◌≤◌, ℕ}
use mathlib.Core.Path.{◌∙◌, ◌≡◌, ap, ap₂, subst, sym}
use mathlib.Core.List.{List, [], ◌++◌, ◌∷◌, append-nil}
use native.Mathlib.Omega.{arith}
use lib.ListN.{drop, length, length-drop, take, take-append-drop}
use lib.Seq.{ext_get_or, get_or-drop, get_or-take, length-take-le}
use Rattle.rules.specs.Lists.{at}
use Rattle.rules.specs.Ring.{along, path, path_cost, recount, turn}
use Rattle.rules.specs.Words.{Legs, Place, Round, Stop}
use Rattle.laws.proofs.PlaceLaws.{on_zero}
use Rattle.laws.proofs.SegmentLaws.{Cons, cons, some}
use Rattle.laws.proofs.TimeLaws.{end, end_at, ring1, ring2, turn_time}
use Rattle.laws.proofs.TurnLaws.{On, on_mod, turn_length, turn_on}

module _ (d : Legs) where
  -- two rounds that begin with a, and of which the first part alone differs, but for its last stop
  part_time : (a : Stop) (A B R : List Stop) → 0 < length A → length A ≡ length B → end a A ≡ end a B → recount d ((a ∷ A) ++ R) + along d a B ≡ recount d ((a ∷ B) ++ R) + along d a A
  part_time a A B [] h l e =
      let p : recount d ((a ∷ A) ++ []) ≡ along d a A + d (end a A) a = ap (recount d) (append-nil (a ∷ A)) ∙ ring1 d a A h in
      let q : recount d ((a ∷ B) ++ []) ≡ along d a B + d (end a B) a = ap (recount d) (append-nil (a ∷ B)) ∙ ring1 d a B (omega arith) in
      omega (arith, p, q, ap (λ v. d v a) e)
  part_time a A B (c ∷ R) h l e = omega (arith, ring2 d a A c R, ring2 d a B c R, ap (λ v. d v c) e)

  -- two lists that agree at 0 and from `legs` on
  front_time : (legs : ℕ) (x y : List Stop) → 0 < legs → legs < length x → length y ≡ length x → at x 0 ≡ at y 0 → ((k : ℕ) → legs ≤ k → k < length x → at x k ≡ at y k)
      → recount d y + path d (take (legs + 1) x) ≡ recount d x + path d (take (legs + 1) y)
  unfolding path
  front_time legs x y pos h l first rest = go (some (take (legs + 1) x) (omega (arith, lx))) (some (take (legs + 1) y) (omega (arith, ly)))
    where
      lx : length (take (legs + 1) x) ≡ legs + 1
      lx = length-take-le (legs + 1) x (omega arith)

      ly : length (take (legs + 1) y) ≡ legs + 1
      ly = length-take-le (legs + 1) y (omega arith)

      same : drop (legs + 1) x ≡ drop (legs + 1) y
      same = ext_get_or 0 (drop (legs + 1) x) (drop (legs + 1) y) (omega (arith, length-drop (legs + 1) x, length-drop (legs + 1) y)) (λ i q. get_or-drop (legs + 1) x i 0 ∙ rest (legs + 1 + i) (omega arith) (omega (arith, length-drop (legs + 1) x)) ∙ sym (get_or-drop (legs + 1) y i 0))

      go : Cons (take (legs + 1) x) → Cons (take (legs + 1) y) → recount d y + path d (take (legs + 1) x) ≡ recount d x + path d (take (legs + 1) y)
      go (cons a A e) (cons b B f) =
          let m = legs + 1 in
          let n_a : length A ≡ legs = omega (arith, ap length e, lx) in
          let n_b : length B ≡ legs = omega (arith, ap length f, ly) in
          let ab : a ≡ b = sym (ap (λ v. at v 0) e) ∙ get_or-take m x 0 0 (omega arith) ∙ first ∙ sym (get_or-take m y 0 0 (omega arith)) ∙ ap (λ v. at v 0) f in
          let e_a : end a A ≡ at x legs = end_at a A ∙ ap (at (a ∷ A)) n_a ∙ sym (ap (λ v. at v legs) e) ∙ get_or-take m x legs 0 (omega arith) in
          let e_b : end b B ≡ at y legs = end_at b B ∙ ap (at (b ∷ B)) n_b ∙ sym (ap (λ v. at v legs) f) ∙ get_or-take m y legs 0 (omega arith) in
          let f' : take m y ≡ a ∷ B = f ∙ ap (λ v. v ∷ B) (sym ab) in
          let wx : recount d x ≡ recount d ((a ∷ A) ++ drop m x) = ap (recount d) (sym (take-append-drop m x) ∙ ap (λ v. v ++ drop m x) e) in
          let wy : recount d y ≡ recount d ((a ∷ B) ++ drop m x) = ap (recount d) (sym (take-append-drop m y) ∙ ap₂ (λ v u. v ++ u) f' (sym same)) in
          let px : path d (take m x) ≡ along d a A = ap (path d) e in
          let py : path d (take m y) ≡ along d a B = ap (path d) f' in
          let q : end a A ≡ end a B = e_a ∙ rest legs (omega arith) h ∙ sym e_b ∙ ap (λ v. end v B) (sym ab) in
          omega (arith, part_time a A B (drop m x) (omega arith) (omega arith) q, wx, wy, px, py)

  -- two rounds of one length that agree at place `first` and from `legs` steps after it on
  pub window_time : (r q : Round) (first : Place) (legs : ℕ) → first < length r → 0 < legs → legs < length r → length q ≡ length r
      → at q first ≡ at r first → ((k : ℕ) (p : Place) → legs ≤ k → k < length r → On (length r) first k p → at q p ≡ at r p)
      → recount d q + path_cost d first legs r ≡ recount d r + path_cost d first legs q
  unfolding path_cost
  window_time r q first legs hf pos h l same out =
      let read : (k : ℕ) → k < length r → ((p : Place) → On (length r) first k p → at q p ≡ at r p) → at (turn first r) k ≡ at (turn first q) k
      = λ k hk g.
      let p = (first + k) % length r in
      let o : On (length r) first k p = on_mod (length r) first k hf hk in
      let o' : On (length q) first k p = subst (λ n. On n first k p) (sym l) o in
      turn_on first k p r (omega arith) hk o ∙ sym (g p o) ∙ sym (turn_on first k p q (omega arith) (omega arith) o') in
      let w = front_time legs (turn first r) (turn first q) pos (omega (arith, turn_length first r)) (omega (arith, turn_length first r, turn_length first q))
      (read 0 (omega arith) (λ p o. ap (at q) (on_zero (length r) first p hf o) ∙ same ∙ ap (at r) (sym (on_zero (length r) first p hf o))))
      (λ k a b. read k (omega (arith, turn_length first r)) (λ p o. out k p a (omega (arith, turn_length first r)) o)) in
      omega (arith, w, turn_time d first r, turn_time d first q)
