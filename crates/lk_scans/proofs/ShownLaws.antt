-- 01, 8, "Breadth by level": the best continuations, kept in a struct whose partial gain is 0 where there is none.
use Prim.Native.Nat.{ℕ, zero, suc, ◌≤◌, ◌<◌}
use mathlib.Core.Path.{◌≡◌, refl, sym, ap, ◌∙◌}
use mathlib.Core.Logic.{◌≢◌}
use mathlib.Core.List.{List, [], ◌∷◌}
use native.Mathlib.Omega.{arith}
use borrow.Author.Tests.{lt-ltb, le-ltb}
use lib.ListN.{take, get_or}
use Rattle.rules.specs.Improve.{Trial}
use Rattle.rules.specs.Step.{best, insert}
use Rattle.rules.specs.Lk.{breadth}
use Rattle.laws.proofs.ChoiceLaws.{by_gain}
use Rattle.lk_scans.specs.Picked.{shown, shown_from, trial_in, cont_is, Placed, IsAt}
use Rattle.lk_scans.specs.declared.Pick.{Pick}
use Rattle.lk_scans.specs.declared.Picks.{Picks}

pub shown_none : (x : Trial) (l : List Trial) → x.partial ≤ 0 → shown x l ≡ []
unfolding shown
shown_none x l h = by_gain (λ (z : List Trial). z ≡ []) x.partial {x = []} {y = λ g. x ∷ l} (λ e. refl) (λ g e. absurd (omega arith))

pub shown_some : (x : Trial) (l : List Trial) → 0 < x.partial → shown x l ≡ x ∷ l
unfolding shown
shown_some x l h = by_gain (λ (z : List Trial). z ≡ x ∷ l) x.partial {x = []} {y = λ g. x ∷ l} (λ e. absurd (omega arith)) (λ g e. refl)

-- some or none
none_or : (m : ℕ) (Q : Type 0) → (m ≤ 0 → Q) → (0 < m → Q) → Q
none_or zero Q f g = f (omega arith)
none_or (suc m) Q f g = g (omega arith)

take_shown : (m : ℕ) (x : Trial) (l : List Trial) → take (suc m) (shown x l) ≡ shown x (take m l)
take_shown m x l =
    none_or x.partial (take (suc m) (shown x l) ≡ shown x (take m l))
    (λ h. rw (shown_none x l h, shown_none x (take m l) h) refl)
    (λ h. rw (shown_some x l h, shown_some x (take m l) h) refl)

-- before a lesser one, behind the others
insert_first : (x y : Trial) (l : List Trial) → y.partial < x.partial → insert x (shown y l) ≡ x ∷ shown y l
unfolding insert
insert_first x y l h =
    none_or y.partial (insert x (shown y l) ≡ x ∷ shown y l)
    (λ k. rw (shown_none y l k) refl)
    (λ k. rw (shown_some y l k, insert, lt-ltb y.partial x.partial h) refl)

insert_behind : (x y : Trial) (l : List Trial) → x.partial ≤ y.partial → 0 < x.partial → insert x (shown y l) ≡ y ∷ insert x l
unfolding insert
insert_behind x y l h k = rw (shown_some y l (omega arith), insert, le-ltb y.partial x.partial h) refl

-- ---- the best of one
pub one_over : (x y : Trial) (xs : List Trial) → y.partial < x.partial → best 1 (shown y []) (x ∷ xs) ≡ best 1 (shown x []) xs
unfolding best
one_over x y xs h = ap (λ (l : List Trial). best 1 (take 1 l) xs) (insert_first x y [] h) ∙ ap (λ (l : List Trial). best 1 l xs) (sym (shown_some x [] (omega arith)))

pub one_under : (x y : Trial) (xs : List Trial) → x.partial ≤ y.partial → 0 < x.partial → best 1 (shown y []) (x ∷ xs) ≡ best 1 (shown y []) xs
unfolding best
one_under x y xs h k = ap (λ (l : List Trial). best 1 (take 1 l) xs) (insert_behind x y [] h k) ∙ ap (λ (l : List Trial). best 1 l xs) (sym (shown_some y [] (omega arith)))

-- ---- the best of three
module _ (a b c x : Trial) (h : 0 < x.partial) where
  place_1 : a.partial < x.partial → shown x (shown a (shown b [])) ≡ take 3 (insert x (shown a (shown b (shown c []))))
  place_1 k =
      shown_some x (shown a (shown b [])) h
      ∙ ap (λ (l : List Trial). x ∷ l) (sym (take_shown 1 a (shown b (shown c [])) ∙ ap (shown a) (take_shown 0 b (shown c []))))
      ∙ sym (ap (take 3) (insert_first x a (shown b (shown c [])) k))

  place_2 : x.partial ≤ a.partial → b.partial < x.partial → shown a (shown x (shown b [])) ≡ take 3 (insert x (shown a (shown b (shown c []))))
  place_2 k l =
      shown_some a (shown x (shown b [])) (omega arith)
      ∙ ap (λ (l : List Trial). a ∷ l) (shown_some x (shown b []) h ∙ ap (λ (l : List Trial). x ∷ l) (sym (take_shown 0 b (shown c []))))
      ∙ sym (ap (take 3) (insert_behind x a (shown b (shown c [])) k h ∙ ap (λ (l : List Trial). a ∷ l) (insert_first x b (shown c []) l)))

  place_3 : b.partial ≤ a.partial → x.partial ≤ b.partial → c.partial < x.partial → shown a (shown b (shown x [])) ≡ take 3 (insert x (shown a (shown b (shown c []))))
  place_3 f k l =
      shown_some a (shown b (shown x [])) (omega arith)
      ∙ ap (λ (l : List Trial). a ∷ l) (shown_some b (shown x []) (omega arith) ∙ ap (λ (l : List Trial). b ∷ l) (shown_some x [] h))
      ∙ sym (ap (take 3) (insert_behind x a (shown b (shown c [])) (omega arith) h ∙ ap (λ (l : List Trial). a ∷ l) (insert_behind x b (shown c []) k h ∙ ap (λ (l : List Trial). b ∷ l) (insert_first x c [] l))))

  place_4 : b.partial ≤ a.partial → c.partial ≤ b.partial → x.partial ≤ c.partial → shown a (shown b (shown c [])) ≡ take 3 (insert x (shown a (shown b (shown c []))))
  place_4 f e k =
      shown_some a (shown b (shown c [])) (omega arith)
      ∙ ap (λ (l : List Trial). a ∷ l) (shown_some b (shown c []) (omega arith) ∙ ap (λ (l : List Trial). b ∷ l) (shown_some c [] (omega arith)))
      ∙ sym (ap (take 3) (insert_behind x a (shown b (shown c [])) (omega arith) h ∙ ap (λ (l : List Trial). a ∷ l) (insert_behind x b (shown c []) (omega arith) h ∙ ap (λ (l : List Trial). b ∷ l) (insert_behind x c [] k h))))

-- the same of the struct: where p goes
module _ (ps : Picks) (p : Pick) (h : 0 < p.partial) where
  pub placed_1 : ps.a.partial < p.partial → Placed ps p (record { a = p; b = ps.a; c = ps.b })
  unfolding shown_from trial_in cont_is
  placed_1 k =
      record {
        is = λ f. place_1 (trial_in ps.a) (trial_in ps.b) (trial_in ps.c) (trial_in p) h k;
        falls = λ f. record { second = omega (arith, k); third = f.second };
        fines = λ n g fs fp. record { fine_a = fp; fine_b = fs.fine_a; fine_c = fs.fine_b };
      }

  pub placed_2 : p.partial ≤ ps.a.partial → ps.b.partial < p.partial → Placed ps p (record { a = ps.a; b = p; c = ps.b })
  unfolding shown_from trial_in cont_is
  placed_2 k l =
      record {
        is = λ f. place_2 (trial_in ps.a) (trial_in ps.b) (trial_in ps.c) (trial_in p) h k l;
        falls = λ f. record { second = k; third = omega (arith, l) };
        fines = λ n g fs fp. record { fine_a = fs.fine_a; fine_b = fp; fine_c = fs.fine_b };
      }

  pub placed_3 : p.partial ≤ ps.b.partial → ps.c.partial < p.partial → Placed ps p (record { a = ps.a; b = ps.b; c = p })
  unfolding shown_from trial_in cont_is
  placed_3 k l =
      record {
        is = λ f. place_3 (trial_in ps.a) (trial_in ps.b) (trial_in ps.c) (trial_in p) h f.second k l;
        falls = λ f. record { second = f.second; third = k };
        fines = λ n g fs fp. record { fine_a = fs.fine_a; fine_b = fs.fine_b; fine_c = fp };
      }

  pub placed_4 : p.partial ≤ ps.c.partial → Placed ps p ps
  unfolding shown_from trial_in cont_is
  placed_4 k =
      record {
        is = λ f. place_4 (trial_in ps.a) (trial_in ps.b) (trial_in ps.c) (trial_in p) h f.second f.third k;
        falls = λ f. f;
        fines = λ n g fs fp. fs;
      }

-- the i-th of the struct
module _ (ps : Picks) where
  pub at_first : (i : ℕ) → i ≡ 0 → IsAt ps i ps.a
  unfolding shown_from
  at_first zero e = record { is = refl; last = λ h. absurd (omega arith); fine = λ n g f. f.fine_a }
  at_first (suc i) e = absurd (omega arith)

  pub at_second : (i : ℕ) → i ≡ 1 → IsAt ps i ps.b
  unfolding shown_from
  at_second zero e = absurd (omega arith)
  at_second (suc zero) e = record { is = refl; last = λ h. absurd (omega arith); fine = λ n g f. f.fine_b }
  at_second (suc (suc i)) e = absurd (omega arith)

  pub at_third : (i : ℕ) → i ≢ 0 → i ≢ 1 → i < 3 → IsAt ps i ps.c
  unfolding shown_from
  at_third zero m n h = absurd (m refl)
  at_third (suc zero) m n h = absurd (n refl)
  at_third (suc (suc zero)) m n h = record { is = refl; last = λ h. absurd (omega arith); fine = λ n g f. f.fine_c }
  at_third (suc (suc (suc i))) m n h = absurd (omega arith)

  pub at_none : (i : ℕ) → 3 ≤ i → IsAt ps i (record { partial = 0; t3 = ps.a.t3; t4 = ps.a.t4 })
  unfolding shown_from shown trial_in cont_is
  at_none zero h = absurd (omega arith)
  at_none (suc zero) h = absurd (omega arith)
  at_none (suc (suc zero)) h = absurd (omega arith)
  at_none (suc (suc (suc i))) h = record { is = refl; last = λ h. refl; fine = λ n g f. record { low3 = f.fine_a.low3; low4 = f.fine_a.low4; small = omega arith } }

-- none behind the last
pub shown_last : (i : ℕ) (ps : Picks) → 3 ≤ i → shown_from i ps ≡ []
unfolding shown_from
shown_last zero ps h = absurd (omega arith)
shown_last (suc zero) ps h = absurd (omega arith)
shown_last (suc (suc zero)) ps h = absurd (omega arith)
shown_last (suc (suc (suc i))) ps h = refl

-- ---- the table, and 1 beyond it
pub breadth_in : (level : ℕ) → level < 2 → get_or (3 ∷ 1 ∷ []) level 0 ≡ breadth level
unfolding breadth
breadth_in zero h = refl
breadth_in (suc zero) h = refl
breadth_in (suc (suc level)) h = absurd (omega arith)

pub breadth_first : breadth 0 ≡ 3
unfolding breadth
breadth_first = refl
