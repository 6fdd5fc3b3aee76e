-- 01, 5: what the words of a journal stand for, entry by entry.
use Prim.Native.Nat.{ℕ, zero, suc, ◌+◌, ◌*◌, ◌≤◌, ◌<◌}
use mathlib.Core.Path.{◌≡◌, refl, sym, ap, ◌∙◌}
use mathlib.Core.Bool.{Bool, true, ◌&&◌}
use mathlib.Core.List.{List, ◌∷◌, ◌++◌}
use native.Mathlib.Omega.{arith}
use native.Mathlib.Decide.{dec_lt}
use native.Mathlib.Numerals.{add-one}
use native.Mathlib.Nat.{add-zero}
use borrow.Author.Tests.{eq-eqb, ne_eqb, le-leb, leb-true}
use lib.Dec.{leb}
use lib.ListN.{length, take, drop, length-append, length-take, get_or-append}
use lib.Seq.{get_or-take, get_or-drop, get_or-append-add, length-take-le, take-take, take_at}
use Rattle.rules.specs.Lists.{at}
use Rattle.rules.specs.Journal.{Entry, reversal, rotation, swap, words_of, entry_at, entries_of, in_range, good_journal}
use Rattle.laws.proofs.ChoiceLaws.{and-true, true-and}
use Rattle.laws.proofs.RisingLaws.{every_rising, rising_every}

-- an entry is five words
pub length_words : (e : Entry) → length (words_of e) ≡ 5
unfolding words_of
length_words (reversal s l) = refl
length_words (rotation s a b c) = refl
length_words (swap p q) = refl

-- ---- equal words are equal entries
pub entry_same : (ws vs : List ℕ) (i : ℕ) → ((q : ℕ) → q < 5 * i + 5 → at ws q ≡ at vs q) → entry_at ws i ≡ entry_at vs i
unfolding entry_at
entry_same ws vs i same =
    let w : (k : ℕ) → k < 5 → at (drop (5 * i) ws) k ≡ at (drop (5 * i) vs) k = λ k h. get_or-drop (5 * i) ws k 0 ∙ same (5 * i + k) (omega arith) ∙ sym (get_or-drop (5 * i) vs k 0) in
    simp (w 0 (omega arith), w 1 (omega arith), w 2 (omega arith), w 3 (omega arith), w 4 (omega arith))

-- the same words held: the same entries
pub entries_same : (ws vs : List ℕ) (held : ℕ) → take (5 * held) ws ≡ take (5 * held) vs → entries_of ws held ≡ entries_of vs held
unfolding entries_of
entries_same ws vs held w = go held (omega arith)
  where
    word : (q : ℕ) → q < 5 * held → at ws q ≡ at vs q
    word q h = sym (get_or-take (5 * held) ws q 0 h) ∙ ap (λ (l : List ℕ). at l q) w ∙ get_or-take (5 * held) vs q 0 h

    go : (i : ℕ) → i ≤ held → entries_of ws i ≡ entries_of vs i
    go zero h = refl
    go (suc i) h = λ k. entry_same ws vs i (λ q g. word q (omega arith)) k ∷ go i (omega arith) k

-- an entry's own words, read back
pub entry_words : (ws : List ℕ) (i : ℕ) (e : Entry) → ((k : ℕ) → k < 5 → at ws (5 * i + k) ≡ at (words_of e) k) → entry_at ws i ≡ e
unfolding entry_at words_of
entry_words ws i e h = go e (λ k g. get_or-drop (5 * i) ws k 0 ∙ h k g)
  where
    go : (x : Entry) → ((k : ℕ) → k < 5 → at (drop (5 * i) ws) k ≡ at (words_of x) k) → entry_at ws i ≡ x
    go (reversal s l) w = simp (w 0 (omega arith), w 1 (omega arith), w 2 (omega arith))
    go (rotation s a b c) w = simp (w 0 (omega arith), w 1 (omega arith), w 2 (omega arith), w 3 (omega arith), w 4 (omega arith))
    go (swap p q) w = simp (w 0 (omega arith), w 1 (omega arith), w 2 (omega arith))

-- ---- an entry by the words that it is read from
module _ (ws : List ℕ) (i : ℕ) where
  kind_word : at (drop (5 * i) ws) 0 ≡ at ws (5 * i)
  kind_word = get_or-drop (5 * i) ws 0 0 ∙ ap (at ws) (add-zero (5 * i))

  pub entry_reversal : at ws (5 * i) ≡ 0 → entry_at ws i ≡ reversal (at ws (5 * i + 1)) (at ws (5 * i + 2))
  unfolding entry_at
  entry_reversal h =
      simp (eq-eqb (at (drop (5 * i) ws) 0) 0 (kind_word ∙ h), get_or-drop (5 * i) ws 1 0, get_or-drop (5 * i) ws 2 0)

  pub entry_rotation : at ws (5 * i) ≡ 1 → entry_at ws i ≡ rotation (at ws (5 * i + 1)) (at ws (5 * i + 2)) (at ws (5 * i + 3)) (at ws (5 * i + 4))
  unfolding entry_at
  entry_rotation h =
      simp (ne_eqb (at (drop (5 * i) ws) 0) 0 (λ q. omega (arith, kind_word)), eq-eqb (at (drop (5 * i) ws) 0) 1 (kind_word ∙ h), get_or-drop (5 * i) ws 1 0, get_or-drop (5 * i) ws 2 0, get_or-drop (5 * i) ws 3 0, get_or-drop (5 * i) ws 4 0)

  pub entry_swap : (at ws (5 * i) ≡ 0 → ⊥) → (at ws (5 * i) ≡ 1 → ⊥) → entry_at ws i ≡ swap (at ws (5 * i + 1)) (at ws (5 * i + 2))
  unfolding entry_at
  entry_swap h g =
      simp (ne_eqb (at (drop (5 * i) ws) 0) 0 (λ q. h (sym kind_word ∙ q)), ne_eqb (at (drop (5 * i) ws) 0) 1 (λ q. g (sym kind_word ∙ q)), get_or-drop (5 * i) ws 1 0, get_or-drop (5 * i) ws 2 0)

-- ---- a good journal, entry by entry
unfoldable pub good_entry : ℕ → List ℕ → ℕ → Bool
good_entry n ws i = leb (at ws (5 * i)) 2 && in_range n (entry_at ws i)

module _ (n : ℕ) (ws : List ℕ) where
  pub good_room : (held : ℕ) → good_journal n ws held ≡ true → 5 * held ≤ length ws
  unfolding good_journal
  good_room held h = leb-true (5 * held) (length ws) (and-true (leb (5 * held) (length ws)) _ h).0

  pub good_each : (held : ℕ) → good_journal n ws held ≡ true → (i : ℕ) → i < held → good_entry n ws i ≡ true
  unfolding good_journal good_entry
  good_each held h i g = every_rising (good_entry n ws) held 0 (and-true (leb (5 * held) (length ws)) _ h).1 i (omega arith) (omega arith)

  pub good_all : (held : ℕ) → 5 * held ≤ length ws → ((i : ℕ) → i < held → good_entry n ws i ≡ true) → good_journal n ws held ≡ true
  unfolding good_journal good_entry
  good_all held h g = true-and (leb (5 * held) (length ws)) _ (le-leb (5 * held) (length ws) h) (rising_every (good_entry n ws) held 0 (λ i l m. g i (omega arith)))

  -- the older entries alone
  pub good_fewer : (held mark : ℕ) → mark ≤ held → good_journal n ws held ≡ true → good_journal n ws mark ≡ true
  good_fewer held mark h g = good_all mark (omega (arith, good_room held g)) (λ i l. good_each held g i (omega arith))

  -- an entry's range
  pub good_range : (i : ℕ) → good_entry n ws i ≡ true → in_range n (entry_at ws i) ≡ true
  unfolding good_entry
  good_range i h = (and-true (leb (at ws (5 * i)) 2) (in_range n (entry_at ws i)) h).1

-- ---- one entry more: ws has the words of vs held, and those of e behind them
module _ (ws vs : List ℕ) (held : ℕ) (e : Entry) (fits : 5 * held ≤ length vs) (w : take (5 * (held + 1)) ws ≡ take (5 * held) vs ++ words_of e) where
  length_old : length (take (5 * held) vs) ≡ 5 * held
  length_old = length-take-le (5 * held) vs fits

  word_old : (q : ℕ) → q < 5 * held → at ws q ≡ at vs q
  word_old q h =
      sym (get_or-take (5 * (held + 1)) ws q 0 (omega arith)) ∙ ap (λ (l : List ℕ). at l q) w
      ∙ get_or-append (take (5 * held) vs) (words_of e) 0 q (omega (arith, length_old)) ∙ get_or-take (5 * held) vs q 0 h

  word_new : (k : ℕ) → k < 5 → at ws (5 * held + k) ≡ at (words_of e) k
  word_new k h =
      sym (get_or-take (5 * (held + 1)) ws (5 * held + k) 0 (omega arith)) ∙ ap (λ (l : List ℕ). at l (5 * held + k)) w
      ∙ ap (λ (m : ℕ). at (take (5 * held) vs ++ words_of e) (m + k)) (sym length_old) ∙ get_or-append-add (take (5 * held) vs) (words_of e) k 0

  same_old : take (5 * held) ws ≡ take (5 * held) vs
  same_old = sym (take-take (5 * held) (5 * (held + 1)) ws (omega arith)) ∙ ap (take (5 * held)) w ∙ take_at (take (5 * held) vs) (words_of e) (5 * held) length_old

  pub entries_more : entries_of ws (held + 1) ≡ e ∷ entries_of vs held
  unfolding entries_of
  entries_more = ap (entries_of ws) (add-one held) ∙ (λ k. entry_words ws held e word_new k ∷ entries_same ws vs held same_old k)

  room_more : 5 * (held + 1) ≤ length ws
  room_more = omega (arith, simp (length-append, length-take) at (ap length w), length_words e, length_old)

  kind_small : (x : Entry) → at (words_of x) 0 ≤ 2
  unfolding words_of
  kind_small (reversal s l) = omega arith
  kind_small (rotation s a b c) = omega arith
  kind_small (swap p q) = omega arith

  pub good_more : (n : ℕ) → good_journal n vs held ≡ true → in_range n e ≡ true → good_journal n ws (held + 1) ≡ true
  unfolding good_entry
  good_more n g r = good_all n ws (held + 1) room_more (λ i h. go i h (dec_lt i held))
    where
      go : (i : ℕ) → i < held + 1 → Dec (i < held) → good_entry n ws i ≡ true
      go i h (yes l) =
          let q : entry_at ws i ≡ entry_at vs i = entry_same ws vs i (λ q k. word_old q (omega arith)) in
          rw (q, word_old (5 * i) (omega arith)) (good_each n vs held g i l)
      go i h (no l) =
          let q : i ≡ held = omega arith in
          let k : at ws (5 * held) ≤ 2 = rw (sym (ap (at ws) (add-zero (5 * held))) ∙ word_new 0 (omega arith)) (kind_small e) in
          rw q (true-and (leb (at ws (5 * held)) 2) (in_range n (entry_at ws held)) (le-leb (at ws (5 * held)) 2 k) (rw (entry_words ws held e word_new) r))
