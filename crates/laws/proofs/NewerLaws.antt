-- 01, 5: the words of newer entries behind those held stand for the newer entries before those held, and are as good; taken back, they lead
-- where those held lead.
use Prim.Native.Nat.{◌*◌, ◌+◌, ◌<◌, ◌≤◌, suc, ℕ}
use mathlib.Core.Path.{◌∙◌, ◌≡◌, ap, sym}
use mathlib.Core.Bool.{true}
use mathlib.Core.List.{List, [], ◌++◌, ◌∷◌, append_assoc, append-nil, reverse, reverse-cons}
use native.Mathlib.Nat.{add-zero}
use native.Mathlib.Omega.{arith}
use lib.ListN.{length, length-append, length-take, take}
use lib.Seq.{append_snoc, get_or-take, length-take-le, take_at, take-take}
use Rattle.rules.specs.Journal.{Entry, Track, entries_of, entry_at, good_journal, in_range, undo_all, words_of}
use Rattle.rules.specs.Lists.{at, each}
use Rattle.rules.specs.Words.{Round}
use Rattle.laws.proofs.EveryLaws.{All, more, none}
use Rattle.laws.proofs.JournalLaws.{Past, undo_join}
use Rattle.laws.proofs.JournalWordLaws.{entries_more, entries_same, entry_same, good_all, good_each, good_more, good_room, good_entry, length_words}

-- `e` and `es` are the newer entries, oldest first: the words of e come first
module _ (e : Entry) (es : List Entry) (ws vs : List ℕ) (held : ℕ) (fits : 5 * held ≤ length vs) (w : take (5 * (held + suc (length es))) ws ≡ take (5 * held) vs ++ each words_of (e ∷ es)) where
  first_length : length (take (5 * held) vs ++ words_of e) ≡ 5 * (held + 1)
  first_length = simp length-append (omega (arith, length-take-le (5 * held) vs fits, length_words e))

  all_words : take (5 * (held + suc (length es))) ws ≡ (take (5 * held) vs ++ words_of e) ++ each words_of es
  unfolding each
  all_words = w ∙ sym (append_assoc (take (5 * held) vs) (words_of e) (each words_of es))

  first_words : take (5 * (held + 1)) ws ≡ take (5 * held) vs ++ words_of e
  first_words =
      sym (take-take (5 * (held + 1)) (5 * (held + suc (length es))) ws (omega arith)) ∙ ap (take (5 * (held + 1))) all_words
      ∙ take_at (take (5 * held) vs ++ words_of e) (each words_of es) (5 * (held + 1)) first_length

  counted : held + suc (length es) ≡ held + 1 + length es
  counted = omega arith

  other_words : take (5 * (held + 1 + length es)) ws ≡ take (5 * (held + 1)) ws ++ each words_of es
  other_words = ap (λ (m : ℕ). take (5 * m) ws) (sym counted) ∙ all_words ∙ ap (λ (x : List ℕ). x ++ each words_of es) (sym first_words)

  first_fits : 5 * (held + 1) ≤ length ws
  first_fits = omega (arith, length-take (5 * (held + 1)) ws, ap length first_words, first_length)

pub entries_newer : (es : List Entry) (ws vs : List ℕ) (held : ℕ) → 5 * held ≤ length vs → take (5 * (held + length es)) ws ≡ take (5 * held) vs ++ each words_of es
    → entries_of ws (held + length es) ≡ reverse es ++ entries_of vs held
unfolding each
entries_newer [] ws vs held fits w =
    let q : held + 0 ≡ held = add-zero held in
    let w' : take (5 * held) ws ≡ take (5 * held) vs = rw (q, append-nil (take (5 * held) vs)) at w in
    rw q (entries_same ws vs held w')
entries_newer (e ∷ es) ws vs held fits w =
    ap (entries_of ws) (counted e es ws vs held fits w) ∙ entries_newer es ws ws (held + 1) (first_fits e es ws vs held fits w) (other_words e es ws vs held fits w)
    ∙ ap (λ (x : List Entry). reverse es ++ x) (entries_more ws vs held e fits (first_words e es ws vs held fits w))
    ∙ sym (append_snoc (reverse es) e (entries_of vs held)) ∙ ap (λ (x : List Entry). x ++ entries_of vs held) (sym (reverse-cons e es))

-- the same words held are as good
good_same : (n : ℕ) (ws vs : List ℕ) (held : ℕ) → take (5 * held) ws ≡ take (5 * held) vs → good_journal n vs held ≡ true → good_journal n ws held ≡ true
unfolding good_entry
good_same n ws vs held w g =
    let word : (q : ℕ) → q < 5 * held → at ws q ≡ at vs q = λ q h. sym (get_or-take (5 * held) ws q 0 h) ∙ ap (λ (l : List ℕ). at l q) w ∙ get_or-take (5 * held) vs q 0 h in
    let old = length-take-le (5 * held) vs (good_room n vs held g) in
    good_all n ws held (omega (arith, length-take (5 * held) ws, ap length w, old)) (λ i h.
    let same : entry_at ws i ≡ entry_at vs i = entry_same ws vs i (λ q k. word q (omega arith)) in
    rw (same, word (5 * i) (omega arith)) (good_each n vs held g i h))

-- newer entries in range
pub good_newer : (n : ℕ) (es : List Entry) (ws vs : List ℕ) (held : ℕ) → good_journal n vs held ≡ true → All (λ e. in_range n e ≡ true) es
    → take (5 * (held + length es)) ws ≡ take (5 * held) vs ++ each words_of es → good_journal n ws (held + length es) ≡ true
unfolding each
good_newer n [] ws vs held g none w =
    let q : held + 0 ≡ held = add-zero held in
    let w' : take (5 * held) ws ≡ take (5 * held) vs = rw (q, append-nil (take (5 * held) vs)) at w in
    rw q (good_same n ws vs held w' g)
good_newer n (e ∷ es) ws vs held g (more h a) w =
    let fits = good_room n vs held g in
    rw (counted e es ws vs held fits w) (good_newer n es ws ws (held + 1) (good_more ws vs held e fits (first_words e es ws vs held fits w) n g h) a (other_words e es ws vs held fits w))

-- all entries taken back lead to the same round from a mark and from what came after it
pub past_undo_all : {t t' : Track} → Past t t' → undo_all t'.journal t'.round ≡ undo_all t.journal t.round
past_undo_all {t} {t'} p =
    ap (λ (l : List Entry). undo_all l t'.round) p.grown ∙ undo_join p.newer t.journal t'.round ∙ ap (λ (r : Round). undo_all t.journal r) p.back
