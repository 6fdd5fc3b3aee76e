-- 01, "Sizes and numbers": the journal words that a call leaves stand for the entries of the state that it leaves, and they and its queue pass
-- the checks of the next call.
use Prim.Native.Nat.{◌*◌, ◌+◌, ◌-◌, ◌<◌, ◌≤◌, ℕ}
use mathlib.Core.Path.{◌∙◌, ◌≡◌, ap, refl, subst, sym}
use mathlib.Core.Bool.{Bool, ◌&&◌, true}
use mathlib.Core.List.{List, [], ◌++◌, ◌∷◌, reverse, reverse-cons, reverse-reverse}
use native.Mathlib.Omega.{arith}
use lib.Dec.{leb, ltb}
use lib.ListN.{length, length-append, length-reverse, take}
use lib.Seq.{take-append_seam}
use borrow.Author.Tests.{le-leb, le-ltb, lt-ltb}
use Rattle.rules.specs.Journal.{Entry, entries_of, good_journal, in_range, words_of}
use Rattle.rules.specs.Lists.{each, every, once, rising, same}
use Rattle.rules.specs.Memory.{Carried, Leaves, Lent, words_left}
use Rattle.rules.specs.Numbers.{agree}
use Rattle.rules.specs.Queue.{flags_of}
use Rattle.rules.specs.State.{State}
use Rattle.rules.specs.Words.{Place}
use Rattle.laws.proofs.CheckLaws.{same_self}
use Rattle.laws.proofs.EveryLaws.{All, Below, all_every, all_join, all_left, all_map, every_all, more, none}
use Rattle.laws.proofs.JournalLaws.{entries_of_length}
use Rattle.laws.proofs.NewerLaws.{entries_newer, good_newer}
use Rattle.laws.proofs.QueueLaws.{once_length}

all_reverse : {P : Entry → Type 0} (es : List Entry) → All P es → All P (reverse es)
all_reverse [] none = none
all_reverse {P} (e ∷ es) (more p a) = subst (All P) (sym (reverse-cons e es)) (all_join (reverse es) (e ∷ []) (all_reverse es a) (more p none))

module _ (l : Lent) (c : Carried) (s : State) (head : Place) (l' : Lent) (c' : Carried) (h : Leaves l c s head l' c') where
  -- an emptied journal
  pub entries_emptied : s.track.journal ≡ [] → entries_of l'.journal c'.held ≡ s.track.journal
  unfolding entries_of
  entries_emptied e = ap (entries_of l'.journal) (h.held_left ∙ ap length e) ∙ sym e

  -- newer entries before those that were held
  words_grown : (newer : List Entry) → s.track.journal ≡ newer ++ entries_of l.journal c.held → words_left l c s ≡ take (5 * c.held) l.journal ++ each words_of (reverse newer)
  unfolding words_left
  words_grown newer g =
      let old = entries_of l.journal c.held in
      let many : length (newer ++ old) ≡ length newer + c.held = length-append newer old ∙ ap (λ (k : ℕ). length newer + k) (entries_of_length l.journal c.held) in
      let fits : c.held ≤ length (newer ++ old) = omega arith in
      let q : length (newer ++ old) - c.held ≡ length newer = omega arith in
      rw (g, le-ltb (length (newer ++ old)) c.held fits, q, take-append_seam newer old) refl

  held_grown : (newer : List Entry) → s.track.journal ≡ newer ++ entries_of l.journal c.held → c'.held ≡ c.held + length (reverse newer)
  held_grown newer g = omega (arith, h.held_left, ap length g, length-append newer (entries_of l.journal c.held), entries_of_length l.journal c.held, length-reverse newer)

  words_left_lem : (newer : List Entry) → s.track.journal ≡ newer ++ entries_of l.journal c.held
      → take (5 * (c.held + length (reverse newer))) l'.journal ≡ take (5 * c.held) l.journal ++ each words_of (reverse newer)
  words_left_lem newer g = ap (λ (k : ℕ). take (5 * k) l'.journal) (sym (held_grown newer g)) ∙ h.journal_left ∙ words_grown newer g

  pub entries_grown : (newer : List Entry) → 5 * c.held ≤ length l.journal → s.track.journal ≡ newer ++ entries_of l.journal c.held → entries_of l'.journal c'.held ≡ s.track.journal
  entries_grown newer fits g =
      ap (entries_of l'.journal) (held_grown newer g) ∙ entries_newer (reverse newer) l'.journal l.journal c.held fits (words_left_lem newer g)
      ∙ ap (λ (x : List Entry). x ++ entries_of l.journal c.held) (reverse-reverse newer) ∙ sym g

  -- ---- what a call leaves passes the checks of the next
  -- "queue and flags disagree": not where each stop waits once
  pub left_agrees : head < l.n → once s.queue ≡ true → Below l.n s.queue → agree l.n l'.queue l'.flags c'.head c'.count ≡ true
  unfolding agree
  left_agrees hh o b =
      let n = l.n in
      let q = s.queue in
      let few : length q ≤ n = once_length n q o b in
      let below : every (λ v. ltb v n) q ≡ true = all_every (λ v. ltb v n) q (all_map q (λ v y. lt-ltb v n y) b) in
      let flagged : same l'.flags (flags_of n q) ≡ true = ap (λ (x : List ℕ). same x (flags_of n q)) h.flags_left ∙ same_self (flags_of n q) in
      let heads : ltb c'.head n ≡ true = ap (λ (x : ℕ). ltb x n) h.head_left ∙ lt-ltb head n hh in
      let counts : leb c'.count n ≡ true = ap (λ (x : ℕ). leb x n) h.count_left ∙ le-leb (length q) n few in
      rw (h.queue_left, heads, counts, below, o, flagged) refl

  -- "a journal entry out of range": none in an emptied journal
  pub emptied_good : s.track.journal ≡ [] → good_journal l.n l'.journal c'.held ≡ true
  unfolding good_journal every rising
  emptied_good e = ap (good_journal l.n l'.journal) (h.held_left ∙ ap length e) ∙ ap (λ (b : Bool). b && true) (le-leb 0 (length l'.journal) (omega arith))

  -- nor where the newer ones are in range
  pub grown_good : (newer : List Entry) → good_journal l.n l.journal c.held ≡ true → s.track.journal ≡ newer ++ entries_of l.journal c.held → every (in_range l.n) s.track.journal ≡ true
      → good_journal l.n l'.journal c'.held ≡ true
  grown_good newer good g ranged =
      let es = reverse newer in
      let all = all_left newer (entries_of l.journal c.held) (subst (All (λ e. in_range l.n e ≡ true)) g (every_all (in_range l.n) s.track.journal ranged)) in
      ap (good_journal l.n l'.journal) (held_grown newer g) ∙ good_newer l.n es l'.journal l.journal c.held good (all_reverse newer all) (words_left_lem newer g)
