-- A journal's words grow by those of its newer entries, and a rollback takes them away again.
use Prim.Native.Nat.{ℕ, zero, suc, ◌+◌, ◌-◌, ◌*◌, ◌≤◌}
use mathlib.Core.Path.{◌≡◌, refl, sym, ap, ◌∙◌}
use mathlib.Core.List.{List, [], ◌∷◌, ◌++◌, append_assoc, append-nil, reverse, reverse-reverse}
use native.Mathlib.Omega.{arith}
use native.Mathlib.Nat.{add-zero}
use lib.ListN.{length, take, length-append, length-take, length-reverse}
use lib.Seq.{take-nil, take-take, take-append-add, take-append_seam, length-take-le}
use Rattle.rules.specs.Lists.{each}
use Rattle.rules.specs.Journal.{Entry, words_of, entries_of}
use Rattle.laws.proofs.JournalWordLaws.{length_words}
use Rattle.laws.proofs.NewerLaws.{entries_newer}
use Rattle.journal.specs.Journalled.{Grew}

pub grew_self : (ws : List ℕ) (held : ℕ) → Grew ws held ws held
unfolding each
grew_self ws held = record { newer = []; more = sym (add-zero held); words = sym (append-nil (take (5 * held) ws)) }

each_append : (es fs : List Entry) → each words_of (es ++ fs) ≡ each words_of es ++ each words_of fs
unfolding each
each_append [] fs = refl
each_append (e ∷ es) fs = ap (λ (l : List ℕ). words_of e ++ l) (each_append es fs) ∙ sym (append_assoc (words_of e) (each words_of es) (each words_of fs))

-- once and again
pub grew_grew : {us vs ws : List ℕ} {a b c : ℕ} → Grew us a vs b → Grew vs b ws c → Grew us a ws c
grew_grew {us} {a = a} g h =
    record {
      newer = g.newer ++ h.newer;
      more = omega (arith, g.more, h.more, length-append g.newer h.newer);
      words = h.words ∙ ap (λ (l : List ℕ). l ++ each words_of h.newer) g.words ∙ append_assoc (take (5 * a) us) (each words_of g.newer) (each words_of h.newer)
          ∙ ap (λ (l : List ℕ). take (5 * a) us ++ l) (sym (each_append g.newer h.newer));
    }

-- so many entries are five times as many words
each_take : (k : ℕ) (es : List Entry) → take (5 * k) (each words_of es) ≡ each words_of (take k es)
unfolding each
each_take zero es = refl
each_take (suc k) [] = take-nil (5 * suc k)
each_take (suc k) (e ∷ es) =
    let q : 5 * suc k ≡ length (words_of e) + 5 * k = omega (arith, length_words e) in
    ap (λ (m : ℕ). take m (words_of e ++ each words_of es)) q ∙ take-append-add (words_of e) (each words_of es) (5 * k) ∙ ap (λ (l : List ℕ). words_of e ++ l) (each_take k es)

-- back to a mark
pub grew_back : (us ws : List ℕ) (a c mark : ℕ) → 5 * a ≤ length us → a ≤ mark → mark ≤ c → Grew us a ws c → Grew us a ws mark
grew_back us ws a c mark fits h k g =
    let l : length (take (5 * a) us) ≡ 5 * a = length-take-le (5 * a) us fits in
    let q : 5 * mark ≡ length (take (5 * a) us) + 5 * (mark - a) = omega arith in
    record {
      newer = take (mark - a) g.newer;
      more = simp length-take (omega (arith, g.more));
      words = sym (take-take (5 * mark) (5 * c) ws (omega arith)) ∙ ap (take (5 * mark)) g.words ∙ ap (λ (m : ℕ). take m (take (5 * a) us ++ each words_of g.newer)) q
          ∙ take-append-add (take (5 * a) us) (each words_of g.newer) (5 * (mark - a)) ∙ ap (λ (l : List ℕ). take (5 * a) us ++ l) (each_take (mark - a) g.newer);
    }

-- ---- the newer entries are those that the words stand for, so the words are determined
-- 01, what the calls leave: the words held stay, and behind them stand the words of the entries that are new
pub grew_left : (j : List ℕ) (held : ℕ) (j' : List ℕ) (held' : ℕ) → 5 * held ≤ length j → Grew j held j' held'
    → take (5 * held') j' ≡ take (5 * held) j ++ each words_of (reverse (take (held' - held) (entries_of j' held')))
grew_left j held j' held' fits g =
    let es : List Entry = g.newer in
    let e : entries_of j' (held + length es) ≡ reverse es ++ entries_of j held = entries_newer es j' j held fits (rw g.more at g.words) in
    let q : held' - held ≡ length (reverse es) = omega (arith, g.more, length-reverse es) in
    let t : take (held' - held) (entries_of j' held') ≡ reverse es = rw (q, g.more, e) (take-append_seam (reverse es) (entries_of j held)) in
    g.words ∙ ap (λ (x : List Entry). take (5 * held) j ++ each words_of x) (sym (ap reverse t ∙ reverse-reverse es))
