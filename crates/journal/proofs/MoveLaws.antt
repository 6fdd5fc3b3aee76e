-- What an entry written behind those held makes of a track, and the loop of `rollback`.
use Prim.Native.Nat.{ℕ, suc, ◌+◌, ◌-◌, ◌*◌, ◌≤◌, ◌<◌}
use mathlib.Core.Path.{◌≡◌, refl, sym, ap, ◌∙◌}
use mathlib.Core.Bool.{true}
use mathlib.Core.List.{List, [], ◌∷◌, ◌++◌, append-nil}
use native.Mathlib.Omega.{arith}
use lib.ListN.{length, take, drop, set, length-append}
use lib.Seq.{sets, sets-eq, take_at, length-take-le}
use Rattle.rules.specs.Words.{Place, Round}
use Rattle.rules.specs.Lists.{each}
use Rattle.rules.specs.Journal.{Track, Entry, words_of, in_range, entry_at, entries_of, carry_out, take_back, track_of, doing, rollback}
use Rattle.rules.specs.SharedWords.{Tied}
use Rattle.laws.proofs.JournalWordLaws.{entries_more, good_more}
use Rattle.laws.proofs.JournalLaws.{entries_of_length, rollback_step}
use Rattle.journal.specs.Journalled.{Journalled, Moved}
use Rattle.journal.proofs.GrewLaws.{grew_self}

-- five stores from p on
pub note_words : (ws : List ℕ) (p k a b c d : ℕ) → p + 5 ≤ length ws
    → take (p + 5) (set (set (set (set (set ws p k) (p + 1) a) (p + 2) b) (p + 3) c) (p + 4) d) ≡ take p ws ++ (k ∷ a ∷ b ∷ c ∷ d ∷ [])
note_words ws p k a b c d h =
    let vs : List ℕ = k ∷ a ∷ b ∷ c ∷ d ∷ [] in
    let l : length (take p ws ++ vs) ≡ p + 5 = simp length-append (omega (arith, length-take-le p ws (omega arith))) in
    let q1 : suc p ≡ p + 1 = omega arith in
    let q2 : suc (p + 1) ≡ p + 2 = omega arith in
    let q3 : suc (p + 2) ≡ p + 3 = omega arith in
    let q4 : suc (p + 3) ≡ p + 4 = omega arith in
    let s : set (set (set (set (set ws p k) (p + 1) a) (p + 2) b) (p + 3) c) (p + 4) d ≡ sets ws p vs = cc in
    ap (take (p + 5)) (s ∙ sets-eq vs ws p h) ∙ take_at (take p ws ++ vs) (drop (p + 5) ws) (p + 5) l

-- one entry more
pub moved_one : (e : Entry) (r : Round) (j : List ℕ) (held : ℕ) (r' : Round) (ps' : List Place) (j' : List ℕ) (held' : ℕ)
    → Journalled (length r) j held 1 → in_range (length r) e ≡ true → length r' ≡ length r → r' ≡ carry_out e r → Tied r' ps'
    → take (5 * (held + 1)) j' ≡ take (5 * held) j ++ words_of e → held' ≡ held + 1
    → Moved (doing e (track_of r j held)) j held r' ps' j' held'
unfolding doing track_of each
moved_one e r j held r' ps' j' held' g range n_is is tied words held_is =
    let fits : 5 * held ≤ length j = omega (arith, g.room) in
    let es = entries_more j' j held e fits words in
    rw held_is
    (record {
      is = λ i. record { round = is i; journal = es i };
      tied = tied;
      good = rw n_is (good_more j' j held e fits words (length r) g.good range);
      grew = record { newer = e ∷ []; more = refl; words = words ∙ ap (λ (l : List ℕ). take (5 * held) j ++ l) (sym (append-nil (words_of e))) };
      high = omega arith;
    })

-- nothing moved
pub moved_none : (r : Round) (j : List ℕ) (held : ℕ) (r' : Round) (ps' : List Place) → Journalled (length r) j held 1 → r' ≡ r → Tied r' ps' → Moved (track_of r j held) j held r' ps' j held
moved_none r j held r' ps' g is tied =
    record {
      is = ap (λ (x : Round). track_of x j held) is;
      tied = tied;
      good = rw is g.good;
      grew = grew_self j held;
      high = omega arith;
    }

-- a turn of `rollback`: the entries from the mark up to i are still to go
pub back_turn : (r r' : Round) (ws : List ℕ) (mark i : ℕ) (goal : Track) → mark < i → r' ≡ take_back (entry_at ws (i - 1)) r
    → rollback mark (track_of r ws i) ≡ goal → rollback mark (track_of r' ws (i - 1)) ≡ goal
unfolding track_of entries_of
back_turn r r' ws mark i goal h is e =
    let k : ℕ = i - 1 in
    let q : i ≡ suc (i - 1) = omega arith in
    rw is (sym (rollback_step mark (entry_at ws k) (entries_of ws k) r (omega (arith, entries_of_length ws k))) ∙ (rw q at e))
