-- A step's promise from those of its parts.
use Prim.Native.Nat.{ℕ, zero, suc, ◌+◌, ◌*◌, ◌≤◌, ◌<◌}
use mathlib.Core.Path.{◌≡◌, refl, sym, ap, subst, ◌∙◌}
use mathlib.Core.Logic.{◌≢◌}
use mathlib.Core.Bool.{true}
use mathlib.Core.List.{List, [], ◌∷◌}
use native.Mathlib.Omega.{arith}
use lib.ListN.{length}
use Rattle.rules.specs.Words.{Stop, Place, Time, Round}
use Rattle.rules.specs.Journal.{Track, track_of, good_journal}
use Rattle.rules.specs.Queue.{push_all, waiting}
use Rattle.rules.specs.Improve.{ends_of, Found, nothing, or_else}
use Rattle.rules.specs.SharedWords.{Tied}
use Rattle.laws.proofs.ChoiceLaws.{by_gain}
use Rattle.laws.proofs.JournalLaws.{entries_of_length}
use Rattle.laws.proofs.StayLaws.{Stays}
use Rattle.queue.specs.Lines.{InLine, Waits}
use Rattle.journal.proofs.GrewLaws.{grew_self, grew_grew}
use Rattle.moves.specs.Moves.{Made, case_of}
use Rattle.improve.specs.Steps.{trial_of, Stepped}

-- ---- the queue
-- more stops behind those that wait
pub pushed : {q : List Stop} {h head head' : Place} {queue flags queue' flags' : List ℕ} {count count' : ℕ} (us : List Stop)
    → Waits q h queue flags head count → Waits (push_all (waiting queue head count) us) head queue' flags' head' count' → Waits (push_all q us) h queue' flags' head' count'
pushed us w p = record { is = p.is ∙ ap (λ (l : List Stop). push_all l us) w.is; head_is = p.head_is ∙ w.head_is; line = p.line }

-- the same stops under another name
pub waits_is : {q q' : List Stop} {h head : Place} {queue flags : List ℕ} {count : ℕ} → q ≡ q' → Waits q h queue flags head count → Waits q' h queue flags head count
waits_is e w = record { is = w.is ∙ e; head_is = w.head_is; line = w.line }

-- the ends of a 2-opt move, and of the others
pub ends_two : (c : ℕ) (t3 t4 t5 t6 : Stop) → c ≡ 1 → t3 ∷ t4 ∷ [] ≡ ends_of (trial_of c t3 t4 t5 t6)
unfolding ends_of trial_of case_of
ends_two c t3 t4 t5 t6 e = rw e

pub ends_three : (c : ℕ) (t3 t4 t5 t6 : Stop) → c ≢ 1 → t3 ∷ t4 ∷ t5 ∷ t6 ∷ [] ≡ ends_of (trial_of c t3 t4 t5 t6)
unfolding ends_of trial_of case_of
ends_three zero t3 t4 t5 t6 n = refl
ends_three (suc zero) t3 t4 t5 t6 n = absurd (n refl)
ends_three (suc (suc zero)) t3 t4 t5 t6 n = refl
ends_three (suc (suc (suc zero))) t3 t4 t5 t6 n = refl
ends_three (suc (suc (suc (suc c)))) t3 t4 t5 t6 n = refl

-- ---- the step
-- nothing found: all is as it was
pub stepped_none : {most : ℕ} {f : Found} {r : Round} {ps : List Place} {queue flags : List ℕ} {head : Place} {count : ℕ} {j : List ℕ} {held : ℕ} {gain : Time}
    → f ≡ nothing (track_of r j held) → gain ≡ 0 → Tied r ps → good_journal (length r) j held ≡ true → InLine queue flags head count
    → Stepped most f queue head count j held r ps queue flags j gain held head count
unfolding nothing push_all
stepped_none {j = j} {held = held} e z t g l = rw e
    (record {
      gain_is = z;
      made = record { is = refl; tied = t; good = g; grew = grew_self j held; high = omega arith };
      waits = record { is = refl; head_is = refl; line = l };
    })

-- a move found, carried out and queued
pub stepped_some : {most : ℕ} {f : Found} {t : Track} {us : List Stop} {queue : List ℕ} {head : Place} {count : ℕ} {j : List ℕ} {held : ℕ} {r : Round} {ps : List Place} {queue' flags' j' : List ℕ} {gain : Time} {held' : ℕ} {head' : Place} {count' : ℕ}
    → f ≡ record { gain = gain; track = t; touched = us } → Made most t j held r ps j' held' → Waits (push_all (waiting queue head count) us) head queue' flags' head' count'
    → Stepped most f queue head count j held r ps queue' flags' j' gain held' head' count'
stepped_some e m w = rw e (record { gain_is = refl; made = m; waits = w })

-- what is found has another name
pub stepped_is : {a : ℕ} {f f' : Found} {queue : List ℕ} {head : Place} {count : ℕ} {j : List ℕ} {held : ℕ} {r' : Round} {ps' : List Place} {queue' flags' j' : List ℕ} {gain : Time} {held' : ℕ} {head' : Place} {count' : ℕ}
    → f ≡ f' → Stepped a f queue head count j held r' ps' queue' flags' j' gain held' head' count' → Stepped a f' queue head count j held r' ps' queue' flags' j' gain held' head' count'
stepped_is {a} {queue = queue} {head} {count} {j} {held} {r'} {ps'} {queue'} {flags'} {j'} {gain} {held'} {head'} {count'} e s =
    subst (λ (g : Found). Stepped a g queue head count j held r' ps' queue' flags' j' gain held' head' count') e s

-- more entries may be added
pub stepped_more : {a b : ℕ} {f : Found} {queue : List ℕ} {head : Place} {count : ℕ} {j : List ℕ} {held : ℕ} {r' : Round} {ps' : List Place} {queue' flags' j' : List ℕ} {gain : Time} {held' : ℕ} {head' : Place} {count' : ℕ}
    → Stepped a f queue head count j held r' ps' queue' flags' j' gain held' head' count' → a ≤ b → Stepped b f queue head count j held r' ps' queue' flags' j' gain held' head' count'
stepped_more s l =
    let m = s.made in
    record { gain_is = s.gain_is; made = record { is = m.is; tied = m.tied; good = m.good; grew = m.grew; high = omega (arith, m.high, l) }; waits = s.waits }

-- ---- one step, and where it gains 0 another
module _ {a : ℕ} {f : Found} {queue : List ℕ} {head : Place} {count : ℕ} {j : List ℕ} {held : ℕ} {r' : Round} {ps' : List Place} {queue' flags' j' : List ℕ} {gain : Time} {held' : ℕ} {head' : Place} {count' : ℕ} (r : Round) (stays : Stays (track_of r j held) f) (s : Stepped a f queue head count j held r' ps' queue' flags' j' gain held' head' count') (none : gain ≡ 0) where
  -- the first left the track as it was
  is_nothing : f ≡ nothing (track_of r j held)
  unfolding Stays
  is_nothing = stays (sym s.gain_is ∙ none)

  pub same_track : track_of r' j' held' ≡ track_of r j held
  unfolding nothing
  same_track = s.made.is ∙ ap (λ (g : Found). g.track) is_nothing

  pub same_round : r' ≡ r
  unfolding track_of
  same_round = ap (λ (t : Track). t.round) same_track

  pub same_held : held' ≡ held
  unfolding track_of
  same_held = sym (entries_of_length j' held') ∙ ap (λ (t : Track). length t.journal) same_track ∙ entries_of_length j held

  -- and nobody new waits
  same_waiting : waiting queue' head' count' ≡ waiting queue head count
  unfolding nothing push_all
  same_waiting = s.waits.is ∙ ap (λ (g : Found). push_all (waiting queue head count) g.touched) is_nothing

  -- and there is as much room
  pub still_room : (free : ℕ) → length j' ≡ length j → 5 * (held + free) ≤ length j → 5 * (held' + free) ≤ length j'
  still_room free e h = omega (arith, h, e, same_held)

  -- what the second finds is what both find
  pub stepped_else : {b : ℕ} {r'' : Round} {ps'' : List Place} {queue'' flags'' j'' : List ℕ} {gain'' : Time} {held'' : ℕ} {head'' : Place} {count'' : ℕ} (other : Track → Found)
      → Stepped b (other (track_of r' j' held')) queue' head' count' j' held' r'' ps'' queue'' flags'' j'' gain'' held'' head'' count''
      → Stepped b (or_else f other) queue head count j held r'' ps'' queue'' flags'' j'' gain'' held'' head'' count''
  unfolding or_else nothing
  stepped_else {b} {r''} {ps''} {queue''} {flags''} {j''} {gain''} {held''} {head''} {count''} other g =
      let e : or_else f other ≡ other (track_of r' j' held') = ap (λ (h : Found). or_else h other) is_nothing ∙ ap other (sym same_track) in
      let m = g.made in
      let w = g.waits in
      subst (λ (h : Found). Stepped b h queue head count j held r'' ps'' queue'' flags'' j'' gain'' held'' head'' count'') (sym e)
      (record {
        gain_is = g.gain_is;
        made = record { is = m.is; tied = m.tied; good = m.good; grew = grew_grew s.made.grew m.grew; high = omega (arith, m.high, same_held) };
        waits = record {
          is = w.is ∙ ap (λ (q : List Stop). push_all q (other (track_of r' j' held')).touched) same_waiting;
          head_is = w.head_is ∙ s.waits.head_is;
          line = w.line;
        };
      })

-- the first gains: it is what both find
pub stepped_first : {a b : ℕ} {f : Found} {queue : List ℕ} {head : Place} {count : ℕ} {j : List ℕ} {held : ℕ} {r' : Round} {ps' : List Place} {queue' flags' j' : List ℕ} {gain : Time} {held' : ℕ} {head' : Place} {count' : ℕ} (other : Track → Found)
    → Stepped a f queue head count j held r' ps' queue' flags' j' gain held' head' count' → 0 < gain → a ≤ b
    → Stepped b (or_else f other) queue head count j held r' ps' queue' flags' j' gain held' head' count'
unfolding or_else
stepped_first {b = b} {f = f} {queue} {head} {count} {j} {held} {r'} {ps'} {queue'} {flags'} {j'} {gain} {held'} {head'} {count'} other s h l =
    by_gain (λ (g : Found). Stepped b g queue head count j held r' ps' queue' flags' j' gain held' head' count') f.gain {x = other f.track} {y = λ g. f}
    (λ e. absurd (omega (arith, s.gain_is)))
    (λ g e. stepped_more s l)
