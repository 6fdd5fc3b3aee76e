-- One thing after another: stops that wait, entries that are journalled, kicks that are made.
use Prim.Native.Nat.{ℕ, ◌+◌, ◌≤◌}
use mathlib.Core.Path.{◌≡◌, sym, ap, ◌∙◌}
use mathlib.Core.List.{List, ◌++◌}
use native.Mathlib.Omega.{arith}
use Rattle.rules.specs.Words.{Stop, Place, Round, Time}
use Rattle.rules.specs.Queue.{push_all, waiting}
use Rattle.rules.specs.Journal.{Track}
use Rattle.rules.specs.Kicks.{Kicked, and_then}
use Rattle.laws.proofs.QueueLaws.{push_all_join}
use Rattle.ring.specs.Legs.{IsTime}
use Rattle.journal.specs.Journalled.{Moved}
use Rattle.journal.proofs.GrewLaws.{grew_grew}
use Rattle.queue.specs.Lines.{Waits}
use Rattle.kicks.specs.Kicking.{Tracked, Made}

module _ (q l : List Stop) {head : Place} {queue flags : List ℕ} {head' : Place} {count : ℕ} (w : Waits (push_all q l) head queue flags head' count) where
  -- the same list
  pub waits_as : (l' : List Stop) → l ≡ l' → Waits (push_all q l') head queue flags head' count
  waits_as l' e = record { is = w.is ∙ ap (push_all q) e; head_is = w.head_is; line = w.line }

  -- more behind them
  pub waits_more : (m : List Stop) {queue' flags' : List ℕ} {head'' : Place} {count' : ℕ} → Waits (push_all (waiting queue head' count) m) head' queue' flags' head'' count' → Waits (push_all q (l ++ m)) head queue' flags' head'' count'
  waits_more m v = record { is = v.is ∙ ap (λ (x : List Stop). push_all x m) w.is ∙ sym (push_all_join q l m); head_is = v.head_is ∙ w.head_is; line = v.line }

-- ---- entries that are journalled
module _ {t : Track} {journal : List ℕ} {held : ℕ} {round : Round} {places : List Place} {journal' : List ℕ} {held' : ℕ} where
  pub tracked_moved : Moved t journal held round places journal' held' → Tracked t 1 journal held round places journal' held'
  tracked_moved m = record { is = m.is; tied = m.tied; good = m.good; grew = m.grew; high = m.high }

  pub tracked_wider : {j : ℕ} (most : ℕ) → j ≤ most → Tracked t j journal held round places journal' held' → Tracked t most journal held round places journal' held'
  tracked_wider most h m = record { is = m.is; tied = m.tied; good = m.good; grew = m.grew; high = omega (arith, m.high) }

  -- more behind them
  pub tracked_more : {u : Track} {j most : ℕ} {round'' : Round} {places'' : List Place} {journal'' : List ℕ} {held'' : ℕ}
      → Tracked t j journal held round places journal' held' → Tracked u most journal' held' round'' places'' journal'' held'' → Tracked u (j + most) journal held round'' places'' journal'' held''
  tracked_more m o = record { is = o.is; tied = o.tied; good = o.good; grew = grew_grew m.grew o.grew; high = omega (arith, m.high, o.high) }

-- ---- times
pub time_wider : {l : ℕ} {p r : Time} (legs : ℕ) → l ≤ legs → IsTime l p r → IsTime legs p r
time_wider {l} legs h t = record { is = t.is; small = omega (arith, t.small) }

pub time_more : {l legs : ℕ} {p p' r r' : Time} → IsTime l p r → IsTime legs p' r' → IsTime (l + legs) (p + p') (r + r')
time_more t u = record { is = omega (arith, t.is, u.is); small = omega (arith, t.small, u.small) }

-- ---- kicks that are made
module _ {k : Kicked} {j l : ℕ} {q : List Stop} {head : Place} {journal : List ℕ} {held : ℕ} {round : Round} {places : List Place} {journal' : List ℕ} {held' : ℕ} {queue flags : List ℕ} {head' : Place} {count added removed : ℕ} (m : Made k j l q head journal held round places journal' held' queue flags head' count added removed) where
  pub made_wider : (most legs : ℕ) → j ≤ most → l ≤ legs → Made k most legs q head journal held round places journal' held' queue flags head' count added removed
  made_wider most legs h g = record { moved = tracked_wider most h m.moved; waits = m.waits; added_is = time_wider legs g m.added_is; removed_is = time_wider legs g m.removed_is }

  -- one after another
  pub made_then : (k' : Kicked) {most legs : ℕ} {round'' : Round} {places'' : List Place} {journal'' : List ℕ} {held'' : ℕ} {queue' flags' : List ℕ} {head'' : Place} {count' added' removed' : ℕ}
      → Made k' most legs (waiting queue head' count) head' journal' held' round'' places'' journal'' held'' queue' flags' head'' count' added' removed'
      → Made (and_then k (λ u. k')) (j + most) (l + legs) q head journal held round'' places'' journal'' held'' queue' flags' head'' count' (added + added') (removed + removed')
  unfolding and_then
  made_then k' o = record {
    moved = tracked_more m.moved o.moved;
    waits = waits_more q k.touched m.waits k'.touched o.waits;
    added_is = time_more m.added_is o.added_is;
    removed_is = time_more m.removed_is o.removed_is;
  }
