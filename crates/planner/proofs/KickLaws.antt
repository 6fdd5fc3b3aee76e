-- What a kick leaves.
use Prim.Native.Nat.{ℕ, ◌+◌, ◌-◌, ◌*◌, ◌≤◌, ◌<◌}
use mathlib.Core.Path.{◌≡◌, sym, ap, ap₂, ◌∙◌}
use mathlib.Core.Bool.{Bool, true}
use native.Mathlib.Omega.{arith}
use borrow.Author.Tests.{leb-true}
use lib.Dec.{leb}
use lib.ListN.{length}
use Rattle.rules.specs.Lists.{at}
use Rattle.rules.specs.Ring.{recount, places_of}
use Rattle.rules.specs.Queue.{waiting, flags_of}
use Rattle.rules.specs.Journal.{Track, track_of, entries_of}
use Rattle.rules.specs.Kicks.{kick, kicked_state}
use Rattle.rules.specs.Plan.{leg_in, leg_of}
use Rattle.rules.specs.Memory.{Lent, Carried, room_in, plan_in, state_in, Leaves}
use Rattle.rules.specs.Numbers.{good_kick}
use Rattle.rules.specs.Calls.{kick_done}
use Rattle.laws.proofs.BoundLaws.{leg_in_short, recount_bound}
use Rattle.laws.proofs.ChoiceLaws.{and-true}
use Rattle.laws.proofs.JournalLaws.{entries_of_length}
use Rattle.laws.proofs.JournalWordLaws.{good_room}
use Rattle.laws.proofs.TiedLaws.{tied_places}
use Rattle.laws.proofs.WaitLaws.{waiting_length}
use Rattle.planner.proofs.LeaveLaws.{words_grew}
use Rattle.kicks.specs.Kicking.{Kicks}
use Rattle.kicks.proofs.CountedLaws.{kick_recount}
use Rattle.refusals.specs.Passed.{CallPassed}

-- what 2 asked
pub kind_good : (kind draw : ℕ) → good_kick kind draw ≡ true → (kind ≤ 2) × (1 ≤ draw)
unfolding good_kick
kind_good kind draw e = let a = and-true (leb kind 2) (leb 1 draw) e in (leb-true kind 2 a.0, leb-true 1 draw a.1)

-- 30 free entries in words
pub kick_room : (l : Lent) (c : Carried) → 30 ≤ room_in l - c.held → 5 * (c.held + 30) ≤ length l.journal
unfolding room_in
kick_room l c h = omega arith

-- "at most 268,431,360"
pub time_small : (l : Lent) (c : Carried) (told : Bool) → CallPassed l c told → ((i : ℕ) → i < length l.matrix → at l.matrix i ≤ 65535) → c.time ≤ 268431360
time_small l c told p s =
    let b = recount_bound (leg_in l.n l.matrix) (leg_in_short l.n l.matrix s) l.round in
    omega (arith, p.time, p.lent.round_long, p.lent.few)

module _ (l l' : Lent) (c c' : Carried) (told : Bool) (p : CallPassed l c told) (free : 30 ≤ room_in l - c.held) (kind x added removed x' : ℕ)
    (k : Kicks (kick (leg_in l.n l.matrix) kind x (track_of l.round l.journal c.held)) x 30 35 (waiting l.queue c.head c.count) c.head l.journal c.held
    l'.round l'.places l'.journal c'.held l'.queue l'.flags c'.head c'.count added removed x') where
  pub recounted : recount (leg_in l.n l.matrix) l'.round + removed ≡ c.time + added
  recounted =
      let two : 2 ≤ length l.round = omega (arith, p.lent.two, p.lent.round_long) in
      omega (arith, p.time, kick_recount (leg_in l.n l.matrix) kind x two p.tied k)

  pub kick_leaves : length l'.queue ≡ length l.queue → c'.time ≡ c.time + added - removed → Leaves l c (kick_done l c kind x).state c.head l' c'
  unfolding kick_done state_in kicked_state leg_of plan_in track_of
  kick_leaves same time =
      let m = k.made in
      let t : Track = (kick (leg_in l.n l.matrix) kind x (track_of l.round l.journal c.held)).made.track in
      let r : l'.round ≡ t.round = ap (λ (z : Track). z.round) m.moved.is in
      let j : entries_of l'.journal c'.held ≡ t.journal = ap (λ (z : Track). z.journal) m.moved.is in
      record {
        round_left = r;
        places_left = tied_places m.moved.tied ∙ ap places_of r;
        queue_left = m.waits.is;
        flags_left = m.waits.line.agreed ∙ ap₂ flags_of (same ∙ p.lent.queue_long) m.waits.is;
        journal_left = words_grew l c (kick_done l c kind x).state l'.journal c'.held (sym j) (good_room l.n l.journal c.held p.journal) m.moved.grew;
        head_left = m.waits.head_is;
        count_left = sym (waiting_length l'.queue c'.head c'.count m.waits.line.room) ∙ ap length m.waits.is;
        held_left = sym (entries_of_length l'.journal c'.held) ∙ ap length j;
        time_left = time ∙ ap₂ (λ (a b : ℕ). c.time + a - b) m.added_is.is m.removed_is.is;
      }

  pub kick_draws : x' ≡ (kick_done l c kind x).draw
  unfolding kick_done state_in leg_of plan_in
  kick_draws = k.state

  pub kick_added : added ≡ (kick_done l c kind x).added
  unfolding kick_done state_in leg_of plan_in
  kick_added = k.made.added_is.is

  pub kick_removed : removed ≡ (kick_done l c kind x).removed
  unfolding kick_done state_in leg_of plan_in
  kick_removed = k.made.removed_is.is
