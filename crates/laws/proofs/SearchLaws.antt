-- 01, 14: every turn of a search takes a unit or more, so that as much fuel as units is enough; the walk and the best are rounds of all n stops.
-- The legs may be any.
use Prim.Native.Nat.{◌+◌, ◌-◌, ◌<◌, ◌≤◌, suc, zero, ℕ}
use mathlib.Core.Path.{◌≡◌, ap, refl, subst, sym}
use mathlib.Core.Logic.{◌≢◌}
use mathlib.Core.Bool.{◌&&◌, false, true}
use mathlib.Core.List.{[]}
use native.Mathlib.Nat.{le_refl}
use native.Mathlib.Omega.{arith}
use lib.Dec.{eqb, leb, ltb}
use lib.ListN.{length}
use borrow.Author.Tests.{eqb-false, eqb-true, le-ltb, ltb-true}
use Rattle.rules.specs.Descend.{committed, descend, kept, short}
use Rattle.rules.specs.Draws.{drawn, moved}
use Rattle.rules.specs.Journal.{Track, cleared}
use Rattle.rules.specs.Kicks.{Kicked, kick, kicked_state}
use Rattle.rules.specs.Lists.{when◌then◌else◌}
use Rattle.rules.specs.Plan.{Plan, leg_of}
use Rattle.rules.specs.Ring.{recount}
use Rattle.rules.specs.Search.{Settings, Walk, kicked_once, restarted, shaken, turned, turns}
use Rattle.rules.specs.State.{State, commit, load, undo}
use Rattle.rules.specs.Words.{Legs, Round, Time}
use Rattle.laws.proofs.ChoiceLaws.{either_if, either_way}
use Rattle.laws.proofs.JournalLaws.{Past, past_past}
use Rattle.laws.proofs.KickLaws.{Kicks}
use Rattle.laws.proofs.KickedLaws.{kick_kicks, kicked_some, kicked_state_stands}
use Rattle.laws.proofs.PermLaws.{Perm}
use Rattle.laws.proofs.RunLaws.{Stands, committed_empty, descend_stands, descend_takes, kept_past}
use Rattle.laws.proofs.SinceLaws.{since_few}
use Rattle.laws.proofs.StateLaws.{commit_stands, load_stands, undo_past}
use Rattle.laws.proofs.TrialLaws.{Lists}

-- ---- kicks one after another
kicked_state_past : (d : Legs) (s : State) (k : Kicked) (most : ℕ) → Kicks d s.track most k → Past s.track (kicked_state k s).track
unfolding kicked_state
kicked_state_past d s k most c = c.since.past

kicked_state_few : (d : Legs) (s : State) (k : Kicked) (most : ℕ) → Kicks d s.track most k → length (kicked_state k s).track.journal ≤ length s.track.journal + most
unfolding kicked_state
kicked_state_few d s k most c = since_few c.since

module _ (d : Legs) (n : ℕ) (pos : 1 ≤ n) where
  kicks : (kind x : ℕ) (s : State) → Stands n s.track s.queue → Kicks d s.track 30 (kick d kind x s.track).made
  kicks kind x s h = kick_kicks d s.track h.perm (omega (arith, h.size)) kind x

  shaken_stands : (count kind x : ℕ) (s : State) → Stands n s.track s.queue → Stands n (shaken d count kind s x).state.track (shaken d count kind s x).state.queue
  unfolding shaken
  shaken_stands zero kind x s h = h
  shaken_stands (suc count) kind x s h = let k = kick d kind x s.track in shaken_stands count kind k.draw (kicked_state k.made s) (kicked_state_stands d n s k.made 30 h (kicks kind x s h))

  -- somebody waits after a kick
  shaken_wait : (count kind x : ℕ) (s : State) → Stands n s.track s.queue → 0 < length s.queue → 0 < length (shaken d count kind s x).state.queue
  unfolding shaken
  shaken_wait zero kind x s h q = q
  shaken_wait (suc count) kind x s h q =
      let k = kick d kind x s.track in
      let c = kicks kind x s h in
      shaken_wait count kind k.draw (kicked_state k.made s) (kicked_state_stands d n s k.made 30 h c) (kicked_some d s k.made 30 c)

  shaken_some : (count kind x : ℕ) (s : State) → Stands n s.track s.queue → 0 < length (shaken d (suc count) kind s x).state.queue
  unfolding shaken
  shaken_some count kind x s h =
      let k = kick d kind x s.track in
      let c = kicks kind x s h in
      shaken_wait count kind k.draw (kicked_state k.made s) (kicked_state_stands d n s k.made 30 h c) (kicked_some d s k.made 30 c)

  -- one kick leads back, and takes 30 entries at most
  kick_past : (kind x : ℕ) (s : State) → Stands n s.track s.queue → Past s.track (shaken d 1 kind s x).state.track
  unfolding shaken
  kick_past kind x s h = kicked_state_past d s (kick d kind x s.track).made 30 (kicks kind x s h)

  kick_few : (kind x : ℕ) (s : State) → Stands n s.track s.queue → length (shaken d 1 kind s x).state.track.journal ≤ length s.track.journal + 30
  unfolding shaken
  kick_few kind x s h = kicked_state_few d s (kick d kind x s.track).made 30 (kicks kind x s h)

-- ---- where a walk stands between two turns
pub record Walks (n : ℕ) (w : Walk) : Type 0 where
  pub stands : Stands n w.state.track w.state.queue
  pub empty : w.state.track.journal ≡ []
  pub best_perm : Perm w.best
  pub best_size : length w.best ≡ n

-- and after one that took a unit or more of m + 1
pub record Took (n m : ℕ) (w : Walk) : Type 0 where
  pub walks : Walks n w
  pub less : w.left ≤ m

-- a round of n stops; a state between two turns
record Whole (n : ℕ) (r : Round) : Type 0 where
  perm : Perm r
  size : length r ≡ n

record Stood (n : ℕ) (s : State) : Type 0 where
  stands : Stands n s.track s.queue
  empty : s.track.journal ≡ []

commit_stood : (n : ℕ) (s : State) → Stands n s.track s.queue → Stood n (commit s)
unfolding commit cleared
commit_stood n s h = record { stands = commit_stands n s h; empty = refl }

load_stood : (n : ℕ) (count : Round → Time) (r : Round) → Perm r → length r ≡ n → Stood n (load count r)
unfolding load
load_stood n count r p e = record { stands = load_stands n count r p e; empty = refl }

roomy : (room : ℕ) (t : Track) → length t.journal ≤ 30 → 130 ≤ room → short (kept room) t ≡ false
unfolding short
roomy room t h k = let l : 100 ≤ room - length t.journal = omega arith in le-ltb (room - length t.journal) 100 l

some_left : (a : ℕ) → eqb a 0 ≡ false → a ≡ suc (a - 1)
some_left a e = let ne : a ≢ 0 = eqb-false a 0 e in omega arith

-- how turns end: no unit left, or the stop flag and long enough without a new best
pub record Ended (o : Settings) (w : Walk) : Type 0 where
  pub why : w.left ≢ 0 → (o.stop && leb o.limit w.fails) ≡ true

module _ (p : Plan) (o : Settings) (n : ℕ) (pos : 1 ≤ n) (lists : Lists p n) (room : 130 ≤ o.room) where
  restart_took : (m : ℕ) (w : Walk) → w.left ≡ suc m → Walks n w → Took n m (restarted p o w)
  unfolding restarted short
  restart_took m w e g =
      let d = leg_of p in
      let s = load (recount d) w.best in
      let h = load_stands n (recount d) w.best g.best_perm g.best_size in
      let k = (shaken d 32 0 s w.draw).state in
      let hk = shaken_stands d n pos 32 0 w.draw s h in
      let ran = descend p o.step committed w.left k in
      let hr = descend_stands p o.step n lists committed w.left k hk in
      let b : Whole n (when ltb ran.state.time w.best_time then ran.state.track.round else w.best) = either_way (Whole n) (ltb ran.state.time w.best_time) (record { perm = hr.perm; size = hr.size }) (record { perm = g.best_perm; size = g.best_size }) in
      record {
        walks = record { stands = hr; empty = committed_empty p o.step w.left k; best_perm = b.perm; best_size = b.size };
        less = subst (λ l. (descend p o.step committed l k).left ≤ m) (sym e) (descend_takes p o.step committed m k (shaken_some d n pos 31 0 w.draw s h) refl);
      }

  -- a kick and its descent, not yet judged
  kick_took : (slack m : ℕ) (w : Walk) → w.left ≡ suc m → Walks n w → Took n m (kicked_once p o slack w)
  unfolding kicked_once
  kick_took slack m w e g =
      let d = leg_of p in
      let x = moved w.draw in
      let kind = (when eqb (drawn 0 (o.one_in - 1) x) 0 then 2 else o.kind) in
      let k = (shaken d 1 kind w.state x).state in
      let hk = shaken_stands d n pos 1 kind x w.state g.stands in
      let ran = descend p o.step (kept o.room) w.left k in
      let hr = descend_stands p o.step n lists (kept o.room) w.left k hk in
      let s' = ran.state in
      let back = past_past (kick_past d n pos kind x w.state g.stands) (kept_past p o.step n lists o.room w.left k hk) in
      let undone : undo (recount d) s' ≡ load (recount d) w.state.track.round = undo_past (recount d) w.state.track s' back g.empty in
      let walk_best = (when ltb s'.time w.walk_best then s'.time else w.walk_best) in
      let b : Whole n (when ltb s'.time w.best_time then s'.track.round else w.best) = either_way (Whole n) (ltb s'.time w.best_time) (record { perm = hr.perm; size = hr.size }) (record { perm = g.best_perm; size = g.best_size }) in
      let judged : Stood n (when leb s'.time (walk_best + slack) then commit s' else undo (recount d) s')
      = either_way (Stood n) (leb s'.time (walk_best + slack)) (commit_stood n s' hr) (subst (Stood n) (sym undone) (load_stood n (recount d) w.state.track.round g.stands.perm g.stands.size)) in
      let few : length k.track.journal ≤ 30 = omega (arith, kick_few d n pos kind x w.state g.stands, ap length g.empty) in
      record {
        walks = record { stands = judged.stands; empty = judged.empty; best_perm = b.perm; best_size = b.size };
        less = subst (λ l. (descend p o.step (kept o.room) l k).left ≤ m) (sym e) (descend_takes p o.step (kept o.room) m k (shaken_some d n pos 0 kind x w.state g.stands) (roomy o.room k.track few room));
      }

  -- a turn takes a unit or more
  pub turn_took : (slack m : ℕ) (w : Walk) → w.left ≡ suc m → Walks n w → Took n m (turned p o slack w)
  unfolding turned
  turn_took slack m w e g = either_way (Took n m) (ltb w.walk_fails o.restart) (kick_took slack m w e g) (restart_took m w e g)

  -- the turns keep it; with as much fuel as units, they end because no unit is left or the stop flag says so
  pub fuel_suffices : (slack fuel : ℕ) (w : Walk) → w.left ≤ fuel → Walks n w → Walks n (turns p o slack fuel w) × Ended o (turns p o slack fuel w)
  unfolding turns
  fuel_suffices slack zero w h g = (g, record { why = λ ne. absurd (ne (omega arith)) })
  fuel_suffices slack (suc fuel) w h g =
      either_if (λ (v : Walk). Walks n v × Ended o v) (eqb w.left 0)
      (λ e. (g, record { why = λ ne. absurd (ne (eqb-true w.left 0 e)) }))
      (λ e. either_if (λ (v : Walk). Walks n v × Ended o v) (o.stop && leb o.limit w.fails)
      (λ y. (g, record { why = λ ne. y }))
      (λ y. let t = turn_took slack (w.left - 1) w (some_left w.left e) g in fuel_suffices slack fuel (turned p o slack w) (omega (arith, t.less)) t.walks))

-- ---- the best is never given up for a worse one
module _ (p : Plan) (o : Settings) where
  turned_best : (slack : Time) (w : Walk) → (turned p o slack w).best_time ≤ w.best_time
  unfolding turned kicked_once restarted
  turned_best slack w = either_way (λ (v : Walk). v.best_time ≤ w.best_time) (ltb w.walk_fails o.restart) (lesser _ w.best_time) (lesser _ w.best_time)
    where
      lesser : (a b : Time) → (when ltb a b then a else b) ≤ b
      lesser a b = either_if (λ c. c ≤ b) (ltb a b) (λ y. let h : a < b = ltb-true a b y in omega arith) (λ y. omega arith)

  pub turns_best : (slack : Time) (fuel : ℕ) (w : Walk) → (turns p o slack fuel w).best_time ≤ w.best_time
  unfolding turns
  turns_best slack zero w = le_refl w.best_time
  turns_best slack (suc fuel) w =
      either_way (λ (v : Walk). v.best_time ≤ w.best_time) (eqb w.left 0) (le_refl w.best_time)
      (either_way (λ (v : Walk). v.best_time ≤ w.best_time) (o.stop && leb o.limit w.fails) (le_refl w.best_time) (omega (arith, turned_best slack w, turns_best slack fuel (turned p o slack w))))
