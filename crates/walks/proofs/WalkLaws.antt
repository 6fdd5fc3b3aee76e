-- The turns of a walk, one after another, are the rule's.
use Prim.Native.Nat.{ℕ, zero, suc, ◌+◌, ◌-◌, ◌/◌, ◌≤◌, ◌<◌}
use mathlib.Core.Path.{◌≡◌, refl, sym, ap, ap₂, subst, ◌∙◌}
use mathlib.Core.Logic.{◌≢◌}
use mathlib.Core.Bool.{Bool, true, false, ◌&&◌, ◌||◌}
use mathlib.Core.List.{List}
use native.Mathlib.Nat.{le_refl}
use native.Mathlib.Omega.{arith}
use borrow.Author.Tests.{eqb-false, lt-ltb, le-ltb}
use lib.Dec.{leb, ltb, eqb}
use lib.ListN.{length}
use Rattle.rules.specs.Words.{Time, Round, Place}
use Rattle.rules.specs.Lists.{when◌then◌else◌}
use Rattle.rules.specs.Ring.{recount}
use Rattle.rules.specs.Plan.{Plan, leg_of}
use Rattle.rules.specs.Draws.{drawn, moved}
use Rattle.rules.specs.Descend.{kept, committed, descend}
use Rattle.rules.specs.State.{load}
use Rattle.rules.specs.Start.{start_round}
use Rattle.rules.specs.Search.{Settings, Walk, margin, restart_after, stop_after, shaken, kicked_once, restarted, turned, turns, search_from, search}
use Rattle.rules.specs.Memory.{Lent, room_in, plan_in}
use Rattle.rules.specs.Calls.{settings_in}
use Rattle.laws.proofs.ChoiceLaws.{either_way, true_false}
use Rattle.laws.proofs.SearchLaws.{Walks, Took, turn_took}
use Rattle.laws.proofs.StateLaws.{load_stands}
use Rattle.laws.proofs.TiedLaws.{tied_perm}
use Rattle.laws.proofs.TrialLaws.{Lists}
use Rattle.walks.specs.Walking.{Tally, Counts, over, Rests, walk_in, Goes, told, begun, answered}
use Rattle.walks.proofs.HoldLaws.{after}

pub rests_walks : (l : Lent) (best : Round) (t : Tally) (x : ℕ) → Rests l best t.time → Walks l.n (walk_in l best t x)
unfolding walk_in load
rests_walks l best t x r =
    record {
      stands = load_stands l.n (recount (leg_of (plan_in l))) l.round (tied_perm r.works.tied) r.works.desk.round_long;
      empty = refl;
      best_perm = r.best_perm;
      best_size = r.best_long;
    }

pick_first : (b : Bool) (x y : Walk) → b ≡ true → (elim b as (λ z. Walk) [ true ↦ x | false ↦ y ]) ≡ x
pick_first true x y e = refl
pick_first false x y e = absurd (true_false (sym e))

pick_second : (b : Bool) (x y : Walk) → b ≡ false → (elim b as (λ z. Walk) [ true ↦ x | false ↦ y ]) ≡ y
pick_second true x y e = absurd (true_false e)
pick_second false x y e = refl

-- a kick where no restart is due
pub turned_kick : (p : Plan) (o : Settings) (slack : Time) (w : Walk) → w.walk_fails < o.restart → turned p o slack w ≡ kicked_once p o slack w
unfolding turned
turned_kick p o slack w h = pick_first (ltb w.walk_fails o.restart) (kicked_once p o slack w) (restarted p o w) (lt-ltb w.walk_fails o.restart h)

pub turned_restart : (p : Plan) (o : Settings) (slack : Time) (w : Walk) → o.restart ≤ w.walk_fails → turned p o slack w ≡ restarted p o w
unfolding turned
turned_restart p o slack w h = pick_second (ltb w.walk_fails o.restart) (kicked_once p o slack w) (restarted p o w) (le-ltb w.walk_fails o.restart h)

-- a restart asks no kind
pub restarted_kind : (p : Plan) (l : Lent) (step kind : ℕ) (w : Walk) → restarted p (told l step 0 false) w ≡ restarted p (told l step kind false) w
unfolding restarted told settings_in
restarted_kind p l step kind w = refl

-- a turn asks room, step and kind alone
pub turned_told : (p : Plan) (l l' : Lent) (step kind : ℕ) (stop : Bool) (slack : Time) (w : Walk) → l'.n ≡ l.n → length l'.journal ≡ length l.journal
    → turned p (told l' step kind false) slack w ≡ turned p (told l step kind stop) slack w
unfolding turned kicked_once restarted told settings_in room_in
turned_told p l l' step kind stop slack w en ej = ap₂ (λ (n m : ℕ). turned p (record { step = step; kind = kind; one_in = 16; stop = false; room = m / 5; restart = restart_after n; limit = stop_after n; budget = 0; draw = 0 }) slack w) en ej

-- each count grows by one at most
module _ (p : Plan) (o : Settings) (slack : Time) (w : Walk) where
  within : (b : Bool) (m : ℕ) → (when b then 0 else m + 1) ≤ m + 1
  within b m = either_way (λ (z : ℕ). z ≤ m + 1) b (omega arith) (omega arith)

  within_same : (b : Bool) (m : ℕ) → (when b then 0 else m) ≤ m + 1
  within_same b m = either_way (λ (z : ℕ). z ≤ m + 1) b (omega arith) (omega arith)

  kick_time : Time
  kick_time = (descend p o.step (kept o.room) w.left (shaken (leg_of p) 1 (when eqb (drawn 0 (o.one_in - 1) (moved w.draw)) 0 then 2 else o.kind) w.state (moved w.draw)).state).state.time

  restart_time : Time
  restart_time = (descend p o.step committed w.left (shaken (leg_of p) 32 0 (load (recount (leg_of p)) w.best) w.draw).state).state.time

  kicked_stale : (kicked_once p o slack w).walk_fails ≤ w.walk_fails + 1
  unfolding kicked_once kick_time
  kicked_stale = within (ltb kick_time w.walk_best) w.walk_fails

  kicked_fails : (kicked_once p o slack w).fails ≤ w.fails + 1
  unfolding kicked_once kick_time
  kicked_fails = within (ltb kick_time w.best_time) w.fails

  restarted_fails : (restarted p o w).fails ≤ w.fails + 1
  unfolding restarted restart_time
  restarted_fails = within_same (ltb restart_time w.best_time) w.fails

  restarted_stale : (restarted p o w).walk_fails ≤ w.walk_fails + 1
  unfolding restarted
  restarted_stale = omega arith

  turned_stale : (turned p o slack w).walk_fails ≤ w.walk_fails + 1
  unfolding turned
  turned_stale = either_way (λ (v : Walk). v.walk_fails ≤ w.walk_fails + 1) (ltb w.walk_fails o.restart) {x = kicked_once p o slack w} {y = restarted p o w} kicked_stale restarted_stale

  turned_fails : (turned p o slack w).fails ≤ w.fails + 1
  unfolding turned
  turned_fails = either_way (λ (v : Walk). v.fails ≤ w.fails + 1) (ltb w.walk_fails o.restart) {x = kicked_once p o slack w} {y = restarted p o w} kicked_fails restarted_fails

  turned_kicks : (turned p o slack w).kicks ≤ w.kicks + 1
  unfolding turned kicked_once restarted
  turned_kicks = either_way (λ (v : Walk). v.kicks ≤ w.kicks + 1) (ltb w.walk_fails o.restart) (le_refl (w.kicks + 1)) (omega arith)

-- ---- turns that are left, with units enough
pub record Going (p : Plan) (o : Settings) (slack : Time) (goal w : Walk) : Type 0 where
  pub fuel : ℕ
  pub enough : w.left ≤ fuel
  pub is : turns p o slack fuel w ≡ goal

both_false : (a b : Bool) → (a || b) ≡ false → (a ≡ false) × (b ≡ false)
both_false true b e = absurd (true_false e)
both_false false b e = (refl, e)

left_some : (o : Settings) (w : Walk) → over o.stop o.limit w.left w.fails ≡ false → 0 < w.left
unfolding over
left_some o w e = let ne : w.left ≢ 0 = eqb-false w.left 0 (both_false (eqb w.left 0) (o.stop && leb o.limit w.fails) e).0 in omega arith

pub going_on : (stop : Bool) (limit left fails : ℕ) → over stop limit left fails ≡ false → 0 < left
unfolding over
going_on stop limit left fails e = let ne : left ≢ 0 = eqb-false left 0 (both_false (eqb left 0) (stop && leb limit fails) e).0 in omega arith

module _ (p : Plan) (o : Settings) (slack : Time) (goal w : Walk) where
  pub going_over : over o.stop o.limit w.left w.fails ≡ true → Going p o slack goal w → w ≡ goal
  unfolding over turns
  going_over e g = go g.fuel g.is
    where
      ends : (a b : Bool) → (a || b) ≡ true → (fuel : ℕ) → (elim a as (λ z. Walk) [ true ↦ w | false ↦ elim b as (λ z. Walk) [ true ↦ w | false ↦ turns p o slack fuel (turned p o slack w) ] ]) ≡ goal → w ≡ goal
      ends true b e fuel k = k
      ends false true e fuel k = k
      ends false false e fuel k = absurd (true_false (sym e))

      go : (fuel : ℕ) → turns p o slack fuel w ≡ goal → w ≡ goal
      go zero k = k
      go (suc fuel) k = ends (eqb w.left 0) (o.stop && leb o.limit w.fails) e fuel k

  pub going_turn : (n : ℕ) → 1 ≤ n → Lists p n → 130 ≤ o.room → Walks n w → over o.stop o.limit w.left w.fails ≡ false → Going p o slack goal w → Going p o slack goal (turned p o slack w)
  unfolding over turns
  going_turn n pos lists room h e g = go g.fuel g.enough g.is
    where
      step : (fuel : ℕ) → turns p o slack (suc fuel) w ≡ goal → turns p o slack fuel (turned p o slack w) ≡ goal
      step fuel k =
          let q = both_false (eqb w.left 0) (o.stop && leb o.limit w.fails) e in
          let rest : Walk = turns p o slack fuel (turned p o slack w) in
          sym (pick_second (eqb w.left 0) w (elim (o.stop && leb o.limit w.fails) as (λ z. Walk) [ true ↦ w | false ↦ rest ]) q.0 ∙ pick_second (o.stop && leb o.limit w.fails) w rest q.1) ∙ k

      go : (fuel : ℕ) → w.left ≤ fuel → turns p o slack fuel w ≡ goal → Going p o slack goal (turned p o slack w)
      go zero l k = absurd (omega (arith, left_some o w e))
      go (suc fuel) l k =
          let some : 0 < w.left = left_some o w e in
          let m : w.left ≡ suc (w.left - 1) = omega arith in
          let t = turn_took p o n pos lists room slack (w.left - 1) w m h in
          record { fuel = fuel; enough = omega (arith, t.less); is = step fuel k }

-- ---- the whole search
-- budget and first draw state are asked at its start alone
turns_told : (p : Plan) (l : Lent) (step kind : ℕ) (stop : Bool) (budget x : ℕ) (slack : Time) (fuel : ℕ) (w : Walk) → turns p (settings_in l step kind stop budget x) slack fuel w ≡ turns p (told l step kind stop) slack fuel w
unfolding turns turned kicked_once restarted told settings_in
turns_told p l step kind stop budget x slack zero w = refl
turns_told p l step kind stop budget x slack (suc fuel) w =
    let k : turns p (settings_in l step kind stop budget x) slack fuel (turned p (told l step kind stop) slack w) ≡ turns p (told l step kind stop) slack fuel (turned p (told l step kind stop) slack w) = turns_told p l step kind stop budget x slack fuel (turned p (told l step kind stop) slack w) in
    λ i. elim (eqb w.left 0) as (λ z. Walk) [ true ↦ w | false ↦ elim (stop && leb (stop_after l.n) w.fails) as (λ z. Walk) [ true ↦ w | false ↦ k i ] ]

pub search_is : (l : Lent) (step kind : ℕ) (stop : Bool) (budget x : ℕ) (first : Walk) → first ≡ begun (plan_in l) step budget x (start_round (leg_of (plan_in l)) l.n)
    → search (plan_in l) (settings_in l step kind stop budget x) ≡ answered budget (turns (plan_in l) (told l step kind stop) (margin l.n first.best_time) first.left first)
unfolding search search_from answered begun settings_in plan_in
search_is l step kind stop budget x first e =
    let b : Walk = begun (plan_in l) step budget x (start_round (leg_of (plan_in l)) l.n) in
    ap (answered budget) (turns_told (plan_in l) l step kind stop budget x (margin l.n b.best_time) b.left b) ∙ ap (λ (w : Walk). answered budget (turns (plan_in l) (told l step kind stop) (margin l.n w.best_time) w.left w)) (sym e)

-- ---- the loop of `walk`
-- where it stands, and the turns that are left
pub record Walking (l₀ : Lent) (o : Settings) (slack : Time) (goal : Walk) (l : Lent) (best : Round) (t : Tally) (x : ℕ) : Type 0 where
  pub rests : Rests l best t.time
  pub counts : Counts t
  pub going : Going (plan_in l₀) o slack goal (walk_in l best t x)

pub walking_starts : (l : Lent) (best : Round) (t : Tally) (x step kind : ℕ) (stop : Bool) (slack : Time) → Rests l best t.time → Counts t
    → Walking l (told l step kind stop) slack (turns (plan_in l) (told l step kind stop) slack t.left (walk_in l best t x)) l best t x
unfolding walk_in
walking_starts l best t x step kind stop slack r k = record { rests = r; counts = k; going = record { fuel = t.left; enough = le_refl t.left; is = refl } }

module _ (l₀ : Lent) (step kind : ℕ) (stop : Bool) (slack : Time) (goal : Walk)
    (round : Round) (places : List Place) (queue flags scratch journal : List ℕ) (ej : length journal ≡ length l₀.journal) (best : Round) (t : Tally) (x : ℕ)
    (w : Walking l₀ (told l₀ step kind stop) slack goal (after l₀ round places queue flags scratch journal) best t x)
    (on : over stop (stop_after l₀.n) t.left t.fails ≡ false)
    {l' : Lent} {best' : Round} {t' : Tally} {x' : ℕ}
    (g : Goes (turned (plan_in (after l₀ round places queue flags scratch journal)) (told (after l₀ round places queue flags scratch journal) step kind false) slack (walk_in (after l₀ round places queue flags scratch journal) best t x)) l' best' t' x') where
  here : Walk
  here = walk_in (after l₀ round places queue flags scratch journal) best t x

  goes_is : walk_in l' best' t' x' ≡ turned (plan_in l₀) (told l₀ step kind stop) slack here
  unfolding here plan_in
  goes_is = g.is ∙ turned_told (plan_in l₀) l₀ (after l₀ round places queue flags scratch journal) step kind stop slack here refl ej

  room : 130 ≤ (told l₀ step kind stop).room
  unfolding told settings_in room_in
  room = omega (arith, w.rests.works.desk.room, ej)

  some : 0 < t.left
  some = going_on stop (stop_after l₀.n) t.left t.fails on

  took : Took l₀.n (t.left - 1) (turned (plan_in l₀) (told l₀ step kind stop) slack here)
  unfolding here walk_in plan_in
  took =
      let e : t.left ≡ suc (t.left - 1) = omega (arith, some) in
      turn_took (plan_in l₀) (told l₀ step kind stop) l₀.n (omega (arith, w.rests.works.desk.two)) w.rests.given.fits.lists room slack (t.left - 1) here e (rests_walks (after l₀ round places queue flags scratch journal) best t x w.rests)

  pub walking_less : t'.left < t.left
  unfolding here walk_in
  walking_less = omega (arith, some, took.less, ap (λ (v : Walk). v.left) goes_is)

  pub walking_turn : Walking l₀ (told l₀ step kind stop) slack goal l' best' t' x'
  unfolding here walk_in plan_in told settings_in
  walking_turn =
      let o : Settings = told l₀ step kind stop in
      let less = walking_less in
      let a : t'.stale ≤ t.stale + 1 = omega (arith, turned_stale (plan_in l₀) o slack here, ap (λ (v : Walk). v.walk_fails) goes_is) in
      let b : t'.fails ≤ t.fails + 1 = omega (arith, turned_fails (plan_in l₀) o slack here, ap (λ (v : Walk). v.fails) goes_is) in
      let c : t'.kicks ≤ t.kicks + 1 = omega (arith, turned_kicks (plan_in l₀) o slack here, ap (λ (v : Walk). v.kicks) goes_is) in
      record {
        rests = g.rests;
        counts = record { stale_fits = omega (arith, w.counts.stale_fits); fails_fit = omega (arith, w.counts.fails_fit); kicks_fit = omega (arith, w.counts.kicks_fit) };
        going = subst (Going (plan_in l₀) o slack goal) (sym goes_is) (going_turn (plan_in l₀) o slack goal here l₀.n (omega (arith, w.rests.works.desk.two)) w.rests.given.fits.lists room (rests_walks (after l₀ round places queue flags scratch journal) best t x w.rests) on w.going);
      }

pub walking_done : (l₀ : Lent) (step kind : ℕ) (stop : Bool) (slack : Time) (goal : Walk) (l : Lent) (best : Round) (t : Tally) (x : ℕ) → over stop (stop_after l₀.n) t.left t.fails ≡ true
    → Walking l₀ (told l₀ step kind stop) slack goal l best t x → Goes goal l best t x
unfolding walk_in told settings_in
walking_done l₀ step kind stop slack goal l best t x e w = record { is = going_over (plan_in l₀) (told l₀ step kind stop) slack goal (walk_in l best t x) e w.going; rests = w.rests }

-- ---- a turn by what is due
module _ (l : Lent) (best : Round) (t : Tally) (x step kind : ℕ) (slack : Time) (due : ℕ) (e : due ≡ restart_after l.n) {l' : Lent} {best' : Round} {t' : Tally} {x' : ℕ} where
  pub turn_kicks : t.stale < due → Goes (kicked_once (plan_in l) (told l step kind false) slack (walk_in l best t x)) l' best' t' x' → Goes (turned (plan_in l) (told l step kind false) slack (walk_in l best t x)) l' best' t' x'
  unfolding walk_in told settings_in
  turn_kicks h g = subst (λ (w : Walk). Goes w l' best' t' x') (sym (turned_kick (plan_in l) (told l step kind false) slack (walk_in l best t x) (omega (arith, e)))) g

  pub turn_restarts : due ≤ t.stale → Goes (restarted (plan_in l) (told l step 0 false) (walk_in l best t x)) l' best' t' x' → Goes (turned (plan_in l) (told l step kind false) slack (walk_in l best t x)) l' best' t' x'
  unfolding walk_in told settings_in
  turn_restarts h g = subst (λ (w : Walk). Goes w l' best' t' x') (restarted_kind (plan_in l) l step kind (walk_in l best t x) ∙ sym (turned_restart (plan_in l) (told l step kind false) slack (walk_in l best t x) (omega (arith, e)))) g
