-- A turn's kick and its kept descent.
use Prim.Native.Nat.{ℕ, ◌/◌}
use mathlib.Core.Path.{◌≡◌, ap, ◌∙◌}
use mathlib.Core.Bool.{true}
use mathlib.Core.List.{List, []}
use native.Mathlib.Omega.{arith}
use lib.ListN.{length}
use Rattle.rules.specs.Words.{Time, Round, Place}
use Rattle.rules.specs.Draws.{moved}
use Rattle.rules.specs.Ring.{recount}
use Rattle.rules.specs.Plan.{leg_in, leg_of}
use Rattle.rules.specs.State.{load}
use Rattle.rules.specs.Kicks.{kicked_state}
use Rattle.rules.specs.Descend.{Ran, kept, descend}
use Rattle.rules.specs.Search.{Shaken, shaken}
use Rattle.rules.specs.Memory.{Lent, Carried, room_in, plan_in, state_in}
use Rattle.laws.proofs.DescendLaws.{Sound, descend_sound}
use Rattle.laws.proofs.JournalLaws.{Past, past_past}
use Rattle.laws.proofs.KickedLaws.{kick_kicks, kick_sound}
use Rattle.laws.proofs.RunLaws.{kept_past}
use Rattle.laws.proofs.StateLaws.{load_sound}
use Rattle.laws.proofs.TiedLaws.{tied_perm}
use Rattle.descent.specs.Handed.{manner_of}
use Rattle.refusals.specs.Lending.{carrying}
use Rattle.walks.specs.Walking.{Given, Works, bare, Chosen, Shook, Dives, kind_of, kick_of}
use Rattle.walks.proofs.HoldLaws.{after, works_loaded, Same}

module _ (l : Lent) (time : Time) (w : Works l (carrying 0 0 0 time)) (kind x : ℕ) where
  module _ {this x₁ new : ℕ} (ch : Chosen kind x x₁ this) (round : Round) (places : List Place) (queue flags scratch journal : List ℕ) (e : Same l round places queue flags scratch journal) {c : Carried}
      (s : Shook (shaken (leg_in l.n l.matrix) 1 this (state_in (bare l.n l.matrix l.round l.places l.queue l.flags l.scratch l.journal) (carrying 0 0 0 time)) x₁) (bare l.n l.matrix round places queue flags scratch journal) c new) where
    -- it is the turn's kick
    kick_is : shaken (leg_in l.n l.matrix) 1 this (state_in (bare l.n l.matrix l.round l.places l.queue l.flags l.scratch l.journal) (carrying 0 0 0 time)) x₁ ≡ kick_of (plan_in l) kind l.round x
    unfolding kick_of leg_of plan_in state_in
    kick_is = λ i. shaken (leg_in l.n l.matrix) 1 (ch.is i) (works_loaded l time w i) (ch.state i)

    state_is : state_in (after l round places queue flags scratch journal) c ≡ (kick_of (plan_in l) kind l.round x).state
    unfolding state_in
    state_is = s.holds.is ∙ ap (λ (k : Shaken). k.state) kick_is

    pub dives : (step left : ℕ) {l₂ : Lent} {c₂ : Carried} {left₂ : ℕ}
        → Dives (descend (plan_in (after l round places queue flags scratch journal)) step (manner_of true (room_in (after l round places queue flags scratch journal))) left (state_in (after l round places queue flags scratch journal) c)) new l₂ c₂ left₂ new
        → Dives (descend (plan_in l) step (kept (room_in l)) left (kick_of (plan_in l) kind l.round x).state) (kick_of (plan_in l) kind l.round x).draw l₂ c₂ left₂ new
    unfolding manner_of room_in plan_in
    dives step left d =
        let m : length journal / 5 ≡ length l.journal / 5 = ap (λ (z : ℕ). z / 5) e.journal_same in
        let q : descend (plan_in l) step (kept (length journal / 5)) left (state_in (after l round places queue flags scratch journal) c) ≡ descend (plan_in l) step (kept (room_in l)) left (kick_of (plan_in l) kind l.round x).state
        = λ i. descend (plan_in l) step (kept (m i)) left (state_is i) in
        record {
          holds = record { works = d.holds.works; is = d.holds.is ∙ ap (λ (r : Ran). r.state) q };
          head_is = d.head_is;
          count_is = d.count_is;
          left_is = d.left_is ∙ ap (λ (r : Ran). r.left) q;
          draw_is = s.draw_is ∙ ap (λ (k : Shaken). k.draw) kick_is;
        }

  -- what the rule's kick and descent leave
  loaded_sound : Sound (leg_of (plan_in l)) l.n (load (recount (leg_of (plan_in l))) l.round)
  loaded_sound = load_sound (leg_of (plan_in l)) l.n l.round (tied_perm w.tied) w.desk.round_long

  pub kick_of_sound : Sound (leg_of (plan_in l)) l.n (kick_of (plan_in l) kind l.round x).state
  unfolding kick_of shaken
  kick_of_sound = kick_sound (leg_of (plan_in l)) l.n (kind_of kind x) (moved x) (load (recount (leg_of (plan_in l))) l.round) (omega (arith, w.desk.two)) loaded_sound

  kick_of_past : Past (record { round = l.round; journal = [] }) (kick_of (plan_in l) kind l.round x).state.track
  unfolding kick_of shaken kicked_state load
  kick_of_past = (kick_kicks (leg_of (plan_in l)) (record { round = l.round; journal = [] }) (tied_perm w.tied) (omega (arith, w.desk.two, w.desk.round_long)) (kind_of kind x) (moved x)).since.past

  pub dive_sound : Given l → (step left : ℕ) → Sound (leg_of (plan_in l)) l.n (descend (plan_in l) step (kept (room_in l)) left (kick_of (plan_in l) kind l.round x).state).state
  dive_sound g step left = descend_sound (plan_in l) step (kept (room_in l)) l.n g.fits left (kick_of (plan_in l) kind l.round x).state kick_of_sound

  -- all that was journalled leads back
  pub dive_past : Given l → (step left : ℕ) → Past (record { round = l.round; journal = [] }) (descend (plan_in l) step (kept (room_in l)) left (kick_of (plan_in l) kind l.round x).state).state.track
  dive_past g step left = past_past kick_of_past (kept_past (plan_in l) step l.n g.fits.lists (room_in l) left (kick_of (plan_in l) kind l.round x).state kick_of_sound.stands)
