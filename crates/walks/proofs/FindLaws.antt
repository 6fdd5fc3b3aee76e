-- First descent, turns and the best round loaded are the rule's search.
use Prim.Native.Nat.{ℕ, ◌-◌, ◌/◌}
use mathlib.Core.Path.{◌≡◌, sym, ap, ap₂, subst, ◌∙◌}
use mathlib.Core.Bool.{Bool}
use mathlib.Core.List.{List}
use lib.Dec.{eqb}
use lib.ListN.{length}
use Rattle.rules.specs.Words.{Time, Round, Place}
use Rattle.rules.specs.Lists.{when◌then◌else◌}
use Rattle.rules.specs.Plan.{leg_of}
use Rattle.rules.specs.Start.{start_round}
use Rattle.rules.specs.Search.{Walk, Answer, margin, restart_after, stop_after, turns, search}
use Rattle.rules.specs.Memory.{Lent, room_in, plan_in}
use Rattle.rules.specs.Calls.{settings_in}
use Rattle.loads.specs.Lying.{Lies}
use Rattle.walks.specs.Walking.{Tally, walk_in, Goes, told, begun, answered, Finds}
use Rattle.walks.proofs.HoldLaws.{after}
use Rattle.walks.proofs.WalkLaws.{search_is}

module _ (l : Lent) (step kind : ℕ) (stop : Bool) (budget x : ℕ)
    (round₁ : Round) (places₁ : List Place) (queue₁ flags₁ scratch₁ journal₁ : List ℕ) (ej : length journal₁ ≡ length l.journal) (best₁ : Round) (t : Tally)
    (f : Goes (begun (plan_in l) step budget x (start_round (leg_of (plan_in l)) l.n)) (after l round₁ places₁ queue₁ flags₁ scratch₁ journal₁) best₁ t x)
    (slack : Time) (es : slack ≡ margin l.n t.best)
    (round₂ : Round) (places₂ : List Place) (queue₂ flags₂ scratch₂ journal₂ : List ℕ) (best₂ : Round) (w : Tally) (x₂ : ℕ)
    (g : Goes (turns (plan_in (after l round₁ places₁ queue₁ flags₁ scratch₁ journal₁)) (told (after l round₁ places₁ queue₁ flags₁ scratch₁ journal₁) step kind stop) slack t.left (walk_in (after l round₁ places₁ queue₁ flags₁ scratch₁ journal₁) best₁ t x)) (after l round₂ places₂ queue₂ flags₂ scratch₂ journal₂) best₂ w x₂) where
  begins : Walk
  begins = walk_in (after l round₁ places₁ queue₁ flags₁ scratch₁ journal₁) best₁ t x

  ends : walk_in (after l round₂ places₂ queue₂ flags₂ scratch₂ journal₂) best₂ w x₂ ≡ turns (plan_in l) (told l step kind stop) (margin l.n t.best) t.left begins
  unfolding begins plan_in told settings_in room_in
  ends = g.is ∙ ap₂ (λ (m s : ℕ). turns (plan_in l) (record { step = step; kind = kind; one_in = 16; stop = stop; room = m / 5; restart = restart_after l.n; limit = stop_after l.n; budget = 0; draw = 0 }) s t.left begins) ej es

  answer_is : search (plan_in l) (settings_in l step kind stop budget x) ≡ answered budget (walk_in (after l round₂ places₂ queue₂ flags₂ scratch₂ journal₂) best₂ w x₂)
  unfolding begins walk_in
  answer_is = search_is l step kind stop budget x begins f.is ∙ ap (answered budget) (sym ends)

  pub finds : (round : Round) (places : List Place) (flags : List ℕ) (time : Time) → Lies l.matrix best₂ round places flags time → (units kicks ended : ℕ)
      → units ≡ budget - w.left → kicks ≡ w.kicks → ended ≡ (when eqb w.left 0 then 1 else 0)
      → Finds (search (plan_in l) (settings_in l step kind stop budget x)) (after l round places queue₂ flags scratch₂ journal₂) best₂ x₂ time units kicks ended
  unfolding answered walk_in
  finds round places flags time lies units kicks ended eu ek ee =
      let a = sym answer_is in
      let b : best₂ ≡ (search (plan_in l) (settings_in l step kind stop budget x)).round = ap (λ (z : Answer). z.round) a in
      record {
        lies = subst (λ (r : Round). Lies l.matrix r round places flags time) b lies;
        long = ap length (sym b) ∙ g.rests.best_long;
        best_is = b;
        draw_is = ap (λ (z : Answer). z.draw) a;
        units_is = eu ∙ ap (λ (z : Answer). z.units) a;
        kicks_is = ek ∙ ap (λ (z : Answer). z.kicks) a;
        ended_is = ee ∙ ap (λ (z : Answer). z.ended) a;
      }
