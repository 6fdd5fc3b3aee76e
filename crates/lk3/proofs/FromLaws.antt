-- The step from t1: its first level, and the two sides of t1.
use Prim.Native.Nat.{ℕ, ◌+◌, ◌*◌, ◌≤◌}
use mathlib.Core.Path.{◌≡◌, sym, ap, ◌∙◌}
use mathlib.Core.Bool.{Bool}
use mathlib.Core.List.{List, [], ◌∷◌}
use native.Mathlib.Omega.{arith}
use lib.ListN.{length}
use Rattle.rules.specs.Words.{Stop, Place, Time, Round}
use Rattle.rules.specs.Ring.{ahead}
use Rattle.rules.specs.Journal.{Track, track_of}
use Rattle.rules.specs.Plan.{Plan, leg_of}
use Rattle.rules.specs.Queue.{push_all}
use Rattle.rules.specs.Improve.{Found, nothing, touching}
use Rattle.rules.specs.Step.{begin}
use Rattle.rules.specs.Lk3.{level3, lk3_side}
use Rattle.laws.proofs.JournalLaws.{entries_of_length}
use Rattle.journal.specs.Tracks.{track_in}
use Rattle.journal.proofs.GrewLaws.{grew_grew}
use Rattle.work.specs.declared.work.Work.{Work}
use Rattle.improve.specs.Steps.{Stepped, Steps}
use Rattle.improve.proofs.StepLaws.{pushed}
use Rattle.lk_state.specs.declared.LkState.{LkState}
use Rattle.lk_state.specs.States.{step_of, Begun}
use Rattle.lk3.specs.Levels.{found_at}

-- ---- the first level
pub side_is : (p : Plan) (t1 : Stop) (fwd : Bool) (t : Track) (t2 : Stop) (g : Time) (st : LkState) → Begun t1 t2 st → t2 ≡ ahead fwd t.round t1 → g ≡ leg_of p t1 t2 → lk3_side p t1 fwd t ≡ found_at p t1 st t t2 g 0
unfolding lk3_side found_at
side_is p t1 fwd t t2 g st b e f =
    let start : begin t t1 (ahead fwd t.round t1) ≡ step_of st t = ap (begin t t1) (sym e) ∙ sym (b.is t) in
    let first : ahead fwd t.round t1 ≡ st.first = sym e ∙ sym b.first_is in
    let leg : leg_of p t1 (ahead fwd t.round t1) ≡ g = ap (leg_of p t1) (sym e) ∙ sym f in
    let there : ahead fwd t.round t1 ≡ t2 = sym e in
    λ i. touching (t1 ∷ first i ∷ []) (level3 p t1 50 (start i) (there i) (leg i))

-- ---- one step in vain, and another
-- as many entries are held
held_same : (r : Round) {f : Found} {queue : List ℕ} {head : Place} {count : ℕ} {j : List ℕ} {held : ℕ} {r₁ : Round} {ps₁ : List Place} {queue₁ flags₁ j₁ : List ℕ} {g₁ : Time} {h₁ : ℕ} {head₁ : Place} {count₁ : ℕ}
    → f ≡ nothing (track_of r j held) → Stepped 100 f queue head count j held r₁ ps₁ queue₁ flags₁ j₁ g₁ h₁ head₁ count₁ → h₁ ≡ held
unfolding nothing track_of
held_same r {j = j} {held = held} {r₁ = r₁} {j₁ = j₁} {h₁ = h₁} e s =
    let same : track_of r₁ j₁ h₁ ≡ track_of r j held = s.made.is ∙ ap (λ (z : Found). z.track) e in
    sym (entries_of_length j₁ h₁) ∙ ap (λ (z : Track). length z.journal) same ∙ entries_of_length j held

pub room_again : (w w₁ : Work) {f : Found} {g₁ : Time} → f ≡ nothing (track_in w.track.now) → Steps 100 f w w₁ g₁ → length w₁.track.now.journal.now ≡ length w.track.now.journal.now
    → 5 * (w.track.now.held + 100) ≤ length w.track.now.journal.now → 5 * (w₁.track.now.held + 100) ≤ length w₁.track.now.journal.now
room_again w w₁ e s same h = omega (arith, h, same, held_same w.track.now.stops.now e s)

pub stepped_after : (r : Round) {f₁ f₂ f : Found} {queue queue₁ queue₂ flags₁ flags₂ : List ℕ} {head head₁ head₂ : Place} {count count₁ count₂ : ℕ} {j j₁ j₂ : List ℕ} {held h₁ h₂ : ℕ} {r₁ r₂ : Round} {ps₁ ps₂ : List Place} {g₁ g₂ : Time}
    → f₁ ≡ nothing (track_of r j held) → Stepped 100 f₁ queue head count j held r₁ ps₁ queue₁ flags₁ j₁ g₁ h₁ head₁ count₁
    → f ≡ f₂ → Stepped 100 f₂ queue₁ head₁ count₁ j₁ h₁ r₂ ps₂ queue₂ flags₂ j₂ g₂ h₂ head₂ count₂ → Stepped 100 f queue head count j held r₂ ps₂ queue₂ flags₂ j₂ g₂ h₂ head₂ count₂
unfolding nothing push_all
stepped_after r {f₂ = f₂} e s e₂ u =
    let first = rw (ap (λ (z : Found). z.touched) e) at s.waits in
    rw e₂
    (record {
      gain_is = u.gain_is;
      made = record { is = u.made.is; tied = u.made.tied; good = u.made.good; grew = grew_grew s.made.grew u.made.grew; high = omega (arith, u.made.high, held_same r e s) };
      waits = pushed f₂.touched first u.waits;
    })
