-- The numbers of the calls, part by part.
use Prim.Native.Nat.{ℕ, ◌-◌, ◌/◌, ◌≤◌, ◌<◌}
use mathlib.Core.Path.{◌≡◌, sym, ◌∙◌}
use mathlib.Core.Logic.{◌≢◌}
use mathlib.Core.Bool.{Bool, true, false}
use mathlib.Core.List.{[], ◌∷◌}
use borrow.Author.Tests.{lt-leb, le-leb, eq-eqb, ne_eqb}
use lib.Dec.{leb}
use lib.ListN.{length}
use Rattle.rules.specs.Words.{Round}
use Rattle.rules.specs.Ring.{is_round}
use Rattle.rules.specs.Memory.{Lent, Carried, room_in}
use Rattle.rules.specs.Numbers.{◌or◌, verdict, good_step, good_kick, good_state, lent_checks, call_checks, kick_number, load_number}
use Rattle.refusals.proofs.VerdictLaws.{verdict_first, last_passes, last_fails}
use Rattle.refusals.proofs.PassLaws.{lent_numbered, call_numbered}

-- ---- what 2 asks
module _ (ka step : ℕ) where
  pub step_beyond : 2 < step → false ≡ good_step ka step
  unfolding good_step
  step_beyond h = simp (lt-leb step 2 h)

  pub step_plain : step ≤ 2 → step ≡ 0 → true ≡ good_step ka step
  unfolding good_step
  step_plain h e = simp (le-leb step 2 h, eq-eqb step 0 e)

  pub step_alpha : step ≤ 2 → step ≢ 0 → leb 1 ka ≡ good_step ka step
  unfolding good_step
  step_alpha h e = simp (le-leb step 2 h, ne_eqb step 0 e)

module _ (kind draw : ℕ) where
  pub kind_beyond : 2 < kind → false ≡ good_kick kind draw
  unfolding good_kick
  kind_beyond h = simp (lt-leb kind 2 h)

  pub draw_tells : kind ≤ 2 → leb 1 draw ≡ good_kick kind draw
  unfolding good_kick
  draw_tells h = simp (le-leb kind 2 h)

-- ---- 1 to 7
module _ (l : Lent) (c : Carried) (told : Bool) (lent : ℕ) (is : lent ≡ verdict (lent_checks l told [])) where
  pub call_refused : lent ≢ 0 → lent ≡ verdict (call_checks l c told)
  unfolding call_checks
  call_refused h = is ∙ sym (verdict_first (lent_checks l told []) ((good_state l c or 7) ∷ []) (λ e. h (is ∙ e)))

  pub call_good : lent ≡ 0 → good_state l c ≡ true → 0 ≡ verdict (call_checks l c told)
  unfolding call_checks
  call_good e = last_passes (lent_checks l told []) (lent_numbered l told []) (sym is ∙ e) (good_state l c) 7

  pub call_odd : lent ≡ 0 → good_state l c ≡ false → 7 ≡ verdict (call_checks l c told)
  unfolding call_checks
  call_odd e = last_fails (lent_checks l told []) (lent_numbered l told []) (sym is ∙ e) (good_state l c) 7

-- ---- a kick
module _ (l : Lent) (c : Carried) (kind draw call : ℕ) (is : call ≡ verdict (call_checks l c (good_kick kind draw))) where
  pub kick_refused : call ≢ 0 → call ≡ kick_number l c kind draw
  unfolding kick_number
  kick_refused h = is ∙ sym (verdict_first (call_checks l c (good_kick kind draw)) ((leb 30 (room_in l - c.held) or 8) ∷ []) (λ e. h (is ∙ e)))

  pub kick_crowded : call ≡ 0 → length l.journal / 5 - c.held < 30 → 8 ≡ kick_number l c kind draw
  unfolding kick_number room_in
  kick_crowded e h = last_fails (call_checks l c (good_kick kind draw)) (call_numbered l c (good_kick kind draw)) (sym is ∙ e) (leb 30 (room_in l - c.held)) 8 (lt-leb 30 (room_in l - c.held) h)

  pub kick_free : call ≡ 0 → 30 ≤ length l.journal / 5 - c.held → 0 ≡ kick_number l c kind draw
  unfolding kick_number room_in
  kick_free e h = last_passes (call_checks l c (good_kick kind draw)) (call_numbered l c (good_kick kind draw)) (sym is ∙ e) (leb 30 (room_in l - c.held)) 8 (le-leb 30 (room_in l - c.held) h)

-- ---- a load
module _ (l : Lent) (start : Round) (lent : ℕ) (is : lent ≡ verdict (lent_checks l true (length start ∷ []))) where
  pub load_refused : lent ≢ 0 → lent ≡ load_number l start
  unfolding load_number
  load_refused h = is ∙ sym (verdict_first (lent_checks l true (length start ∷ [])) ((is_round l.n start or 7) ∷ []) (λ e. h (is ∙ e)))

  pub load_good : lent ≡ 0 → is_round l.n start ≡ true → 0 ≡ load_number l start
  unfolding load_number
  load_good e = last_passes (lent_checks l true (length start ∷ [])) (lent_numbered l true (length start ∷ [])) (sym is ∙ e) (is_round l.n start) 7

  pub load_odd : lent ≡ 0 → is_round l.n start ≡ false → 7 ≡ load_number l start
  unfolding load_number
  load_odd e = last_fails (lent_checks l true (length start ∷ [])) (lent_numbered l true (length start ∷ [])) (sym is ∙ e) (is_round l.n start) 7
