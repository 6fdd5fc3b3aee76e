-- The public promises, one for each return of a call: refused, or done.
use Prim.Native.Nat.{ℕ, zero, suc, ◌+◌, ◌-◌}
use mathlib.Core.Path.{◌≡◌, refl, sym, ap, ◌∙◌}
use mathlib.Core.Logic.{◌≢◌}
use mathlib.Core.Bool.{Bool, true}
use lib.IntN.{ℤ, pos, ◌+ℤ◌}
use lib.ListN.{length}
use Rattle.rules.specs.Words.{Round, Time}
use Rattle.rules.specs.Queue.{waiting}
use Rattle.rules.specs.Journal.{track_of, entries_of, undo_all}
use Rattle.rules.specs.Kicks.{kick}
use Rattle.rules.specs.Plan.{leg_in}
use Rattle.rules.specs.State.{undo}
use Rattle.rules.specs.Memory.{Lent, Carried, state_in}
use Rattle.rules.specs.Numbers.{verdict, good_kick, call_checks, commit_number, undo_number, kick_number, load_number}
use Rattle.rules.specs.Calls.{leaving, load_done, commit_done, undo_done, kick_done}
use Rattle.laws.proofs.JournalLaws.{undo_all_length}
use Rattle.promises.specs.Promises.{given, Loads, Commits, Undoes, KicksOnce}
use Rattle.kicks.specs.Kicking.{Kicks}
use Rattle.refusals.specs.Lending.{carrying}
use Rattle.refusals.proofs.PassLaws.{call_passed, kick_passed, load_passed}
use Rattle.loads.specs.Lying.{Lies}
use Rattle.planner.proofs.LeaveLaws.{stands_refused, stands_done, lies_leaves, commit_leaves}
use Rattle.planner.proofs.KickLaws.{kick_leaves, kick_draws, kick_added, kick_removed}

-- a refusal gives what came
pub given_refused : (number done came : ℕ) → number ≢ 0 → given number done came ≡ came
unfolding given
given_refused zero done came h = absurd (h refl)
given_refused (suc k) done came h = refl

-- ---- load
module _ (l : Lent) (c : Carried) (start : Round) (number : ℕ) (is : number ≡ load_number l start) where
  pub load_refuses : number ≢ 0 → Loads l c start l c number
  load_refuses h = record { number_is = is; stands = stands_refused number (load_done l start) l c h }

  pub load_does : number ≡ 0 → (l' : Lent) (c' : Carried) (time : Time) → (c'.head ≡ 0) × ((c'.count ≡ 0) × ((c'.held ≡ 0) × (c'.time ≡ time))) → Lies l.matrix start l'.round l'.places l'.flags time → Loads l c start l' c' 0
  unfolding load_done leaving
  load_does e l' c' time s lies =
      let p = load_passed l start (sym is ∙ e) in
      record { number_is = sym e ∙ is; stands = stands_done 0 (load_done l start) l c l' c' refl (lies_leaves l l' c start time p.1.0 lies c' s) }

-- ---- commit and undo
module _ (l : Lent) (c : Carried) (number : ℕ) (is : number ≡ verdict (call_checks l c true)) where
  pub commit_refuses : number ≢ 0 → Commits l c l c number
  unfolding commit_number
  commit_refuses h = record { number_is = is; stands = stands_refused number (commit_done l c) l c h }

  pub commit_does : number ≡ 0 → Commits l c l (carrying c.head c.count 0 c.time) 0
  unfolding commit_number commit_done leaving
  commit_does e = record { number_is = sym e ∙ is; stands = stands_done 0 (commit_done l c) l c l (carrying c.head c.count 0 c.time) refl (commit_leaves l c (call_passed l c true (sym is ∙ e))) }

  pub undo_refuses : number ≢ 0 → Undoes l c l c number
  unfolding undo_number
  undo_refuses h = record { number_is = is; stands = stands_refused number (undo_done l c) l c h }

  pub undo_does : number ≡ 0 → (l' : Lent) (c' : Carried) (time : Time) → (c'.head ≡ 0) × ((c'.count ≡ 0) × ((c'.held ≡ 0) × (c'.time ≡ time)))
      → Lies l.matrix (undo_all (entries_of l.journal c.held) l.round) l'.round l'.places l'.flags time → Undoes l c l' c' 0
  unfolding undo_number undo_done leaving undo state_in track_of
  undo_does e l' c' time s lies =
      let p = call_passed l c true (sym is ∙ e) in
      record {
        number_is = sym e ∙ is;
        stands = stands_done 0 (undo_done l c) l c l' c' refl
            (lies_leaves l l' c (undo_all (entries_of l.journal c.held) l.round) time (undo_all_length (entries_of l.journal c.held) l.round ∙ p.lent.round_long) lies c' s);
      }

-- ---- kick
module _ (l : Lent) (c : Carried) (kind x number : ℕ) (is : number ≡ kick_number l c kind x) where
  pub kick_refuses : number ≢ 0 → KicksOnce l c kind x l c x number (pos 0)
  kick_refuses h =
      record {
        number_is = is;
        stands = stands_refused number (kick_done l c kind x) l c h;
        draw_is = sym (given_refused number (kick_done l c kind x).draw x h);
        change_is = ap (λ (w : ℕ). pos 0 +ℤ pos w) (given_refused number (kick_done l c kind x).removed 0 h) ∙ sym (ap pos (given_refused number (kick_done l c kind x).added 0 h));
      }

  pub kick_does : number ≡ 0 → (l' : Lent) (c' : Carried) (added removed x' : ℕ) (change : ℤ)
      → Kicks (kick (leg_in l.n l.matrix) kind x (track_of l.round l.journal c.held)) x 30 35 (waiting l.queue c.head c.count) c.head l.journal c.held
      l'.round l'.places l'.journal c'.held l'.queue l'.flags c'.head c'.count added removed x'
      → length l'.queue ≡ length l.queue → c'.time ≡ c.time + added - removed → change +ℤ pos removed ≡ pos added → KicksOnce l c kind x l' c' x' 0 change
  unfolding given kick_done
  kick_does e l' c' added removed x' change k same time ch =
      let p = kick_passed l c kind x (sym is ∙ e) in
      let told : Bool = good_kick kind x in
      record {
        number_is = sym e ∙ is;
        stands = stands_done 0 (kick_done l c kind x) l c l' c' refl (kick_leaves l l' c c' told p.0 p.1 kind x added removed x' k same time);
        draw_is = kick_draws l l' c c' told p.0 p.1 kind x added removed x' k;
        change_is = ap (λ (w : ℕ). change +ℤ pos w) (sym (kick_removed l l' c c' told p.0 p.1 kind x added removed x' k)) ∙ ch
            ∙ ap pos (kick_added l l' c c' told p.0 p.1 kind x added removed x' k);
      }
