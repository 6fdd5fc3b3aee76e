-- A global kick by its parts, each with what it draws.
use Prim.Native.Nat.{ℕ, ◌+◌, ◌-◌, ◌/◌, ◌≤◌, ◌<◌}
use mathlib.Core.Path.{◌≡◌, refl, ap, ◌∙◌}
use mathlib.Core.List.{List, [], ◌∷◌, ◌++◌, append-nil}
use native.Mathlib.Omega.{arith}
use native.Mathlib.Nat.{add-zero}
use native.Mathlib.Decide.{dec_lt}
use lib.ListN.{length}
use borrow.Author.Tests.{lt-ltb, le-ltb}
use Rattle.rules.specs.Words.{Legs}
use Rattle.rules.specs.Draws.{Span, ◌to◌, Drawn, draws}
use Rattle.rules.specs.Journal.{Track, doing, carry_out}
use Rattle.rules.specs.Kicks.{Kicked, Kick, shuffle_spans, global_spans, bridge_kick, global_kick, and_then}
use Rattle.laws.proofs.RewriteLaws.{rotate_at_length}
use Rattle.laws.proofs.KickKindLaws.{draws_after}
use Rattle.kicks.specs.Kicking.{still, shuffle_drawn, window_drawn, global_drawn}

-- below 8 stops
pub global_shuffle : (d : Legs) (x : ℕ) (t : Track) → length t.round < 8 → global_drawn d x t ≡ shuffle_drawn d x t
unfolding global_drawn shuffle_drawn global_kick global_spans
global_shuffle d x t h = rw (lt-ltb (length t.round) 8 h) refl

-- one kick after another, with what the second drew
abbrev pub then_kick : Kicked → Kick → Kick
then_kick k g = record { made = and_then k (λ u. g.made); draw = g.draw }

module _ (d : Legs) (x new a b c : ℕ) (t : Track) (long : 8 ≤ length t.round) (three : draws ((1 to length t.round / 4) ∷ (1 to length t.round / 4) ∷ (1 to length t.round / 4) ∷ []) x ≡ record { values = a ∷ b ∷ c ∷ []; state = new }) where
  bridge_length : length (bridge_kick d a b c t).track.round ≡ length t.round
  unfolding bridge_kick doing carry_out
  bridge_length = rotate_at_length a b c (length t.round - (a + b + c)) t.round

  abbrev window : List Span
  window = (0 to (length t.round - 30)) ∷ shuffle_spans 30

  all_drawn : draws ((1 to length t.round / 4) ∷ (1 to length t.round / 4) ∷ (1 to length t.round / 4) ∷ window) x ≡ record { values = a ∷ b ∷ c ∷ (draws window new).values; state = (draws window new).state }
  all_drawn =
      draws_after ((1 to length t.round / 4) ∷ (1 to length t.round / 4) ∷ (1 to length t.round / 4) ∷ []) window x
      ∙ ap (λ (g : Drawn). record { values = g.values ++ (draws window g.state).values; state = (draws window g.state).state }) three

  -- at 8 or more: the double bridge, then the window
  pub global_bridge : global_drawn d x t ≡ then_kick (bridge_kick d a b c t) (window_drawn d new (bridge_kick d a b c t).track)
  unfolding global_drawn window_drawn global_kick global_spans and_then still
  global_bridge = elim (dec_lt (length t.round) 32) [
    | yes h ↦ (let k = bridge_kick d a b c t in let h' : length k.track.round < 32 = omega (arith, bridge_length) in
        rw (le-ltb (length t.round) 8 long, lt-ltb (length t.round) 32 h, lt-ltb (length k.track.round) 32 h', three, append-nil k.touched, add-zero k.added, add-zero k.removed) refl)
    | no h ↦ (let big : 32 ≤ length t.round = omega arith in
        rw (bridge_length, le-ltb (length t.round) 8 long, le-ltb (length t.round) 32 big, all_drawn) refl)
  ]
