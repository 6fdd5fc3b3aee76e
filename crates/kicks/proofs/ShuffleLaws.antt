-- The loop of `shuffle`: what is left to draw and to exchange, done from here, gives the goal.
use Prim.Native.Nat.{ℕ, zero, suc, ◌+◌, ◌-◌, ◌≤◌, ◌<◌}
use mathlib.Core.Path.{◌≡◌, refl, sym, ap, ◌∙◌}
use mathlib.Core.List.{List, ◌∷◌}
use native.Mathlib.Omega.{arith}
use lib.Dec.{eqb}
use lib.ListN.{length}
use Rattle.rules.specs.Words.{Place}
use Rattle.rules.specs.Lists.{when◌then◌else◌}
use Rattle.rules.specs.Draws.{drawn, moved, draws}
use Rattle.rules.specs.Journal.{Track, swap, doing}
use Rattle.rules.specs.Kicks.{shuffle_spans, shuffled}
use Rattle.laws.proofs.DrawLaws.{draws_long}
use Rattle.journal.specs.declared.track.Track.{Track as TrackOf}
use Rattle.journal.specs.Journalled.{Grew}
use Rattle.journal.specs.Tracks.{track_in, Moves}
use Rattle.journal.proofs.GrewLaws.{grew_self, grew_grew}
use Rattle.kicks.specs.Kicking.{Shuffles}

-- from the track a and the state x₀ on: k places are left at b and x, the rest are shuffled
pub record Shuffling (start : Place) (len x₀ : ℕ) (a b : TrackOf) (x k : ℕ) : Type 0 where
  pub grew : Grew a.journal.now a.held b.journal.now b.held
  pub high : b.held + (k - 1) ≤ a.held + (len - 1)
  pub more : k ≤ len
  pub some : 0 < x₀ → 0 < x
  pub track : shuffled start (draws (shuffle_spans k) x).values (track_in b) ≡ shuffled start (draws (shuffle_spans len) x₀).values (track_in a)
  pub state : (draws (shuffle_spans k) x).state ≡ (draws (shuffle_spans len) x₀).state

spans_long : (j : ℕ) → length (shuffle_spans (suc j)) ≡ j
unfolding shuffle_spans
spans_long zero = refl
spans_long (suc j) = ap suc (spans_long j)

-- the first of j + 1 draws is for place start + j + 1
shuffled_more : (start : Place) (v j : ℕ) (vs : List ℕ) (t : Track) → length vs ≡ j → shuffled start (v ∷ vs) t ≡ shuffled start vs (when eqb v (suc j) then t else doing (swap (start + v) (start + suc j)) t)
unfolding shuffled
shuffled_more start v j vs t e = ap (λ (m : ℕ). shuffled start vs (when eqb v (suc m) then t else doing (swap (start + v) (start + suc m)) t)) e

shuffle_track : (start : Place) (j x x' v : ℕ) (t t' : Track) → 1 ≤ j → x' ≡ moved x → v ≡ drawn 0 j (moved x) → t' ≡ (when eqb v j then t else doing (swap (start + v) (start + j)) t)
    → shuffled start (draws (shuffle_spans j) x').values t' ≡ shuffled start (draws (shuffle_spans (suc j)) x).values t
unfolding shuffle_spans draws
shuffle_track start zero x x' v t t' h ex ev et = absurd (omega arith)
shuffle_track start (suc i) x x' v t t' h ex ev et =
    let vs = (draws (shuffle_spans (suc i)) (moved x)).values in
    rw (ex, et, ev) (sym (shuffled_more start (drawn 0 (suc i) (moved x)) i vs t (draws_long (shuffle_spans (suc i)) (moved x) ∙ spans_long i)))

shuffle_state : (j x x' : ℕ) → 1 ≤ j → x' ≡ moved x → (draws (shuffle_spans j) x').state ≡ (draws (shuffle_spans (suc j)) x).state
unfolding shuffle_spans draws
shuffle_state zero x x' h ex = absurd (omega arith)
shuffle_state (suc i) x x' h ex = rw ex refl

-- nothing is left
last_track : (start : Place) (k x : ℕ) (t : Track) → k ≤ 1 → shuffled start (draws (shuffle_spans k) x).values t ≡ t
unfolding shuffle_spans draws shuffled
last_track start zero x t h = refl
last_track start (suc zero) x t h = refl
last_track start (suc (suc j)) x t h = absurd (omega arith)

last_state : (k x : ℕ) → k ≤ 1 → (draws (shuffle_spans k) x).state ≡ x
unfolding shuffle_spans draws
last_state zero x h = refl
last_state (suc zero) x h = refl
last_state (suc (suc j)) x h = absurd (omega arith)

module _ (start : Place) (len x₀ : ℕ) (a : TrackOf) where
  pub shuffle_starts : Shuffling start len x₀ a a x₀ len
  shuffle_starts = record { grew = grew_self a.journal.now a.held; high = omega arith; more = omega arith; some = λ p. p; track = refl; state = refl }

  module _ (b : TrackOf) (x k : ℕ) (s : Shuffling start len x₀ a b x k) where
    -- one place more
    pub shuffle_turn : (b' : TrackOf) (x' v : ℕ) → 2 ≤ k → x' ≡ moved x → (0 < x → 0 < x') → v ≡ drawn 0 (k - 1) (moved x)
        → Moves (when eqb v (k - 1) then track_in b else doing (swap (start + v) (start + (k - 1))) (track_in b)) b b' → Shuffling start len x₀ a b' x' (k - 1)
    shuffle_turn b' x' v two ex some ev m =
        let one : 1 ≤ k - 1 = omega arith in
        let q : suc (k - 1) ≡ k = omega arith in
        record {
          grew = grew_grew s.grew m.grew;
          high = omega (arith, m.high, s.high);
          more = omega (arith, s.more);
          some = λ p. some (s.some p);
          track = (rw q at (shuffle_track start (k - 1) x x' v (track_in b) (track_in b') one ex ev m.is)) ∙ s.track;
          state = (rw q at (shuffle_state (k - 1) x x' one ex)) ∙ s.state;
        }

    pub shuffle_done : k ≤ 1 → Shuffles start len x₀ a b x
    shuffle_done few = record {
      moved = record {
        is = sym (last_track start k x (track_in b) few) ∙ s.track;
        tied = b.tied;
        good = b.good;
        grew = s.grew;
        high = omega (arith, s.high);
      };
      state = sym (last_state k x few) ∙ s.state;
      some = s.some;
    }
