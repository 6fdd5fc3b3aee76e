-- 01, 7: the gain of `improve` is what the recount falls by, where legs take as long as their return.
use Prim.Native.Nat.{◌+◌, ◌<◌, suc, zero, ℕ}
use mathlib.Core.Path.{◌≡◌, ap, refl}
use mathlib.Core.Bool.{Bool, false, true}
use mathlib.Core.List.{List, [], ◌++◌, ◌∷◌}
use native.Mathlib.Omega.{arith}
use lib.Dec.{ltb}
use lib.ListN.{length}
use borrow.Author.Tests.{ltb-true}
use Rattle.rules.specs.Improve.{Found, Trial, first_closing, improve, improve_both, nothing, or_else, touching}
use Rattle.rules.specs.Journal.{Track}
use Rattle.rules.specs.Lists.{keep_while, tally}
use Rattle.rules.specs.Plan.{Plan, leg_of, near_of}
use Rattle.rules.specs.Ring.{ahead, recount}
use Rattle.rules.specs.Words.{Legs, Stop}
use Rattle.laws.proofs.ChoiceLaws.{either_if}
use Rattle.laws.proofs.EvenLaws.{Even}
use Rattle.laws.proofs.EveryLaws.{All, all_while, more, none}
use Rattle.laws.proofs.PermLaws.{Perm}
use Rattle.laws.proofs.TrialLaws.{Lists, Worth, trials_worth}
use Rattle.laws.proofs.WayLaws.{start}

-- ---- what a step finds. `base` is the time that its gain is counted from; nothing found leaves the track as it was
pub record Falls (d : Legs) (t : Track) (base : ℕ) (f : Found) : Type 0 where
  pub gains : 0 < f.gain → recount d f.track.round + f.gain ≡ base
  pub stays : f.gain ≡ 0 → f.track ≡ t
  pub same : (v : Stop) → tally f.track.round v ≡ tally t.round v
  pub size : length f.track.round ≡ length t.round

pub falls_nothing : (d : Legs) (t : Track) (base : ℕ) → Falls d t base (nothing t)
unfolding nothing
falls_nothing d t base = record { gains = λ h. absurd (omega arith); stays = λ e. refl; same = λ v. refl; size = refl }

-- the time after a step and its gain are the time before
pub falls_time : (d : Legs) (t : Track) (f : Found) → Falls d t (recount d t.round) f → recount d f.track.round + f.gain ≡ recount d t.round
falls_time d t f h = go f.gain refl
  where
    go : (m : ℕ) → f.gain ≡ m → recount d f.track.round + f.gain ≡ recount d t.round
    go zero e = omega (arith, ap (λ u. recount d (Track.round u)) (h.stays e))
    go (suc m) e = h.gains (omega arith)

-- the first trial that closes with a gain
pub closing_falls : (d : Legs) (t : Track) (fwd : Bool) (t1 t2 g base : ℕ) → recount d t.round + g ≡ base + d t1 t2
    → (xs : List Trial) → All (Worth d t fwd t1 t2 g) xs → Falls d t base (first_closing d fwd t1 t2 t xs)
unfolding first_closing Worth
closing_falls d t fwd t1 t2 g base b [] none = falls_nothing d t base
closing_falls d t fwd t1 t2 g base b (x ∷ xs) (more h a) =
    either_if (Falls d t base) (ltb (d x.t6 t1) x.partial)
    (λ y. let k : d x.t6 t1 < x.partial = ltb-true (d x.t6 t1) x.partial y in
    record { gains = λ q. omega (arith, h.legs); stays = λ e. absurd (omega arith); same = h.same; size = h.size })
    (λ y. closing_falls d t fwd t1 t2 g base b xs a)

-- more stops queued change no time
pub touching_falls : (d : Legs) (t : Track) (base : ℕ) (vs : List Stop) (f : Found) → Falls d t base f → Falls d t base (touching vs f)
unfolding touching
touching_falls d t base vs f h = go f.gain refl
  where
    pick : ℕ → Found
    pick m = elim m [ zero ↦ f | suc g ↦ record { gain = suc g; track = f.track; touched = vs ++ f.touched } ]

    go : (m : ℕ) → f.gain ≡ m → Falls d t base (pick m)
    go zero e = h
    go (suc m) e = record { gains = λ q. omega (arith, h.gains (omega arith)); stays = λ q. absurd (omega arith); same = h.same; size = h.size }

-- the first of two that gains
pub or_else_falls : (d : Legs) (t : Track) (f : Found) (other : Track → Found) → Falls d t (recount d t.round) f → Falls d t (recount d t.round) (other t) → Falls d t (recount d t.round) (or_else f other)
unfolding or_else
or_else_falls d t f other h k = go f.gain refl
  where
    pick : ℕ → Found
    pick m = elim m [ zero ↦ other f.track | suc g ↦ f ]

    go : (m : ℕ) → f.gain ≡ m → Falls d t (recount d t.round) (pick m)
    go zero e = rw (h.stays e) k
    go (suc m) e = h

-- what a plan is: equal times both ways between stops, and lists of stops
pub record Fit (p : Plan) (n : ℕ) : Type 0 where
  pub even : Even (leg_of p) n
  pub lists : Lists p n

module _ (p : Plan) (t : Track) (pm : Perm t.round) (fit : Fit p (length t.round)) (t1 : Stop) (h1 : t1 < length t.round) where
  -- `improve` in a direction
  pub improve_falls : (fwd : Bool) → Falls (leg_of p) t (recount (leg_of p) t.round) (improve p fwd t1 t)
  unfolding improve
  improve_falls fwd =
      let r = t.round in
      let t2 = ahead fwd r t1 in
      touching_falls (leg_of p) t (recount (leg_of p) r) (t1 ∷ t2 ∷ []) _
      (closing_falls (leg_of p) t fwd t1 t2 (leg_of p t1 t2) (recount (leg_of p) r) refl _
      (trials_worth (leg_of p) t pm fit.even fwd t1 t2 (leg_of p t1 t2) (near_of p) fit.lists.near keep_while (λ P. all_while) (start r pm fwd t1 (pm.has t1 h1))))

  -- forward, then backward
  pub both_falls : Falls (leg_of p) t (recount (leg_of p) t.round) (improve_both p t1 t)
  unfolding improve_both
  both_falls = or_else_falls (leg_of p) t (improve p true t1 t) (improve p false t1) (improve_falls true) (improve_falls false)

  -- the gain of `improve` is the fall of the recount
  pub improve_time : (fwd : Bool) → recount (leg_of p) (improve p fwd t1 t).track.round + (improve p fwd t1 t).gain ≡ recount (leg_of p) t.round
  improve_time fwd = falls_time (leg_of p) t (improve p fwd t1 t) (improve_falls fwd)
