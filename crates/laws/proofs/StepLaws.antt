-- 01, 8 and 9, what both Lin-Kernighan steps share: at every level the recount and the partial gain are the time at the start and the
-- closing leg.
use Prim.Native.Nat.{◌+◌, ◌<◌, ◌≤◌, ℕ}
use mathlib.Core.Path.{◌∙◌, ◌≡◌, ap, refl, subst, sym}
use mathlib.Core.Bool.{Bool}
use mathlib.Core.List.{List, [], ◌∷◌}
use native.Mathlib.Omega.{arith}
use lib.Dec.{eqb, ltb}
use lib.ListN.{length, take}
use Rattle.rules.specs.Improve.{Trial}
use Rattle.rules.specs.Journal.{Track}
use Rattle.rules.specs.Lists.{tally}
use Rattle.rules.specs.Numbers.{long}
use Rattle.rules.specs.Plan.{Plan, leg_of}
use Rattle.rules.specs.Ring.{Leg, ahead, recount, succ}
use Rattle.rules.specs.Step.{Step, begin, best, going, insert}
use Rattle.rules.specs.Words.{Legs, Stop, Time}
use Rattle.laws.proofs.ChoiceLaws.{either_way}
use Rattle.laws.proofs.EvenLaws.{below_end, below_head}
use Rattle.laws.proofs.EveryLaws.{All, Below, all_take, more, none}
use Rattle.laws.proofs.FlipLaws.{way_is}
use Rattle.laws.proofs.GainLaws.{Fit}
use Rattle.laws.proofs.LandLaws.{Lands}
use Rattle.laws.proofs.PermLaws.{Perm, perm_kept}
use Rattle.laws.proofs.ReadLaws.{reads_below}
use Rattle.laws.proofs.WayLaws.{Start, start}

-- ---- what choosing the best keeps
module _ (P : Trial → Type 0) where
  all_insert : (x : Trial) (ys : List Trial) → P x → All P ys → All P (insert x ys)
  unfolding insert
  all_insert x [] h none = more h none
  all_insert x (y ∷ ys) h (more k a) = either_way (All P) (ltb y.partial x.partial) (more h (more k a)) (more k (all_insert x ys h a))

  pub all_best : (b : ℕ) (kept xs : List Trial) → All P kept → All P xs → All P (best b kept xs)
  unfolding best
  all_best b kept [] k none = k
  all_best b kept (x ∷ xs) k (more h a) = all_best b (take b (insert x kept)) xs (all_take b (insert x kept) (all_insert x kept h k)) a

-- ---- a step on its way, from the track t0, at the time `base`: the ring is read from t2 to t1
pub record Going (d : Legs) (t0 : Track) (t1 : Stop) (base : Time) (s : Step) (t2 : Stop) (g : Time) : Type 0 where
  pub way : Bool
  pub start : Start way s.track.round t1 t2
  pub legs : recount d s.track.round + g ≡ base + d t1 t2
  pub same : (v : Stop) → tally s.track.round v ≡ tally t0.round v
  pub size : length s.track.round ≡ length t0.round

module _ (p : Plan) (t0 : Track) (pm : Perm t0.round) (fit : Fit p (length t0.round)) (t1 : Stop) (base : Time) where
  module _ {s : Step} {t2 : Stop} {g : Time} (h : Going (leg_of p) t0 t1 base s t2 g) where
    -- its round holds each stop once, the plan fits it, t2 is a stop of it
    pub going_perm : Perm s.track.round
    going_perm = perm_kept t0.round s.track.round pm h.same h.size

    pub going_fit : Fit p (length s.track.round)
    going_fit = subst (Fit p) (sym h.size) fit

    low : Below (length s.track.round) (t2 ∷ h.start.rest)
    low = reads_below s.track.round going_perm h.way (t2 ∷ h.start.rest) h.start.reads

    going_first : t1 < length s.track.round
    going_first = subst (λ v. v < length s.track.round) h.start.ends (below_end (length s.track.round) t2 h.start.rest low)

    pub going_second : t2 < length s.track.round
    going_second = below_head (length s.track.round) t2 h.start.rest low

    -- the closing leg takes the same time both ways
    pub going_even : leg_of p t2 t1 ≡ leg_of p t1 t2
    going_even = fit.even t2 t1 (omega (arith, going_second, h.size)) (omega (arith, going_first, h.size))

    -- the direction that a level reads off its round is the one that it is read in
    pub going_way : 3 ≤ length t0.round → eqb (succ s.track.round t1) t2 ≡ h.way
    going_way long =
        ap (λ v. eqb (succ s.track.round v) t2) (sym h.start.ends) ∙ way_is s.track.round going_perm (omega (arith, h.size)) h.way t2 h.start.rest h.start.reads

    -- gone on with by a move that lands
    pub going_on : (t : Track) (last : Stop) (partial : Time) (stops : List Stop) (added removed : List Leg)
        → Lands (leg_of p) s.track.round t.round t1 last (partial + leg_of p t1 t2) (g + leg_of p last t1)
        → Going (leg_of p) t0 t1 base (going s t stops added removed) last partial
    unfolding going
    going_on t last partial stops added removed l =
        let after : Perm t.round = perm_kept s.track.round t.round going_perm l.same l.size in
        let k : last < length t0.round = omega (arith, below_head (length t.round) last l.rest (reads_below t.round after l.way (last ∷ l.rest) l.reads), l.size, h.size) in
        let k1 : t1 < length t0.round = omega (arith, going_first, h.size) in
        record {
          way = l.way;
          start = record { rest = l.rest; reads = l.reads; ends = l.ends };
          legs = omega (arith, l.legs, h.legs, fit.even last t1 k k1);
          same = λ v. l.same v ∙ h.same v;
          size = l.size ∙ h.size;
        }

-- the leg t1-t2 goes first
pub begun : (p : Plan) (t : Track) → Perm t.round → (t1 : Stop) → t1 < length t.round → (fwd : Bool)
    → Going (leg_of p) t t1 (recount (leg_of p) t.round) (begin t t1 (ahead fwd t.round t1)) (ahead fwd t.round t1) (leg_of p t1 (ahead fwd t.round t1))
unfolding begin
begun p t pm t1 h1 fwd = record { way = fwd; start = start t.round pm fwd t1 (pm.has t1 h1); legs = refl; same = λ v. refl; size = refl }
