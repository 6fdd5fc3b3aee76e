-- Two segments that change places, with a third between them that may be empty: p X Y Z q becomes p Z Y X q. Assumes nothing.
use Rattle.std.specs.Prelude.{ℕ, ◌+◌, ◌-◌, ◌%◌, ◌<◌, Bool, true, false, List, [], ◌∷◌, eqb, length}
use Rattle.rules.specs.Words.{Stop, Place, Time, Round, Legs}
use Rattle.rules.specs.Lists.{when◌then◌else◌, at}
use Rattle.rules.specs.Journal.{Track}
use Rattle.rules.specs.SharedWords.{Is}
use Rattle.rules.specs.Kicks.{Kicked, segment_kick}
use Rattle.kicks.specs.declared.cuts.Cut.{Cut}
use Rattle.kicks.specs.declared.ends.Ends.{Ends}

-- segments of n places, X and Z not empty, and a place over
pub record Segments (n : ℕ) (cut : Cut) : Type 0 where
  pub below : cut.start.0 < n
  pub first : 0 < cut.a
  pub last : 0 < cut.c
  pub fits : cut.a + cut.b + cut.c < n

-- the stop k steps after place `start`
unfoldable pub stop_on : Round → Place → ℕ → Stop
stop_on r start k = at r ((start + k) % length r)

-- the legs that join p, X, Y, Z and q
unfoldable pub joining : Legs → ℕ → Stop → Stop → Stop → Stop → Stop → Stop → Stop → Stop → Time
joining d b p x0 x1 y0 y1 z0 z1 q = d p x0 + (when eqb b 0 then d x1 z0 else d x1 y0 + d y1 z0) + d z1 q

-- the ends in the order in which a kick queues them: a double bridge, or segments
unfoldable pub queued : Bool → ℕ → Stop → Stop → Stop → Stop → Stop → Stop → Stop → Stop → List Stop
queued true b p x0 x1 y0 y1 z0 z1 q = q ∷ p ∷ x0 ∷ x1 ∷ y0 ∷ y1 ∷ z0 ∷ z1 ∷ []
queued false b p x0 x1 y0 y1 z0 z1 q = p ∷ x0 ∷ x1 ∷ z0 ∷ z1 ∷ q ∷ (when eqb b 0 then [] else (y0 ∷ y1 ∷ []))

-- the same of the ends of a kick
abbrev pub joints_of : Legs → ℕ → Ends → Time
joints_of d b e = joining d b e.p.0 e.x0.0 e.x1.0 e.y0.0 e.y1.0 e.z0.0 e.z1.0 e.q.0

abbrev pub ends_queued : Bool → ℕ → Ends → List Stop
ends_queued bridge b e = queued bridge b e.p.0 e.x0.0 e.x1.0 e.y0.0 e.y1.0 e.z0.0 e.z1.0 e.q.0

-- X and Z the other way round
abbrev pub exchanged : Ends → Ends
exchanged e = record { p = e.p; x0 = e.z0; x1 = e.z1; y0 = e.y0; y1 = e.y1; z0 = e.x0; z1 = e.x1; q = e.q }

-- the eight stops beside the cuts
pub record EndsOf (r : Round) (cut : Cut) (e : Ends) : Type 0 where
  pub p_is : Is (length r) (stop_on r cut.start.0 (length r - 1)) e.p.0
  pub x0_is : Is (length r) (stop_on r cut.start.0 0) e.x0.0
  pub x1_is : Is (length r) (stop_on r cut.start.0 (cut.a - 1)) e.x1.0
  pub y0_is : Is (length r) (stop_on r cut.start.0 cut.a) e.y0.0
  pub y1_is : Is (length r) (stop_on r cut.start.0 (cut.a + cut.b - 1)) e.y1.0
  pub z0_is : Is (length r) (stop_on r cut.start.0 (cut.a + cut.b)) e.z0.0
  pub z1_is : Is (length r) (stop_on r cut.start.0 (cut.a + cut.b + cut.c - 1)) e.z1.0
  pub q_is : Is (length r) (stop_on r cut.start.0 (cut.a + cut.b + cut.c)) e.q.0

-- stops of n
pub record Eight (n : ℕ) (e : Ends) : Type 0 where
  pub p_low : e.p.0 < n
  pub x0_low : e.x0.0 < n
  pub x1_low : e.x1.0 < n
  pub y0_low : e.y0.0 < n
  pub y1_low : e.y1.0 < n
  pub z0_low : e.z0.0 < n
  pub z1_low : e.z1.0 < n
  pub q_low : e.q.0 < n

-- a segment kick; a double bridge is one from its second part on, but for the order of those queued
unfoldable pub exchange_kick : Bool → Legs → ℕ → ℕ → ℕ → Place → Track → Kicked
unfolding stop_on
exchange_kick bridge d a b c start t =
    let k = segment_kick d a b c start t in
    let w : ℕ → Stop = stop_on t.round start in
    record {
      track = k.track;
      touched = queued bridge b (w (length t.round - 1)) (w 0) (w (a - 1)) (w a) (w (a + b - 1)) (w (a + b)) (w (a + b + c - 1)) (w (a + b + c));
      added = k.added;
      removed = k.removed;
    }

-- the same at a cut
abbrev pub exchanging : Bool → Legs → Cut → Track → Kicked
exchanging bridge d cut t = exchange_kick bridge d cut.a cut.b cut.c cut.start.0 t
