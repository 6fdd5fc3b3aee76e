-- What a kick draws before it moves stops: lengths of segments, and where they start. Assumes nothing.
use Rattle.std.specs.Prelude.{ℕ, ◌+◌, ◌-◌, ◌*◌, ◌/◌, ◌≤◌, ◌<◌, ◌≡◌, [], ◌∷◌, eqb}
use Rattle.rules.specs.Lists.{when◌then◌else◌}
use Rattle.rules.specs.Draws.{◌to◌, drawn, moved, draws}
use Rattle.rules.specs.Kicks.{longest, spans}
use Rattle.kicks.specs.Exchanging.{Segments}
use Rattle.kicks.specs.declared.cuts.Cut.{Cut}

-- r is the longest segment of n stops: three of them leave a stop over
pub record Longest (n r : ℕ) : Type 0 where
  pub is : r ≡ longest n
  pub fits : 3 * r < n

-- the middle length r, which a swap kick does not draw, and the state
pub record Middle (kind high x new r : ℕ) : Type 0 where
  pub state : new ≡ (when eqb kind 0 then moved x else x)
  pub is : r ≡ (when eqb kind 0 then drawn 1 high (moved x) else 0)
  pub some : 0 < x → 0 < new
  pub most : r ≤ high

-- segments drawn for a kick of kind 0 or 1 out of the state x
pub record CutDrawn (n kind x new : ℕ) (cut : Cut) : Type 0 where
  pub is : draws (spans n kind) x ≡ record { values = when eqb kind 0 then (cut.a ∷ cut.b ∷ cut.c ∷ cut.start.0 ∷ []) else (cut.a ∷ cut.c ∷ cut.start.0 ∷ []); state = new }
  pub middle : kind ≡ 1 → cut.b ≡ 0
  pub some : 0 < x → 0 < new
  pub segments : Segments n cut

-- three lengths drawn for a double bridge: B and C follow A, and D is the rest
pub record BridgeDrawn (n x new : ℕ) (cut : Cut) : Type 0 where
  pub is : draws ((1 to n / 4) ∷ (1 to n / 4) ∷ (1 to n / 4) ∷ []) x ≡ record { values = cut.start.0 ∷ cut.a ∷ cut.b ∷ []; state = new }
  pub rest : cut.c ≡ n - (cut.start.0 + cut.a + cut.b)
  pub some : 0 < x → 0 < new
  pub before : 0 < cut.start.0
  pub middle : 0 < cut.b
  pub segments : Segments n cut
