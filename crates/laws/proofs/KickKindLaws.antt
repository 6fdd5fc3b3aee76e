-- 01, 11: a kick by its kind, with the draws that it makes one after another.
use Prim.Native.Nat.{ℕ, zero, suc, ◌-◌, ◌≤◌}
use mathlib.Core.Path.{◌≡◌, refl, sym, ap, ◌∙◌}
use mathlib.Core.Bool.{Bool, true, false}
use mathlib.Core.List.{List, [], ◌∷◌, ◌++◌}
use native.Mathlib.Omega.{arith}
use native.Mathlib.Decide.{dec_lt}
use lib.Dec.{ltb, eqb}
use lib.ListN.{length}
use borrow.Author.Tests.{lt-ltb}
use Rattle.rules.specs.Words.{Place, Legs}
use Rattle.rules.specs.Lists.{when◌then◌else◌, at}
use Rattle.rules.specs.Draws.{Span, ◌to◌, Drawn, drawn, moved, draws}
use Rattle.rules.specs.Journal.{Track}
use Rattle.rules.specs.Kicks.{Kicked, kind_at, longest, global_spans, spans, segment_kick, global_kick, kicked, kick}

-- ---- the kind that is carried out
-- where the longest segment is under 2, no kind 0 or 1 is
pub cut_long : (n kind : ℕ) → kind ≤ 1 → kind_at n kind ≡ kind → 2 ≤ longest n
unfolding kind_at
cut_long n kind h e = elim (dec_lt (longest n) 2) [
  | yes l ↦ (let q : 2 ≡ kind = rw (lt-ltb (longest n) 2 l) at e in absurd (omega arith))
  | no l ↦ omega arith
]

-- what is no global kick is a kind 0 or 1 that stays
pub kind_stays : (n kind : ℕ) → kind ≤ 2 → (kind_at n kind ≡ 2 → ⊥) → (kind ≤ 1) × (kind_at n kind ≡ kind)
unfolding kind_at
kind_stays n kind h two = go (ltb (longest n) 2) two
  where
    go : (l : Bool) → ((when l then 2 else kind) ≡ 2 → ⊥) → (kind ≤ 1) × ((when l then 2 else kind) ≡ kind)
    go true f = absurd (f refl)
    go false f = (omega arith, refl)

-- ---- what is drawn
-- the spans by that kind
abbrev spans_by : ℕ → ℕ → List Span
spans_by n kind = elim kind as (λ k. List Span) [
  | zero ↦ (1 to longest n) ∷ (1 to longest n) ∷ (1 to longest n) ∷ (0 to (n - 1)) ∷ []
  | suc k ↦ when eqb k 0 then ((1 to longest n) ∷ (1 to longest n) ∷ (0 to (n - 1)) ∷ []) else global_spans n
]

spans_stay : (n kind : ℕ) → kind_at n kind ≡ kind → spans n kind ≡ spans_by n kind
unfolding spans
spans_stay n kind k = ap (spans_by n) k

-- a, b, c, start; without b in a swap kick
pub cut_drawn : (n kind x x1 x2 x3 x4 a b c s : ℕ) → kind_at n kind ≡ kind → kind ≤ 1
    → x1 ≡ moved x → a ≡ drawn 1 (longest n) (moved x)
    → x2 ≡ (when eqb kind 0 then moved x1 else x1) → b ≡ (when eqb kind 0 then drawn 1 (longest n) (moved x1) else 0)
    → x3 ≡ moved x2 → c ≡ drawn 1 (longest n) (moved x2)
    → x4 ≡ moved x3 → s ≡ drawn 0 (n - 1) (moved x3)
    → draws (spans n kind) x ≡ record { values = when eqb kind 0 then (a ∷ b ∷ c ∷ s ∷ []) else (a ∷ c ∷ s ∷ []); state = x4 }
unfolding draws
cut_drawn n zero x x1 x2 x3 x4 a b c s k le e1 ea e2 eb e3 ec e4 es = rw (spans_stay n 0 k, e4, es, ec, e3, eb, e2, ea, e1) refl
cut_drawn n (suc zero) x x1 x2 x3 x4 a b c s k le e1 ea e2 eb e3 ec e4 es = rw (spans_stay n 1 k, e4, es, ec, e3, e2, ea, e1) refl
cut_drawn n (suc (suc kind)) x x1 x2 x3 x4 a b c s k le e1 ea e2 eb e3 ec e4 es = absurd (omega arith)

-- three lengths
pub bridge_drawn : (m x x1 x2 x3 a b c : ℕ)
    → x1 ≡ moved x → a ≡ drawn 1 m (moved x)
    → x2 ≡ moved x1 → b ≡ drawn 1 m (moved x1)
    → x3 ≡ moved x2 → c ≡ drawn 1 m (moved x2)
    → draws ((1 to m) ∷ (1 to m) ∷ (1 to m) ∷ []) x ≡ record { values = a ∷ b ∷ c ∷ []; state = x3 }
unfolding draws
bridge_drawn m x x1 x2 x3 a b c e1 ea e2 eb e3 ec = rw (e3, ec, e2, eb, ea, e1) refl

-- some draws after others
pub draws_after : (ss us : List Span) (x : ℕ) → draws (ss ++ us) x ≡ record { values = (draws ss x).values ++ (draws us (draws ss x).state).values; state = (draws us (draws ss x).state).state }
unfolding draws
draws_after [] us x = refl
draws_after (s ∷ ss) us x = ap (λ (g : Drawn). record { values = drawn s.low s.high (moved x) ∷ g.values; state = g.state }) (draws_after ss us (moved x))

-- ---- what is done
abbrev kicked_by : Legs → List ℕ → Track → ℕ → Kicked
kicked_by d vs t kind = elim kind as (λ k. Kicked) [
  | zero ↦ segment_kick d (at vs 0) (at vs 1) (at vs 2) (at vs 3) t
  | suc k ↦ when eqb k 0 then segment_kick d (at vs 0) 0 (at vs 1) (at vs 2) t else global_kick d vs t
]

-- a global kick
pub kick_global : (d : Legs) (kind x : ℕ) (t : Track) → kind_at (length t.round) kind ≡ 2
    → kick d kind x t ≡ record { made = global_kick d (draws (global_spans (length t.round)) x).values t; draw = (draws (global_spans (length t.round)) x).state }
unfolding kick kicked spans
kick_global d kind x t e = ap (λ (k : ℕ). record { made = kicked_by d (draws (spans_by (length t.round) k) x).values t k; draw = (draws (spans_by (length t.round) k) x).state }) e

-- segments
pub kick_segment : (d : Legs) (kind x new : ℕ) (start : Place) (a b c : ℕ) (t : Track) → kind_at (length t.round) kind ≡ kind → kind ≤ 1
    → draws (spans (length t.round) kind) x ≡ record { values = when eqb kind 0 then (a ∷ b ∷ c ∷ start ∷ []) else (a ∷ c ∷ start ∷ []); state = new } → (kind ≡ 1 → b ≡ 0)
    → kick d kind x t ≡ record { made = segment_kick d a b c start t; draw = new }
unfolding kick kicked
kick_segment d zero x new start a b c t e h g m =
    ap (λ (k : ℕ). record { made = kicked_by d (draws (spans (length t.round) 0) x).values t k; draw = (draws (spans (length t.round) 0) x).state }) e
    ∙ ap (λ (v : Drawn). record { made = kicked_by d v.values t 0; draw = v.state }) g
kick_segment d (suc zero) x new start a b c t e h g m =
    ap (λ (k : ℕ). record { made = kicked_by d (draws (spans (length t.round) 1) x).values t k; draw = (draws (spans (length t.round) 1) x).state }) e
    ∙ ap (λ (v : Drawn). record { made = kicked_by d v.values t 1; draw = v.state }) g
    ∙ ap (λ (y : ℕ). record { made = segment_kick d a y c start t; draw = new }) (sym (m refl))
kick_segment d (suc (suc kind)) x new start a b c t e h g m = absurd (omega arith)
