use Prim.Native.Nat.{ℕ}
use lib.Dec.{eqb}
use Rattle.rules.specs.Lists.{when◌then◌else◌}
use Rattle.rules.specs.Draws.{drawn, moved}
use mathlib.Core.Path.{◌≡◌}
use native.Mathlib.Omega.{arith}
use Rattle.rules.specs.Kicks.{longest as longestOf}
use Rattle.laws.proofs.KickKindLaws.{cut_drawn, cut_long}
use borrow.Author.Rules.{rules}
use Rattle.kicks.specs.Kinds.{kick_number}
use Rattle.kicks.proofs.cuts.draw_cut.Goals as goal

pub draw-a-requires : goal.draw-a-requires
draw-a-requires c = omega (arith, cut_long c.args.n (kick_number c.args.kind) c.requires.kind_bound c.requires.kind_value, c.longest-high.ensures.is)

pub returns : goal.returns
returns c =
    let n : ℕ = c.args.n in
    let kind : ℕ = kick_number c.args.kind in
    let x : ℕ = c.args.state.now in
    let x1 : ℕ = c.draw-a.new.state in
    let x2 : ℕ = c.draw_middle-b.new.state in
    let x3 : ℕ = c.draw-c.new.state in
    let x4 : ℕ = c.draw-start.new.state in
    let l = c.longest-high.ensures.is in
    let a : c.draw-a.result ≡ drawn 1 (longestOf n) (moved x) = rw (← l) c.draw-a.ensures.is in
    let b : c.draw_middle-b.result ≡ (when eqb kind 0 then drawn 1 (longestOf n) (moved x1) else 0) = rw (← l) c.draw_middle-b.ensures.is in
    let d : c.draw-c.result ≡ drawn 1 (longestOf n) (moved x2) = rw (← l) c.draw-c.ensures.is in
    record {
      is = cut_drawn n kind x x1 x2 x3 x4 _ _ _ _ c.requires.kind_value c.requires.kind_bound c.draw-a.ensures.state a c.draw_middle-b.ensures.state b c.draw-c.ensures.state d c.draw-start.ensures.state c.draw-start.ensures.is;
      middle = λ e. rw e at b;
      some = λ p. c.draw-start.ensures.some (c.draw-c.ensures.some (c.draw_middle-b.ensures.some (c.draw-a.ensures.some p)));
      segments = search rules;
    }
