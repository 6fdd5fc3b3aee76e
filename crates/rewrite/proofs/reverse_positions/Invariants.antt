use Prim.Native.Nat.{◌-◌, ◌<◌, ◌/◌}
use mathlib.Core.Path.{◌≡◌}
use lib.ListN.{length}
use Rattle.rules.specs.Rewrite.{reverse_at}
use Rattle.rules.specs.SharedWords.{Tied}
use Rattle.rewrite.proofs.ReverseLaws.{exchanges}
use Rattle.rewrite.proofs.reverse_positions.Given as goal

abbrev pub invariant-loop-pair : goal.invariant-loop-pair
invariant-loop-pair l =
    Tied l.round l.places × ((length l.round ≡ length l.initial.round) × ((l.i < length l.initial.round) × ((l.j < length l.initial.round) × (exchanges (l.len / 2 - l._pair) (length l.initial.round) l.i l.j l.round ≡ reverse_at l.start l.len l.initial.round))))
