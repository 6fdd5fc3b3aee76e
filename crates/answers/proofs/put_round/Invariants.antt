use Rattle.std.proofs.Common.{◌*◌, take}
use Rattle.rules.specs.Lists.{each}
use Rattle.rules.specs.Bits.{bits, bytes_of}
use Rattle.bits.specs.Write.{Wrote}
use Rattle.answers.proofs.put_round.Given as goal

abbrev pub invariant-loop-i : goal.invariant-loop-i
invariant-loop-i l = Wrote l.initial.a 16 (bytes_of (each (bits 12) (take (2 * l.i) l.round))) l.a
