use Prim.Native.Nat.{ℕ, ◌+◌, ◌*◌}
use mathlib.Core.Path.{◌≡◌, ap, sym, ◌∙◌}
use native.Mathlib.Omega.{arith}
use lib.ListN.{length}
use Rattle.rules.specs.Lists.{at}
use Rattle.rules.specs.Journal.{take_back}
use Rattle.laws.proofs.JournalWordLaws.{entry_reversal, entry_rotation, entry_swap}
use Rattle.laws.proofs.RangeLaws.{reversal_in, rotation_in, swap_in}
use Rattle.journal.proofs.KindLaws.{reversal_word, rotation_word, swap_word}
use Rattle.journal.proofs.entries.take_back.Goals as goal

pub reverse_positions-requires : goal.reverse_positions-requires
reverse_positions-requires c =
    let a = c.args in
    let ws = a.journal.now in
    let k = reversal_word (at ws (5 * a.i)) (cc (c.of.ensures, c.in-Reversal.is)) in
    let g = reversal_in (length a.round.now) (at ws (5 * a.i + 1)) (at ws (5 * a.i + 2)) (rw (entry_reversal ws a.i k) at c.requires.ranged) in
    record { tied = c.requires.tied; start_low = g.0; len_low = g.1 }

pub returns-in-Reversal : goal.returns-in-Reversal
unfolding take_back
returns-in-Reversal c =
    let a = c.args in
    let ws = a.journal.now in
    let k = reversal_word (at ws (5 * a.i)) (cc (c.of.ensures, c.in-Reversal.is)) in
    rw (entry_reversal ws a.i k) c.reverse_positions.ensures

pub rotate_segments-requires : goal.rotate_segments-requires
rotate_segments-requires c =
    let a = c.args in
    let ws = a.journal.now in
    let k = rotation_word (at ws (5 * a.i)) (cc (c.of.ensures, c.in-Rotation.is)) in
    let g = rotation_in (length a.round.now) (at ws (5 * a.i + 1)) (at ws (5 * a.i + 2)) (at ws (5 * a.i + 3)) (at ws (5 * a.i + 4)) (rw (entry_rotation ws a.i k) at c.requires.ranged) in
    record { tied = c.requires.tied; start_low = g.0; segments_low = omega (arith, g); scratch_fits = c.requires.scratch_fits }

pub returns-in-Rotation : goal.returns-in-Rotation
unfolding take_back
returns-in-Rotation c =
    let a = c.args in
    let ws = a.journal.now in
    let k = rotation_word (at ws (5 * a.i)) (cc (c.of.ensures, c.in-Rotation.is)) in
    rw (entry_rotation ws a.i k) c.rotate_segments.ensures

pub swap_raw-requires : goal.swap_raw-requires
swap_raw-requires c =
    let a = c.args in
    let ws = a.journal.now in
    let k = swap_word (at ws (5 * a.i)) (cc (c.of.ensures, c.in-Swap.is)) in
    let g = swap_in (length a.round.now) (at ws (5 * a.i + 1)) (at ws (5 * a.i + 2)) (rw (entry_swap ws a.i (λ e. omega (arith, e, k)) (λ e. omega (arith, e, k))) at c.requires.ranged) in
    record { tied = c.requires.tied; i_low = g.0; j_low = g.1 }

pub returns-in-Swap : goal.returns-in-Swap
unfolding take_back
returns-in-Swap c =
    let a = c.args in
    let ws = a.journal.now in
    let k = swap_word (at ws (5 * a.i)) (cc (c.of.ensures, c.in-Swap.is)) in
    rw (entry_swap ws a.i (λ e. omega (arith, e, k)) (λ e. omega (arith, e, k))) c.swap_raw.ensures
