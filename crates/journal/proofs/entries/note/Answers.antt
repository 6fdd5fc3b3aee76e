use Prim.Native.Nat.{ℕ, ◌+◌, ◌*◌}
use mathlib.Core.Path.{◌≡◌, refl}
use native.Mathlib.Omega.{arith}
use lib.ListN.{length-set}
use Rattle.journal.specs.Kinds.{kind_number}
use Rattle.journal.proofs.MoveLaws.{note_words}
use Rattle.journal.proofs.entries.note.Goals as goal

pub bounds-journal-p-2 : goal.bounds-journal-p-2
bounds-journal-p-2 c = simp length-set (omega (arith, c.requires))

pub bounds-journal-p-3 : goal.bounds-journal-p-3
bounds-journal-p-3 c = simp length-set (omega (arith, c.requires))

pub bounds-journal-p-4 : goal.bounds-journal-p-4
bounds-journal-p-4 c = simp length-set (omega (arith, c.requires))

pub bounds-journal-p-5 : goal.bounds-journal-p-5
bounds-journal-p-5 c = simp length-set (omega (arith, c.requires))

pub returns : goal.returns
returns c =
    let a = c.args in
    let q : 5 * (a.held + 1) ≡ 5 * a.held + 5 = omega arith in
    rw (q, ← c.word.ensures) (note_words a.journal.now (5 * a.held) c.word.result a.a a.b a.c a.d (omega (arith, c.requires)))
