use Rattle.std.proofs.Common.{inl, inr, sym, arith}
use Rattle.laws.proofs.StartNumberLaws.{start_none, start_many, start_odd_matrix, start_odd_round, start_fits}
use Rattle.start.proofs.check.Goals as goal

pub returns-then-n-lt1 : goal.returns-then-n-lt1
returns-then-n-lt1 c = let s = c.args in
    elim c.then-n-lt1.either [
      | inl h ↦ sym (start_none s.n s.matrix.now s.round.now h)
      | inr h ↦ sym (start_many s.n s.matrix.now s.round.now h.1)
    ]

pub returns-then-matrix-n : goal.returns-then-matrix-n
returns-then-matrix-n c = let s = c.args in
    elim c.then-matrix-n.either [
      | inl h ↦ sym (start_odd_matrix s.n s.matrix.now s.round.now (omega arith) (omega arith) h)
      | inr h ↦ sym (start_odd_round s.n s.matrix.now s.round.now (omega arith) (omega arith) h.0 h.1)
    ]

pub returns : goal.returns
returns c = let s = c.args in
    sym (start_fits s.n s.matrix.now s.round.now (omega arith) (omega arith) (omega arith) (omega arith))
