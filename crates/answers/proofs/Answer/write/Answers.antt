use Rattle.std.proofs.Common.{arith}
use Rattle.answers.proofs.AnswerLaws.{answer_written}
use Rattle.answers.proofs.Answer.write.Goals as goal

pub returns : goal.returns
returns c =
    let s = c.args.self.now in
    answer_written s.ended s.time s.units s.kicks s.round.now s.two_bits s.short c.args.a.now _ _ _ _ c.put_round.new.a (omega (arith, c.requires))
    c.put32.ensures c.put32-2.ensures c.put32-3.ensures c.put32-4.ensures c.put_round.ensures
