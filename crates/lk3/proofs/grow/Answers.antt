use Rattle.lk3.proofs.GrowLaws.{after, grown}
use Rattle.lk3.proofs.grow.Goals as goal

pub returns : goal.returns
unfolding after
returns c = let a = c.args in let m = a.mv in let p = c.requires in
    grown a.st a.t2.0 m.t3.0 m.t4.0 m.t5.0 m.t6.0 p.roomy p.steps_len_bound p.added_len_bound p.removed_len_bound p.lasts _ _ _ _ c.leg_word.ensures c.leg_word-2.ensures c.leg_word-3.ensures c.leg_word-4.ensures
