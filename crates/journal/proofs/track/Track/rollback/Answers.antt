use Rattle.journal.proofs.track.Track.rollback.Goals as goal

pub rollback-self-requires : goal.rollback-self-requires
rollback-self-requires c =
    let t = c.args.self.now in
    record { tied = t.tied; scratch_len = c.requires.scratch_fits; held_value = t.good; mark_le_held = c.requires.mark_le_held }

pub invariant_of-self : goal.invariant_of-self
invariant_of-self c =
    let back = c.rollback-self.ensures in
    record { tied = back.tied; good = back.good }
