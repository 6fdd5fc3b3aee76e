use Prim.Native.Nat.{◌-◌}
use Rattle.journal.specs.Tracks.{SameTrack}
use Rattle.lk_scans.specs.Picked.{trial_in}
use Rattle.lk.proofs.WalkLaws.{Ahead}
use Rattle.lk.proofs.lk_walk.Given as goal

abbrev pub invariant-loop-p : goal.invariant-loop-p
invariant-loop-p l = SameTrack l.initial.track l.track × Ahead l.plan l.initial.track l.t1.0 l.initial.end.0 (trial_in l.initial.p) l.track l.st l.best l.p l.end.0 l.level

abbrev pub decreases-loop-p : goal.decreases-loop-p
decreases-loop-p l = 25 - l.level
