use Prim.Native.Nat.{◌+◌}
use Rattle.rules.specs.Plan.{list_in}
use Rattle.tries.specs.Picks.{legs_in}
use Rattle.scans.specs.Scans.{found_on}
use Rattle.scans.proofs.FindLaws.{Left, found3, found4, found5}
use Rattle.scans.proofs.find_move.Given as goal

abbrev pub invariant-fifths : goal.invariant-fifths
invariant-fifths l =
    Left l.plan.matrix.n (found5 (legs_in l.plan) (list_in l.plan.near.count l.plan.near.entries.now) l.fwd l.round.stops.now l.t1.0 l.t2.0 l.after l.t3.0 l.t4.0 l.g2 l.j l.g1 (l.side + 1) l.d12 (l.i + 1)) (found_on l.plan l.fwd l.round.stops.now l.t1.0) l.j l.k l.chosen.case l.chosen.gain l.chosen.t3.0 l.chosen.t4.0 l.chosen.t5.0 l.chosen.t6.0

abbrev pub invariant-sides : goal.invariant-sides
invariant-sides l =
    Left l.plan.matrix.n (found4 (legs_in l.plan) (list_in l.plan.near.count l.plan.near.entries.now) l.fwd l.round.stops.now l.t1.0 l.t2.0 l.t3.0 l.g1 l.side l.d12 (l.i + 1)) (found_on l.plan l.fwd l.round.stops.now l.t1.0) l.side 2 l.chosen.case l.chosen.gain l.chosen.t3.0 l.chosen.t4.0 l.chosen.t5.0 l.chosen.t6.0

abbrev pub invariant-thirds : goal.invariant-thirds
invariant-thirds l =
    Left l.plan.matrix.n (found3 (legs_in l.plan) (list_in l.plan.near.count l.plan.near.entries.now) l.fwd l.round.stops.now l.t1.0 l.t2.0 l.d12 l.i) (found_on l.plan l.fwd l.round.stops.now l.t1.0) l.i l.k l.chosen.case l.chosen.gain l.chosen.t3.0 l.chosen.t4.0 l.chosen.t5.0 l.chosen.t6.0
