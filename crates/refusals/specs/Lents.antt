-- The lent memory and the state that go in by value, as the rules speak of them. Assumes nothing.
use Rattle.rules.specs.Memory.{Lent as LentOf, Carried}
use Rattle.refusals.specs.Lending.{lending, carrying}
use Rattle.refusals.specs.declared.lent.Lent.{Lent}
use Rattle.refusals.specs.declared.lent.State.{State}

abbrev pub lent_in : Lent → LentOf
lent_in l = lending l.n l.k l.ka l.matrix.now l.near.now l.alpha.now l.round.now l.places.now l.queue.now l.flags.now l.scratch.now l.journal.now

abbrev pub carried_in : State → Carried
carried_in s = carrying s.head s.count s.held s.time
