-- The records of a session. Assumes nothing.
use Rattle.std.specs.Prelude.{ℕ, ◌≡◌}
use Rattle.lending.specs.declared.session.Session.{Session}
use Rattle.sessions.specs.declared.records.Kind.{Kind}
use Rattle.sessions.specs.declared.records.Kind.TheVariants.{SetUp, Damage, Call}

-- a kind's number
abbrev pub kind_number : Kind → ℕ
kind_number SetUp = 3
kind_number Damage = 4
kind_number Call = 5

-- a session after a call: the plan and what is lent are as they were
pub record MovesOn (old new : Session) : Type 0 where
  pub n : new.n ≡ old.n
  pub k : new.k ≡ old.k
  pub ka : new.ka ≡ old.ka
  pub lengths : new.lengths ≡ old.lengths
