-- Places counted round the ring. Assumes nothing.
use Rattle.std.specs.Prelude.{ℕ, ◌+◌, ◌-◌, ltb}
use Rattle.rules.specs.Words.{Place}
use Rattle.rules.specs.Lists.{when◌then◌else◌}

-- the place that x, below twice n, is on a ring of n
unfoldable pub wrapped : ℕ → ℕ → Place
wrapped n x = when ltb x n then x else x - n

-- the place a steps after s on a ring of n
unfoldable pub around : ℕ → Place → ℕ → Place
unfolding wrapped
around n s a = wrapped n (s + a)
