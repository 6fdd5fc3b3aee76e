-- What is made of what the journal's functions promise: a move as the rewriting that it is, one move after another.
use Prim.Native.Nat.{ℕ, ◌+◌, ◌≤◌}
use mathlib.Core.Path.{◌≡◌, ap, ◌∙◌}
use mathlib.Core.List.{List}
use native.Mathlib.Omega.{arith}
use Rattle.rules.specs.Words.{Place, Round}
use Rattle.rules.specs.Journal.{Track, track_of}
use Rattle.journal.specs.Journalled.{Moved}
use Rattle.journal.proofs.GrewLaws.{grew_grew}
use Rattle.moves.specs.Moves.{Made}

module _ {t : Track} {j : List ℕ} {held : ℕ} {r : Round} {ps : List Place} {j' : List ℕ} {held' : ℕ} where
  -- a journalled rewriting, under the move's name
  pub moved_made : {t' : Track} → t ≡ t' → Moved t j held r ps j' held' → Made 1 t' j held r ps j' held'
  moved_made e m = record { is = m.is ∙ e; tied = m.tied; good = m.good; grew = m.grew; high = m.high }

  -- the same move under another name, and with more allowed
  pub made_is : {most more : ℕ} {t' : Track} → t ≡ t' → most ≤ more → Made most t j held r ps j' held' → Made more t' j held r ps j' held'
  made_is e h m = record { is = m.is ∙ e; tied = m.tied; good = m.good; grew = m.grew; high = omega (arith, m.high) }

-- one after the other
pub made_made : {a b : ℕ} {t : Track} (f : Track → Track) {j j' j'' : List ℕ} {held held' held'' : ℕ} {r r' : Round} {ps ps' : List Place}
    → Made a t j held r ps j' held' → Made b (f (track_of r j' held')) j' held' r' ps' j'' held'' → Made (a + b) (f t) j held r' ps' j'' held''
made_made f m k = record { is = k.is ∙ ap f m.is; tied = k.tied; good = k.good; grew = grew_grew m.grew k.grew; high = omega (arith, m.high, k.high) }
