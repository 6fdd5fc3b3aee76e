use mathlib.Core.Path.{◌≡◌, refl}
use mathlib.Core.Bool.{true, false}
use lib.Dec.{eqb}
use borrow.Author.Tests.{eq-eqb, ne_eqb}
use Rattle.kicks.specs.Exchanging.{queued}
use Rattle.kicks.proofs.KickingLaws.{waits_as, waits_more}
use Rattle.kicks.proofs.ends.Ends.push.Goals as goal

pub returns-then-bridge-clause-waits : goal.returns-then-bridge-clause-waits
unfolding queued
returns-then-bridge-clause-waits c = waits_as _ _ c.push_all.ensures.waits _ (rw c.if-bridge.true refl)

pub returns-then-b-ne0-clause-waits : goal.returns-then-b-ne0-clause-waits
unfolding queued
returns-then-b-ne0-clause-waits c =
    let z : eqb c.args.b 0 ≡ false = ne_eqb c.args.b 0 c.if-b-ne0.true in
    waits_as _ _ (waits_more _ _ c.push_all-else-bridge.ensures.waits _ c.push_all-then-b-ne0.ensures.waits) _ (rw (c.if-bridge.false, z) refl)

pub returns-else-b-ne0-clause-waits : goal.returns-else-b-ne0-clause-waits
unfolding queued
returns-else-b-ne0-clause-waits c =
    let z : eqb c.args.b 0 ≡ true = eq-eqb c.args.b 0 c.if-b-ne0.false in
    waits_as _ _ c.push_all-else-bridge.ensures.waits _ (rw (c.if-bridge.false, z) refl)
