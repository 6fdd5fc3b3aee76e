use Prim.Native.Nat.{◌-◌, ◌<◌}
use mathlib.Core.Path.{◌≡◌, refl, sym, ◌∙◌}
use native.Mathlib.Omega.{arith}
use lib.ListN.{length}
use Rattle.rules.specs.Journal.{track_of}
use Rattle.laws.proofs.JournalLaws.{entries_of_length, rollback_done}
use Rattle.laws.proofs.JournalWordLaws.{good_room, good_each, good_range, good_fewer}
use Rattle.journal.proofs.MoveLaws.{back_turn}
use Rattle.journal.proofs.rollback.Goals as goal

pub take_back-requires : goal.take_back-requires
take_back-requires c =
    let a = c.args in
    let n = length a.round.now in
    let lp = c.loop-i in
    let low : lp.i - 1 < a.held = omega (arith, c.loop-i-test.true, lp.auto.i) in
    record { tied = lp.invariant.0; scratch_fits = lp.auto.scratch ∙ c.requires.scratch_len ∙ sym lp.invariant.1.0; i_low = omega (arith, low, good_room n a.journal.now a.held c.requires.held_value); ranged = rw lp.invariant.1.0 (good_range n a.journal.now (lp.i - 1) (good_each n a.journal.now a.held c.requires.held_value (lp.i - 1) low)) }

pub loop-i-preserved : goal.loop-i-preserved
loop-i-preserved c =
    let a = c.args in
    let lp = c.loop-i in
    let u = c.take_back in
    (u.ensures.tied, (u.auto.round ∙ lp.invariant.1.0, (omega (arith, c.loop-i-test.true), back_turn lp.round u.new.round a.journal.now a.mark lp.i _ (omega (arith, c.loop-i-test.true)) u.ensures.is lp.invariant.1.1.1)))

pub returns : goal.returns
unfolding track_of
returns c =
    let a = c.args in
    let lp = c.loop-i in
    let end : lp.i ≡ a.mark = omega (arith, c.loop-i-test.false, lp.invariant.1.1.0) in
    record {
      is = sym (rollback_done a.mark (track_of lp.round a.journal.now a.mark) (omega (arith, entries_of_length a.journal.now a.mark))) ∙ (rw end at lp.invariant.1.1.1);
      tied = lp.invariant.0;
      good = rw lp.invariant.1.0 (good_fewer (length a.round.now) a.journal.now a.held a.mark c.requires.mark_le_held c.requires.held_value);
      to_mark = refl;
    }
