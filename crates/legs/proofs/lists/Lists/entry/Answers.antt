use native.Mathlib.Omega.{arith}
use Prim.Native.Nat.{◌+◌, ◌*◌}
use Rattle.laws.proofs.CellLaws.{row_within}
use Rattle.laws.proofs.EntryLaws.{entry_at}
use Rattle.legs.proofs.lists.Lists.entry.Goals as goal

pub returns : goal.returns
returns c =
    let l = c.args.self.now in
    let v = c.args.v.0 in
    let i = c.args.i in
    record {
      is = entry_at l.entries.now l.count v i c.requires.i_low;
      below = l.listed.stops (v * l.count + i) (omega (arith, l.listed.cells, c.requires.i_low, row_within l.n l.count v c.requires.v_low));
    }
