use mathlib.Core.Path.{sym}
use Rattle.sheets.proofs.HeaderLaws.{read_masked}
use Rattle.sheets.proofs.header.Header.read.Goals as goal

pub returns : goal.returns
returns c = sym (read_masked c.args.s.now c.read32-v.result c.read32.result c.read64.result c.requires c.read32-v.ensures c.read32.ensures c.read64.ensures)
