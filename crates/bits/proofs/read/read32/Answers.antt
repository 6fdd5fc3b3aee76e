use Rattle.bits.proofs.ReadLaws.{read_32}
use native.Mathlib.Omega.{arith}
use Rattle.bits.proofs.read.read32.Goals as goal

pub returns : goal.returns
returns c = read_32 c.args.s.now (λ i. omega (arith, c.type_inv.s i)) c.args.q _ _ c.requires c.bytes_at.ensures c.from_be_bytes.ensures
