use Rattle.bits.proofs.ReadLaws.{read_16}
use native.Mathlib.Omega.{arith}
use Rattle.bits.proofs.read.read16.Goals as goal

pub returns : goal.returns
returns c = read_16 c.args.s.now (λ i. omega (arith, c.type_inv.s i)) c.args.q _ _ c.requires c.bytes_at.ensures c.from_be_bytes.ensures
