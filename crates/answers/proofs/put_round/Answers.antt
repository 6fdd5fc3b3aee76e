use Rattle.std.proofs.Common.{◌/◌, ◌<◌, length, refl, arith}
use Rattle.answers.proofs.PackLaws.{pack_start, pack_turn, pack_last, pair_small}
use Rattle.answers.proofs.put_round.Goals as goal

pub loop-i-init : goal.loop-i-init
loop-i-init c = pack_start c.args.a.now

pub put_pair-requires : goal.put_pair-requires
put_pair-requires c =
    let b : c.loop-i.i < length c.args.round.now / 2 = omega (arith, c.loop-i-test.true, c.as_chunks.ensures.front_len) in
    let x = pair_small c.args.round.now c.as_chunks.result.0.now c.loop-i.i 0 c.requires.2 c.as_chunks.ensures.front b (omega arith) in
    let y = pair_small c.args.round.now c.as_chunks.result.0.now c.loop-i.i 1 c.requires.2 c.as_chunks.ensures.front b (omega arith) in
    (omega (arith, c.loop-i.auto.a, c.requires.0), x, y)

pub loop-i-preserved : goal.loop-i-preserved
loop-i-preserved c =
    let b : c.loop-i.i < length c.args.round.now / 2 = omega (arith, c.loop-i-test.true, c.as_chunks.ensures.front_len) in
    pack_turn c.args.a.now c.args.round.now c.loop-i.a c.loop-i.i c.requires.0 c.loop-i.invariant _ refl _ c.put_pair.new.a c.as_chunks.ensures.front b c.put_pair.ensures

pub returns-in-len1 : goal.returns-in-len1
returns-in-len1 c =
    pack_last c.args.a.now c.args.round.now c.loop-i.a c.loop-i.i c.requires.0 c.loop-i.invariant _ c.as_chunks.ensures.front_len _ c.put_last.new.a c.loop-i-test.false c.loop-i.auto.i-end c.as_chunks.ensures.back c.in-len1.len_at_least c.in-len1.len_below c.put_last.ensures
