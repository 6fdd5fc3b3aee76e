use Prim.Native.Nat.{◌+◌, ◌-◌}
use mathlib.Core.Path.{◌≡◌, refl, sym, ap, ◌∙◌}
use native.Mathlib.Omega.{arith}
use lib.ListN.{length, take, drop}
use lib.Seq.{length-take-le}
use Rattle.rules.specs.Ring.{turn}
use Rattle.laws.proofs.TurnLaws.{turn_length}
use Rattle.rewrite.proofs.RotateLaws.{put_ok, parts_of, rotate_done}
use Rattle.rewrite.proofs.rotate_segments.Goals as goal

pub put-i-requires : goal.put-i-requires
put-i-requires c =
    let parts : (let y = turn c.args.start c.args.round.now in
    let scratch = c.gather.new.scratch in
    (take (c.args.a + c.args.b + c.args.c - (c.args.a + c.args.b)) (drop (c.args.a + c.args.b) scratch) ≡ take c.args.c (drop (c.args.a + c.args.b) y))
    × (take (c.args.a + c.args.b - c.args.a) (drop c.args.a scratch) ≡ take c.args.b (drop c.args.a y))
    × (take c.args.a scratch ≡ take c.args.a y)) = parts_of c.args.a c.args.b c.args.c (turn c.args.start c.args.round.now) c.args.scratch.now c.gather.new.scratch
    (omega (arith, c.requires.segments_low, turn_length c.args.start c.args.round.now)) c.gather.ensures in
    let a = c.args in
    let q = parts in let all = put_ok a.start (a.a + a.b) a.c a.start a.round.now a.places.now a.round.now a.places.now _ c.requires.tied c.requires.start_low refl c.requires.tied.same c.requires.start_low q.0 c.requires.segments_low in record { round_len_bound = all.0; start_in_bounds = all.1.0; part_in_bounds = all.1.1.0; stops = all.1.1.1 }

pub put-j-requires : goal.put-j-requires
put-j-requires c =
    let parts : (let y = turn c.args.start c.args.round.now in
    let scratch = c.gather.new.scratch in
    (take (c.args.a + c.args.b + c.args.c - (c.args.a + c.args.b)) (drop (c.args.a + c.args.b) scratch) ≡ take c.args.c (drop (c.args.a + c.args.b) y))
    × (take (c.args.a + c.args.b - c.args.a) (drop c.args.a scratch) ≡ take c.args.b (drop c.args.a y))
    × (take c.args.a scratch ≡ take c.args.a y)) = parts_of c.args.a c.args.b c.args.c (turn c.args.start c.args.round.now) c.args.scratch.now c.gather.new.scratch
    (omega (arith, c.requires.segments_low, turn_length c.args.start c.args.round.now)) c.gather.ensures in
    let a = c.args in
    let q = parts in
    let p = c.put-i in let all = put_ok a.start a.a a.b p.result a.round.now a.places.now p.new.round p.new.places _ c.requires.tied c.requires.start_low p.auto.round (p.auto.places ∙ c.requires.tied.same) p.ensures.is.below q.1 (omega (arith, c.requires.segments_low)) in record { round_len_bound = all.0; start_in_bounds = all.1.0; part_in_bounds = all.1.1.0; stops = all.1.1.1 }

pub slice_bounds-put-end-4 : goal.slice_bounds-put-end-4
slice_bounds-put-end-4 c =
    let parts : (let y = turn c.args.start c.args.round.now in
    let scratch = c.gather.new.scratch in
    (take (c.args.a + c.args.b + c.args.c - (c.args.a + c.args.b)) (drop (c.args.a + c.args.b) scratch) ≡ take c.args.c (drop (c.args.a + c.args.b) y))
    × (take (c.args.a + c.args.b - c.args.a) (drop c.args.a scratch) ≡ take c.args.b (drop c.args.a y))
    × (take c.args.a scratch ≡ take c.args.a y)) = parts_of c.args.a c.args.b c.args.c (turn c.args.start c.args.round.now) c.args.scratch.now c.gather.new.scratch
    (omega (arith, c.requires.segments_low, turn_length c.args.start c.args.round.now)) c.gather.ensures in
    let a = c.args in
    let q = parts in
    sym (ap length q.2 ∙ length-take-le a.a (turn a.start a.round.now) (omega (arith, turn_length a.start a.round.now, c.requires.segments_low)))

pub put-requires : goal.put-requires
put-requires c =
    let parts : (let y = turn c.args.start c.args.round.now in
    let scratch = c.gather.new.scratch in
    (take (c.args.a + c.args.b + c.args.c - (c.args.a + c.args.b)) (drop (c.args.a + c.args.b) scratch) ≡ take c.args.c (drop (c.args.a + c.args.b) y))
    × (take (c.args.a + c.args.b - c.args.a) (drop c.args.a scratch) ≡ take c.args.b (drop c.args.a y))
    × (take c.args.a scratch ≡ take c.args.a y)) = parts_of c.args.a c.args.b c.args.c (turn c.args.start c.args.round.now) c.args.scratch.now c.gather.new.scratch
    (omega (arith, c.requires.segments_low, turn_length c.args.start c.args.round.now)) c.gather.ensures in
    let a = c.args in
    let q = parts in
    let p = c.put-i in
    let p2 = c.put-j in let all = put_ok a.start 0 a.a p2.result a.round.now a.places.now p2.new.round p2.new.places _ c.requires.tied c.requires.start_low (p2.auto.round ∙ p.auto.round) (p2.auto.places ∙ p.auto.places ∙ c.requires.tied.same)
    (rw (← p.auto.round) p2.ensures.is.below) q.2 (omega (arith, c.requires.segments_low)) in record { round_len_bound = all.0; start_in_bounds = all.1.0; part_in_bounds = all.1.1.0; stops = all.1.1.1 }

pub returns : goal.returns
returns c =
    let parts : (let y = turn c.args.start c.args.round.now in
    let scratch = c.gather.new.scratch in
    (take (c.args.a + c.args.b + c.args.c - (c.args.a + c.args.b)) (drop (c.args.a + c.args.b) scratch) ≡ take c.args.c (drop (c.args.a + c.args.b) y))
    × (take (c.args.a + c.args.b - c.args.a) (drop c.args.a scratch) ≡ take c.args.b (drop c.args.a y))
    × (take c.args.a scratch ≡ take c.args.a y)) = parts_of c.args.a c.args.b c.args.c (turn c.args.start c.args.round.now) c.args.scratch.now c.gather.new.scratch
    (omega (arith, c.requires.segments_low, turn_length c.args.start c.args.round.now)) c.gather.ensures in
    let a = c.args in
    let q = parts in
    let p = c.put-i in
    let p2 = c.put-j in
    let p3 = c.put in
    rotate_done a.start a.a a.b a.c a.round.now a.places.now _ _ _ p.new.round p.new.places p2.new.round p2.new.places p3.new.round p3.new.places p.result p2.result
    c.requires.tied c.requires.start_low c.requires.segments_low q.0 q.1 q.2
    p.ensures.is.is p.ensures.round_after p.ensures.places_after p2.ensures.is.is p2.ensures.round_after p2.ensures.places_after p3.ensures.round_after p3.ensures.places_after
