use Prim.Native.Nat.{◌<◌}
use mathlib.Core.Path.{◌≡◌, refl, sym}
use native.Mathlib.Omega.{arith}
use Rattle.rules.specs.Lists.{at}
use Rattle.laws.proofs.QueueLaws.{push_old}
use Rattle.ring.specs.Around.{around}
use Rattle.queue.proofs.LineLaws.{line_pushed, line_gone, line_waits, length_flags_are}
use Rattle.queue.proofs.queue.Queue.push.Goals as goal

pub bounds-flags-at_v : goal.bounds-flags-at_v
bounds-flags-at_v c = let q = c.args.self.now in omega (arith, c.requires, length_flags_are q.words.now q.flags.now q.head q.count q.in_line)

pub returns-then-flags-at_v-gt0-clause-waits : goal.returns-then-flags-at_v-gt0-clause-waits
returns-then-flags-at_v-gt0-clause-waits c =
    let q = c.args.self.now in
    let h = line_waits q.words.now q.flags.now q.head q.count q.in_line c.args.v.0 c.requires (omega (arith, c.if-flags-at_v-gt0.true)) in
    record { is = sym (push_old _ c.args.v.0 h); head_is = refl; line = q.in_line }

pub bounds-flags-at_v-2 : goal.bounds-flags-at_v-2
bounds-flags-at_v-2 c = let q = c.args.self.now in omega (arith, c.requires, length_flags_are q.words.now q.flags.now q.head q.count q.in_line)

pub invariant_of-self-2 : goal.invariant_of-self-2
unfolding around
invariant_of-self-2 c =
    let q = c.args.self.now in
    let v = c.args.v.0 in
    let e : at q.flags.now v ≡ 0 = omega arith in
    let h = line_gone q.words.now q.flags.now q.head q.count q.in_line v c.requires e in
    let done = line_pushed q.words.now q.flags.now q.head q.count q.in_line v c.requires h in
    record { in_line = rw c.wrap.ensures.is done.line }

pub returns-clause-waits : goal.returns-clause-waits
unfolding around
returns-clause-waits c =
    let q = c.args.self.now in
    let v = c.args.v.0 in
    let e : at q.flags.now v ≡ 0 = omega arith in
    let h = line_gone q.words.now q.flags.now q.head q.count q.in_line v c.requires e in
    rw c.wrap.ensures.is (line_pushed q.words.now q.flags.now q.head q.count q.in_line v c.requires h)
