use Prim.Native.Nat.{ℕ}
use mathlib.Core.List.{[]}
use mathlib.Core.Path.{refl, sym, ap, subst, ◌∙◌}
use native.Mathlib.Omega.{arith}
use Rattle.rules.specs.Memory.{Lent, Carried, state_in}
use Rattle.rules.specs.Plan.{leg_in}
use Rattle.rules.specs.Queue.{flags_of}
use Rattle.rules.specs.Search.{shaken}
use Rattle.laws.proofs.PermLaws.{perm_round}
use Rattle.queue.specs.Lines.{InLine}
use Rattle.walks.specs.Walking.{bare, Shook}
use Rattle.walks.specs.Standing.{bare_in, carried_in}
use Rattle.walks.proofs.HoldLaws.{idle_is, desk_after}
use Rattle.walks.proofs.RestartLaws.{none_wait, lies_works, lies_shook}
use Rattle.walks.proofs.turns.reshape.Goals as goal

pub load_round-time-requires-clause-is_round : goal.load_round-time-requires-clause-is_round
load_round-time-requires-clause-is_round c = perm_round c.args.best.now c.requires.perm

pub invariant_of-queue : goal.invariant_of-queue
invariant_of-queue c =
    let q = c.args.work.now.queue.now in
    let d = c.requires.desk in
    let f = c.load_round-time.new.flags in
    let l = none_wait q.words.now f c.args.matrix.now.n (omega (arith, d.two, d.queue_long)) q.in_line.few d.queue_long (c.load_round-time.ensures.flags_are ∙ ap (λ (m : ℕ). flags_of m []) c.requires.best_fits) in
    record { in_line = subst (λ (h : ℕ). InLine q.words.now f h q.count) (sym c.requires.idle.begins) (subst (InLine q.words.now f 0) (sym c.requires.idle.nobody) l) }

pub returns-clause-shook : goal.returns-clause-shook
returns-clause-shook c =
    let a = c.args in
    let m = a.matrix.now in
    let w = a.work.now in
    let z = c.load_round-time in
    let l : Lent = bare m.n m.times.now z.new.round z.new.places w.queue.now.words.now z.new.flags w.scratch.now w.track.now.journal.now in
    let d = desk_after (bare_in m w) c.requires.desk z.new.round z.new.places w.queue.now.words.now z.new.flags w.scratch.now w.track.now.journal.now (record { round_same = z.auto.round; places_same = z.auto.places; queue_same = refl; flags_same = z.auto.flags; scratch_same = refl; journal_same = refl }) in
    let k = c.shake in
    let b = k.new.work in
    lies_shook l z.result (lies_works l d a.best.now z.result c.requires.best_fits z.ensures) a.best.now z.ensures.laid.round_is a.state.now
    (subst (λ (x : Carried). Shook (shaken (leg_in m.n m.times.now) 32 0 (state_in l x) a.state.now) (bare_in m b) (carried_in b k.result) k.new.state) (idle_is {w = w} z.result c.requires.idle) k.ensures.shakes)
