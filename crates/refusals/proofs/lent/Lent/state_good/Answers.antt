use Prim.Native.Nat.{ℕ}
use mathlib.Core.Path.{sym, ap, ◌∙◌}
use lib.ListN.{length}
use Rattle.rules.specs.Numbers.{agree}
use Rattle.laws.proofs.CheckLaws.{passes_tied}
use Rattle.refusals.specs.Lents.{carried_in}
use Rattle.refusals.proofs.StateLaws.{round_fails, queue_fails, journal_fails, time_tells}
use Rattle.refusals.proofs.lent.Lent.state_good.Goals as goal

pub returns-then-not-round_good : goal.returns-then-not-round_good
returns-then-not-round_good c =
    let l = c.args.self.now in
    let s = c.args.state in
    round_fails (length l.round.now) l.matrix.now l.round.now l.places.now l.queue.now l.flags.now l.journal.now (carried_in s) (sym c.round_good.ensures ∙ c.if-not-round_good.true)

pub returns-then-not-queue_good : goal.returns-then-not-queue_good
returns-then-not-queue_good c =
    let l = c.args.self.now in
    let s = c.args.state in
    queue_fails (length l.round.now) l.matrix.now l.round.now l.places.now l.queue.now l.flags.now l.journal.now (carried_in s) (sym c.round_good.ensures ∙ c.if-not-round_good.false) (sym (c.queue_good.ensures ∙ ap (λ (n : ℕ). agree n l.queue.now l.flags.now s.head s.count) c.requires.queue_len) ∙ c.if-not-queue_good.true)

pub returns-then-not-journal_good : goal.returns-then-not-journal_good
returns-then-not-journal_good c =
    let l = c.args.self.now in
    let s = c.args.state in
    journal_fails (length l.round.now) l.matrix.now l.round.now l.places.now l.queue.now l.flags.now l.journal.now (carried_in s) (sym c.round_good.ensures ∙ c.if-not-round_good.false) (sym (c.queue_good.ensures ∙ ap (λ (n : ℕ). agree n l.queue.now l.flags.now s.head s.count) c.requires.queue_len) ∙ c.if-not-queue_good.false) (sym c.journal_good.ensures ∙ c.if-not-journal_good.true)

pub time_good-requires-clause-stops : goal.time_good-requires-clause-stops
time_good-requires-clause-stops c =
    let l = c.args.self.now in
    record { below = (passes_tied (length l.round.now) l.round.now l.places.now c.requires.square.few (sym c.round_good.ensures ∙ c.if-not-round_good.false)).stop }

pub returns : goal.returns
returns c =
    let l = c.args.self.now in
    let s = c.args.state in
    c.time_good.ensures ∙ time_tells (length l.round.now) l.matrix.now l.round.now l.places.now l.queue.now l.flags.now l.journal.now (carried_in s) (sym c.round_good.ensures ∙ c.if-not-round_good.false) (sym (c.queue_good.ensures ∙ ap (λ (n : ℕ). agree n l.queue.now l.flags.now s.head s.count) c.requires.queue_len) ∙ c.if-not-queue_good.false) (sym c.journal_good.ensures ∙ c.if-not-journal_good.false)
