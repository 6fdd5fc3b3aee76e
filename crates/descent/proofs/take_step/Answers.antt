use mathlib.Core.Path.{sym, ap, ◌∙◌}
use mathlib.Core.List.{◌∷◌}
use native.Mathlib.Omega.{arith}
use Rattle.rules.specs.Journal.{track_of}
use Rattle.rules.specs.Queue.{waiting}
use Rattle.queue.specs.Queues.{waiting_in}
use Rattle.descent.proofs.take_step.Goals as goal

pub returns-clause-took : goal.returns-clause-took
unfolding track_of
returns-clause-took c =
    let p = c.pop_front-v in
    let q = p.new.self in
    let t = p.ensures.took in
    let s = c.step_from.ensures.stepped in
    record {
      v = p.result.0;
      vs = waiting_in q;
      is = t.is ∙ ap (λ ws. p.result.0 ∷ waiting ws q.head q.count) (sym p.ensures.words);
      below = omega (arith, t.below, c.args.work.now.queue_fits);
      gain_is = s.gain_is;
      made = s.made;
      waits = s.waits.is;
      line = s.waits.line;
    }
