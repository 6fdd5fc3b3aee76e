use mathlib.Core.Path.{◌≡◌, refl, sym, ap, ◌∙◌}
use native.Mathlib.Omega.{arith}
use Rattle.rules.specs.Journal.{track_of}
use Rattle.rules.specs.Kicks.{kind_at}
use Rattle.journal.specs.Tracks.{track_in}
use Rattle.laws.proofs.KickKindLaws.{kick_global, kick_segment}
use Rattle.kicks.specs.Kinds.{kick_number}
use Rattle.kicks.specs.Kicking.{legs_in, global_drawn}
use Rattle.kicks.proofs.ExchangeLaws.{exchange_segment}
use Rattle.kicks.proofs.KickingLaws.{made_wider}
use Rattle.kicks.proofs.KindLaws.{segments_stay}
use Rattle.kicks.proofs.kick.Goals as goal

pub returns-in-Global-clause-kicked : goal.returns-in-Global-clause-kicked
unfolding track_of global_drawn
returns-in-Global-clause-kicked c =
    let a = c.args in
    let t = a.work.now.track.now in
    let two : kind_at a.matrix.now.n (kick_number a.kind) ≡ 2 = sym c.kick_kind_at.ensures ∙ ap kick_number c.in-Global.is in
    rw (kick_global (legs_in a.matrix.now) (kick_number a.kind) a.state.now (track_in t) (rw c.requires.ready.size at two)) c.global_kick.ensures.kicked

pub draw_cut-cut-requires-clause-kind_bound : goal.draw_cut-cut-requires-clause-kind_bound
draw_cut-cut-requires-clause-kind_bound c = (segments_stay c.args.matrix.now.n c.args.kind _ c.kick_kind_at.ensures c.in_default.not-Global).0

pub draw_cut-cut-requires-clause-kind_value : goal.draw_cut-cut-requires-clause-kind_value
draw_cut-cut-requires-clause-kind_value c = (segments_stay c.args.matrix.now.n c.args.kind _ c.kick_kind_at.ensures c.in_default.not-Global).1

pub returns-in_default-clause-kicked : goal.returns-in_default-clause-kicked
unfolding track_of
returns-in_default-clause-kicked c =
    let a = c.args in
    let d = legs_in a.matrix.now in
    let t = track_in a.work.now.track.now in
    let e = c.requires.ready.size in
    let stays = segments_stay a.matrix.now.n a.kind _ c.kick_kind_at.ensures c.in_default.not-Global in
    let cut = c.draw_cut-cut.result in
    let g = c.draw_cut-cut.ensures in
    rw (kick_segment d (kick_number a.kind) a.state.now c.draw_cut-cut.new.state cut.start.0 cut.a cut.b cut.c t (rw e at stays.1) stays.0 (rw e at g.is) g.middle)
    (record { made = made_wider (rw (exchange_segment d cut.a cut.b cut.c cut.start.0 t) at c.exchange.ensures.made) 30 35 (omega arith) (omega arith); state = refl; some = g.some })
