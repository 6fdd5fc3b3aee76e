use Rattle.rules.specs.Rewrite.{swap_at}
use Rattle.laws.proofs.TiedLaws.{tied_swap}
use Rattle.rewrite.proofs.swap_raw.Goals as goal

pub returns : goal.returns
unfolding swap_at
returns c =
    let a = c.args in
    record { is = cc; tied = tied_swap a.round.now a.places.now a.i a.j c.requires.tied c.requires.i_low c.requires.j_low }
