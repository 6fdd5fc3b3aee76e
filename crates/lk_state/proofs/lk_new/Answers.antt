use mathlib.Core.Path.{refl}
use mathlib.Core.List.{[], ◌∷◌}
use Rattle.rules.specs.Step.{begin}
use Rattle.lk_state.specs.Stacks.{legs_in, stops_in}
use Rattle.lk_state.specs.States.{step_of}
use Rattle.lk_state.proofs.lk_new.Goals as goal

pub returns : goal.returns
unfolding begin step_of legs_in stops_in
returns c = record { room = record { steps_long = refl; added_long = refl; removed_long = refl }; steps_none = refl; added_none = refl; removed_one = refl; first_is = refl; is = λ t i. record { track = t; stops = []; added = []; removed = c.leg_word.ensures.is i ∷ [] } }
