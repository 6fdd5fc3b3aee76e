-- The demands are not empty: a run of two stops, a load, a kick that moves them and an undo, none of them refused.
use Prim.Native.Nat.{ℕ}
use mathlib.Core.Path.{◌≡◌, refl}
use mathlib.Core.List.{List, [], ◌∷◌, ◌++◌}
use lib.IntN.{pos}
use lib.ListN.{replicate}
use Rattle.rules.specs.Opened.{opened}
use Rattle.rules.specs.Words.{Place, Round, Time}
use Rattle.rules.specs.Memory.{Carried, Lent}
use Rattle.promises.specs.Promises.{given}
use Rattle.demands.specs.Demands.{Made, Run, Untouched, begun, commits, kick, kicked, last_commit, load, loaded, onward, undo, undone}

abbrev legs : List Time
legs = 0 ∷ 5 ∷ 5 ∷ 0 ∷ []

-- lent memory with this round, places, queue, flags and journal
abbrev holding : Round → List Place → List ℕ → List ℕ → List ℕ → Lent
holding round places queue flags journal = record {
  n = 2;
  k = 1;
  ka = 0;
  matrix = legs;
  near = 1 ∷ 0 ∷ [];
  alpha = [];
  round = round;
  places = places;
  queue = queue;
  flags = flags;
  scratch = 0 ∷ 0 ∷ [];
  journal = journal;
}

abbrev carrying : ℕ → ℕ → Time → Carried
carrying count held time = record { head = 0; count = count; held = held; time = time }

abbrev fresh : Lent
fresh = holding (0 ∷ 0 ∷ []) (0 ∷ 0 ∷ []) (0 ∷ 0 ∷ []) (0 ∷ 0 ∷ []) (replicate 2560 0)

abbrev after_load : Lent
after_load = holding (0 ∷ 1 ∷ []) (0 ∷ 1 ∷ []) (0 ∷ 0 ∷ []) (0 ∷ 0 ∷ []) (replicate 2560 0)

abbrev after_kick : Lent
after_kick = holding (1 ∷ 0 ∷ []) (1 ∷ 0 ∷ []) (1 ∷ 0 ∷ []) (1 ∷ 1 ∷ []) ((2 ∷ 0 ∷ 1 ∷ 0 ∷ 0 ∷ []) ++ replicate 2555 0)

abbrev after_undo : Lent
after_undo = holding (0 ∷ 1 ∷ []) (0 ∷ 1 ∷ []) (1 ∷ 0 ∷ []) (0 ∷ 0 ∷ []) ((2 ∷ 0 ∷ 1 ∷ 0 ∷ 0 ∷ []) ++ replicate 2555 0)

-- ---- the three calls
load_made : Made fresh (carrying 0 0 0) 0 after_load (carrying 0 0 10) (load (0 ∷ 1 ∷ []))
unfolding opened
load_made = loaded (record { number_is = refl; stands = record { lent_refused = λ h. absurd (h refl); state_refused = λ h. absurd (h refl); left = λ e. record { round_left = refl; places_left = refl; queue_left = refl; flags_left = refl; journal_left = refl; head_left = refl; count_left = refl; held_left = refl; time_left = refl } } })

kick_made : Made after_load (carrying 0 0 10) 0 after_kick (carrying 2 1 10) (kick 2 2)
unfolding opened given
kick_made = kicked {x' = 2164539522} {change = pos 0} (record { number_is = refl; stands = record { lent_refused = λ h. absurd (h refl); state_refused = λ h. absurd (h refl); left = λ e. record { round_left = refl; places_left = refl; queue_left = refl; flags_left = refl; journal_left = refl; head_left = refl; count_left = refl; held_left = refl; time_left = refl } }; draw_is = refl; change_is = refl })

undo_made : Made after_kick (carrying 2 1 10) 0 after_undo (carrying 0 0 10) undo
unfolding opened
undo_made = undone (record { number_is = refl; stands = record { lent_refused = λ h. absurd (h refl); state_refused = λ h. absurd (h refl); left = λ e. record { round_left = refl; places_left = refl; queue_left = refl; flags_left = refl; journal_left = refl; head_left = refl; count_left = refl; held_left = refl; time_left = refl } } })

untouched : (l : Lent) → l.matrix ≡ legs → Untouched legs l l
untouched l e = record { same_matrix = e; same_round = refl; same_places = refl; same_queue = refl; same_flags = refl; same_journal = refl }

-- ---- the run
pub two_stops : Run 2 legs after_undo (carrying 0 0 10)
two_stops = onward (onward (begun refl refl load_made) (untouched after_load refl) (kick 2 2) kick_made) (untouched after_kick refl) undo undo_made

-- its last commit is the load
pub two_stops_commit : last_commit two_stops ≡ record { round = 0 ∷ 1 ∷ []; time = 10 }
unfolding last_commit commits two_stops
two_stops_commit = refl
