-- What the levels of `lk_deepen` lead to, and what its parts promise. Assumes nothing.
use Rattle.std.specs.Prelude.{ℕ, zero, suc, ◌+◌, ◌-◌, ◌≤◌, ◌<◌, ◌≡◌, true, List, [], ◌∷◌, length}
use Rattle.rules.specs.Words.{Stop, Place, Time, Round}
use Rattle.rules.specs.Journal.{Track, track_of, rollback, good_journal}
use Rattle.rules.specs.Plan.{Plan, leg_of}
use Rattle.rules.specs.Improve.{Trial, Found, nothing}
use Rattle.rules.specs.Step.{Step, begin}
use Rattle.rules.specs.Lk.{Best, better, flipped, deepen}
use Rattle.rules.specs.SharedWords.{Tied}
use Rattle.journal.specs.Journalled.{Grew}
use Rattle.journal.specs.Tracks.{track_in}
use Rattle.journal.specs.declared.track.Track.{Track as Kept}
use Rattle.lk_state.specs.Stacks.{legs_in, stops_in, Stepping}
use Rattle.lk_state.specs.declared.LkState.{LkState}
use Rattle.lk_scans.specs.Picked.{shown, cont_is, Fine}
use Rattle.lk.specs.declared.Walk.{Walk}

-- what the continuation x of the first level leads to
unfoldable pub led : Plan → Stop → Stop → Track → Trial → Best
led p t1 t2 t x =
    let s = begin t t1 t2 in
    let s' = flipped t1 t2 s x in
    deepen p t1 24 s' x.t4 x.partial (better (record { gain = 0; step = s }) s' x.partial (leg_of p x.t4 t1))

-- "rolls back to it": the best closed gain as what a side finds
unfoldable pub found_of : Stop → Stop → Track → Best → Found
found_of t1 t2 t b = elim b.gain [ zero ↦ nothing t | suc g ↦ record { gain = suc g; track = b.step.track; touched = t1 ∷ t2 ∷ b.step.stops } ]

-- the step of the first `len` moves of a state
unfoldable pub step_at : LkState → ℕ → Track → Step
step_at st len t = record { track = t; stops = stops_in st.steps len; added = legs_in st.added len; removed = legs_in st.removed (len + 1) }

-- the best closed gain after `len` moves, to which a mark in the journal leads back
unfoldable pub best_at : LkState → Time → ℕ → ℕ → Track → Best
best_at st gain len mark t = record { gain = gain; step = step_at st len (rollback mark t) }

-- the mark kept: the new one where it closes with a greater gain, else the old
pub record Closed (gain : Time) (len held : ℕ) (partial closing : Time) (level mark : ℕ) (gain' : Time) (len' held' : ℕ) : Type 0 where
  pub new : closing + gain < partial → (gain' ≡ partial - closing) × ((len' ≡ level) × (held' ≡ mark))
  pub old : partial ≤ closing + gain → (gain' ≡ gain) × ((len' ≡ len) × (held' ≡ held))

-- the continuation that a level is gone on with, of a list of at most one; none beyond the 25th
pub record Leveled (n : ℕ) (g : Time) (level : ℕ) (xs : List Trial) (partial : Time) (t3 t4 : Stop) : Type 0 where
  pub on : level < 25 → shown (cont_is partial t3 t4) [] ≡ xs
  pub last : 25 ≤ level → partial ≡ 0
  pub fine : Fine n g partial t3 t4

-- a walk down the levels: the best closed gain is the goal's, the mark leads back to its track, and some moves lie beyond it
pub record Walked (goal : Best) (t : Track) (journal : List ℕ) (held : ℕ) (round : Round) (places : List Place) (journal' : List ℕ) (held' : ℕ)
    (gain : Time) (steps : List ℕ) (len mark : ℕ) : Type 0 where
  pub gain_is : gain ≡ goal.gain
  pub track_is : rollback mark (track_of round journal' held') ≡ goal.step.track
  pub stops_is : stops_in steps len ≡ goal.step.stops
  pub none : gain ≡ 0 → goal.step.track ≡ t
  pub tied : Tied round places
  pub good : good_journal (length round) journal' held' ≡ true
  pub grew : Grew journal held journal' held'
  pub low : held ≤ mark
  pub high : mark ≤ held'
  pub most : held' ≤ held + 25
  pub few : len ≤ 25
  pub below : Stepping steps len (length round)

-- a was left as b by a walk w
abbrev pub Walks : Best → Kept → Kept → Walk → Type 0
Walks goal a b w = Walked goal (track_in a) a.journal.now a.held b.stops.now b.places.now b.journal.now b.held w.mark.gain w.steps w.mark.len w.mark.held
