-- What callers of a kick go on with: the recount after it, and that somebody waits.
use Prim.Native.Nat.{ℕ, ◌+◌, ◌≤◌, ◌<◌}
use mathlib.Core.Path.{◌≡◌, ap}
use mathlib.Core.List.{List}
use native.Mathlib.Omega.{arith}
use lib.ListN.{length}
use Rattle.rules.specs.Words.{Stop, Place, Round, Legs}
use Rattle.rules.specs.Ring.{recount}
use Rattle.rules.specs.Queue.{push_all}
use Rattle.rules.specs.Journal.{Track, track_of}
use Rattle.rules.specs.Kicks.{kick, kicked_state}
use Rattle.rules.specs.State.{State}
use Rattle.rules.specs.SharedWords.{Tied}
use Rattle.laws.proofs.TiedLaws.{tied_perm}
use Rattle.laws.proofs.KickLaws.{Kicks as Counts}
use Rattle.laws.proofs.KickedLaws.{kick_kicks, kicked_some}
use Rattle.laws.proofs.WaitLaws.{waiting_length}
use Rattle.kicks.specs.Kicking.{Kicks}

module _ (d : Legs) (kind x : ℕ) {r : Round} {places : List Place} {journal : List ℕ} {held : ℕ} {q : List Stop} {head : Place} (two : 2 ≤ length r) (tied : Tied r places)
    {round : Round} {places' : List Place} {journal' : List ℕ} {held' : ℕ} {queue' flags' : List ℕ} {head' : Place} {count' added removed new : ℕ}
    (k : Kicks (kick d kind x (track_of r journal held)) x 30 35 q head journal held round places' journal' held' queue' flags' head' count' added removed new) where
  counts : Counts d (track_of r journal held) 30 (kick d kind x (track_of r journal held)).made
  unfolding track_of
  counts = kick_kicks d (track_of r journal held) (tied_perm tied) (omega arith) kind x

  -- no leg is asked to take as long as its return
  pub kick_recount : recount d round + removed ≡ recount d r + added
  unfolding track_of
  kick_recount =
      let e : round ≡ (kick d kind x (track_of r journal held)).made.track.round = ap (λ (t : Track). t.round) k.made.moved.is in
      omega (arith, ap (recount d) e, counts.counted.legs, k.made.added_is.is, k.made.removed_is.is)

  pub kick_waits : 0 < count'
  unfolding kicked_state
  kick_waits =
      let s : State = record { track = track_of r journal held; queue = q; time = 0 } in
      let some : 0 < length (push_all q (kick d kind x (track_of r journal held)).made.touched) = kicked_some d s (kick d kind x (track_of r journal held)).made 30 counts in
      omega (arith, some, ap length k.made.waits.is, waiting_length queue' head' count' k.made.waits.line.room)
