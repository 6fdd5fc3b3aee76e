-- How much of the memory is there. Assumes nothing.
use Rattle.std.specs.Prelude.{◌≡◌, ◌≤◌, [], take, replicate, vec_len, vec_capacity}
use Rattle.lending.specs.declared.memory.TheConstants.{ROUND, STOPS, JOURNAL}
use Rattle.lending.specs.declared.memory.Work.{Work}
use Rattle.lending.specs.declared.session.Lengths.{Lengths}

-- all that calls write is there, and every word is 0
pub record IsBlank (work : Work) : Type 0 where
  pub round : work.round.items ≡ replicate ROUND 0
  pub places : work.places.items ≡ replicate STOPS 0
  pub queue : work.queue.items ≡ replicate STOPS 0
  pub flags : work.flags.items ≡ replicate STOPS 0
  pub scratch : work.scratch.items ≡ replicate STOPS 0
  pub journal : work.journal.items ≡ replicate JOURNAL 0

-- of what calls write the round alone is there, and there is room for the other slices
pub record HasRoomAlone (work : Work) : Type 0 where
  pub round : work.round.items ≡ replicate ROUND 0
  pub places : (work.places.items ≡ []) × (STOPS ≤ vec_capacity work.places)
  pub queue : (work.queue.items ≡ []) × (STOPS ≤ vec_capacity work.queue)
  pub flags : (work.flags.items ≡ []) × (STOPS ≤ vec_capacity work.flags)
  pub scratch : (work.scratch.items ≡ []) × (STOPS ≤ vec_capacity work.scratch)
  pub journal : (work.journal.items ≡ []) × (JOURNAL ≤ vec_capacity work.journal)

-- every word that was there is 0, and no slice has another length
pub record IsCleared (old new : Work) : Type 0 where
  pub round : new.round.items ≡ replicate (vec_len old.round) 0
  pub places : new.places.items ≡ replicate (vec_len old.places) 0
  pub queue : new.queue.items ≡ replicate (vec_len old.queue) 0
  pub flags : new.flags.items ≡ replicate (vec_len old.flags) 0
  pub scratch : new.scratch.items ≡ replicate (vec_len old.scratch) 0
  pub journal : new.journal.items ≡ replicate (vec_len old.journal) 0

-- of each slice as many words were kept as there was room for
pub record HasKept (old work new : Work) : Type 0 where
  pub round : new.round.items ≡ take (vec_capacity old.round) work.round.items
  pub places : new.places.items ≡ take (vec_capacity old.places) work.places.items
  pub queue : new.queue.items ≡ take (vec_capacity old.queue) work.queue.items
  pub flags : new.flags.items ≡ take (vec_capacity old.flags) work.flags.items
  pub scratch : new.scratch.items ≡ take (vec_capacity old.scratch) work.scratch.items
  pub journal : new.journal.items ≡ take (vec_capacity old.journal) work.journal.items

-- but for the round, no more is there than is lent
pub record HoldsNoMore (work : Work) (lengths : Lengths) : Type 0 where
  pub places : vec_len work.places ≤ lengths.places
  pub queue : vec_len work.queue ≤ lengths.queue
  pub flags : vec_len work.flags ≤ lengths.flags
  pub scratch : vec_len work.scratch ≤ lengths.scratch
  pub journal : vec_len work.journal ≤ lengths.journal
