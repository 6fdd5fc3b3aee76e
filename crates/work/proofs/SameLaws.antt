-- Memory that stays in its place, call after call.
use mathlib.Core.Path.{refl, ◌∙◌}
use Rattle.work.specs.declared.work.Work.{Work}
use Rattle.work.specs.Works.{SameWork}

pub work_stays : (a : Work) → SameWork a a
work_stays a =
    record { same_track = refl; same_queue = refl; same_scratch = refl; same_stops = refl; same_places = refl; same_journal = refl; same_words = refl; same_flags = refl; size = refl; room = refl }

pub work_through : {a b c : Work} → SameWork a b → SameWork b c → SameWork a c
work_through p q =
    record {
      same_track = q.same_track ∙ p.same_track;
      same_queue = q.same_queue ∙ p.same_queue;
      same_scratch = q.same_scratch ∙ p.same_scratch;
      same_stops = q.same_stops ∙ p.same_stops;
      same_places = q.same_places ∙ p.same_places;
      same_journal = q.same_journal ∙ p.same_journal;
      same_words = q.same_words ∙ p.same_words;
      same_flags = q.same_flags ∙ p.same_flags;
      size = q.size ∙ p.size;
      room = q.room ∙ p.room;
    }
