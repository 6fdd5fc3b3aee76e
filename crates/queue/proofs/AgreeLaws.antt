-- Number 7: queue and flags that agree are in line, and those in line agree.
use Prim.Native.Nat.{ℕ, ◌≤◌}
use mathlib.Core.Path.{◌≡◌, sym, ap, ◌∙◌}
use mathlib.Core.Bool.{true, ◌&&◌}
use mathlib.Core.List.{List}
use borrow.Author.Tests.{lt-ltb, ltb-true, le-leb, leb-true}
use lib.Dec.{ltb, leb}
use lib.ListN.{length}
use Rattle.rules.specs.Words.{Stop, Place}
use Rattle.rules.specs.Lists.{once, same, every}
use Rattle.rules.specs.Queue.{waiting, flags_of}
use Rattle.rules.specs.Numbers.{agree}
use Rattle.laws.proofs.ChoiceLaws.{and-true, true-and}
use Rattle.laws.proofs.CheckLaws.{same_is, same_self}
use Rattle.laws.proofs.EveryLaws.{below_every, every_below}
use Rattle.laws.proofs.QueueLaws.{once_tally, tally_once}
use Rattle.queue.specs.Lines.{InLine}

module _ (queue flags : List ℕ) (head : Place) (count : ℕ) where
  pub agree_line : length queue ≤ 4096 → agree (length queue) queue flags head count ≡ true → InLine queue flags head count
  unfolding agree
  agree_line few e =
      let n : ℕ = length queue in
      let q : List Stop = waiting queue head count in
      let b4 = and-true (ltb head n && leb count n && every (λ v. ltb v n) q && once q) (same flags (flags_of n q)) e in
      let b3 = and-true (ltb head n && leb count n && every (λ v. ltb v n) q) (once q) b4.0 in
      let b2 = and-true (ltb head n && leb count n) (every (λ v. ltb v n) q) b3.0 in
      let b1 = and-true (ltb head n) (leb count n) b2.0 in
      record {
        few = few;
        start = ltb-true head n b1.0;
        room = leb-true count n b1.1;
        stops = record { below = every_below n q b2.1 };
        single = once_tally q b3.1;
        agreed = same_is flags (flags_of n q) b4.1;
      }

  pub line_agrees : InLine queue flags head count → agree (length queue) queue flags head count ≡ true
  unfolding agree
  line_agrees i =
      let n : ℕ = length queue in
      let q : List Stop = waiting queue head count in
      true-and (ltb head n && leb count n && every (λ v. ltb v n) q && once q) (same flags (flags_of n q))
      (true-and (ltb head n && leb count n && every (λ v. ltb v n) q) (once q)
      (true-and (ltb head n && leb count n) (every (λ v. ltb v n) q)
      (true-and (ltb head n) (leb count n) (lt-ltb head n i.start) (le-leb count n i.room))
      (below_every n q i.stops.below))
      (tally_once q i.single))
      (ap (same flags) (sym i.agreed) ∙ same_self flags)
