-- The number of a sheet, from its tests in their order.
use Prim.Native.Nat.{ℕ, ◌*◌, ◌/◌, ◌+◌, ◌≤◌, ◌<◌}
use mathlib.Core.Path.{◌≡◌, refl, sym, ◌∙◌}
use mathlib.Core.Bool.{Bool, true, false, ◌&&◌}
use mathlib.Core.List.{List, [], ◌∷◌}
use native.Mathlib.Omega.{arith}
use borrow.Author.Tests.{le-leb, lt-leb, leb-true, eqb-true}
use lib.Dec.{leb, eqb}
use lib.ListN.{length}
use Rattle.numbers.specs.declared.Refusal.{Refusal}
use Rattle.numbers.specs.declared.Refusal.TheVariants.{Size, Setting, Length, Room, Asymmetric, Entry, State, Full, Header as Heading, End}
use Rattle.numbers.specs.Numbers.{refusal_number}
use Rattle.rules.specs.Bits.{bits_of}
use Rattle.rules.specs.Numbers.{◌or◌, verdict, within, good_sizes, good_step}
use Rattle.rules.specs.Sheets.{Header, header_in, end_at, sheet_length, answer_length, sheet_checks}
use Rattle.laws.proofs.ChoiceLaws.{and-true}
use Rattle.sheets.specs.Sheet.{head_checks, good_told, good_end, good_lists, Narrow, Sizes, Ready}
use Rattle.sheets.proofs.HeaderLaws.{header_narrow}

-- a refusal has a number
refused : (r : Refusal) → refusal_number r ≡ 0 → ⊥
refused Size e = omega arith
refused Setting e = omega arith
refused Length e = omega arith
refused Room e = omega arith
refused Asymmetric e = omega arith
refused Entry e = omega arith
refused State e = omega arith
refused Full e = omega arith
refused Heading e = omega arith
refused End e = omega arith

-- the first test of two fails, or the second
two : (a b : Bool) (l : List _) (m : ℕ) → m ≡ verdict ((a or 9) ∷ (b or 1) ∷ []) → (m ≡ 0 → ⊥) → m ≡ verdict ((a or 9) ∷ (b or 1) ∷ l)
unfolding verdict
two true true l m e z = absurd (z e)
two true false l m e z = e
two false b l m e z = e

both : (a b : Bool) → 0 ≡ verdict ((a or 9) ∷ (b or 1) ∷ []) → (a ≡ true) × (b ≡ true)
unfolding verdict
both true true e = (refl, refl)
both true false e = absurd (omega arith)
both false b e = absurd (omega arith)

module _ (s : List ℕ) where
  abbrev head : Header
  head = header_in (bits_of s)

  module _ (room : ℕ) where
    pub number_short : length s < 16 → 9 ≡ verdict (sheet_checks s room)
    unfolding sheet_checks verdict
    number_short l = rw (lt-leb 16 (length s) l)

    module _ (l : 16 ≤ length s) where
      pub number_head : (r : Refusal) → refusal_number r ≡ verdict (head_checks head) → refusal_number r ≡ verdict (sheet_checks s room)
      unfolding sheet_checks head_checks
      number_head r e = rw (le-leb 16 (length s) l) (two (eqb head.version 1 && eqb head.spare 0) (within 2 128 head.n) _ (refusal_number r) e (refused r))

      module _ (f : 0 ≡ verdict (head_checks head)) where
        told : (eqb head.version 1 && eqb head.spare 0) ≡ true
        unfolding head_checks
        told = (both _ (within 2 128 head.n) f).0

        size : within 2 128 head.n ≡ true
        unfolding head_checks
        size = (both (eqb head.version 1 && eqb head.spare 0) _ f).1

        -- the tests that are left
        rest : verdict (sheet_checks s room) ≡ verdict ((good_told head or 2) ∷ (good_end head s or 10) ∷ (leb (answer_length head.n) room or 4) ∷ (good_lists head s or 6) ∷ [])
        unfolding sheet_checks verdict good_told good_end good_lists
        rest = rw (le-leb 16 (length s) l, told, size)

        pub narrow : Narrow head
        unfolding within
        narrow =
            let a = and-true (leb 2 head.n) (leb head.n 128) size in
            let b = header_narrow s l in
            record { low = leb-true 2 head.n a.0; high = leb-true head.n 128 a.1; near = omega (arith, b.0); alpha = omega (arith, b.1) }

        pub number_told : good_told head ≡ false → 2 ≡ verdict (sheet_checks s room)
        unfolding verdict
        number_told t = sym (rest ∙ (rw t))

        module _ (t : good_told head ≡ true) where
          pub number_end : good_end head s ≡ false → 10 ≡ verdict (sheet_checks s room)
          unfolding verdict
          number_end g = sym (rest ∙ (rw (t, g)))

          pub sizes : Sizes head
          unfolding good_told good_sizes within
          sizes =
              let a = and-true (good_sizes head.k head.ka && good_step head.ka head.step) (leb 1 head.seed) t in
              let b = and-true (good_sizes head.k head.ka) (good_step head.ka head.step) a.0 in
              let c = and-true (leb 1 head.k && leb head.k 20) (leb head.ka 5) b.0 in
              let d = and-true (leb 1 head.k) (leb head.k 20) c.0 in
              record { low = narrow.low; high = narrow.high; near = leb-true head.k 20 d.1; alpha = leb-true head.ka 5 c.1 }

          module _ (g : good_end head s ≡ true) where
            pub whole : end_at head ≤ 8 * length s
            unfolding good_end sheet_length
            whole = omega (arith, eqb-true (length s) ((end_at head + 7) / 8) (and-true (eqb (length s) ((end_at head + 7) / 8)) _ g).0)

            pub number_room : room < answer_length head.n → 4 ≡ verdict (sheet_checks s room)
            unfolding verdict
            number_room r = sym (rest ∙ (rw (t, g, lt-leb (answer_length head.n) room r)))

            module _ (r : answer_length head.n ≤ room) where
              pub number_lists : good_lists head s ≡ false → 6 ≡ verdict (sheet_checks s room)
              unfolding verdict
              number_lists x = sym (rest ∙ (rw (t, g, le-leb (answer_length head.n) room r, x)))

              pub number_none : good_lists head s ≡ true → 0 ≡ verdict (sheet_checks s room)
              unfolding verdict
              number_none x = sym (rest ∙ (rw (t, g, le-leb (answer_length head.n) room r, x)))

              pub ready : Ready head s room
              ready = record { sizes = sizes; long = l; ends = whole; answer = r }

-- all that a sheet's check takes
pub ruleset sheet_numbers = (number_short, number_head, narrow, number_told, number_end, sizes, whole, number_room, number_lists, number_none, ready)
