-- What a read put after the filled front was taken after it.
use Rattle.std.proofs.Common.{◌≡◌, ◌∙◌, ℕ, ◌+◌, ◌≤◌, List, ◌++◌, rules, length, take, drop, ap, sym, subst, le_refl, drop_at, length-take-le}
use Rattle.std.proofs.lemmas.Slice.{take-put_mid_below}
use Rattle.std.proofs.lemmas.List.{take-append-le}
use Rattle.std.specs.Io.KnownBytes.{Consumes}
use Rattle.std.proofs.KnownBytes.{Consumes-trans}
use borrow.Rule.Slice.PartMut.{put_mid, post_of}
use lib.Seq.{take-add}
use Rattle.replay.proofs.list.fill.Goals as goal

-- the front of a list into which other items were put, as far as some of them
take-put_more : (a k n : ℕ) (xs ys : List ℕ) → a ≤ length xs → n ≤ length ys → take (a + n) (put_mid a k xs ys) ≡ take a xs ++ take n ys
take-put_more a k n xs ys within fits =
    let whole = put_mid a k xs ys in
    let after = post_of a k xs in
    let more : take n (drop a whole) ≡ take n ys =
    ap (take n) (drop_at (take a xs) (ys ++ after) a (length-take-le a xs within)) ∙ take-append-le n ys after fits in
    take-add a n whole ∙ ap (λ l. l ++ take n (drop a whole)) (take-put_mid_below _ _ _ _ _ (le_refl _) within) ∙ ap (λ l. take a xs ++ l) more

pub loop-filled-preserved : goal.loop-filled-preserved
loop-filled-preserved g c =
    let before = c.loop-filled.invariant in
    let read = c.in-Ok.ensures in
    record {
      same = search rules;
      room = search rules;
      taken = subst (Consumes _ _) (sym (take-put_more _ _ _ _ _ before.room read.bound.0)) (Consumes-trans _ _ _ _ _ before.taken read.bytes.0);
    }
