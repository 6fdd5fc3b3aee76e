-- What a record has given after one more word.
use Rattle.std.proofs.Common.{◌≡◌, ◌∙◌, ℕ, ◌+◌, ◌-◌, ◌*◌, ◌<◌, ◌≤◌, List, ◌++◌, length, drop, ap, refl, arith, below_more, slice_index_or, slice_set}
use native.Mathlib.Decide.{dec_le}
use Rattle.std.specs.Int.{w16, from_le_bytes}
use Rattle.std.proofs.lemmas.List.{drop-drop, drop_all, get_or-set_same, get_or-set_other, get_or_append_left, get_or-append_right}
use Rattle.std.specs.Prelude.{slice_index}
use Rattle.lending.specs.Reading.{Gives, half_at, next_bytes}

-- past i words and one more
pub drop_next : (i : ℕ) (bytes : List ℕ) → drop 2 (drop (2 * i) bytes) ≡ drop (2 * (i + 1)) bytes
drop_next i bytes = drop-drop 2 (2 * i) bytes ∙ ap (λ n. drop n bytes) (omega arith)

-- i words are given, and the next one
pub gives_next : (bytes words : List ℕ) (i : ℕ) → Gives bytes words i → slice_index words i ≡ half_at bytes i → Gives bytes words (i + 1)
gives_next bytes words i below last k h = grind arith

-- what holds of each of i words still does once the next one is written, and of that one too
pub holds_next : {A : Type 0} (P : ℕ → A → Type 0) (xs : List A) (i : ℕ) (x : A) → i < length xs → ((k : ℕ) (d : A) → k < i → P k (slice_index_or xs k d)) → P i x → (k : ℕ) (d : A) → k < i + 1 → P k (slice_index_or (slice_set xs i x) k d)
holds_next P xs i x room below last k d h =
    below_more (λ j. P j (slice_index_or (slice_set xs i x) j d)) i
    (λ j g. rw (get_or-set_other xs i j x d (omega (arith, g))) (below j d g))
    (rw (get_or-set_same xs i x d room) last) k h

-- past the end each 16 bits are 0
pub half_past : (bytes : List ℕ) (k : ℕ) → length bytes ≤ 2 * k → half_at bytes k ≡ 0
half_past bytes k past = ap (λ s. from_le_bytes w16 (next_bytes 2 s)) (drop_all (2 * k) bytes past)

-- what holds of the first words and of those after them holds of all
pub both_hold : {A : Type 0} (P : ℕ → A → Type 0) (xs ys : List A) → ((k : ℕ) (d : A) → k < length xs → P k (slice_index_or xs k d)) → ((k : ℕ) (d : A) → length xs ≤ k → k < length xs + length ys → P k (slice_index_or ys (k - length xs) d)) → (k : ℕ) (d : A) → k < length xs + length ys → P k (slice_index_or (xs ++ ys) k d)
both_hold P xs ys first after k d h = go (dec_le (length xs) k)
  where
    go : Dec (length xs ≤ k) → P k (slice_index_or (xs ++ ys) k d)
    go (yes past) = rw (get_or-append_right xs ys (length xs) k d refl past) (after k d past h)
    go (no near) = let below : k < length xs = omega (arith, near) in rw (get_or_append_left xs ys d k below) (first k d below)
