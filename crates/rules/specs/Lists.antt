-- Choices and lists that the rules are written with. Assumes nothing.
use Rattle.std.specs.Prelude.{ℕ, zero, suc, ◌+◌, Bool, true, false, not, ◌&&◌, List, [], ◌∷◌, ◌++◌, eqb, get_or}

-- one of two, by a test: the one that is not taken waits, so that a rule may call itself there (the library's `if .. then .. else` computes both)
infix 20 when◌then◌else◌
abbrev pub when◌then◌else◌ : {A : Type 0} → Bool → A → A → A
when c then a else b = elim c [ true ↦ a | false ↦ b ]

-- element i of a list of numbers; 0 beyond its end
abbrev pub at : List ℕ → ℕ → ℕ
at l i = get_or l i 0

-- `count` numbers, rising by one, from a on
unfoldable pub rising : ℕ → ℕ → List ℕ
rising zero a = []
rising (suc count) a = a ∷ rising count (a + 1)

-- v is in the list
unfoldable pub has : List ℕ → ℕ → Bool
has [] v = false
has (x ∷ xs) v = elim (eqb x v) [ true ↦ true | false ↦ has xs v ]

-- no number is in the list twice
unfoldable pub once : List ℕ → Bool
once [] = true
once (x ∷ xs) = not (has xs x) && once xs

-- how often v is in the list
unfoldable pub one : ℕ → ℕ → ℕ
one x v = when eqb x v then 1 else 0

unfoldable pub tally : List ℕ → ℕ → ℕ
tally [] v = 0
tally (x ∷ xs) v = one x v + tally xs v

-- two lists are equal
unfoldable pub same : List ℕ → List ℕ → Bool
same [] [] = true
same [] (y ∷ ys) = false
same (x ∷ xs) [] = false
same (x ∷ xs) (y ∷ ys) = elim (eqb x y) [ true ↦ same xs ys | false ↦ false ]

module _ {A B : Type 0} where
  -- what f gives for each element, in order
  unfoldable pub each : (A → List B) → List A → List B
  each f [] = []
  each f (x ∷ xs) = f x ++ each f xs

module _ {A : Type 0} where
  -- the elements that pass
  unfoldable pub keep : (A → Bool) → List A → List A
  keep p [] = []
  keep p (x ∷ xs) = elim (p x) [ true ↦ x ∷ keep p xs | false ↦ keep p xs ]

  -- the elements before the first that fails
  unfoldable pub keep_while : (A → Bool) → List A → List A
  keep_while p [] = []
  keep_while p (x ∷ xs) = elim (p x) [ true ↦ x ∷ keep_while p xs | false ↦ [] ]

  -- all elements pass
  unfoldable pub every : (A → Bool) → List A → Bool
  every p [] = true
  every p (x ∷ xs) = elim (p x) [ true ↦ every p xs | false ↦ false ]
