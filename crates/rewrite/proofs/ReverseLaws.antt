-- The loop of `reverse_positions` as a recursion, and that it comes to `reverse_at`.
use Prim.Native.Nat.{ℕ, zero, suc, ◌+◌, ◌-◌, ◌/◌, ◌≤◌, ◌<◌}
use mathlib.Core.Path.{◌≡◌, refl, sym, ap, ◌∙◌, subst}
use mathlib.Core.List.{List, [], ◌∷◌, ◌++◌, append_assoc, reverse, reverse-cons, reverse-append}
use native.Mathlib.Omega.{arith}
use lib.ListN.{length, take, drop, length-append, take-append-drop}
use lib.Seq.{get_or-append_seam, set-append_seam, append_snoc, length-take-le}
use Rattle.rules.specs.Words.{Place, Round}
use Rattle.rules.specs.Ring.{next, prev, turn}
use Rattle.rules.specs.Rewrite.{from, reverse_front, reverse_at, swap_at}
use Rattle.laws.proofs.RewriteLaws.{swap_at_length}
use Rattle.ring.specs.Around.{wrapped, around}
use Rattle.ring.proofs.AroundLaws.{next_around, prev_around, around_0}
use Rattle.laws.proofs.TurnLaws.{turn_length, turn_back}
use Rattle.ring.proofs.TurnAtLaws.{swap_turn}

-- k exchanges, the places i and j moving towards each other on a ring of n
abbrev pub exchanges : ℕ → ℕ → Place → Place → Round → Round
exchanges zero n i j xs = xs
exchanges (suc k) n i j xs = exchanges k n (next n i) (prev n j) (swap_at i j xs)

-- the same on a list that is no ring
abbrev closing : ℕ → ℕ → ℕ → List ℕ → List ℕ
closing zero a b ys = ys
closing (suc k) a b ys = closing k (a + 1) (b - 1) (swap_at a b ys)

pub length_exchanges : (k n i j : ℕ) (xs : List ℕ) → length (exchanges k n i j xs) ≡ length xs
length_exchanges zero n i j xs = refl
length_exchanges (suc k) n i j xs = length_exchanges k n _ _ (swap_at i j xs) ∙ swap_at_length i j xs

exchanges_turned : (k n s a b : ℕ) (xs : List ℕ) → length xs ≡ n → s < n → a + k ≤ n → k ≤ b → b < n
    → turn s (exchanges k n (around n s a) (around n s b) xs) ≡ closing k a b (turn s xs)
exchanges_turned zero n s a b xs e hs ha hk hb = refl
exchanges_turned (suc k) n s a b xs e hs ha hk hb =
    let ys : List ℕ = swap_at (around n s a) (around n s b) xs in
    let e' : length ys ≡ n = swap_at_length _ _ xs ∙ e in
    let ih : turn s (exchanges k n (around n s (a + 1)) (around n s (b - 1)) ys) ≡ closing k (a + 1) (b - 1) (turn s ys)
    = exchanges_turned k n s (a + 1) (b - 1) ys e' hs (omega arith) (omega arith) (omega arith) in
    let w : turn s (swap_at (around (length xs) s a) (around (length xs) s b) xs) ≡ swap_at a b (turn s xs)
    = swap_turn s a b xs (omega arith) (omega arith) (omega arith) in
    let w' : turn s ys ≡ swap_at a b (turn s xs) = rw e at w in
    rw (next_around n s a hs (omega arith), prev_around n s b hs (omega arith) (omega arith)) (ih ∙ ap (closing k (a + 1) (b - 1)) w')

-- the exchange of x and y in e ++ x ∷ m ++ y ∷ z, at the indices where they stand
swap_mid : (e m z : List ℕ) (x y : ℕ) → swap_at (length e) (length (e ++ (x ∷ m))) (e ++ (x ∷ (m ++ (y ∷ z)))) ≡ e ++ (y ∷ (m ++ (x ∷ z)))
unfolding swap_at
swap_mid [] m z x y = λ k. get_or-append_seam m y z zero k ∷ set-append_seam m y z x k
swap_mid (c ∷ e) m z x y = ap (λ (l : List ℕ). c ∷ l) (swap_mid e m z x y)

-- a list that is not empty ends in an element
snoc_of : (x : ℕ) (t : List ℕ) → (m : List ℕ) × (y : ℕ) × (x ∷ t ≡ m ++ (y ∷ []))
snoc_of x [] = ([], x, refl)
snoc_of x (c ∷ t) = (x ∷ (snoc_of c t).0, (snoc_of c t).1, ap (λ (l : List ℕ). x ∷ l) (snoc_of c t).2)

reverse_ends : (x : ℕ) (m : List ℕ) (y : ℕ) → reverse (x ∷ (m ++ (y ∷ []))) ≡ y ∷ (reverse m ++ (x ∷ []))
reverse_ends x m y = reverse-cons x (m ++ (y ∷ [])) ∙ ap (λ (l : List ℕ). l ++ (x ∷ [])) (reverse-append m (y ∷ []))

closing_mid : (k : ℕ) (e mid z : List ℕ) (b : ℕ) → k + k ≤ length mid → length mid ≤ suc (k + k) → b + 1 ≡ length e + length mid
    → closing k (length e) b (e ++ (mid ++ z)) ≡ e ++ (reverse mid ++ z)
closing_mid zero e [] z b h g q = refl
closing_mid zero e (x ∷ []) z b h g q = refl
closing_mid zero e (x ∷ y ∷ m) z b h g q = absurd (omega arith)
closing_mid (suc k) e [] z b h g q = absurd (omega arith)
closing_mid (suc k) e (x ∷ []) z b h g q = absurd (omega arith)
closing_mid (suc k) e (x ∷ c ∷ t) z b h g q =
    let m : List ℕ = (snoc_of c t).0 in
    let y : ℕ = (snoc_of c t).1 in
    let r : c ∷ t ≡ m ++ (y ∷ []) = (snoc_of c t).2 in
    let l : suc (length t) ≡ length m + 1 = ap length r ∙ length-append m (y ∷ []) in
    let le : length (e ++ (y ∷ [])) ≡ length e + 1 = length-append e (y ∷ []) in
    let lx : length (e ++ (x ∷ m)) ≡ length e + suc (length m) = length-append e (x ∷ m) in
    let b_is : b ≡ length (e ++ (x ∷ m)) = omega arith in
    let ih : closing k (length (e ++ (y ∷ []))) (b - 1) ((e ++ (y ∷ [])) ++ (m ++ (x ∷ z))) ≡ (e ++ (y ∷ [])) ++ (reverse m ++ (x ∷ z))
    = closing_mid k (e ++ (y ∷ [])) m (x ∷ z) (b - 1) (omega arith) (omega arith) (omega arith) in
    let sw : swap_at (length e) b (e ++ (x ∷ (m ++ (y ∷ z)))) ≡ e ++ (y ∷ (m ++ (x ∷ z))) = rw b_is (swap_mid e m z x y) in
    let big : closing k (length e + 1) (b - 1) (swap_at (length e) b (e ++ (x ∷ ((m ++ (y ∷ [])) ++ z)))) ≡ e ++ (reverse (x ∷ (m ++ (y ∷ []))) ++ z)
    = rw (append_assoc m (y ∷ []) z, sw, reverse_ends x m y, append_assoc (reverse m) (x ∷ []) z, ← append_snoc e y (m ++ (x ∷ z)), ← append_snoc e y (reverse m ++ (x ∷ z)), ← le) ih in
    subst (λ (l : List ℕ). closing k (length e + 1) (b - 1) (swap_at (length e) b (e ++ (x ∷ (l ++ z)))) ≡ e ++ (reverse (x ∷ l) ++ z)) (sym r) big

-- half of k exchanges from both ends of the first k elements
closing_front : (k : ℕ) (ys : List ℕ) → 1 < k → k ≤ length ys → closing (k / 2) 0 (k - 1) ys ≡ reverse_front k ys
unfolding reverse_front
closing_front k ys h g =
    let e : length (take k ys) ≡ k = length-take-le k ys g in
    let q : closing (k / 2) 0 (k - 1) (take k ys ++ drop k ys) ≡ reverse (take k ys) ++ drop k ys
    = closing_mid (k / 2) [] (take k ys) (drop k ys) (k - 1) (omega arith) (omega arith) (omega arith) in
    rw (take-append-drop k ys) at q

-- the loop's recursion comes to `reverse_at`, from the places that the code computes
pub exchanges_starts : (s k : ℕ) (xs : List ℕ) → s < length xs → 1 < k → k ≤ length xs
    → exchanges (k / 2) (length xs) s (wrapped (length xs) (s + k - 1)) xs ≡ reverse_at s k xs
unfolding reverse_at from around
exchanges_starts s k xs hs h1 hk =
    let n : ℕ = length xs in
    let r : List ℕ = exchanges (k / 2) n (around n s 0) (around n s (k - 1)) xs in
    let e : length r ≡ n = length_exchanges (k / 2) n _ _ xs in
    let a : turn s r ≡ closing (k / 2) 0 (k - 1) (turn s xs) = exchanges_turned (k / 2) n s 0 (k - 1) xs refl hs (omega arith) (omega arith) (omega arith) in
    let b : closing (k / 2) 0 (k - 1) (turn s xs) ≡ reverse_front k (turn s xs) = closing_front k (turn s xs) h1 (omega (arith, turn_length s xs)) in
    let w : r ≡ reverse_at s k xs = sym (turn_back s r (omega arith)) ∙ ap (λ (m : ℕ). turn (m - s) (turn s r)) e ∙ ap (turn (n - s)) (a ∙ b) in
    let q : s + (k - 1) ≡ s + k - 1 = omega arith in
    (λ i. exchanges (k / 2) n (sym (around_0 n s hs) i) (wrapped n (sym q i)) xs) ∙ w

-- a turn
pub exchanges_turn : (k n i j : ℕ) (xs goal : List ℕ) → 0 < k → exchanges k n i j xs ≡ goal → exchanges (k - 1) n (next n i) (prev n j) (swap_at i j xs) ≡ goal
exchanges_turn zero n i j xs goal h e = absurd (omega arith)
exchanges_turn (suc k) n i j xs goal h e = let q : suc k - 1 ≡ k = omega arith in rw q e

pub exchanges_done : (k n i j : ℕ) (xs goal : List ℕ) → k ≤ 0 → exchanges k n i j xs ≡ goal → xs ≡ goal
exchanges_done zero n i j xs goal h e = e
exchanges_done (suc k) n i j xs goal h e = absurd (omega arith)
