-- The time of a round in parts: where it begins decides nothing, and what an exchange of its parts changes. Nothing here asks a leg to take
-- as long as its return.
use Prim.Native.Nat.{◌+◌, ◌-◌, ◌<◌, suc}
use mathlib.Core.Path.{◌∙◌, ◌≡◌, ap, refl, sym}
use mathlib.Core.List.{List, [], ◌++◌, ◌∷◌, append-nil, reverse, reverse-cons}
use native.Mathlib.Omega.{arith}
use lib.ListN.{drop, length, length-reverse, take, take-append-drop}
use Rattle.rules.specs.Lists.{at}
use Rattle.rules.specs.Rewrite.{from}
use Rattle.rules.specs.Ring.{along, lap, recount, turn}
use Rattle.rules.specs.Words.{Legs, Place, Round, Stop}

-- the last stop of a list that begins with a
unfoldable pub end : Stop → List Stop → Stop
end a [] = a
end a (b ∷ l) = end b l

-- of two parts; by its place
pub end_join : (a : Stop) (A : List Stop) (b : Stop) (B : List Stop) → end a (A ++ (b ∷ B)) ≡ end b B
unfolding end
end_join a [] b B = refl
end_join a (x ∷ A) b B = end_join x A b B

pub end_at : (a : Stop) (A : List Stop) → end a A ≡ at (a ∷ A) (length A)
unfolding end
end_at a [] = refl
end_at a (b ∷ l) = end_at b l

module _ (d : Legs) where
  -- the legs along two parts
  pub along_join : (a : Stop) (A : List Stop) (b : Stop) (B : List Stop) → along d a (A ++ (b ∷ B)) ≡ along d a A + d (end a A) b + along d b B
  unfolding along end
  along_join a [] b B = omega arith
  along_join a (x ∷ A) b B = omega (arith, along_join x A b B)

  lap_long : (a : Stop) (A : List Stop) (b : Stop) (B : List Stop) → recount d ((a ∷ A) ++ (b ∷ B)) ≡ along d a ((A ++ (b ∷ B)) ++ (a ∷ []))
  unfolding recount lap
  lap_long a [] b B = refl
  lap_long a (x ∷ A) b B = refl

  -- a round of two parts: the legs of each, and the two between them
  pub ring2 : (a : Stop) (A : List Stop) (b : Stop) (B : List Stop) → recount d ((a ∷ A) ++ (b ∷ B)) ≡ along d a A + d (end a A) b + along d b B + d (end b B) a
  unfolding along
  ring2 a A b B = omega (arith, lap_long a A b B, along_join a (A ++ (b ∷ B)) a [], along_join a A b B, ap (λ v. d v a) (end_join a A b B))

  -- a round of two stops or more: its legs and the return leg
  pub ring1 : (a : Stop) (A : List Stop) → 0 < length A → recount d (a ∷ A) ≡ along d a A + d (end a A) a
  unfolding along end
  ring1 a [] h = absurd (omega arith)
  ring1 a (b ∷ B) h = omega (arith, ring2 a [] b B)

  -- where a round begins decides nothing
  pub halves : (X Y : List Stop) → recount d (X ++ Y) ≡ recount d (Y ++ X)
  halves [] Y = rw append-nil
  halves (a ∷ A) [] = rw append-nil
  halves (a ∷ A) (b ∷ B) = omega (arith, ring2 a A b B, ring2 b B a A)

  pub turn_time : (k : Place) (r : Round) → recount d (turn k r) ≡ recount d r
  unfolding turn
  turn_time k r = halves (drop k r) (take k r) ∙ ap (recount d) (take-append-drop k r)

  -- a rewriting at the front of the turned ring changes the time as it does there
  pub from_time : (s : Place) (f : List Stop → List Stop) (r : Round) → recount d (from s f r) ≡ recount d (f (turn s r))
  unfolding from
  from_time s f r = turn_time (length r - s) (f (turn s r))

  -- rounds of three and of four parts
  ring3 : (x : Stop) (X : List Stop) (z : Stop) (Z : List Stop) (w : Stop) (W : List Stop)
      → recount d ((x ∷ X) ++ ((z ∷ Z) ++ (w ∷ W))) ≡ along d x X + d (end x X) z + along d z Z + d (end z Z) w + along d w W + d (end w W) x
  ring3 x X z Z w W = omega (arith, ring2 x X z (Z ++ (w ∷ W)), along_join z Z w W, ap (λ v. d v x) (end_join z Z w W))

  ring4 : (x : Stop) (X : List Stop) (y : Stop) (Y : List Stop) (z : Stop) (Z : List Stop) (w : Stop) (W : List Stop)
      → recount d ((x ∷ X) ++ ((y ∷ Y) ++ ((z ∷ Z) ++ (w ∷ W)))) ≡ along d x X + d (end x X) y + along d y Y + d (end y Y) z + along d z Z + d (end z Z) w + along d w W + d (end w W) x
  ring4 x X y Y z Z w W = omega (arith, ring3 x X y Y z (Z ++ (w ∷ W)), along_join z Z w W, ap (λ v. d v x) (end_join z Z w W))

  -- X Z W to Z X W: three legs go and three come
  pub exchange3_time : (x : Stop) (X : List Stop) (z : Stop) (Z : List Stop) (w : Stop) (W : List Stop)
      → recount d ((z ∷ Z) ++ ((x ∷ X) ++ (w ∷ W))) + (d (end w W) x + d (end x X) z + d (end z Z) w) ≡ recount d ((x ∷ X) ++ ((z ∷ Z) ++ (w ∷ W))) + (d (end w W) z + d (end z Z) x + d (end x X) w)
  exchange3_time x X z Z w W = omega (arith, ring3 x X z Z w W, ring3 z Z x X w W)

  -- X Y Z W to Z Y X W: four legs
  pub exchange4_time : (x : Stop) (X : List Stop) (y : Stop) (Y : List Stop) (z : Stop) (Z : List Stop) (w : Stop) (W : List Stop)
      → recount d ((z ∷ Z) ++ ((y ∷ Y) ++ ((x ∷ X) ++ (w ∷ W)))) + (d (end w W) x + d (end x X) y + d (end y Y) z + d (end z Z) w)
      ≡ recount d ((x ∷ X) ++ ((y ∷ Y) ++ ((z ∷ Z) ++ (w ∷ W)))) + (d (end w W) z + d (end z Z) y + d (end y Y) x + d (end x X) w)
  exchange4_time x X y Y z Z w W = omega (arith, ring4 x X y Y z Z w W, ring4 z Z y Y x X w W)

-- ---- backwards
-- a list that begins with a, read backwards
pub record Back (a : Stop) (A : List Stop) : Type 0 where
  pub tail : List Stop
  pub is : reverse (a ∷ A) ≡ end a A ∷ tail
  pub ends : end (end a A) tail ≡ a

pub back : (a : Stop) (A : List Stop) → Back a A
unfolding end
back a [] = record { tail = []; is = refl; ends = refl }
back a (x ∷ A) =
    let h = back x A in
    record { tail = h.tail ++ (a ∷ []); is = reverse-cons a (x ∷ A) ∙ ap (λ l. l ++ (a ∷ [])) h.is; ends = end_join (end x A) h.tail a [] }

-- each leg as its return
unfoldable pub returned : Legs → Legs
returned d a b = d b a

module _ (d : Legs) where
  -- a path backwards takes the returns of its legs
  pub along_back : (a : Stop) (A : List Stop) → along d (end a A) (back a A).tail ≡ along (returned d) a A
  unfolding along end back returned
  along_back a [] = refl
  along_back a (x ∷ A) = let g = back x A in omega (arith, along_join d (end x A) g.tail a [], along_back x A, ap (λ v. d v a) g.ends)

  -- and so does a round
  pub recount_back : (r : Round) → recount d (reverse r) ≡ recount (returned d) r
  unfolding returned recount lap
  recount_back [] = refl
  recount_back (a ∷ []) = refl
  recount_back (a ∷ x ∷ A) =
      let g = back a (x ∷ A) in
      let z = end a (x ∷ A) in
      let l : length (z ∷ g.tail) ≡ suc (suc (length A)) = sym (ap length g.is) ∙ length-reverse (a ∷ x ∷ A) in
      let e : recount d (reverse (a ∷ x ∷ A)) ≡ recount d (z ∷ g.tail) = ap (recount d) g.is in
      omega (arith, e, ring1 d z g.tail (omega arith), ring1 (returned d) a (x ∷ A) (omega arith), along_back a (x ∷ A), ap (λ v. d v z) g.ends)
