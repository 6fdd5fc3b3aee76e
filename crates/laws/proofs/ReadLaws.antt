-- The ring read from any of its places, in either direction: what turning and reversal leave alone.
use Prim.Native.Nat.{ℕ}
use mathlib.Core.Path.{◌∙◌, ◌≡◌, ap, refl, sym}
use mathlib.Core.Bool.{Bool, false, true}
use mathlib.Core.List.{List, [], ◌++◌, ◌∷◌, append_assoc, append-nil, reverse, reverse-append}
use native.Mathlib.Omega.{arith}
use lib.ListN.{drop, length, length-append, length-reverse, take, take-append-drop}
use Rattle.rules.specs.Lists.{tally}
use Rattle.rules.specs.Ring.{recount, turn}
use Rattle.rules.specs.Words.{Legs, Round, Stop}
use Rattle.laws.proofs.EvenLaws.{Even, recount_even}
use Rattle.laws.proofs.EveryLaws.{Below}
use Rattle.laws.proofs.PermLaws.{Perm, tally_below}
use Rattle.laws.proofs.TallyLaws.{tally_join, tally_reverse}
use Rattle.laws.proofs.TimeLaws.{halves, recount_back, returned}

-- ---- the same ring, begun elsewhere
pub record Turned (r x : List Stop) : Type 0 where
  pub front : List Stop
  pub rest : List Stop
  pub is : r ≡ front ++ rest
  pub to : x ≡ rest ++ front

-- two ways to cut one list
data Cut (Y X A B : List Stop) : Type 0 where
  short : (C : List Stop) → Y ≡ A ++ C → B ≡ C ++ X → Cut Y X A B
  long : (C : List Stop) → A ≡ Y ++ C → X ≡ C ++ B → Cut Y X A B

cut : (Y X A B : List Stop) → Y ++ X ≡ A ++ B → Cut Y X A B
cut [] X A B e = long A refl e
cut (y ∷ Y) X [] B e = short (y ∷ Y) refl (sym e)
cut (y ∷ Y) X (a ∷ A) B e =
    let h : y ≡ a = cc in
    let t : Y ++ X ≡ A ++ B = cc in
    go h (cut Y X A B t)
  where
    go : y ≡ a → Cut Y X A B → Cut (y ∷ Y) X (a ∷ A) B
    go h (short C p q) = short C (cc) q
    go h (long C p q) = long C (cc) q

-- from its first place; from another place
pub turned_self : (r : Round) → Turned r r
turned_self r = record { front = []; rest = r; is = refl; to = sym (append-nil r) }

pub turned_turn : (r A B : List Stop) → Turned r (A ++ B) → Turned r (B ++ A)
turned_turn r A B t = go (cut t.rest t.front A B (sym t.to))
  where
    go : Cut t.rest t.front A B → Turned r (B ++ A)
    go (short C p q) = record { front = t.front ++ A; rest = C; is = t.is ∙ ap (λ l. t.front ++ l) p ∙ sym (append_assoc t.front A C); to = ap (λ l. l ++ A) q ∙ append_assoc C t.front A }
    go (long C p q) = record { front = C; rest = B ++ t.rest; is = t.is ∙ ap (λ l. l ++ t.rest) q ∙ append_assoc C B t.rest; to = ap (λ l. B ++ l) p ∙ sym (append_assoc B t.rest C) }

-- turned back
pub turn_turned : (k : ℕ) (z : List Stop) → Turned (turn k z) z
unfolding turn
turn_turned k z = record { front = drop k z; rest = take k z; is = refl; to = sym (take-append-drop k z) }

-- the same stops, the same time
turned_tally : (r x : List Stop) → Turned r x → (v : Stop) → tally x v ≡ tally r v
turned_tally r x t v = omega (arith, tally_join v t.front t.rest, tally_join v t.rest t.front, ap (λ l. tally l v) t.is, ap (λ l. tally l v) t.to)

pub turned_length : (r x : List Stop) → Turned r x → length x ≡ length r
turned_length r x t = omega (arith, length-append t.front t.rest, length-append t.rest t.front, ap length t.is, ap length t.to)

turned_time : (d : Legs) (r x : List Stop) → Turned r x → recount d x ≡ recount d r
turned_time d r x t = ap (recount d) t.to ∙ halves d t.rest t.front ∙ sym (ap (recount d) t.is)

-- ---- read in a direction
unfoldable pub Reads : Bool → List Stop → List Stop → Type 0
Reads true r x = Turned r x
Reads false r x = Turned r (reverse x)

-- begun elsewhere; the same stops
pub reads_turn : (o : Bool) (r A B : List Stop) → Reads o r (A ++ B) → Reads o r (B ++ A)
unfolding Reads
reads_turn true r A B t = turned_turn r A B t
reads_turn false r A B t = rw reverse-append (turned_turn r (reverse B) (reverse A) (rw reverse-append at t))

pub reads_tally : (o : Bool) (r x : List Stop) → Reads o r x → (v : Stop) → tally x v ≡ tally r v
unfolding Reads
reads_tally true r x t v = turned_tally r x t v
reads_tally false r x t v = sym (tally_reverse v x) ∙ turned_tally r (reverse x) t v

pub reads_length : (o : Bool) (r x : List Stop) → Reads o r x → length x ≡ length r
unfolding Reads
reads_length true r x t = turned_length r x t
reads_length false r x t = sym (length-reverse x) ∙ turned_length r (reverse x) t

-- every stop of a reading is below n
pub reads_below : (r : Round) → Perm r → (o : Bool) (x : List Stop) → Reads o r x → Below (length r) x
reads_below r pm o x l = tally_below (length r) x (λ v h. pm.only v (omega (arith, reads_tally o r x l v)))

-- the legs as a reading drives them
unfoldable pub driven : Bool → Legs → Legs
driven true d = d
driven false d = returned d

-- a reading takes, by the legs as it drives them, as long as the round
pub reads_driven : (d : Legs) (r : Round) (o : Bool) (x : List Stop) → Reads o r x → recount (driven o d) x ≡ recount d r
unfolding Reads driven
reads_driven d r true x t = turned_time d r x t
reads_driven d r false x t = sym (recount_back d x) ∙ turned_time d r (reverse x) t

-- and, where legs take as long as their return, by the legs themselves
pub reads_time : (d : Legs) (r : Round) → Perm r → Even d (length r) → (o : Bool) (x : List Stop) → Reads o r x → recount d x ≡ recount d r
unfolding driven
reads_time d r pm even true x t = reads_driven d r true x t
reads_time d r pm even false x t = sym (recount_even d (length r) even x (reads_below r pm false x t)) ∙ reads_driven d r false x t
