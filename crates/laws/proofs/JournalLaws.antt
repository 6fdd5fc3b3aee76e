-- 01, 5: an entry in range is taken back, and any entries in range since a mark lead back to the track of the mark.
use Prim.Native.Nat.{◌-◌, ◌≤◌, suc, zero, ℕ}
use mathlib.Core.Path.{◌∙◌, ◌≡◌, ap, refl, sym}
use mathlib.Core.Bool.{true}
use mathlib.Core.List.{List, [], ◌++◌, ◌∷◌, append_assoc, append-nil}
use native.Mathlib.Omega.{arith}
use lib.ListN.{length, length-append}
use Rattle.rules.specs.Journal.{Entry, Track, carry_out, doing, entries_of, in_range, reversal, rollback, rotation, swap, take_back, undo_all}
use Rattle.rules.specs.Lists.{every}
use Rattle.rules.specs.Words.{Round}
use Rattle.laws.proofs.ChoiceLaws.{both_true}
use Rattle.laws.proofs.RangeLaws.{reversal_in, rotation_in, swap_in}
use Rattle.laws.proofs.RewriteLaws.{reverse_at_length, reverse_at_undone, rotate_at_length, rotate_at_undone, swap_at_length, swap_at_undone}

-- an entry carried out or taken back keeps the length, and so do all
pub carry_out_length : (e : Entry) (r : Round) → length (carry_out e r) ≡ length r
unfolding carry_out
carry_out_length (reversal s l) r = reverse_at_length s l r
carry_out_length (rotation s a b c) r = rotate_at_length s a b c r
carry_out_length (swap i j) r = swap_at_length i j r

pub take_back_length : (e : Entry) (r : Round) → length (take_back e r) ≡ length r
unfolding take_back
take_back_length (reversal s l) r = reverse_at_length s l r
take_back_length (rotation s a b c) r = rotate_at_length s c b a r
take_back_length (swap i j) r = swap_at_length i j r

pub undo_all_length : (es : List Entry) (r : Round) → length (undo_all es r) ≡ length r
unfolding undo_all
undo_all_length [] r = refl
undo_all_length (e ∷ es) r = undo_all_length es (take_back e r) ∙ take_back_length e r

-- an entry in range, carried out and taken back
pub take_back_carry_out : (e : Entry) (r : Round) → in_range (length r) e ≡ true → take_back e (carry_out e r) ≡ r
unfolding take_back carry_out
take_back_carry_out (reversal s l) r h = let g = reversal_in (length r) s l h in reverse_at_undone s l r (omega (arith, g.0)) g.1
take_back_carry_out (rotation s a b c) r h = let g = rotation_in (length r) s a b c h in rotate_at_undone s a b c r (omega (arith, g.0)) g.1
take_back_carry_out (swap i j) r h = let g = swap_in (length r) i j h in swap_at_undone i j r g.0 g.1

-- ---- t' leads back to t: its journal is t's and newer entries, and those taken back give t's round
pub record Past (t t' : Track) : Type 0 where
  pub newer : List Entry
  pub grown : t'.journal ≡ newer ++ t.journal
  pub back : undo_all newer t'.round ≡ t.round

-- entries taken back, and those before them
pub undo_join : (xs ys : List Entry) (r : Round) → undo_all (xs ++ ys) r ≡ undo_all ys (undo_all xs r)
unfolding undo_all
undo_join [] ys r = refl
undo_join (e ∷ es) ys r = undo_join es ys (take_back e r)

-- a track leads back to itself
unfoldable pub past_refl : (t : Track) → Past t t
unfolding undo_all
past_refl t = record { newer = []; grown = refl; back = refl }

-- one way back after another
unfoldable pub past_past : {a b c : Track} → Past a b → Past b c → Past a c
past_past {a} {b} {c} p q = record {
  newer = q.newer ++ p.newer;
  grown = q.grown ∙ ap (λ (l : List Entry). q.newer ++ l) p.grown ∙ sym (append_assoc q.newer p.newer a.journal);
  back = undo_join q.newer p.newer c.round ∙ ap (undo_all p.newer) q.back ∙ p.back;
}

-- an entry in range, carried out and journalled
unfoldable pub past_doing : (e : Entry) (t : Track) → in_range (length t.round) e ≡ true → Past t (doing e t)
unfolding doing undo_all
past_doing e t h = record { newer = e ∷ []; grown = refl; back = take_back_carry_out e t.round h }

-- the round keeps its length
pub past_length : {t t' : Track} → Past t t' → length t'.round ≡ length t.round
past_length {t} {t'} p = sym (undo_all_length p.newer t'.round) ∙ ap length p.back

-- any entries in range, newest first
unfoldable pub doing_all : List Entry → Track → Track
doing_all [] t = t
doing_all (e ∷ es) t = doing e (doing_all es t)

-- "any entries in range since a mark lead back"
pub past_doing_all : (es : List Entry) (t : Track) → every (in_range (length t.round)) es ≡ true → Past t (doing_all es t)
unfolding doing_all every
past_doing_all [] t h = past_refl t
past_doing_all (e ∷ es) t h =
    let g = both_true (in_range (length t.round) e) (every (in_range (length t.round)) es) h in
    let p = past_doing_all es t g.1 in
    past_past p (past_doing e (doing_all es t) (ap (λ n. in_range n e) (past_length p) ∙ g.0))

-- the journal has no less
pub past_grown : {t t' : Track} → Past t t' → length t.journal ≤ length t'.journal
past_grown {t} {t'} p = omega (arith, ap length p.grown, length-append p.newer t.journal)

-- ---- `rollback`: the newest entry goes first
pub rollback_step : (mark : ℕ) (e : Entry) (l : List Entry) (r : Round) → mark ≤ length l
    → rollback mark (record { round = r; journal = e ∷ l }) ≡ rollback mark (record { round = take_back e r; journal = l })
unfolding rollback undo_all
rollback_step mark e l r h =
    let q : suc (length l) - mark ≡ suc (length l - mark) = omega arith in
    rw q refl

rollback_newer : (mark : ℕ) (newer l : List Entry) (r : Round) → mark ≤ length l
    → rollback mark (record { round = r; journal = newer ++ l }) ≡ rollback mark (record { round = undo_all newer r; journal = l })
unfolding undo_all
rollback_newer mark [] l r h = refl
rollback_newer mark (e ∷ es) l r h =
    let g : mark ≤ length (es ++ l) = simp length-append (omega arith) in
    rollback_step mark e (es ++ l) r g ∙ rollback_newer mark es l (take_back e r) h

-- none is newer than the mark
pub rollback_done : (mark : ℕ) (t : Track) → length t.journal ≤ mark → rollback mark t ≡ t
unfolding rollback undo_all
rollback_done mark t h =
    let q : length t.journal - mark ≡ 0 = omega arith in
    rw q refl

-- a mark below t is as good after t'
pub past_deeper : {t t' : Track} (mark : ℕ) → Past t t' → mark ≤ length t.journal → rollback mark t' ≡ rollback mark t
past_deeper {t} {t'} mark p h =
    ap (λ (l : List Entry). rollback mark (record { round = t'.round; journal = l })) p.grown
    ∙ rollback_newer mark p.newer t.journal t'.round h
    ∙ ap (λ (r : Round). rollback mark (record { round = r; journal = t.journal })) p.back

-- back to the mark gives the track of the mark
pub past_rollback : {t t' : Track} → Past t t' → rollback (length t.journal) t' ≡ t
past_rollback {t} {t'} p = past_deeper (length t.journal) p (omega arith) ∙ rollback_done (length t.journal) t (omega arith)

-- a journal that was empty at the mark, all of it taken back
pub past_undone : {t t' : Track} → Past t t' → t.journal ≡ [] → undo_all t'.journal t'.round ≡ t.round
past_undone {t} {t'} p e =
    ap (λ (l : List Entry). undo_all l t'.round) (p.grown ∙ ap (λ (l : List Entry). p.newer ++ l) e ∙ append-nil p.newer) ∙ p.back

-- ---- what the words of a journal stand for
pub entries_of_length : (ws : List ℕ) (held : ℕ) → length (entries_of ws held) ≡ held
unfolding entries_of
entries_of_length ws zero = refl
entries_of_length ws (suc i) = ap suc (entries_of_length ws i)
