-- Bytes written one after another.
use Prim.Native.Nat.{ℕ, zero, suc, ◌+◌, ◌-◌, ◌*◌, ◌/◌, ◌%◌, ◌^◌, ◌≤◌, ◌<◌}
use mathlib.Core.Path.{◌≡◌, refl, sym, ap, ◌∙◌}
use mathlib.Core.List.{List, ◌++◌, append_assoc}
use native.Mathlib.Omega.{arith}
use native.Mathlib.Nat.{pow-suc}
use Rattle.std.proofs.Common.{pow-add}
use lib.ListN.{length, take, drop, length-append, length-drop}
use borrow.Rule.Slice.PartMut.{put_mid}
use lib.Seq.{take_at, drop-drop, drop-append-add, length-take-le}
use Rattle.rules.specs.Bits.{bits, bytes_of}
use Rattle.laws.proofs.BitLaws.{bytes_12, bytes_of_byte, bytes_of_none, bits_join, bits_split}
use Rattle.std.specs.Int.{byte_at, bytes_high_first}
use Rattle.std.specs.Int.Bits.{bit_or}
use Rattle.std.proofs.lemmas.Grind.{or_after_shift}
use Rattle.bits.specs.Write.{Wrote}

-- ---- one write after another
pub wrote_length : (l : List ℕ) (at : ℕ) (x r : List ℕ) → at + length x ≤ length l → Wrote l at x r → length r ≡ length l
wrote_length l at x r h w =
    ap length w.is ∙ length-append (take at l) (x ++ drop (at + length x) l) ∙ ap (λ (z : ℕ). length (take at l) + z) (length-append x (drop (at + length x) l))
    ∙ omega (arith, length-take-le at l (omega arith), length-drop (at + length x) l)

pub wrote_next : (l : List ℕ) (at : ℕ) (x m : List ℕ) (to : ℕ) (y r : List ℕ) → at + length x ≤ length l → to ≡ at + length x → Wrote l at x m → Wrote m to y r → Wrote l at (x ++ y) r
wrote_next l at x m to y r h e u w =
    let p : length (take at l) ≡ at = length-take-le at l (omega arith) in
    let q : length (take at l ++ x) ≡ to = length-append (take at l) x ∙ omega arith in
    let f : m ≡ (take at l ++ x) ++ drop to l = u.is ∙ sym (append_assoc (take at l) x (drop (at + length x) l)) ∙ ap (λ (z : ℕ). (take at l ++ x) ++ drop z l) (sym e) in
    let t : take to m ≡ take at l ++ x = ap (take to) f ∙ take_at (take at l ++ x) (drop to l) to q in
    let i : at + length (x ++ y) ≡ to + length y = ap (λ (z : ℕ). at + z) (length-append x y) ∙ omega arith in
    let d : drop (to + length y) m ≡ drop (at + length (x ++ y)) l
    = ap (drop (to + length y)) f ∙ ap (λ (z : ℕ). drop (z + length y) ((take at l ++ x) ++ drop to l)) (sym q)
    ∙ drop-append-add (take at l ++ x) (drop to l) (length y) ∙ drop-drop (length y) to l ∙ ap (λ (z : ℕ). drop z l) (sym i) in
    record {
      is = w.is ∙ ap (λ (z : List ℕ). z ++ (y ++ drop (to + length y) m)) t ∙ ap (λ (z : List ℕ). (take at l ++ x) ++ (y ++ z)) d
          ∙ append_assoc (take at l) x (y ++ drop (at + length (x ++ y)) l)
          ∙ ap (λ (z : List ℕ). take at l ++ z) (sym (append_assoc x y (drop (at + length (x ++ y)) l)));
    }

-- ---- the bytes of a number
-- a byte is 8 bits
words : (k : ℕ) → 2 ^ (8 * k) ≡ 256 ^ k
words zero = refl
words (suc k) = let e : 8 * suc k ≡ 8 * k + 8 = omega arith in rw (e, pow-add, words k) (sym (pow-suc 256 k))

-- k whole bytes
bytes_high : (k v : ℕ) → bytes_of (bits (8 * k) v) ≡ bytes_high_first k v
unfolding bits
bytes_high zero v = bytes_of_none
bytes_high (suc k) v =
    let e : 8 * suc k ≡ 8 + 8 * k = omega arith in
    rw e (ap bytes_of (bits_split 8 (8 * k) v) ∙ bytes_of_byte (v / 2 ^ (8 * k)) (bits (8 * k) v) ∙ (rw (bytes_high k v, top k)))
  where
    top : (k : ℕ) → v / 2 ^ (8 * k) % 256 ≡ byte_at k v
    top zero = omega arith
    top (suc k) = ap (λ (z : ℕ). v / z % 256) (words (suc k))

-- n of a word's four bytes, the last ones, written over l
length_high : (k v : ℕ) → length (bytes_high_first k v) ≡ k
length_high zero v = refl
length_high (suc k) v = ap suc (length_high k v)

last_bytes : (n v : ℕ) → n ≤ 4 → take (4 - (4 - n)) (drop (4 - n) (bytes_high_first 4 v)) ≡ bytes_high_first n v
last_bytes zero v h = refl
last_bytes (suc zero) v h = refl
last_bytes (suc (suc zero)) v h = refl
last_bytes (suc (suc (suc zero))) v h = refl
last_bytes (suc (suc (suc (suc zero)))) v h = refl
last_bytes (suc (suc (suc (suc (suc n))))) v h = absurd (omega arith)

pub wrote_last : (l : List ℕ) (at n v : ℕ) (word r : List ℕ) → n ≤ 4 → word ≡ bytes_high_first 4 v → r ≡ take (4 - (4 - n)) (drop (4 - n) word) → Wrote l at (bytes_high_first n v) (put_mid at (at + n - at) l r)
wrote_last l at n v word r h e f =
    let g : r ≡ bytes_high_first n v = f ∙ ap (λ (z : List ℕ). take (4 - (4 - n)) (drop (4 - n) z)) e ∙ last_bytes n v h in
    let i : at + (at + n - at) ≡ at + length (bytes_high_first n v) = omega (arith, length_high n v) in
    record {
      is = ap (λ (z : List ℕ). take at l ++ (z ++ drop (at + n - at) (drop at l))) g
          ∙ ap (λ (z : List ℕ). take at l ++ (bytes_high_first n v ++ z)) (drop-drop (at + n - at) at l ∙ ap (λ (z : ℕ). drop z l) i);
    }

pub bytes_of_16 : (v : ℕ) → bytes_of (bits 16 v) ≡ bytes_high_first 2 v
bytes_of_16 v = bytes_high 2 v

pub bytes_of_32 : (v : ℕ) → bytes_of (bits 32 v) ≡ bytes_high_first 4 v
bytes_of_32 v = bytes_high 4 v

-- two entries of 12 bits, and a last one
pub bytes_of_pair : (x y : ℕ) → x < 4096 → y < 4096 → bytes_of (bits 12 x ++ bits 12 y) ≡ bytes_high_first 3 (bit_or (x * 4096 % 4294967296) y)
bytes_of_pair x y h k =
    let e : bit_or (x * 4096 % 4294967296) y ≡ x * 4096 + y = or_after_shift x 4096 4294967296 y refl k (omega arith) in
    ap bytes_of (sym (bits_join 12 12 x y k)) ∙ bytes_high 3 (x * 4096 + y) ∙ (rw e)

pub bytes_of_last : (v : ℕ) → v < 4096 → bytes_of (bits 12 v) ≡ bytes_high_first 2 (v * 16 % 4294967296)
bytes_of_last v h =
    let a : v / 16 ≡ v * 16 % 4294967296 / 256 % 256 = omega arith in
    let b : v % 16 * 16 ≡ v * 16 % 4294967296 % 256 = omega arith in
    bytes_12 v h ∙ (rw (a, b))
