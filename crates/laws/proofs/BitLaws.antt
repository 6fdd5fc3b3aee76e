-- 01, "Sheets": bits, the fields that they are read by, and the bytes that they fill.
use mathlib.Core.Path.{◌≡◌, refl, sym, ap, ◌∙◌}
use mathlib.Core.List.{List, [], ◌∷◌, ◌++◌, append_assoc, append-nil}
use Prim.Native.Nat.{ℕ, zero, suc, ◌+◌, ◌*◌, ◌/◌, ◌%◌, ◌^◌, ◌≤◌, ◌<◌}
use native.Mathlib.Nat.{zero-add, suc-add, add_comm, add-mul, mul_assoc, mul_comm, pow-suc, mod-eq_of_lt, mul-suc, mul-zero, mul-le-mul_right}
use native.Mathlib.Omega.{arith}
use native.Mathlib.Numerals.{add-one}
use lib.ListN.{length, get_or, take, drop, replicate, length-append, length-take, length-drop}
use lib.Seq.{take-add, drop-drop, take_at, drop_at, drop-append-add, drop-cons, take-append-le, drop-append-le, drop-nil}
use lib.Pow.{shr-shr, mod-pow-add, mod-mod-pow, high, low, pow_pos}
use lib.Pow.{field as pow_field}
use lib.Dec.{eqb}
use borrow.Author.Tests.{ne_eqb}
use Rattle.rules.specs.Lists.{each, every}
use Rattle.rules.specs.Bits.{bits, value_from, field, fields, bits_of, bytes_of}

-- ---- a number's bits
pub length_bits : (w v : ℕ) → length (bits w v) ≡ w
unfolding bits
length_bits zero v = refl
length_bits (suc w) v = ap suc (length_bits w v)

-- the upper a bits, then the lower b
pub bits_split : (a b v : ℕ) → bits (a + b) v ≡ bits a (v / 2 ^ b) ++ bits b v
unfolding bits
bits_split zero b v = rw zero-add
bits_split (suc a) b v = rw suc-add (simp (shr-shr v b a, add_comm b a, bits_split a b v))

-- bits above the w lowest don't matter
pub bits_more : (w k v : ℕ) → bits w (v % 2 ^ (k + w)) ≡ bits w v
unfolding bits
bits_more zero k v = refl
bits_more (suc w) k v =
    let e : k + suc w ≡ suc k + w = omega arith in
    let h : v % 2 ^ (suc k + w) / 2 ^ w % 2 ≡ v / 2 ^ w % 2 = rw (pow_field v (suc k) w, ← add-one k) (mod-mod-pow (v / 2 ^ w) k 1) in
    rw (e, h, bits_more w (suc k) v)

-- upper and lower bits joined
pub bits_join : (a b x y : ℕ) → y < 2 ^ b → bits (a + b) (x * 2 ^ b + y) ≡ bits a x ++ bits b y
bits_join a b x y h =
    let l : bits b (x * 2 ^ b + y) ≡ bits b y = sym (bits_more b 0 (x * 2 ^ b + y)) ∙ (rw zero-add (ap (bits b) (low x b h))) in
    bits_split a b (x * 2 ^ b + y) ∙ (rw (high x b h, l))

-- ---- the value of bits
pub value_append : (xs ys : List ℕ) (v : ℕ) → value_from v (xs ++ ys) ≡ value_from (value_from v xs) ys
unfolding value_from
value_append [] ys v = refl
value_append (x ∷ xs) ys v = value_append xs ys (v * 2 + x)

pub value_from_lem : (bs : List ℕ) (v : ℕ) → value_from v bs ≡ v * 2 ^ length bs + value_from 0 bs
unfolding value_from
value_from_lem [] v = omega arith
value_from_lem (b ∷ bs) v =
    let p : ℕ = 2 ^ length bs in
    let h : (v * 2 + b) * 2 ^ length bs ≡ v * 2 ^ suc (length bs) + b * 2 ^ length bs
    = add-mul (v * 2) b (2 ^ length bs) ∙ ap (λ (z : ℕ). z + b * 2 ^ length bs) (mul_assoc v 2 (2 ^ length bs) ∙ ap (λ (z : ℕ). v * z) (mul_comm 2 (2 ^ length bs) ∙ sym (pow-suc 2 (length bs)))) in
    let z : 0 * 2 + b ≡ b = omega arith in
    rw z (omega (arith, h, value_from_lem bs (v * 2 + b), value_from_lem bs b))

pub value_bits : (w v : ℕ) → value_from 0 (bits w v) ≡ v % 2 ^ w
unfolding bits value_from
value_bits zero v = omega arith
value_bits (suc w) v =
    let z : 0 * 2 + v / 2 ^ w % 2 ≡ v / 2 ^ w % 2 = omega arith in
    value_from_lem (bits w v) (0 * 2 + v / 2 ^ w % 2)
    ∙ (simp (length_bits w v, value_bits w v) (ap (λ (x : ℕ). x * 2 ^ w + v % 2 ^ w) z))
    ∙ sym (mod-pow-add v 1 w) ∙ ap (λ (k : ℕ). v % 2 ^ k) (omega arith)

-- ---- lists of bits
pub data AreBits : List ℕ → Type 0 where
  none : AreBits []
  more : {b : ℕ} {bs : List ℕ} → b < 2 → AreBits bs → AreBits (b ∷ bs)

pub bits_are : (w v : ℕ) → AreBits (bits w v)
unfolding bits
bits_are zero v = none
bits_are (suc w) v = let h : v / 2 ^ w % 2 < 2 = omega arith in more h (bits_are w v)

pub are_append : {xs ys : List ℕ} → AreBits xs → AreBits ys → AreBits (xs ++ ys)
are_append none k = k
are_append (more b h) k = more b (are_append h k)

pub are_drop : (i : ℕ) {bs : List ℕ} → AreBits bs → AreBits (drop i bs)
are_drop zero h = h
are_drop (suc i) none = none
are_drop (suc i) (more b h) = are_drop i h

pub are_take : (i : ℕ) {bs : List ℕ} → AreBits bs → AreBits (take i bs)
are_take zero h = none
are_take (suc i) none = none
are_take (suc i) (more b h) = more b (are_take i h)

pub bits_of_are : (bytes : List ℕ) → AreBits (bits_of bytes)
unfolding bits_of each
bits_of_are [] = none
bits_of_are (b ∷ bytes) = are_append (bits_are 8 b) (bits_of_are bytes)

pub value_lt : (bs : List ℕ) → AreBits bs → value_from 0 bs < 2 ^ length bs
unfolding value_from
value_lt [] none = omega arith
value_lt (b ∷ bs) (more l h) =
    let z : 0 * 2 + b ≡ b = omega arith in
    let m : b * 2 ^ length bs ≤ 1 * 2 ^ length bs = mul-le-mul_right (2 ^ length bs) (omega arith) in
    rw (z, value_from_lem bs b, pow-suc 2 (length bs)) (omega (arith, value_lt bs h))

-- the bits of the value are the bits again
bits_value_from : (bs : List ℕ) → AreBits bs → (v : ℕ) → bits (length bs) (value_from v bs) ≡ bs
unfolding bits value_from
bits_value_from [] none v = refl
bits_value_from (b ∷ bs) (more l h) v =
    let e : value_from (v * 2 + b) bs / 2 ^ length bs % 2 ≡ b
    = ap (λ (z : ℕ). z / 2 ^ length bs % 2) (value_from_lem bs (v * 2 + b)) ∙ ap (λ (z : ℕ). z % 2) (high (v * 2 + b) (length bs) (value_lt bs h)) ∙ omega arith in
    rw (e, bits_value_from bs h (v * 2 + b))

pub bits_value : {bs : List ℕ} → AreBits bs → bits (length bs) (value_from 0 bs) ≡ bs
bits_value {bs} h = bits_value_from bs h 0

-- ---- fields
pub field_lt : {bs : List ℕ} → AreBits bs → (p w : ℕ) → p + w ≤ length bs → field bs p w < 2 ^ w
unfolding field
field_lt {bs} h p w l =
    let e : length (take w (drop p bs)) ≡ w = simp (length-take, length-drop) (omega arith) in
    rw e at (value_lt _ (are_take w (are_drop p h)))

-- a field of a + b bits is its upper a, then its lower b
pub field_join : (bs : List ℕ) (p a b : ℕ) → p + (a + b) ≤ length bs → field bs p (a + b) ≡ field bs p a * 2 ^ b + field bs (p + a) b
unfolding field
field_join bs p a b l =
    let e : length (take b (drop (p + a) bs)) ≡ b = simp (length-take, length-drop) (omega arith) in
    rw (take-add a b (drop p bs), drop-drop a p bs, value_append, value_from_lem (take b (drop (p + a) bs)) _, e)

-- a field within a field, s bits above its end
pub field_in : {bs : List ℕ} → AreBits bs → (p r w s : ℕ) → p + (r + w + s) ≤ length bs → field bs (p + r) w ≡ field bs p (r + w + s) / 2 ^ s % 2 ^ w
field_in {bs} h p r w s l =
    let a : field bs p (r + w + s) ≡ field bs p (r + w) * 2 ^ s + field bs (p + (r + w)) s = field_join bs p (r + w) s l in
    let b : field bs p (r + w) ≡ field bs p r * 2 ^ w + field bs (p + r) w = field_join bs p r w (omega arith) in
    let c : field bs p (r + w + s) / 2 ^ s ≡ field bs p (r + w) = ap (λ (z : ℕ). z / 2 ^ s) a ∙ high (field bs p (r + w)) s (field_lt h (p + (r + w)) s (omega arith)) in
    sym (ap (λ (z : ℕ). z % 2 ^ w) (c ∙ b) ∙ low (field bs p r) w (field_lt h (p + r) w (omega arith)))

-- a field past the front
pub field_drop : (bs : List ℕ) (q p w : ℕ) → field (drop q bs) p w ≡ field bs (q + p) w
unfolding field
field_drop bs q p w = rw drop-drop

-- fields over ++
pub field_left : (xs ys : List ℕ) (p w : ℕ) → p + w ≤ length xs → field (xs ++ ys) p w ≡ field xs p w
unfolding field
field_left xs ys p w l =
    let a : p ≤ length xs = omega arith in
    let b : w ≤ length (drop p xs) = simp length-drop (omega arith) in
    rw (drop-append-le p xs ys a, take-append-le w (drop p xs) ys b)

pub field_right : (xs ys : List ℕ) (p w : ℕ) → field (xs ++ ys) (length xs + p) w ≡ field ys p w
unfolding field
field_right xs ys p w = rw drop-append-add

-- a field that was put there
pub field_bits : (w v : ℕ) (xs : List ℕ) → field (bits w v ++ xs) 0 w ≡ v % 2 ^ w
unfolding field
field_bits w v xs = rw (take_at (bits w v) xs w (length_bits w v)) (value_bits w v)

pub get_d_fields : (w count : ℕ) (bs : List ℕ) (i : ℕ) → i < count → get_or (fields w count bs) i 0 ≡ field bs (w * i) w
unfolding fields field
get_d_fields w zero bs i h = absurd (omega arith)
get_d_fields w (suc count) bs zero h = rw mul-zero
get_d_fields w (suc count) bs (suc i) h =
    let l : i < count = omega arith in
    get_d_fields w count (drop w bs) i l ∙ (rw (drop-drop, mul-suc, add_comm w (w * i)))

pub length_fields : (w count : ℕ) (bs : List ℕ) → length (fields w count bs) ≡ count
unfolding fields
length_fields w zero bs = refl
length_fields w (suc count) bs = ap suc (length_fields w count (drop w bs))

-- count fields from field i on
pub fields_part : (w count k i : ℕ) (bs : List ℕ) → i + k ≤ count → take k (drop i (fields w count bs)) ≡ fields w k (drop (w * i) bs)
unfolding fields
fields_part w count zero i bs h = refl
fields_part w zero (suc k) i bs h = absurd (omega arith)
fields_part w (suc count) (suc k) zero bs h =
    let l : 0 + k ≤ count = omega arith in
    let z : w * 0 ≡ 0 = mul-zero w in
    rw z (ap (λ (l : List ℕ). value_from 0 (take w bs) ∷ l) (fields_part w count k 0 (drop w bs) l ∙ (rw z)))
fields_part w (suc count) (suc k) (suc i) bs h =
    let l : i + suc k ≤ count = omega arith in
    let e : w + w * i ≡ w * suc i = add_comm w (w * i) ∙ sym (mul-suc w i) in
    fields_part w count (suc k) i (drop w bs) l ∙ ap (fields w (suc k)) (drop-drop (w * i) w bs ∙ ap (λ (z : ℕ). drop z bs) e)

-- ---- bytes
pub each_append : (f : ℕ → List ℕ) (xs ys : List ℕ) → each f (xs ++ ys) ≡ each f xs ++ each f ys
unfolding each
each_append f [] ys = refl
each_append f (x ∷ xs) ys = rw (each_append f xs ys) (sym (append_assoc (f x) (each f xs) (each f ys)))

pub length_each : (w : ℕ) (xs : List ℕ) → length (each (bits w) xs) ≡ w * length xs
unfolding each
length_each w [] = sym (mul-zero w)
length_each w (x ∷ xs) = length-append (bits w x) (each (bits w) xs) ∙ (rw (length_bits w x, length_each w xs, mul-suc) (add_comm _ _))

pub length_bits_of : (bytes : List ℕ) → length (bits_of bytes) ≡ 8 * length bytes
unfolding bits_of
length_bits_of bytes = length_each 8 bytes

pub drop_bits_of : (q : ℕ) (bytes : List ℕ) → drop (8 * q) (bits_of bytes) ≡ bits_of (drop q bytes)
unfolding bits_of each
drop_bits_of zero bytes = refl
drop_bits_of (suc q) [] = drop-nil (8 * suc q)
drop_bits_of (suc q) (b ∷ bytes) =
    let e : 8 * suc q ≡ length (bits 8 b) + 8 * q = omega (arith, length_bits 8 b) in
    rw (e, drop-append-add) (drop_bits_of q bytes)

-- a byte is a field
value_byte : (b : ℕ) (r : List ℕ) → b < 256 → value_from 0 (take 8 (bits_of (b ∷ r))) ≡ b
unfolding bits_of each
value_byte b r h = rw (take_at (bits 8 b) (each (bits 8) r) 8 (length_bits 8 b)) (value_bits 8 b ∙ mod-eq_of_lt h)

pub field_byte : (bytes : List ℕ) (q : ℕ) → q < length bytes → get_or bytes q 0 < 256 → field (bits_of bytes) (8 * q) 8 ≡ get_or bytes q 0
unfolding field
field_byte bytes q l h = rw (drop_bits_of q bytes, drop-cons bytes q 0 l) (value_byte (get_or bytes q 0) (drop (suc q) bytes) h)

-- ---- whole bytes
pub bytes_of_byte : (b : ℕ) (rest : List ℕ) → bytes_of (bits 8 b ++ rest) ≡ (b % 256) ∷ bytes_of rest
unfolding bytes_of fields
bytes_of_byte b rest =
    let e : (length (bits 8 b ++ rest) + 7) / 8 ≡ suc ((length rest + 7) / 8) = rw (length-append, length_bits 8 b) (omega arith) in
    let a : (bits 8 b ++ rest) ++ replicate 7 0 ≡ bits 8 b ++ (rest ++ replicate 7 0) = append_assoc (bits 8 b) rest (replicate 7 0) in
    let t : take 8 (bits 8 b ++ (rest ++ replicate 7 0)) ≡ bits 8 b = take_at (bits 8 b) (rest ++ replicate 7 0) 8 (length_bits 8 b) in
    let d : drop 8 (bits 8 b ++ (rest ++ replicate 7 0)) ≡ rest ++ replicate 7 0 = drop_at (bits 8 b) (rest ++ replicate 7 0) 8 (length_bits 8 b) in
    ap (λ (c : ℕ). fields 8 c ((bits 8 b ++ rest) ++ replicate 7 0)) e
    ∙ ap (fields 8 (suc ((length rest + 7) / 8))) a
    ∙ ap (λ (l : List ℕ). value_from 0 l ∷ fields 8 ((length rest + 7) / 8) (drop 8 (bits 8 b ++ (rest ++ replicate 7 0)))) t
    ∙ ap (λ (l : List ℕ). value_from 0 (bits 8 b) ∷ fields 8 ((length rest + 7) / 8) l) d
    ∙ ap (λ (v : ℕ). v ∷ fields 8 ((length rest + 7) / 8) (rest ++ replicate 7 0)) (value_bits 8 b)

-- numbers below 256
pub data AreBytes : List ℕ → Type 0 where
  none8 : AreBytes []
  more8 : {b : ℕ} {bs : List ℕ} → b < 256 → AreBytes bs → AreBytes (b ∷ bs)

pub are_bytes : (l : List ℕ) → ((i : ℕ) → get_or l i 0 < 256) → AreBytes l
are_bytes [] h = none8
are_bytes (b ∷ l) h = more8 (h 0) (are_bytes l (λ i. h (suc i)))

-- what is written as bytes is read back, and what is read is what was written
pub bytes_of_bits_of : {bytes : List ℕ} → AreBytes bytes → (rest : List ℕ) → bytes_of (bits_of bytes ++ rest) ≡ bytes ++ bytes_of rest
unfolding bits_of each
bytes_of_bits_of none8 rest = refl
bytes_of_bits_of (more8 {b} {bs} h hs) rest =
    ap bytes_of (append_assoc (bits 8 b) (each (bits 8) bs) rest)
    ∙ bytes_of_byte b (each (bits 8) bs ++ rest)
    ∙ (rw (mod-eq_of_lt h) (ap (λ (l : List ℕ). b ∷ l) (bytes_of_bits_of hs rest)))

pub bytes_of_none : bytes_of [] ≡ []
unfolding bytes_of fields
bytes_of_none = refl

pub bytes_back : {bytes : List ℕ} → AreBytes bytes → bytes_of (bits_of bytes) ≡ bytes
bytes_back {bytes} h = ap bytes_of (sym (append-nil (bits_of bytes))) ∙ bytes_of_bits_of h [] ∙ (rw bytes_of_none (append-nil bytes))

-- the bytes of 16, 24 and 32 bits, and of 12 bits at the end
pub bytes_16 : (v : ℕ) (rest : List ℕ) → bytes_of (bits 16 v ++ rest) ≡ (v / 256 % 256) ∷ (v % 256) ∷ bytes_of rest
bytes_16 v rest =
    ap (λ (l : List ℕ). bytes_of (l ++ rest)) (bits_split 8 8 v) ∙ ap bytes_of (append_assoc (bits 8 (v / 256)) (bits 8 v) rest)
    ∙ bytes_of_byte (v / 256) (bits 8 v ++ rest) ∙ ap (λ (l : List ℕ). (v / 256 % 256) ∷ l) (bytes_of_byte v rest)

pub bytes_32 : (v : ℕ) (rest : List ℕ) → bytes_of (bits 32 v ++ rest) ≡ (v / 65536 / 256 % 256) ∷ (v / 65536 % 256) ∷ (v / 256 % 256) ∷ (v % 256) ∷ bytes_of rest
bytes_32 v rest =
    ap (λ (l : List ℕ). bytes_of (l ++ rest)) (bits_split 16 16 v) ∙ ap bytes_of (append_assoc (bits 16 (v / 65536)) (bits 16 v) rest)
    ∙ bytes_16 (v / 65536) (bits 16 v ++ rest)
    ∙ ap (λ (l : List ℕ). (v / 65536 / 256 % 256) ∷ (v / 65536 % 256) ∷ l) (bytes_16 v rest)

-- two entries of 12 bits in three bytes
pub bytes_24 : (x y : ℕ) (rest : List ℕ) → x < 4096 → y < 4096
    → bytes_of (bits 12 x ++ (bits 12 y ++ rest)) ≡ (x / 16) ∷ (x % 16 * 16 + y / 256) ∷ (y % 256) ∷ bytes_of rest
bytes_24 x y rest hx hy =
    let a : bits 12 x ++ (bits 12 y ++ rest) ≡ bits 8 (x / 16) ++ (bits 16 (x % 16 * 4096 + y) ++ rest)
    = ap (λ (l : List ℕ). l ++ (bits 12 y ++ rest)) (bits_split 8 4 x)
    ∙ append_assoc (bits 8 (x / 16)) (bits 4 x) (bits 12 y ++ rest)
    ∙ ap (λ (l : List ℕ). bits 8 (x / 16) ++ l)
    (sym (append_assoc (bits 4 x) (bits 12 y) rest)
    ∙ ap (λ (l : List ℕ). (l ++ bits 12 y) ++ rest) (sym (bits_more 4 0 x))
    ∙ ap (λ (l : List ℕ). l ++ rest) (sym (bits_join 4 12 (x % 16) y hy))) in
    let p : x / 16 % 256 ≡ x / 16 = omega arith in
    let q : (x % 16 * 4096 + y) / 256 % 256 ≡ x % 16 * 16 + y / 256 = omega arith in
    let r : (x % 16 * 4096 + y) % 256 ≡ y % 256 = omega arith in
    ap bytes_of a ∙ bytes_of_byte (x / 16) (bits 16 (x % 16 * 4096 + y) ++ rest)
    ∙ ap (λ (l : List ℕ). (x / 16 % 256) ∷ l) (bytes_16 (x % 16 * 4096 + y) rest)
    ∙ (rw (p, q, r))

bytes_4 : (x : ℕ) → bytes_of (bits 4 x) ≡ (x % 16 * 16) ∷ []
unfolding bytes_of fields bits value_from
bytes_4 x =
    let e : value_from 0 (take 8 (bits 4 x ++ replicate 7 0)) ≡ value_from 0 (bits 4 x) * 16 = value_append (bits 4 x) (replicate 4 0) 0 ∙ omega arith in
    ap (λ (v : ℕ). v ∷ []) (e ∙ ap (λ (v : ℕ). v * 16) (value_bits 4 x))

pub bytes_12 : (x : ℕ) → x < 4096 → bytes_of (bits 12 x) ≡ (x / 16) ∷ (x % 16 * 16) ∷ []
bytes_12 x h =
    let p : x / 16 % 256 ≡ x / 16 = omega arith in
    ap bytes_of (bits_split 8 4 x) ∙ bytes_of_byte (x / 16) (bits 4 x) ∙ (rw p (ap (λ (l : List ℕ). (x / 16) ∷ l) (bytes_4 x)))

-- bits that are all 0
pub every_zero : (bs : List ℕ) → AreBits bs → every (eqb 0) bs ≡ eqb (value_from 0 bs) 0
unfolding every value_from
every_zero [] none = refl
every_zero (zero ∷ bs) (more l h) = every_zero bs h
every_zero (suc zero ∷ bs) (more l h) =
    let z : value_from (0 * 2 + 1) bs ≡ 0 → ⊥ = λ e. omega (arith, value_from_lem bs (0 * 2 + 1), pow_pos (length bs), e) in
    sym (ne_eqb (value_from (0 * 2 + 1) bs) 0 z)
every_zero (suc (suc b) ∷ bs) (more l h) = absurd (omega arith)

-- ---- whole bytes in front
fields_append : (w m c : ℕ) (xs ys : List ℕ) → length xs ≡ w * m → fields w (m + c) (xs ++ ys) ≡ fields w m xs ++ fields w c ys
unfolding fields
fields_append w zero c xs ys h = rw zero-add (empty xs (h ∙ mul-zero w))
  where
    empty : (l : List ℕ) → length l ≡ 0 → fields w c (l ++ ys) ≡ fields w c ys
    empty [] e = refl
    empty (x ∷ l) e = absurd (omega arith)
fields_append w (suc m) c xs ys h =
    let k : w ≤ length xs = omega (arith, h, mul-suc w m) in
    let d : length (drop w xs) ≡ w * m = rw length-drop (omega (arith, h, mul-suc w m)) in
    rw (suc-add, take-append-le w xs ys k, drop-append-le w xs ys k) (ap (λ (l : List ℕ). value_from 0 (take w xs) ∷ l) (fields_append w m c (drop w xs) ys d))

pub bytes_of_append : (m : ℕ) (xs ys : List ℕ) → length xs ≡ 8 * m → bytes_of (xs ++ ys) ≡ bytes_of xs ++ bytes_of ys
unfolding bytes_of fields
bytes_of_append m xs ys h =
    let a : (length (xs ++ ys) + 7) / 8 ≡ m + (length ys + 7) / 8 = rw length-append (omega arith) in
    let b : (length xs + 7) / 8 ≡ m + 0 = omega arith in
    let e : fields 8 ((length xs + 7) / 8) (xs ++ replicate 7 0) ≡ fields 8 m xs
    = ap (λ (c : ℕ). fields 8 c (xs ++ replicate 7 0)) b ∙ fields_append 8 m 0 xs (replicate 7 0) h ∙ ends (fields 8 m xs) in
    ap (λ (c : ℕ). fields 8 c ((xs ++ ys) ++ replicate 7 0)) a ∙ ap (fields 8 (m + (length ys + 7) / 8)) (append_assoc xs ys (replicate 7 0))
    ∙ fields_append 8 m ((length ys + 7) / 8) xs (ys ++ replicate 7 0) h ∙ ap (λ (l : List ℕ). l ++ fields 8 ((length ys + 7) / 8) (ys ++ replicate 7 0)) (sym e)
  where
    ends : (l : List ℕ) → l ++ fields 8 0 (replicate 7 0) ≡ l
    ends l = append-nil l

pub length_bytes_of : (bs : List ℕ) → length (bytes_of bs) ≡ (length bs + 7) / 8
unfolding bytes_of
length_bytes_of bs = length_fields 8 ((length bs + 7) / 8) (bs ++ replicate 7 0)
