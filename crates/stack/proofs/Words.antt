-- A number and its bytes: n bytes stand for the number that they are the bytes of, and the word on top of a stack is below 256 to the n. Assumes nothing.
use mathlib.Core.Path.{◌≡◌, refl, sym, ap, ap₂, subst, ◌∙◌}
use mathlib.Core.List.{List, [], ◌∷◌, ◌++◌, append_assoc, append-nil}
use Prim.Native.Nat.{ℕ, zero, suc, ◌+◌, ◌*◌, ◌/◌, ◌%◌, ◌^◌, ◌≤◌, ◌<◌}
use native.Mathlib.Nat.{add-zero, zero-add, add-suc, suc-add, div-add-mod', div-lt_iff_lt-mul, mod-lt, mul_assoc, mul_comm, pow-suc}
use native.Mathlib.Numerals.{add-one}
use native.Mathlib.Omega.{arith}
use lib.Dec.{lit<}
use lib.ListN.{length, get_or, take, drop, length-append, length-drop}
use lib.Seq.{take_at, length-take-le}
use Rattle.stack.specs.Stack.{number_from, bytes_of, zeros, Bytes, tos, nos}

-- ---- bytes
pub length-bytes : (n r : ℕ) → length (bytes_of n r) ≡ n
length-bytes zero r = refl
length-bytes (suc n) r = length-append (bytes_of n (r / 256)) (r % 256 ∷ []) ∙ ap (λ (k : ℕ). k + 1) (length-bytes n (r / 256)) ∙ add-one n

pub length-zeros : (n : ℕ) → length (zeros n) ≡ n
length-zeros zero = refl
length-zeros (suc n) = ap suc (length-zeros n)

pub bytes_append : (k l : List ℕ) → Bytes k → Bytes l → Bytes (k ++ l)
bytes_append [] l p q = q
bytes_append (b ∷ k) l p q = (p.0, bytes_append k l p.1 q)

pub bytes_take : (n : ℕ) (l : List ℕ) → Bytes l → Bytes (take n l)
bytes_take zero l p = tt
bytes_take (suc n) [] p = tt
bytes_take (suc n) (b ∷ l) p = (p.0, bytes_take n l p.1)

pub bytes_drop : (n : ℕ) (l : List ℕ) → Bytes l → Bytes (drop n l)
bytes_drop zero l p = p
bytes_drop (suc n) [] p = tt
bytes_drop (suc n) (b ∷ l) p = bytes_drop n l p.1

-- every element of a list of bytes is a byte
pub byte_at : (l : List ℕ) → Bytes l → (i : ℕ) → get_or l i 0 < 256
byte_at [] h i = lit< tt
byte_at (x ∷ l) h zero = h.0
byte_at (x ∷ l) h (suc i) = byte_at l h.1 i

pub bytes_of_lem : (n r : ℕ) → Bytes (bytes_of n r)
bytes_of_lem zero r = tt
bytes_of_lem (suc n) r = bytes_append (bytes_of n (r / 256)) (r % 256 ∷ []) (bytes_of_lem n (r / 256)) (mod-lt r (lit< tt), tt)

-- ---- the number of a list of bytes
number_snoc : (a : ℕ) (l : List ℕ) (b : ℕ) → number_from a (l ++ (b ∷ [])) ≡ number_from a l * 256 + b
number_snoc a [] b = refl
number_snoc a (x ∷ l) b = number_snoc (a * 256 + x) l b

-- the n bytes of a number below 256 ^ n stand for it
pub number_bytes : (n r : ℕ) → r < 256 ^ n → number_from 0 (bytes_of n r) ≡ r
number_bytes zero r h = let e : r < 1 = h in omega arith
number_bytes (suc n) r h =
    number_snoc 0 (bytes_of n (r / 256)) (r % 256)
    ∙ ap (λ (x : ℕ). x * 256 + r % 256) (number_bytes n (r / 256) ((div-lt_iff_lt-mul (lit< tt)).1 (subst (λ (x : ℕ). r < x) (pow-suc 256 n) h)))
    ∙ div-add-mod' r 256

number_lt : (a k : ℕ) (l : List ℕ) → a < k → Bytes l → number_from a l < k * 256 ^ length l
number_lt a k [] h p = omega arith
number_lt a k (b ∷ l) h p =
    let q = p.0 in
    let more : k * 256 * 256 ^ length l ≡ k * 256 ^ suc (length l) =
    mul_assoc k 256 (256 ^ length l) ∙ ap (λ (x : ℕ). k * x) (mul_comm 256 (256 ^ length l) ∙ sym (pow-suc 256 (length l))) in
    subst (λ (x : ℕ). number_from (a * 256 + b) l < x) more (number_lt (a * 256 + b) (k * 256) l (omega arith) p.1)

-- bytes stand for a number below 256 to their count
pub number_below : (l : List ℕ) → Bytes l → number_from 0 l < 256 ^ length l
number_below l p = let i = number_lt 0 1 l (lit< tt) p in omega arith

-- bytes are those of the number that they stand for, behind the bytes of the number before them
bytes_after : (l : List ℕ) → Bytes l → (n x : ℕ) → bytes_of (n + length l) (number_from x l) ≡ bytes_of n x ++ l
bytes_after [] h n x = ap (λ (k : ℕ). bytes_of k x) (add-zero n) ∙ sym (append-nil (bytes_of n x))
bytes_after (b ∷ l) h n x =
    let small = h.0 in
    let up : (x * 256 + b) / 256 ≡ x = omega arith in
    let last : (x * 256 + b) % 256 ≡ b = omega arith in
    ap (λ (k : ℕ). bytes_of k (number_from (x * 256 + b) l)) (add-suc n (length l) ∙ sym (suc-add n (length l)))
    ∙ bytes_after l h.1 (suc n) (x * 256 + b)
    ∙ ap₂ (λ (y z : ℕ). (bytes_of n y ++ (z ∷ [])) ++ l) up last
    ∙ append_assoc (bytes_of n x) (b ∷ []) l

-- ---- the word on top
-- its bytes
pub bytes_tos : (n : ℕ) (s : List ℕ) → Bytes s → n ≤ length s → bytes_of n (tos n s) ≡ take n s
bytes_tos n s p h =
    ap (λ (k : ℕ). bytes_of k (tos n s)) (sym (length-take-le n s h) ∙ sym (zero-add (length (take n s)))) ∙ bytes_after (take n s) (bytes_take n s p) 0 0

-- what is laid on top is read there
pub tos_over : (n r : ℕ) (t : List ℕ) → r < 256 ^ n → tos n (bytes_of n r ++ t) ≡ r
tos_over n r t h = ap (λ (l : List ℕ). number_from 0 l) (take_at (bytes_of n r) t n (length-bytes n r)) ∙ number_bytes n r h

-- the words A and B of a stack of bytes
pub tos_lt : (n : ℕ) (s : List ℕ) → Bytes s → n ≤ length s → tos n s < 256 ^ n
tos_lt n s p h = subst (λ (k : ℕ). tos n s < 256 ^ k) (length-take-le n s h) (number_below (take n s) (bytes_take n s p))

pub nos_lt : (n : ℕ) (s : List ℕ) → Bytes s → n + n ≤ length s → nos n s < 256 ^ n
nos_lt n s p h =
    let l : n ≤ length (drop n s) = simp length-drop (omega arith) in
    tos_lt n (drop n s) (bytes_drop n s p) l
