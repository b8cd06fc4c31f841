-- Bytes pushed, turned and lifted by windows of two words, the layouts made of these, and the words on top. Assumes nothing.
use mathlib.Core.Path.{◌≡◌, refl, sym, ap, ap₂, ◌∙◌}
use mathlib.Core.List.{List, ◌∷◌, ◌++◌, append_assoc}
use Prim.Native.Nat.{ℕ, zero, suc, ◌+◌, ◌-◌, ◌/◌, ◌%◌, ◌^◌, ◌≤◌, ◌<◌}
use native.Mathlib.Nat.{mod-eq_of_lt, mod-lt, div-lt_iff_lt-mul, le_of_suc-le-suc, not-suc-le-zero}
use native.Mathlib.Omega.{arith}
use lib.ListN.{length, take, drop, length-append, length-drop, take-append-drop}
use lib.Seq.{take_at, drop_at, drop-drop, take-append-le, drop-append-le, take-append-add, length-take-le}
use Rattle.stack.specs.Stack.{IsStack, bytes_of, zeros, pushed, top_byte, rotated, over_a, replaced, copied, exchanged, tos, nos}
use Rattle.stack.proofs.Words.{length-bytes, tos_over, bytes_append, bytes_drop, bytes_of_lem, bytes_tos}
use Rattle.stack.specs.Words.{eight, window, slid, over_eight}
use Rattle.stack.proofs.Windows.{pos, split, kept, last_bytes}

-- two parts where each is known
pub joined : {a b x y : List ℕ} → a ≡ x → b ≡ y → a ++ b ≡ x ++ y
joined p q = ap₂ (λ (l m : List ℕ). l ++ m) p q

length-eight : (t : ℕ) → length (eight t) ≡ 8
unfolding eight
length-eight t = refl

pub length-stack : (t u : ℕ) → length (eight t ++ eight u) ≡ 16
unfolding eight
length-stack t u = refl

pub eight_zero : eight 0 ≡ zeros 8
unfolding eight
eight_zero = refl

take_zeros : (n m : ℕ) → n ≤ m → take n (zeros m) ≡ zeros n
take_zeros zero m h = refl
take_zeros (suc n) zero h = absurd (not-suc-le-zero h)
take_zeros (suc n) (suc m) h = ap (λ (l : List ℕ). 0 ∷ l) (take_zeros n m (le_of_suc-le-suc h))

-- ---- two windows side by side
pub slides : (k a b c : ℕ) → window k a b ++ window k b c ≡ slid k a b c
slides k a b c =
    append_assoc (drop k (eight a)) (take k (eight b)) (drop k (eight b) ++ take k (eight c))
    ∙ ap (λ (l : List ℕ). drop k (eight a) ++ l)
    (sym (append_assoc (take k (eight b)) (drop k (eight b)) (take k (eight c))) ∙ ap (λ (l : List ℕ). l ++ take k (eight c)) (take-append-drop k (eight b)))

module _ (t u n : ℕ) (h : n ≤ 8) where
  part : n ≤ length (eight t)
  part = omega (arith, length-eight t)

  pub turn_law : slid n t u t ≡ rotated n (eight t ++ eight u)
  turn_law =
      sym (append_assoc (drop n (eight t)) (eight u) (take n (eight t)))
      ∙ sym (joined (drop-append-le n (eight t) (eight u) part) (take-append-le n (eight t) (eight u) part))

  pub lift_law : slid n t u 0 ≡ drop n (eight t ++ eight u) ++ zeros n
  lift_law =
      sym (append_assoc (drop n (eight t)) (eight u) (take n (eight 0)))
      ∙ sym (joined (drop-append-le n (eight t) (eight u) part) (sym (ap (take n) eight_zero ∙ take_zeros n 8 h)))

  pub push_law : (w k : ℕ) → k + n ≡ 8 → slid k w t u ≡ bytes_of n w ++ take (16 - n) (eight t ++ eight u)
  push_law w k e =
      let m : 16 - n ≡ length (eight t) + k = omega (arith, length-eight t) in
      joined (last_bytes k n w e) (sym (ap (λ (x : ℕ). take x (eight t ++ eight u)) m ∙ take-append-add (eight t) (eight u) k))

  pub put_law : (r k v w : ℕ) → k + n ≡ 8 → eight v ≡ window n t 0 → eight w ≡ window k r v → eight w ++ eight u ≡ replaced n (eight t ++ eight u) r
  put_law r k v w e ev ew =
      let m : length (drop n (eight t)) ≡ k = length-drop n (eight t) ∙ omega (arith, length-eight t) in
      joined (ew ∙ joined (last_bytes k n r e) (ap (take k) ev ∙ take_at (drop n (eight t)) (take n (eight 0)) k m)) refl
      ∙ append_assoc (bytes_of n r) (drop n (eight t)) (eight u)
      ∙ ap (λ (l : List ℕ). bytes_of n r ++ l) (sym (drop-append-le n (eight t) (eight u) part))

-- ---- the layouts
pub cleared_law : eight 0 ++ eight 0 ≡ zeros 16
unfolding eight
cleared_law = refl

-- a byte pushed
pub one_byte : (s : List ℕ) (b : ℕ) → b < 256 → bytes_of 1 b ++ take 15 s ≡ pushed s b
one_byte s b h = ap (λ (x : ℕ). x ∷ take 15 s) (mod-eq_of_lt h)

-- R in place of the word that a move up left on top
pub over_law : (n r : ℕ) (s x : List ℕ) → n + n ≤ length s → replaced n (drop n s ++ x) r ≡ bytes_of n r ++ (drop (n + n) s ++ x)
over_law n r s x h =
    let l : n ≤ length (drop n s) = simp length-drop (omega arith) in
    ap (λ (y : List ℕ). bytes_of n r ++ y) (drop-append-le n (drop n s) x l ∙ ap (λ (y : List ℕ). y ++ x) (drop-drop n n s))

module _ (n : ℕ) (s : List ℕ) (S : IsStack s) (h : n + n ≤ 16) where
  fit : n ≤ length s
  fit = omega (arith, S.sixteen)

  pub copy_law : bytes_of n (tos n s) ++ take (16 - n) s ≡ copied n s
  copy_law = joined (bytes_tos n s S.bytes fit) refl

  pub exchange_law : bytes_of n (nos n s) ++ take (16 - n) (over_a n s (tos n s)) ≡ exchanged n s
  exchange_law =
      let below : n ≤ length (drop n s) = simp length-drop (omega (arith, S.sixteen)) in
      let a = bytes_tos n s S.bytes fit in
      let size : length (take n s ++ drop (n + n) s) ≡ 16 - n = simp (length-append, length-take-le n s fit, length-drop) (omega (arith, S.sixteen)) in
      joined (bytes_tos n (drop n s) (bytes_drop n s S.bytes) below)
      (ap (λ (l : List ℕ). take (16 - n) (l ++ (drop (n + n) s ++ take n s))) a
      ∙ ap (take (16 - n)) (sym (append_assoc (take n s) (drop (n + n) s) (take n s)))
      ∙ take_at (take n s ++ drop (n + n) s) (take n s) (16 - n) size)

module _ (t u : ℕ) where
  -- eight bytes at once
  pub push_eight : (w : ℕ) → eight w ++ eight t ≡ eight w ++ take 8 (eight t ++ eight u)
  unfolding eight
  push_eight w = refl

  pub turn_eight : eight u ++ eight t ≡ rotated 8 (eight t ++ eight u)
  unfolding eight
  turn_eight = refl

  pub realigned_law : drop 2 (bytes_of 1 0 ++ take 15 (eight t ++ eight u)) ++ zeros 2 ≡ take 14 (rotated 1 (eight t ++ eight u)) ++ zeros 2
  unfolding eight
  realigned_law = refl

  -- R slid over the eight bytes from place k on
  pub convert_law : (k : ℕ) → k ≤ 8 → (kept n : ℕ) → n ≤ 8 → (r : ℕ) → eight kept ≡ window k t u
      → slid (8 - n) r kept 0 ≡ over_eight k n (eight t ++ eight u) r
  convert_law k l kept n h r e =
      let whole = length-eight t in
      let m : length (drop k (eight t)) + k ≡ 8 = simp length-drop (omega arith) in
      joined (last_bytes (8 - n) n r (omega arith))
      (joined
      (e
      ∙ sym (ap (λ (x : ℕ). take x (drop k (eight t) ++ eight u)) (sym m) ∙ take-append-add (drop k (eight t)) (eight u) k)
      ∙ ap (take 8) (sym (drop-append-le k (eight t) (eight u) (omega arith))))
      (ap (take (8 - n)) eight_zero ∙ take_zeros (8 - n) 8 (omega arith)))

-- ---- the words on top, and the byte
module _ (t u : ℕ) where
  pub word_law : (n j : ℕ) → 8 ≡ n + j → t / 256 ^ j < 256 ^ n → t / 256 ^ j ≡ tos n (eight t ++ eight u)
  unfolding eight
  word_law n j e h =
      sym
      (ap (λ (l : List ℕ). tos n (l ++ bytes_of 8 u)) (split j n 8 t e)
      ∙ ap (tos n) (append_assoc (bytes_of n (t / 256 ^ j)) (bytes_of j t) (bytes_of 8 u))
      ∙ tos_over n (t / 256 ^ j) (bytes_of j t ++ bytes_of 8 u) h)

  pub next_law : (n j m : ℕ) → m ≡ n + j → 8 ≡ n + m → t / 256 ^ j % 256 ^ n ≡ nos n (eight t ++ eight u)
  unfolding eight
  next_law n j m f e =
      sym
      (ap (λ (l : List ℕ). nos n (l ++ bytes_of 8 u)) (split m n 8 t e)
      ∙ ap (nos n) (append_assoc (bytes_of n (t / 256 ^ m)) (bytes_of m t) (bytes_of 8 u))
      ∙ ap (tos n) (drop_at (bytes_of n (t / 256 ^ m)) (bytes_of m t ++ bytes_of 8 u) n (length-bytes n (t / 256 ^ m)))
      ∙ ap (λ (l : List ℕ). tos n (l ++ bytes_of 8 u)) (split j n m t f ∙ ap (λ (l : List ℕ). l ++ bytes_of j t) (sym (kept n (t / 256 ^ j))))
      ∙ ap (tos n) (append_assoc (bytes_of n (t / 256 ^ j % 256 ^ n)) (bytes_of j t) (bytes_of 8 u))
      ∙ tos_over n (t / 256 ^ j % 256 ^ n) (bytes_of j t ++ bytes_of 8 u) (mod-lt (t / 256 ^ j) (pos n)))

  pub top_law : t < 256 ^ 8 → t / 256 ^ 7 ≡ top_byte (eight t ++ eight u)
  unfolding eight
  top_law h =
      let below : t / 256 ^ 7 < 256 = (div-lt_iff_lt-mul (pos 7)).1 h in
      let w = word_law 1 7 refl below in
      omega arith

-- two words are a stack of 16 bytes
pub is_stack : (t u : ℕ) → IsStack (eight t ++ eight u)
unfolding eight
is_stack t u = record { sixteen = refl; bytes = bytes_append (bytes_of 8 t) (bytes_of 8 u) (bytes_of_lem 8 t) (bytes_of_lem 8 u) }
