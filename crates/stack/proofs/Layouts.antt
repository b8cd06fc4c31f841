-- Every layout of a stack is a stack again, and R lies on top. Assumes nothing.
use mathlib.Core.Path.{◌≡◌, refl, ap, ◌∙◌}
use mathlib.Core.List.{List, ◌++◌}
use Prim.Native.Nat.{ℕ, zero, suc, ◌+◌, ◌-◌, ◌≤◌, ◌<◌}
use native.Mathlib.Omega.{arith}
use lib.Dec.{lit<, lit≤}
use lib.ListN.{take, drop, length-append, length-take, length-drop}
use lib.Seq.{take_at, length-take-le}
use Rattle.terms.specs.declared.Width.{Width}
use Rattle.terms.specs.declared.Width.TheVariants.{Single, Double}
use Rattle.terms.specs.Width.{size_of}
use Rattle.stack.specs.Stack.{Bytes, IsStack, bytes_of, zeros, pushed, rotated, over_a, over_zero, replaced, copied, exchanged, pushed_word, converted}
use Rattle.stack.specs.Stack.{widened, narrowed}
use Rattle.stack.proofs.Words.{length-bytes, length-zeros, bytes_append, bytes_take, bytes_drop, bytes_of_lem}

-- ---- zeros
bytes_zeros : (n : ℕ) → Bytes (zeros n)
bytes_zeros zero = tt
bytes_zeros (suc n) = (lit< tt, bytes_zeros n)

pub zeros_stack : IsStack (zeros 16)
zeros_stack = record { sixteen = refl; bytes = bytes_zeros 16 }

-- two words of either width are part of a stack
pub two_fit : (w : Width) → size_of w + size_of w ≤ 16
two_fit Single = lit≤ tt
two_fit Double = lit≤ tt

-- ---- every layout is a stack
module _ (s : List ℕ) (S : IsStack s) where
  pub pushed_stack : (b : ℕ) → b < 256 → IsStack (pushed s b)
  pushed_stack b h = let e = S.sixteen in record { sixteen = ap suc (simp length-take (omega arith)); bytes = (h, bytes_take 15 s S.bytes) }

  pub rotated_stack : (n : ℕ) → n ≤ 16 → IsStack (rotated n s)
  rotated_stack n h = let e = S.sixteen in record {
    sixteen = simp (length-append, length-take, length-drop) (omega arith);
    bytes = bytes_append (drop n s) (take n s) (bytes_drop n s S.bytes) (bytes_take n s S.bytes);
  }

  -- the top byte gone, two zeros at the bottom
  pub realigned_stack : IsStack (take 14 (rotated 1 s) ++ zeros 2)
  realigned_stack =
      let r = rotated_stack 1 (lit≤ tt) in
      let e = length-take-le 14 (rotated 1 s) (omega (arith, r.sixteen)) in
      record {
        sixteen = length-append (take 14 (rotated 1 s)) (zeros 2) ∙ omega arith;
        bytes = bytes_append (take 14 (rotated 1 s)) (zeros 2) (bytes_take 14 (rotated 1 s) r.bytes) (bytes_zeros 2);
      }

  pub exchanged_stack : (n : ℕ) → n + n ≤ 16 → IsStack (exchanged n s)
  exchanged_stack n h = let e = S.sixteen in record {
    sixteen = simp (length-append, length-take, length-drop) (omega arith);
    bytes =
        bytes_append (take n (drop n s)) (take n s ++ drop (n + n) s) (bytes_take n (drop n s) (bytes_drop n s S.bytes))
        (bytes_append (take n s) (drop (n + n) s) (bytes_take n s S.bytes) (bytes_drop (n + n) s S.bytes));
  }

  pub copied_stack : (n : ℕ) → n ≤ 16 → IsStack (copied n s)
  copied_stack n h = let e = S.sixteen in record {
    sixteen = simp (length-append, length-take) (omega arith);
    bytes = bytes_append (take n s) (take (16 - n) s) (bytes_take n s S.bytes) (bytes_take (16 - n) s S.bytes);
  }

  pub replaced_stack : (n : ℕ) → n ≤ 16 → (r : ℕ) → IsStack (replaced n s r)
  replaced_stack n h r = let e = S.sixteen in record {
    sixteen = simp (length-append, length-bytes, length-drop) (omega arith);
    bytes = bytes_append (bytes_of n r) (drop n s) (bytes_of_lem n r) (bytes_drop n s S.bytes);
  }

  pub over_a_stack : (n : ℕ) → n + n ≤ 16 → (r : ℕ) → IsStack (over_a n s r)
  over_a_stack n h r = let e = S.sixteen in record {
    sixteen = simp (length-append, length-bytes, length-drop, length-take) (omega arith);
    bytes =
        bytes_append (bytes_of n r) (drop (n + n) s ++ take n s) (bytes_of_lem n r)
        (bytes_append (drop (n + n) s) (take n s) (bytes_drop (n + n) s S.bytes) (bytes_take n s S.bytes));
  }

  pub over_zero_stack : (n : ℕ) → n + n ≤ 16 → (r : ℕ) → IsStack (over_zero n s r)
  over_zero_stack n h r = let e = S.sixteen in record {
    sixteen = simp (length-append, length-bytes, length-drop, length-zeros) (omega arith);
    bytes =
        bytes_append (bytes_of n r) (drop (n + n) s ++ zeros n) (bytes_of_lem n r)
        (bytes_append (drop (n + n) s) (zeros n) (bytes_drop (n + n) s S.bytes) (bytes_zeros n));
  }

  pub pushed_word_stack : (r : ℕ) → IsStack (pushed_word s r)
  pushed_word_stack r = let e = S.sixteen in record {
    sixteen = simp (length-append, length-bytes, length-take) (omega arith);
    bytes = bytes_append (bytes_of 4 r) (take 12 s) (bytes_of_lem 4 r) (bytes_take 12 s S.bytes);
  }

  -- R of m bytes, eight bytes of the stack, and zeros
  eight : (m k n r : ℕ) → m + 8 + n ≡ 16 → k ≤ 8 → IsStack (bytes_of m r ++ (take 8 (drop k s) ++ zeros n))
  eight m k n r h l = let e = S.sixteen in record {
    sixteen = simp (length-append, length-bytes, length-take, length-drop, length-zeros) (omega arith);
    bytes =
        bytes_append (bytes_of m r) (take 8 (drop k s) ++ zeros n) (bytes_of_lem m r)
        (bytes_append (take 8 (drop k s)) (zeros n) (bytes_take 8 (drop k s) (bytes_drop k s S.bytes)) (bytes_zeros n));
  }

  pub converted_stack : (r : ℕ) → IsStack (converted s r)
  converted_stack r = eight 4 4 4 r refl (omega arith)

  pub widened_stack : (r : ℕ) → IsStack (widened s r)
  widened_stack r = eight 4 2 4 r refl (omega arith)

  pub narrowed_stack : (r : ℕ) → IsStack (narrowed s r)
  narrowed_stack r = eight 2 4 6 r refl (omega arith)

-- ---- R on top, and what is below it
pub top_bytes : (n r : ℕ) (t : List ℕ) → take n (bytes_of n r ++ t) ≡ bytes_of n r
top_bytes n r t = take_at (bytes_of n r) t n (length-bytes n r)
