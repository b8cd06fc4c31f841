-- Entries of c bytes written in turn: what stands is the bytes of the entries so far, and the rest as it was. Assumes nothing.
use mathlib.Core.Path.{◌≡◌, refl, sym, ap, ap₂, ◌∙◌}
use mathlib.Core.List.{List, [], ◌∷◌, ◌++◌, append-nil, append_assoc}
use Prim.Native.Nat.{ℕ, zero, suc, ◌+◌, ◌-◌, ◌*◌, ◌≤◌, ◌<◌}
use native.Mathlib.Nat.{zero-mul, suc-mul, mul-le-mul_right}
use native.Mathlib.Numerals.{add-one}
use native.Mathlib.Omega.{arith}
use lib.ListN.{length, take, drop, length-append, length-drop}
use lib.Seq.{take_at, drop_at, drop-drop, length-take-le}
use Rattle.host_floats.specs.declared.buffer.Entry.{Entry}
use Rattle.host_floats.specs.Buffers.{entries_from, bytes_of}

-- one entry more, at the end
entries_more : (f : ℕ → Entry) (n j : ℕ) → entries_from f j (suc n) ≡ entries_from f j n ++ (f (j + n) ∷ [])
unfolding entries_from
entries_more f zero j = ap (λ (i : ℕ). f i ∷ []) (omega arith)
entries_more f (suc n) j =
    ap (λ (es : List Entry). f j ∷ es) (entries_more f n (j + 1) ∙ ap (λ (i : ℕ). entries_from f (j + 1) n ++ (f i ∷ [])) (omega arith))

bytes_more : (le : ℕ → List ℕ) (es : List Entry) (e : Entry) → bytes_of le (es ++ (e ∷ [])) ≡ bytes_of le es ++ le e.bits
unfolding bytes_of
bytes_more le [] e = append-nil (le e.bits)
bytes_more le (d ∷ es) e = ap (λ (l : List ℕ). le d.bits ++ l) (bytes_more le es e) ∙ sym (append_assoc (le d.bits) (bytes_of le es) (le e.bits))

-- the bytes of the first n entries
abbrev pub first_bytes : (ℕ → List ℕ) → (ℕ → Entry) → ℕ → List ℕ
first_bytes le f n = bytes_of le (entries_from f 0 n)

first_more : (le : ℕ → List ℕ) (f : ℕ → Entry) (n : ℕ) → first_bytes le f n ++ le (f n).bits ≡ first_bytes le f (n + 1)
first_more le f n =
    sym (ap (λ (m : ℕ). first_bytes le f m) (add-one n)
    ∙ ap (bytes_of le) (entries_more f n 0 ∙ ap (λ (i : ℕ). entries_from f 0 n ++ (f i ∷ [])) (omega arith))
    ∙ bytes_more le (entries_from f 0 n) (f n))

pub record Written (c : ℕ) (le : ℕ → List ℕ) (f : ℕ → Entry) (before now : List ℕ) (n i : ℕ) : Type 0 where
  pub left : i ≤ n
  pub so_far : now ≡ first_bytes le f i ++ drop (i * c) before

module _ (c : ℕ) (le : ℕ → List ℕ) (size : (x : ℕ) → length (le x) ≡ c) (f : ℕ → Entry) where
  bytes_length : (es : List Entry) → length (bytes_of le es) ≡ length es * c
  unfolding bytes_of
  bytes_length [] = sym (zero-mul c)
  bytes_length (e ∷ es) = length-append (le e.bits) (bytes_of le es) ∙ ap₂ ◌+◌ (size e.bits) (bytes_length es) ∙ omega (arith, suc-mul (length es) c)

  entries_length : (n j : ℕ) → length (entries_from f j n) ≡ n
  unfolding entries_from
  entries_length zero j = refl
  entries_length (suc n) j = ap suc (entries_length n (j + 1))

  pub first_length : (n : ℕ) → length (first_bytes le f n) ≡ n * c
  first_length n = bytes_length (entries_from f 0 n) ∙ ap (λ (m : ℕ). m * c) (entries_length n 0)

  pub write_start : (d : List ℕ) (n : ℕ) → Written c le f d d n 0
  write_start d n = record { left = omega arith; so_far = ap (λ (k : ℕ). drop k d) (sym (zero-mul c)) ∙ (unfold bytes_of entries_from in refl) }

  write_length : (d e : List ℕ) (n i : ℕ) → n * c ≤ length d → Written c le f d e n i → length e ≡ length d
  write_length d e n i h w =
      let g = mul-le-mul_right c w.left in
      ap length w.so_far ∙ length-append (first_bytes le f i) (drop (i * c) d) ∙ ap (λ (x : ℕ). x + length (drop (i * c) d)) (first_length i)
      ∙ omega (arith, length-drop (i * c) d)

  -- one entry more
  pub write_on : (d e y : List ℕ) (n i : ℕ) → n * c ≤ length d → i < n → Written c le f d e n i → y ≡ le (f i).bits
      → Written c le f d (take (i * c) e ++ (y ++ drop (i * c + c - i * c) (drop (i * c) e))) n (i + 1)
      × (length (take (i * c) e ++ (y ++ drop (i * c + c - i * c) (drop (i * c) e))) ≡ length d)
  write_on d e y n i r h w q = (v, write_length d (take (i * c) e ++ (y ++ drop (i * c + c - i * c) (drop (i * c) e))) n (i + 1) r v)
    where
      same : (k : ℕ) → k + c - k ≡ c
      same k = omega arith

      more : (j : ℕ) → j * c + c ≡ (j + 1) * c
      more j = omega arith

      x : take (i * c) e ≡ first_bytes le f i
      x = ap (take (i * c)) w.so_far ∙ take_at (first_bytes le f i) (drop (i * c) d) (i * c) (first_length i)

      z : drop (i * c + c - i * c) (drop (i * c) e) ≡ drop ((i + 1) * c) d
      z =
          ap₂ (λ (k : ℕ) (t : List ℕ). drop k t) (same (i * c)) (ap (drop (i * c)) w.so_far ∙ drop_at (first_bytes le f i) (drop (i * c) d)
          (i * c) (first_length i))
          ∙ drop-drop c (i * c) d ∙ ap (λ (k : ℕ). drop k d) (more i)

      v : Written c le f d (take (i * c) e ++ (y ++ drop (i * c + c - i * c) (drop (i * c) e))) n (i + 1)
      v = record {
        left = omega arith;
        so_far =
            ap₂ (λ (s t : List ℕ). s ++ (y ++ t)) x z
            ∙ ap (λ (t : List ℕ). first_bytes le f i ++ (t ++ drop ((i + 1) * c) d)) q
            ∙ sym (append_assoc (first_bytes le f i) (le (f i).bits) (drop ((i + 1) * c) d))
            ∙ ap (λ (t : List ℕ). t ++ drop ((i + 1) * c) d) (first_more le f i);
      }

  pub write_end : (d e : List ℕ) (n i : ℕ) → n ≤ i → Written c le f d e n i → e ≡ first_bytes le f n ++ drop (n * c) d
  write_end d e n i h w = let g = w.left in w.so_far ∙ ap (λ (k : ℕ). first_bytes le f k ++ drop (k * c) d) (same g)
    where
      same : i ≤ n → i ≡ n
      same g = omega arith

-- the part of a slice that the next entry takes
pub part_next : (c i : ℕ) (e : List ℕ) → i * c + c ≤ length e → length (take (i * c + c - i * c) (drop (i * c) e)) ≡ c
part_next c i e h = length-take-le (i * c + c - i * c) (drop (i * c) e) (omega (arith, length-drop (i * c) e)) ∙ omega arith
