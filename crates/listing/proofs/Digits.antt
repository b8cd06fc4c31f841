-- Digits to a base are written from the last one on; hex digits that were written are read as the number that they were
-- written from. Assumes nothing.
use mathlib.Core.Path.{◌≡◌, refl, sym, ap, ap₂, ◌∙◌}
use mathlib.Core.Bool.{Bool, true, false, cond}
use mathlib.Core.List.{List, [], ◌∷◌, ◌++◌, append_assoc, append-nil}
use Prim.Native.Nat.{ℕ, zero, suc, ◌+◌, ◌-◌, ◌*◌, ◌/◌, ◌%◌, ◌^◌, ◌≤◌, ◌<◌}
use native.Mathlib.Nat.{add-zero, mod-lt, pow-suc, div-lt_iff_lt-mul, not-suc-le-zero}
use native.Mathlib.Omega.{arith}
use borrow.Author.Tests.{lt-ltb, le-ltb, ltb-true, ltb-false}
use lib.Dec.{ltb}
use lib.ListN.{length, take, set, length-append, length-set, take-append-drop}
use lib.Seq.{slice, slice_empty, slice-cons, take-take, take-set-le, take-set-lt, drop-set-lt, get_or-set_same}
use Rattle.listing.specs.declared.hex.Hex.TheVariants.{Number, Nothing}
use Rattle.listing.specs.Text.{digit, Adds}
use Rattle.listing.specs.Hex.{digit_value, hex_from, hex_of, digits_to}

-- ---- written
pub digits_length : (base count n : ℕ) → length (digits_to base count n) ≡ count
unfolding digits_to
digits_length base zero n = refl
digits_length base (suc count) n =
    omega (arith, digits_length base count (n / base), length-append (digits_to base count (n / base)) (digit (n % base) ∷ []))

-- from the last one on: what is still to be written and what stands behind it are all the digits
pub record Filling (base n count place : ℕ) (before out : List ℕ) (rest i : ℕ) : Type 0 where
  pub within : i ≤ count
  pub same : length out ≡ length before
  pub front : take place out ≡ take place before
  pub joins : digits_to base i rest ++ slice (place + i) (place + count) out ≡ digits_to base count n

module _ (base n count place : ℕ) (before : List ℕ) where
  pub fill_starts : Filling base n count place before before n count
  fill_starts = record {
    within = omega arith;
    same = refl;
    front = refl;
    joins = rw (slice_empty (place + count) before) (append-nil (digits_to base count n));
  }

  pub fill_next : (out : List ℕ) (rest i x : ℕ) → place + count ≤ length before → Filling base n count place before out rest i → 0 < i
      → x ≡ digit (rest % base)
      → Filling base n count place before (set out (place + (i - 1)) x) (rest / base) (i - 1)
  fill_next out rest zero x room f h e = absurd (not-suc-le-zero h)
  fill_next out rest (suc j) x room f h e = let m : suc j - 1 ≡ j = omega arith in rw m (record {
    within = omega (arith, f.within);
    same = length-set out (place + j) x ∙ f.same;
    front = take-set-le place out (place + j) x (omega arith) ∙ f.front;
    joins = ap (λ (l : List ℕ). digits_to base j (rest / base) ++ l) next ∙ last ∙ f.joins;
  })
    where
      next : slice (place + j) (place + count) (set out (place + j) x) ≡ x ∷ slice (place + suc j) (place + count) out
      next =
          let w = f.within in
          let k : suc (place + j) ≡ place + suc j = omega arith in
          let fits : place + count ≤ length (set out (place + j) x) = omega (arith, length-set out (place + j) x, f.same) in
          slice-cons (place + j) (place + count) (set out (place + j) x) 0 (omega arith) fits
          ∙ rw (
            get_or-set_same out (place + j) x 0 (omega (arith, f.same)),
            take-set-lt (place + count) out (place + j) x (omega arith),
            drop-set-lt (suc (place + j)) (take (place + count) out) (place + j) x (omega arith),
            k,
          )

      last : digits_to base j (rest / base) ++ (x ∷ slice (place + suc j) (place + count) out) ≡ digits_to base (suc j) rest ++ slice (place + suc j)
          (place + count) out
      last =
          unfold digits_to in
          rw e (sym (append_assoc (digits_to base j (rest / base)) (digit (rest % base) ∷ []) (slice (place + suc j) (place + count) out)))

  pub filled : (out : List ℕ) (rest i : ℕ) → Filling base n count place before out rest i → i ≤ 0
      → Adds (digits_to base count n) before out place (place + count)
  filled out rest zero f h = record {
    moved = ap (λ (k : ℕ). place + k) (sym (digits_length base count n));
    reads =
        sym (take-append-drop place (take (place + count) out))
        ∙ ap₂ (λ (l m : List ℕ). l ++ m) (take-take place (place + count) out (omega arith) ∙ f.front) all;
  }
    where
      all : slice place (place + count) out ≡ digits_to base count n
      all = ap (λ (k : ℕ). slice k (place + count) out) (sym (add-zero place)) ∙ (unfold digits_to in f.joins)
  filled out rest (suc i) f h = absurd (not-suc-le-zero h)

-- ---- the value of a character
module _ (c : ℕ) where
  pub decimal_digit : 48 ≤ c → c < 58 → c - 48 ≡ digit_value c
  unfolding digit_value
  decimal_digit h k = rw (le-ltb c 48 h, lt-ltb c 58 k)

  pub upper_digit : 65 ≤ c → c < 71 → c - 55 ≡ digit_value c
  unfolding digit_value
  upper_digit h k = rw (le-ltb c 48 (omega arith), le-ltb c 58 (omega arith), le-ltb c 65 h, lt-ltb c 71 k)

  pub lower_digit : 97 ≤ c → c < 103 → c - 87 ≡ digit_value c
  unfolding digit_value
  lower_digit h k =
      rw (le-ltb c 48 (omega arith), le-ltb c 58 (omega arith), le-ltb c 65 (omega arith), le-ltb c 71 (omega arith), le-ltb c 97 h, lt-ltb c 103 k)

  -- the characters before, between and behind the digits
  pub no_digit : (c < 48 → 16 ≡ digit_value c) × (58 ≤ c → c < 65 → 16 ≡ digit_value c) × (71 ≤ c → c < 97 → 16 ≡ digit_value c) × (103 ≤ c → 16 ≡ digit_value c)
  unfolding digit_value
  no_digit = (
    (λ h. rw (lt-ltb c 48 h)),
    (λ h k. rw (le-ltb c 48 (omega arith), le-ltb c 58 h, lt-ltb c 65 k)),
    (λ h k. rw (le-ltb c 48 (omega arith), le-ltb c 58 (omega arith), le-ltb c 65 (omega arith), le-ltb c 71 h, lt-ltb c 97 k)),
    (λ h.
        rw (
          le-ltb c 48 (omega arith),
          le-ltb c 58 (omega arith),
          le-ltb c 65 (omega arith),
          le-ltb c 71 (omega arith),
          le-ltb c 97 (omega arith),
          le-ltb c 103 h,
        )),
  )

-- ---- read as they were written
value_back : (d : ℕ) → d < 16 → digit_value (digit d) ≡ d
value_back d h = go (ltb d 10) refl
  where
    go : (t : Bool) → ltb d 10 ≡ t → digit_value (cond t (48 + d) (55 + d)) ≡ d
    go true e =
        let b = ltb-true d 10 e in
        let z : 48 + d - 48 ≡ d = omega arith in sym (decimal_digit (48 + d) (omega arith) (omega arith)) ∙ z
    go false e =
        let b = ltb-false d 10 e in
        let z : 55 + d - 55 ≡ d = omega arith in sym (upper_digit (55 + d) (omega arith) (omega arith)) ∙ z

-- reading on behind digits that were read
read_on : (v u : ℕ) (l m : List ℕ) → hex_from v l ≡ Number u → hex_from v (l ++ m) ≡ hex_from u m
unfolding hex_from
read_on v u [] m e = let z : v ≡ u = cc in ap (λ (n : ℕ). hex_from n m) z
read_on v u (c ∷ l) m e = go (ltb (digit_value c) 16) e (λ f. read_on (v * 16 + digit_value c) u l m f)
  where
    go : (t : Bool) → cond t (hex_from (v * 16 + digit_value c) l) Nothing ≡ Number u
        → (hex_from (v * 16 + digit_value c) l ≡ Number u → hex_from (v * 16 + digit_value c) (l ++ m) ≡ hex_from u m)
        → cond t (hex_from (v * 16 + digit_value c) (l ++ m)) Nothing ≡ hex_from u m
    go true f k = k f
    go false f k = let z : ◌≡◌ {A = ℕ} 0 1 = cc in absurd (omega arith)

none : (v : ℕ) → hex_from v [] ≡ Number v
unfolding hex_from
none v = refl

pub hex_back : (count n : ℕ) → n < 16 ^ count → hex_of (digits_to 16 count n) ≡ Number n
unfolding digits_to
hex_back zero n h = let z : 0 ≡ n = omega arith in none 0 ∙ ap Number z
hex_back (suc count) n h =
    let e = pow-suc 16 count in
    let u : n / 16 < 16 ^ count = (div-lt_iff_lt-mul {k = 16} {x = n} {y = 16 ^ count} (omega arith)).1 (omega arith) in
    read_on 0 (n / 16) (digits_to 16 count (n / 16)) (digit (n % 16) ∷ []) (hex_back count (n / 16) u) ∙ last
  where
    small : n % 16 < 16
    small = mod-lt n (omega arith)

    last : hex_from (n / 16) (digit (n % 16) ∷ []) ≡ Number n
    last =
        unfold hex_from in
        rw (value_back (n % 16) small, lt-ltb (n % 16) 16 small) (let z : n / 16 * 16 + n % 16 ≡ n = omega arith in ap Number z)
