-- Digits as numbers: one digit more is ten times the number and that digit; so the places of r / 2 ^ 88, over 10 to their count, are r / 2 ^ 88, since
-- nothing is left after 88 of them. Assumes nothing.
use mathlib.Core.Path.{◌≡◌, refl, sym, ap, ap₂, ◌∙◌, subst}
use mathlib.Core.Bool.{Bool, true, false, cond, not}
use mathlib.Core.List.{List, [], ◌∷◌, ◌++◌}
use Prim.Native.Nat.{ℕ, zero, suc, ◌+◌, ◌-◌, ◌*◌, ◌/◌, ◌%◌, ◌^◌, ◌<◌}
use native.Mathlib.Nat.{mul_assoc, mul_comm, mul-mod_left, div-add-mod', mod-lt, pow-suc, lt_of_lt_of_le, div-lt_iff_lt-mul}
use native.Mathlib.Omega.{arith}
use borrow.Author.Tests.{lt-ltb, le-ltb, ltb-true, eqb-true}
use lib.Dec.{ltb, eqb, lit≤}
use lib.ListN.{length, length-append}
use lib.Pow.{pow-add, pow_pos}
use Rattle.numbers.specs.Signed.{with_sign}
use Rattle.listing.specs.Text.{digit, spelled}
use Rattle.decimals.specs.Exact.{minus, places_text, sign_text}
use Rattle.decimals.specs.Read.{is_digit}
use Rattle.decimals.specs.Meaning.{all_digits, number_from, number_in, ExactTextIsTheValue}
use Rattle.decimals.proofs.Quotients.{ten_parts}

-- ---- digits
pub digit_is : (d : ℕ) → d < 10 → digit d ≡ 48 + d
digit_is d h = rw (lt-ltb d 10 h)

pub digit_digit : (d : ℕ) → d < 10 → is_digit (digit d) ≡ true
digit_digit d h = ap is_digit (digit_is d h) ∙ rw (le-ltb (48 + d) 48 (omega arith), lt-ltb (48 + d) 58 (omega arith))

pub digit_value_lem : (d : ℕ) → d < 10 → digit d - 48 ≡ d
digit_value_lem d h = ap (λ (x : ℕ). x - 48) (digit_is d h) ∙ (let e : 48 + d - 48 ≡ d = omega arith in e)

-- ---- numbers
pub number_on : (n : ℕ) (l : List ℕ) → number_from n l ≡ n * 10 ^ length l + number_in l
number_on n [] = omega arith
number_on n (c ∷ l) =
    let p = pow-suc 10 (length l) in
    number_on (n * 10 + (c - 48)) l ∙ spread n (c - 48) (10 ^ length l) (10 ^ suc (length l)) (number_in l) p
    ∙ ap (λ (x : ℕ). n * 10 ^ suc (length l) + x) (sym (number_on (0 * 10 + (c - 48)) l))
  where
    spread : (n d y z m : ℕ) → z ≡ y * 10 → (n * 10 + d) * y + m ≡ n * z + ((0 * 10 + d) * y + m)
    spread n d y z m e = rw e (omega arith)

pub number_join : (n : ℕ) (l m : List ℕ) → number_from n (l ++ m) ≡ number_from (number_from n l) m
number_join n [] m = refl
number_join n (c ∷ l) m = number_join (n * 10 + (c - 48)) l m

pub both_digits : (l m : List ℕ) → all_digits l ≡ true → all_digits m ≡ true → all_digits (l ++ m) ≡ true
both_digits [] m e f = f
both_digits (c ∷ l) m e f = go (is_digit c) refl e (λ y. both_digits l m y f)
  where
    go : (t : Bool) → is_digit c ≡ t → cond t (all_digits l) false ≡ true → (all_digits l ≡ true → all_digits (l ++ m) ≡ true) → all_digits (c ∷ (l ++ m)) ≡ true
    go true x y k = rw x (k y)
    go false x y k = let z : ◌≡◌ {A = ℕ} 0 1 = cc in absurd (omega arith)

-- ---- the whole part
pub record Spells (n : ℕ) (l : List ℕ) : Type 0 where
  pub digits : all_digits l ≡ true
  pub number : number_in l ≡ n
  pub some : 0 < length l

pub one : (d : ℕ) → d < 10 → Spells d (digit d ∷ [])
one d h = record { digits = rw (digit_digit d h); number = (let e = digit_value_lem d h in omega arith); some = omega arith }

pub spells : (most n : ℕ) → n < 10 ^ suc most → Spells n (spelled (suc most) n)
unfolding spelled
spells zero n h = subst (λ (t : Bool). Spells n (cond t (digit n ∷ []) ((digit (n % 10) ∷ [])))) (sym (lt-ltb n 10 h)) (one n h)
spells (suc most) n h = go (ltb n 10) refl (spells most (n / 10) ((div-lt_iff_lt-mul {k = 10} {x = n} {y = 10 ^ suc most} (omega arith)).1 (let e = pow-suc 10
    (suc most) in omega arith)))
  where
    more : Spells (n / 10) (spelled (suc most) (n / 10)) → Spells n (spelled (suc most) (n / 10) ++ (digit (n % 10) ∷ []))
    more r =
        let o = one (n % 10) (mod-lt n (omega arith)) in
        record {
          digits = both_digits (spelled (suc most) (n / 10)) (digit (n % 10) ∷ []) r.digits o.digits;
          number = number_join 0 (spelled (suc most) (n / 10)) (digit (n % 10) ∷ []) ∙ ap₂ (λ (x y : ℕ). x * 10 + y) r.number (digit_value_lem (n % 10)
              (mod-lt n (omega arith))) ∙ (let z : n / 10 * 10 + n % 10 ≡ n = omega arith in z);
          some = omega (arith, length-append (spelled (suc most) (n / 10)) (digit (n % 10) ∷ []));
        }

    go : (t : Bool) → ltb n 10 ≡ t → Spells (n / 10) (spelled (suc most) (n / 10)) → Spells n (cond t (digit n ∷ []) (spelled (suc most) (n / 10) ++ (digit
        (n % 10) ∷ [])))
    go true e r = one n (ltb-true n 10 e)
    go false e r = more r

-- ---- the places: in units of u, of which so many times ten leave nothing
pub record Places (r : ℕ) (l : List ℕ) : Type 0 where
  pub digits : all_digits l ≡ true
  pub value : number_in l * 2 ^ 88 ≡ r * 10 ^ length l
  pub some : 0 < length l

module _ (r : ℕ) (h : r < 2 ^ 88) where
  first_digit : ℕ
  first_digit = r * 10 / 2 ^ 88

  first_small : first_digit < 10
  unfolding first_digit
  first_small = omega arith

  split : first_digit * 2 ^ 88 + r * 10 % 2 ^ 88 ≡ r * 10
  unfolding first_digit
  split = div-add-mod' (r * 10) (2 ^ 88)

  tenfold : (y : ℕ) → r * (y * 10) ≡ (first_digit * 2 ^ 88 + r * 10 % 2 ^ 88) * y
  tenfold y = ap (λ (x : ℕ). r * x) (mul_comm y 10) ∙ sym (mul_assoc r 10 y) ∙ ap (λ (x : ℕ). x * y) (sym split)

  -- nothing is left behind the digit
  ended : r * 10 % 2 ^ 88 ≡ 0 → Places r (digit first_digit ∷ [])
  ended z =
      let s = split in
      let o = one first_digit first_small in
      record {
        digits = o.digits;
        value = ap (λ (x : ℕ). x * 2 ^ 88) o.number ∙
            (let y : first_digit * 2 ^ 88 ≡ r * 10 ^ 1 = omega arith in y);
        some = omega arith;
      }

  -- what is left, so many times ten, is a whole number again
  left_whole : (most k : ℕ) → r * 10 ^ suc (suc most) ≡ k * 2 ^ 88 → r * 10 % 2 ^ 88 * 10 ^ suc most ≡ (k - first_digit * 10 ^ suc most) * 2 ^ 88
  left_whole most k f =
      last k first_digit (r * 10 % 2 ^ 88) (10 ^ suc most) (sym f ∙ ap (λ (x : ℕ). r * x) (pow-suc 10 (suc most)) ∙ tenfold (10 ^ suc most))
    where
      last : (k d s y : ℕ) → k * 2 ^ 88 ≡ (d * 2 ^ 88 + s) * y → s * y ≡ (k - d * y) * 2 ^ 88
      last k d s y g = omega arith

  more : (l : List ℕ) → Places (r * 10 % 2 ^ 88) l → Places r (digit first_digit ∷ l)
  more l p = record {
    digits = rw (digit_digit first_digit first_small) p.digits;
    value =
        ap (λ (x : ℕ). x * 2 ^ 88) (number_on (0 * 10 + (digit first_digit - 48)) l ∙ ap (λ (x : ℕ). (0 * 10 + x) * 10 ^ length l + number_in l)
        (digit_value_lem first_digit first_small))
        ∙ last (number_in l) first_digit (r * 10 % 2 ^ 88) (10 ^ length l) p.value ∙ sym (ap (λ (x : ℕ). r * x) (pow-suc 10 (length l)) ∙ tenfold
        (10 ^ length l));
    some = omega arith;
  }
    where
      last : (m d s y : ℕ) → m * 2 ^ 88 ≡ s * y → ((0 * 10 + d) * y + m) * 2 ^ 88 ≡ (d * 2 ^ 88 + s) * y
      last m d s y g = omega arith

pub placed : (most r k : ℕ) → r < 2 ^ 88 → r * 10 ^ suc most ≡ k * 2 ^ 88 → Places r (places_text (suc most) r)
unfolding places_text first_digit
placed zero r k h e =
    let z : r * 10 % 2 ^ 88 ≡ 0 = gone r k e in
    go (eqb (r * 10 % 2 ^ 88) 0) (ended r h z)
  where
    gone : (r k : ℕ) → r * 10 ^ 1 ≡ k * 2 ^ 88 → r * 10 % 2 ^ 88 ≡ 0
    gone r k f = ap (λ (x : ℕ). x % 2 ^ 88) f ∙ mul-mod_left k (2 ^ 88)

    go : (t : Bool) → Places r (digit (r * 10 / 2 ^ 88) ∷ []) → Places r (digit (r * 10 / 2 ^ 88) ∷ cond t [] [])
    go true p = p
    go false p = p
placed (suc most) r k h e =
    go (eqb (r * 10 % 2 ^ 88) 0) refl
    (placed most (r * 10 % 2 ^ 88) (k - r * 10 / 2 ^ 88 * 10 ^ suc most) (mod-lt (r * 10) (pow_pos 88)) (left_whole r h most k e))
  where
    go : (t : Bool) → eqb (r * 10 % 2 ^ 88) 0 ≡ t → Places (r * 10 % 2 ^ 88) (places_text (suc most) (r * 10 % 2 ^ 88))
        → Places r (digit (r * 10 / 2 ^ 88) ∷ cond t [] (places_text (suc most) (r * 10 % 2 ^ 88)))
    go true f p = ended r h (eqb-true (r * 10 % 2 ^ 88) 0 f)
    go false f p = more r h (places_text (suc most) (r * 10 % 2 ^ 88)) p

-- ---- the whole text
pub exact_text_is_the_value : ExactTextIsTheValue
exact_text_is_the_value neg n h = record {
  sign = sign;
  whole = spelled 32 (n / 2 ^ 88);
  places = places_text 88 (n % 2 ^ 88);
  is = ap (λ (l : List ℕ). l ++ (spelled 32 (n / 2 ^ 88) ++ (46 ∷ places_text 88 (n % 2 ^ 88)))) (sign_is neg);
  digits = (w.digits, p.digits);
  some = (w.some, p.some);
  value =
      ap (λ (x : ℕ). x * 2 ^ 88) (number_join 0 (spelled 32 (n / 2 ^ 88)) (places_text 88 (n % 2 ^ 88)) ∙ number_on (number_in (spelled 32 (n / 2 ^ 88)))
      (places_text 88 (n % 2 ^ 88)) ∙ ap (λ (x : ℕ). x * y + number_in (places_text 88 (n % 2 ^ 88))) w.number)
      ∙ last (n / 2 ^ 88) (n % 2 ^ 88) (number_in (places_text 88 (n % 2 ^ 88))) y p.value ∙ ap (λ (x : ℕ). x * y) (div-add-mod' n (2 ^ 88));
  signed = signed neg;
}
  where
    y : ℕ
    y = 10 ^ length (places_text 88 (n % 2 ^ 88))

    w : Spells (n / 2 ^ 88) (spelled 32 (n / 2 ^ 88))
    w = spells 31 (n / 2 ^ 88) (lt_of_lt_of_le ((div-lt_iff_lt-mul {k = 2 ^ 88} {x = n} {y = 2 ^ 104} (pow_pos 88)).1 (subst (λ (x : ℕ). n < x)
        (pow-add 2 104 88) h)) (lit≤ {m = 2 ^ 104} {n = 10 ^ 32} tt))

    p : Places (n % 2 ^ 88) (places_text 88 (n % 2 ^ 88))
    p = placed 87 (n % 2 ^ 88) (n % 2 ^ 88 * 5 ^ 88) (mod-lt n (pow_pos 88)) (ap (λ (x : ℕ). n % 2 ^ 88 * x) (ten_parts 88 ∙ mul_comm (2 ^ 88) (5 ^ 88)) ∙ sym
        (mul_assoc (n % 2 ^ 88) (5 ^ 88) (2 ^ 88)))

    last : (w r m y : ℕ) → m * 2 ^ 88 ≡ r * y → (w * y + m) * 2 ^ 88 ≡ (w * 2 ^ 88 + r) * y
    last w r m y e = omega arith

    sign : Bool
    sign = cond neg (not (eqb n 0)) false

    sign_is : (s : Bool) → sign_text s n ≡ cond (cond s (not (eqb n 0)) false) (minus ∷ []) []
    sign_is false = refl
    sign_is true = go (eqb n 0)
      where
        go : (t : Bool) → cond t [] (minus ∷ []) ≡ cond (not t) (minus ∷ []) []
        go true = refl
        go false = refl

    signed : (s : Bool) → with_sign (cond s (not (eqb n 0)) false) n ≡ with_sign s n
    signed false = refl
    signed true = go (eqb n 0) refl
      where
        go : (t : Bool) → eqb n 0 ≡ t → with_sign (not t) n ≡ with_sign true n
        go true e = let z = eqb-true n 0 e in ap (with_sign false) z ∙ ap (with_sign true) (sym z)
        go false e = refl
