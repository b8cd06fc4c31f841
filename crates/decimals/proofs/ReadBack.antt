-- The short decimal was found because it gives the word back; its text is read as the same digits and places, so reading it gives the word. Assumes nothing.
use mathlib.Core.Path.{◌≡◌, refl, sym, ap, ap₂, ◌∙◌, subst}
use mathlib.Core.Logic.{◌⊎◌, inl, inr}
use mathlib.Core.Bool.{Bool, true, false, cond}
use mathlib.Core.List.{List, [], ◌∷◌}
use Prim.Native.Nat.{ℕ, zero, suc, ◌+◌, ◌-◌, ◌*◌, ◌/◌, ◌%◌, ◌^◌, ◌≤◌, ◌<◌}
use native.Mathlib.Nat.{div-add-mod', mod-lt, pow-suc, div-lt_iff_lt-mul, le-div_iff_mul-le, lt_of_lt_of_le, mul_assoc, mul_comm, mul-le-mul_right}
use native.Mathlib.Nat.{mul-lt-mul_of_pos_right}
use native.Mathlib.Numerals.{add-one}
use native.Mathlib.Omega.{arith}
use borrow.Author.Tests.{ltb-true, eqb-true}
use lib.Dec.{ltb, leb, lit<, lit≤}
use lib.ListN.{length}
use lib.Pow.{pow-add, pow_pos}
use Rattle.terms.specs.declared.Rule.{Rule}
use Rattle.listing.specs.Text.{digit, spelled}
use Rattle.float.specs.Word.{negative, size88}
use Rattle.decimals.specs.declared.bring.Brought.{Brought}
use Rattle.decimals.specs.declared.bring.Brought.TheVariants.{Exact as Is, Rounded as Near, Refused as Turned}
use Rattle.decimals.specs.declared.read.Reading.{Reading}
use Rattle.decimals.specs.declared.read.Reading.TheVariants.{Exact, Rounded}
use Rattle.decimals.specs.declared.short.Short.{Short}
use Rattle.decimals.specs.declared.short.Short.TheVariants.{Decimal, Nothing}
use Rattle.decimals.specs.Bring.{bring_of}
use Rattle.decimals.specs.Read.{answered, read_parsed, read_of}
use Rattle.decimals.specs.Short.{gives_word, gives_of, decimal_of, try_of, or_else, around_of, tried_at, short_from}
use Rattle.listing.specs.Hex.{digits_to}
use Rattle.decimals.specs.Line.{decimal_text}
use Rattle.decimals.specs.Meaning.{all_digits, number_in, ShortReadsBack, WordTextReadsBack}
use Rattle.decimals.proofs.Quotients.{ten_pos}
use Rattle.listing.proofs.Digits.{digits_length, hex_back}
use Rattle.decimals.proofs.Lines.{size_small}
use Rattle.decimals.proofs.Fractions.{digit_value_lem, both_digits, number_join, Spells, spells, one}
use Rattle.decimals.proofs.Texts.{parsed}

-- ---- what a decimal that was found is
pub record Found (rule : Rule) (w W a f q : ℕ) : Type 0 where
  pub gives : gives_of rule w (a * 10 ^ q + f) q ≡ true
  pub near : a ≤ W + 1
  pub below : f < 10 ^ q
  pub small : f < 10 ^ 19
  pub few : q ≤ 27
  pub some : 0 < q

or_found : {P : Type 0} {a f q : ℕ} (x y : Short) → (x ≡ Decimal a f q → P) → (y ≡ Decimal a f q → P) → or_else x y ≡ Decimal a f q → P
or_found (Decimal b g p) y k l e = k e
or_found Nothing y k l e = l e

-- k is W * 10 ^ q + g or one more
module _ (rule : Rule) (w W g q : ℕ) (lo : g < 10 ^ q) (room : g < 10 ^ 18) (few : q ≤ 27) (some : 0 < q) where
  try_found : {a f p : ℕ} (k : ℕ) → W * 10 ^ q + g ≤ k → k ≤ W * 10 ^ q + g + 1 → try_of rule w k q ≡ Decimal a f p → Found rule w W a f p
  try_found {a} {f} {p} k x y e = go (gives_of rule w k q) refl e
    where
      parts : k / 10 ^ q * 10 ^ q + k % 10 ^ q ≡ k
      parts = div-add-mod' k (10 ^ q)

      rest : k % 10 ^ q < 10 ^ q
      rest = mod-lt k (ten_pos q)

      upper : k / 10 ^ q < W + 2
      upper = (div-lt_iff_lt-mul {k = 10 ^ q} {x = k} {y = W + 2} (ten_pos q)).1 (omega arith)

      lower : W ≤ k / 10 ^ q
      lower = (le-div_iff_mul-le {k = 10 ^ q} {x = W} {y = k} (ten_pos q)).1 (omega arith)

      fraction : k % 10 ^ q ≤ g + 1
      fraction = let a : W * 10 ^ q ≤ k / 10 ^ q * 10 ^ q = mul-le-mul_right (10 ^ q) lower in let b = parts in omega arith

      go : (t : Bool) → gives_of rule w k q ≡ t → cond t (decimal_of k q) Nothing ≡ Decimal a f p → Found rule w W a f p
      go true h d =
          let ea : k / 10 ^ q ≡ a = cc in
          let ef : k % 10 ^ q ≡ f = cc in
          let ep : q ≡ p = cc in
          subst (λ (p : ℕ). Found rule w W a f p) ep
          (subst (λ (f : ℕ). Found rule w W a f q) ef
          (subst (λ (a : ℕ). Found rule w W a (k % 10 ^ q) q) ea record {
            gives = ap (λ (n : ℕ). gives_of rule w n q) parts ∙ h;
            near = let u = upper in omega arith;
            below = rest;
            small = let u = fraction in omega arith;
            few = few;
            some = some;
          }))
      go false h d = let z : ◌≡◌ {A = ℕ} 0 1 = cc in absurd (omega arith)

  around_found : {a f p : ℕ} (up : Bool) → around_of rule w (W * 10 ^ q + g) q up ≡ Decimal a f p → Found rule w W a f p
  around_found true e =
      or_found (try_of rule w (W * 10 ^ q + g + 1) q) (try_of rule w (W * 10 ^ q + g) q) (try_found (W * 10 ^ q + g + 1) (omega arith) (omega arith)) (try_found
      (W * 10 ^ q + g) (omega arith) (omega arith)) e
  around_found false e =
      or_found (try_of rule w (W * 10 ^ q + g) q) (try_of rule w (W * 10 ^ q + g + 1) q) (try_found (W * 10 ^ q + g) (omega arith) (omega arith)) (try_found
      (W * 10 ^ q + g + 1) (omega arith) (omega arith)) e

-- the digits at one place more are below their power, and below ten times as many
next_below : (r q : ℕ) → r < 2 ^ 88 → r * 10 ^ q / 2 ^ 88 < 10 ^ q
next_below r q h = (div-lt_iff_lt-mul {k = 2 ^ 88} {x = r * 10 ^ q} {y = 10 ^ q} (pow_pos 88)).1 (subst (λ (x : ℕ). r * 10 ^ q < x) (mul_comm (2 ^ 88)
    (10 ^ q)) (mul-lt-mul_of_pos_right h (ten_pos q)))

next_room : (r p : ℕ) → r * 10 ^ p / 2 ^ 88 < 10 ^ 17 → r * 10 ^ (p + 1) / 2 ^ 88 < 10 ^ 18
next_room r p h =
    ap_lt (ap (λ (x : ℕ). r * x) (ap (λ (n : ℕ). 10 ^ n) (add-one p) ∙ pow-suc 10 p) ∙ sym (mul_assoc r (10 ^ p) 10)) (tenth (r * 10 ^ p) h)
  where
    tenth : (x : ℕ) → x / 2 ^ 88 < 10 ^ 17 → x * 10 / 2 ^ 88 < 10 ^ 18
    tenth x g =
        (div-lt_iff_lt-mul {k = 2 ^ 88} {x = x * 10} {y = 10 ^ 18} (pow_pos 88)).1
        (mul-lt-mul_of_pos_right ((div-lt_iff_lt-mul {k = 2 ^ 88} {x = x} {y = 10 ^ 17} (pow_pos 88)).0 g) (lit< {m = 0} {n = 10} tt))

    ap_lt : {x y : ℕ} → x ≡ y → y / 2 ^ 88 < 10 ^ 18 → x / 2 ^ 88 < 10 ^ 18
    ap_lt {x} {y} e g = subst (λ (z : ℕ). z / 2 ^ 88 < 10 ^ 18) (sym e) g

found_from : (more : ℕ) (rule : Rule) (w W r p : ℕ) {a f q : ℕ} → r < 2 ^ 88 → p + more ≤ 27 → short_from more rule w W r p ≡ Decimal a f q
    → Found rule w W a f q
unfolding short_from
found_from zero rule w W r p h l e = let z : ◌≡◌ {A = ℕ} 0 1 = cc in absurd (omega arith)
found_from (suc more) rule w W r p {a} {f} {q} h l e =
    go (ltb (r * 10 ^ p / 2 ^ 88) (10 ^ 17)) refl (found_from more rule w W r (p + 1) h (omega arith)) e
  where
    go : (t : Bool) → ltb (r * 10 ^ p / 2 ^ 88) (10 ^ 17) ≡ t → (short_from more rule w W r (p + 1) ≡ Decimal a f q → Found rule w W a f q)
        → cond t (or_else (tried_at rule w W r (p + 1)) (short_from more rule w W r (p + 1))) Nothing ≡ Decimal a f q → Found rule w W a f q
    go true x k d =
        or_found (tried_at rule w W r (p + 1)) (short_from more rule w W r (p + 1))
        (around_found rule w W (r * 10 ^ (p + 1) / 2 ^ 88) (p + 1) (next_below r (p + 1) h) (next_room r p (ltb-true (r * 10 ^ p / 2 ^ 88) (10 ^ 17) x))
        (omega arith) (omega arith) (leb (2 ^ 87) (r * 10 ^ (p + 1) % 2 ^ 88)))
        k d
    go false x k d = let z : ◌≡◌ {A = ℕ} 0 1 = cc in absurd (omega arith)

-- ---- its text
pub record Padded (n count : ℕ) (l : List ℕ) : Type 0 where
  pub digits : all_digits l ≡ true
  pub number : number_in l ≡ n

padded : (count n : ℕ) → n < 10 ^ count → Padded n count (digits_to 10 count n)
unfolding digits_to
padded zero n h = record { digits = refl; number = omega arith }
padded (suc count) n h =
    let e = pow-suc 10 count in
    let r = padded count (n / 10) ((div-lt_iff_lt-mul {k = 10} {x = n} {y = 10 ^ count} (omega arith)).1 (omega arith)) in
    let o = one (n % 10) (mod-lt n (omega arith)) in
    let d : digit (n % 10) - 48 ≡ n % 10 = digit_value_lem (n % 10) (mod-lt n (omega arith)) in
    record {
      digits = both_digits (digits_to 10 count (n / 10)) (digit (n % 10) ∷ []) r.digits o.digits;
      number = number_join 0 (digits_to 10 count (n / 10)) (digit (n % 10) ∷ []) ∙ ap₂ (λ (x y : ℕ). x * 10 + y) r.number d ∙
          (let z : n / 10 * 10 + n % 10 ≡ n = omega arith in z);
    }

answers : (w : ℕ) (b : Brought) → gives_word w b ≡ true → (answered b ≡ Exact w) ⊎ (answered b ≡ Rounded w)
answers w (Is v) e = inl (ap Exact (eqb-true v w e))
answers w (Near v) e = inr (ap Rounded (eqb-true v w e))
answers w (Turned r) e = let z : ◌≡◌ {A = ℕ} 0 1 = cc in absurd (omega arith)

digits_few : (a W : ℕ) → a ≤ W + 1 → W < 2 ^ 63 → a < 10 ^ 19
digits_few a W n b = omega arith

pub short_reads_back : ShortReadsBack
short_reads_back rule w a f q h e =
    subst (λ (x : Reading). (x ≡ Exact w) ⊎ (x ≡ Rounded w)) (sym read) (answers w (bring_of rule (negative w) (a * 10 ^ q + f) q) g.gives)
  where
    W-small : size88 w / 2 ^ 88 < 2 ^ 63
    W-small = (div-lt_iff_lt-mul {k = 2 ^ 88} {x = size88 w} {y = 2 ^ 63} (pow_pos 88)).1 (subst (λ (x : ℕ). size88 w < x) (pow-add 2 63 88) (size_small w))

    g : Found rule w (size88 w / 2 ^ 88) a f q
    g = found_from 27 rule w (size88 w / 2 ^ 88) (size88 w % 2 ^ 88) 0 (mod-lt (size88 w) (pow_pos 88)) (omega arith) e

    s : Spells a (spelled 20 a)
    s = spells 19 a (let n = digits_few a (size88 w / 2 ^ 88) g.near W-small in lt_of_lt_of_le n (lit≤ {m = 10 ^ 19} {n = 10 ^ 20} tt))

    d : Padded f q (digits_to 10 q f)
    d = padded q f g.below

    size : length (digits_to 10 q f) ≡ q
    size = digits_length 10 q f

    read : read_of rule (decimal_text (negative w) a f q) ≡ answered (bring_of rule (negative w) (a * 10 ^ q + f) q)
    read =
        ap (read_parsed rule) (parsed (negative w) (spelled 20 a) (digits_to 10 q f) s.digits d.digits s.some
        (subst (λ (n : ℕ). 0 < n) (sym size) g.some) (subst (λ (n : ℕ). n ≤ 27) (sym size) g.few)
        (subst (λ (n : ℕ). n < 10 ^ 19) (sym s.number) (digits_few a (size88 w / 2 ^ 88) g.near W-small))
        (subst (λ (n : ℕ). n < 10 ^ 19) (sym d.number) g.small))
        ∙ ap₂ (λ (x y : ℕ). answered (bring_of rule (negative w) (x * 10 ^ length (digits_to 10 q f) + y) (length (digits_to 10 q f)))) s.number d.number
        ∙ ap (λ (n : ℕ). answered (bring_of rule (negative w) (a * 10 ^ n + f) n)) size

-- a word's eight hex digits read back
pub word_text_reads_back : WordTextReadsBack
word_text_reads_back w h = hex_back 8 w h
