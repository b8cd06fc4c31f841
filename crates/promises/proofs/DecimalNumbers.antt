-- A text's digits over 10 to its places are the value that the reader brings to a word, once, by the cut of every result; the rest is the crate's, in
-- the book's measures. Assumes nothing.
use mathlib.Core.Path.{◌≡◌, refl, sym, ap, ap₂, ◌∙◌, subst, subst₂}
use mathlib.Core.Logic.{◌⊎◌, inl, inr, ⊎_elim}
use mathlib.Core.Bool.{Bool, true, false, cond}
use mathlib.Core.List.{List, [], ◌∷◌, ◌++◌}
use Prim.Native.Nat.{ℕ, zero, suc, ◌+◌, ◌-◌, ◌*◌, ◌^◌, ◌≤◌, ◌<◌}
use native.Mathlib.Nat.{le_trans, le_of_eq, lt_of_lt_of_le, lt_irrefl, pow-suc, mul_comm, mul_assoc, mul_right_comm, zero-mul, eq-zero-or-pos}
use native.Mathlib.Nat.{mul-le-mul_left, mul-le-mul_right}
use native.Mathlib.Omega.{arith}
use borrow.Author.Tests.{eqb-true, eqb-false, ltb-true, ltb-false}
use lib.Dec.{eqb, ltb, lit<, lit≤}
use lib.IntN.{ℤ, pos, neg_ℤ, nat_abs}
use lib.Signed.{◌≤ℤ◌}
use lib.ListN.{length}
use lib.Pow.{pow_mono, pow-add}
use Rattle.numbers.specs.Signed as signs
use Rattle.numbers.proofs.Differences.{either, above, beneath, parts, le_differences}
use Rattle.numbers.proofs.Signs.{size_of_signed}
use Rattle.terms.specs.declared.Rule.{Rule}
use Rattle.terms.specs.declared.Rule.TheVariants.{Cut, Nearest}
use Rattle.terms.specs.declared.Refusal.TheVariants.{TooLarge, TooSmall}
use Rattle.float.specs.declared.Flagged.{Flagged}
use Rattle.float.specs.Word as words
use Rattle.float.specs.Cut.{cut, below0}
use Rattle.float.specs.Float.{Result}
use Rattle.float.proofs.cut.Signs.{cut_sign}
use Rattle.float.proofs.Results.{cut_result}
use Rattle.promises.proofs.float.Steps.{exactly}
use Rattle.promises.proofs.float.Moved.{stored_as_is}
use Rattle.promises.proofs.host_floats.Pairs.{exponent_reaches}
use Rattle.decimals.specs.declared.bring.Brought.TheVariants.{Exact as Is, Rounded as Near, Refused as Turned}
use Rattle.decimals.specs.Bring.{judged, bring_of}
use Rattle.decimals.specs.Read.{is_digit, answered, read_of}
use Rattle.decimals.specs.Meaning as theirs
use Rattle.decimals.proofs.Quotients.{ten_pos}
use Rattle.decimals.proofs.Scanning.{digit_within}
use Rattle.decimals.proofs.Fractions.{exact_text_is_the_value, number_on, number_join}
use Rattle.decimals.proofs.Texts.{reading_is_of_the_value}
use Rattle.decimals.proofs.ReadBack.{short_reads_back}
use Rattle.promises.specs.FloatWords.{with_sign, negative, mantissa, exponent, size88, FloatWord}
use Rattle.promises.specs.FloatResults.{PairBy, CutsBy}
use Rattle.promises.specs.DecimalNumbers.{all_digits, number_from, text_of, ExactTextIsTheValue, LargeNumber, ReadExactly}
use Rattle.promises.specs.DecimalNumbers.{ReadRightly, ReadingIsOfTheValue, ReadsTo, ShortTextReadsBack}
use Rattle.promises.proofs.Measures.{size_is, ours_word}

-- ---- the book's digits are the crate's
same_digits : (l : List ℕ) → theirs.all_digits l ≡ all_digits l
same_digits [] = refl
same_digits (c ∷ l) = rw (same_digits l)

same_number : (n : ℕ) (l : List ℕ) → theirs.number_from n l ≡ number_from n l
same_number n [] = refl
same_number n (c ∷ l) = same_number (n * 10 + (c - 48)) l

pub exact_text_is_the_value_of : ExactTextIsTheValue
exact_text_is_the_value_of neg n h =
    let e = exact_text_is_the_value neg n h in
    record {
      sign = e.sign;
      whole = e.whole;
      places = e.places;
      is = e.is;
      digits = (sym (same_digits e.whole) ∙ e.digits.0, sym (same_digits e.places) ∙ e.digits.1);
      some = e.some;
      value = ap (λ (k : ℕ). k * 2 ^ 88) (sym (same_number 0 (e.whole ++ e.places))) ∙ e.value;
      signed = e.signed;
    }

-- ---- a number that is not zero and not under 2 ^ -65
low_of : (rule : Rule) (n d m : ℕ) (e : ℤ) → PairBy rule n d m e → 8388608 ≤ m
low_of Cut n d m e p = p.low
low_of Nearest n d m e p = p.low

below_or_beyond : (e : ℤ) → (e ≤ℤ pos 63) ⊎ (pos 64 ≤ℤ e)
below_or_beyond e = ⊎_elim
    (λ (h : above e < beneath e + 64). inl (subst (λ (x : ℤ). x ≤ℤ pos 63) (sym (parts e)) (le_differences (above e) (beneath e) 63 0 (omega arith))))
    (λ (h : beneath e + 64 ≤ above e). inr (subst (λ (x : ℤ). pos 64 ≤ℤ x) (sym (parts e)) (le_differences 64 0 (above e) (beneath e) (omega arith))))
    (either (above e) (beneath e + 64))

sign_of : (s : Bool) (n : ℕ) → 0 < n → below0 (signs.with_sign s n) ≡ s
sign_of s zero h = absurd (omega arith)
sign_of true (suc n) h = refl
sign_of false (suc n) h = refl

module _ (rule : Rule) (neg : Bool) (k p : ℕ) (some : 0 < k) (least : 10 ^ p ≤ k * 2 ^ 65) (most : k ≤ 10 ^ 19 * 10 ^ p) where
  abbrev r : Flagged
  r = cut rule (signs.with_sign neg k) (10 ^ p)

  sized : nat_abs (signs.with_sign neg k) ≡ k
  sized = size_of_signed neg k

  low : 2 ^ 135 * 10 ^ p ≤ k * 2 ^ 200
  low =
      le_trans (mul-le-mul_left (2 ^ 135) least)
      (le_of_eq (mul_comm (2 ^ 135) (k * 2 ^ 65) ∙ mul_assoc k (2 ^ 65) (2 ^ 135) ∙ ap (λ (x : ℕ). k * x) (sym (pow-add 2 65 135))))

  high : k * 2 ^ 200 ≤ 16777215 * 2 ^ 240 * 10 ^ p
  high =
      le_trans (mul-le-mul_right (2 ^ 200) most)
      (le_trans (le_of_eq (mul_right_comm (10 ^ 19) (10 ^ p) (2 ^ 200)))
      (mul-le-mul_right (10 ^ p) (lit≤ {m = 10 ^ 19 * 2 ^ 200} {n = 16777215 * 2 ^ 240} tt)))

  cuts : CutsBy rule (signs.with_sign neg k) (10 ^ p) (neg_ℤ (pos 64)) (pos 64) r
  cuts = ⊎_elim (λ none. absurd (lt_irrefl 0 (subst (λ (n : ℕ). 0 < n) (sym sized ∙ ap nat_abs none.0) some))) (λ c. c)
      (exactly rule (signs.with_sign neg k) (10 ^ p) 112 240 (ten_pos p) (lit< tt) (λ g.
      subst (λ (n : ℕ). (2 ^ 135 * 10 ^ p ≤ n * 2 ^ 200) × (n * 2 ^ 200 ≤ 16777215 * 2 ^ 240 * 10 ^ p)) (sym sized) (low, high)))

  proper_word : FloatWord r.word
  proper_word =
      ours_word (subst Result (sym (cut_sign rule neg k (10 ^ p)))
      (cut_result rule neg (k * 2 ^ 200) (10 ^ p) (ten_pos p)
      (inr (le_trans (mul-le-mul_right (10 ^ p) (pow_mono {i = 23} {j = 135} (omega arith))) low)))).word

  same_sign : negative r.word ≡ neg
  same_sign = cuts.sign ∙ sign_of neg k some

  the_pair : PairBy rule k (10 ^ p) cuts.m cuts.e
  the_pair = subst (λ (n : ℕ). PairBy rule n (10 ^ p) cuts.m cuts.e) sized cuts.pair

  brought : r.error ≡ 0 → PairBy rule k (10 ^ p) (mantissa r.word) (exponent r.word)
  brought none =
      let at : words.exponent r.word ≡ cuts.e = (stored_as_is cuts.e r cuts.step none).2 in
      subst₂ (λ (m : ℕ) (e : ℤ). PairBy rule k (10 ^ p) m e) (sym cuts.digits) (sym at) the_pair

  large : (r.error ≡ 0 → ⊥) → LargeNumber rule k p
  large wrong = record {
    m = cuts.m;
    e = cuts.e;
    pair = the_pair;
    reaches = exponent_reaches cuts.m cuts.e (low_of rule k (10 ^ p) cuts.m cuts.e the_pair)
        (⊎_elim (λ l. absurd (wrong (cuts.step.within cuts.at_least l).0)) (λ l. l) (below_or_beyond cuts.e));
  }

  -- the word's value is k / 10 ^ p, or another
  judged_rightly : (t u : Bool) → eqb r.error 0 ≡ t → eqb (words.size88 r.word * 10 ^ p) (k * 2 ^ 88) ≡ u
      → ReadRightly rule neg k p (answered (cond t (cond u (Is r.word) (Near r.word)) (Turned TooLarge)))
  judged_rightly true true x y =
      let e : size88 r.word * 10 ^ p ≡ k * 2 ^ 88 = ap (λ (n : ℕ). n * 10 ^ p) (sym (size_is r.word)) ∙ eqb-true _ _ y in
      record { word = proper_word; same = ap₂ with_sign same_sign e }
  judged_rightly true false x y = record {
    word = proper_word;
    sign = same_sign;
    pair = brought (eqb-true _ _ x);
    other = λ e. eqb-false _ _ y (ap (λ (n : ℕ). n * 10 ^ p) (size_is r.word) ∙ e);
  }
  judged_rightly false u x y = inr (refl, large (eqb-false _ _ x))

-- ---- any number that is read
zero_read : (neg : Bool) (k p : ℕ) → k ≡ 0 → ReadExactly neg k p 0
zero_read neg k p e = record {
  word = record { fits = lit< tt; is_proper = refl };
  same = ap pos (zero-mul (10 ^ p)) ∙ none neg ∙ ap (λ (n : ℕ). with_sign neg (n * 2 ^ 88)) (sym e);
}
  where
    none : (s : Bool) → pos 0 ≡ with_sign s 0
    none true = refl
    none false = refl

number_read : (rule : Rule) (neg : Bool) (k p : ℕ) → k ≤ 10 ^ 19 * 10 ^ p → ReadRightly rule neg k p (answered (bring_of rule neg k p))
unfolding bring_of
number_read rule neg k p most = go (eqb k 0) (ltb (k * 2 ^ 65) (10 ^ p)) refl refl
  where
    go : (s t : Bool) → eqb k 0 ≡ s → ltb (k * 2 ^ 65) (10 ^ p) ≡ t
        → ReadRightly rule neg k p (answered (cond s (Is 0) (cond t (Turned TooSmall) (judged (cut rule (signs.with_sign neg k) (10 ^ p)) k p))))
    go true t x y = zero_read neg k p (eqb-true k 0 x)
    go false true x y = inl (refl, some x, ltb-true _ _ y)
      where
        some : eqb k 0 ≡ false → 0 < k
        some x = ⊎_elim (λ z. absurd (eqb-false k 0 x z)) (λ h. h) (eq-zero-or-pos k)
    go false false x y =
        let some : 0 < k = ⊎_elim (λ z. absurd (eqb-false k 0 x z)) (λ h. h) (eq-zero-or-pos k) in
        judged_rightly rule neg k p some (ltb-false _ _ y) most _ _ refl refl

-- digits stay below 10 to their number
number_bound : (n : ℕ) (l : List ℕ) → theirs.all_digits l ≡ true → theirs.number_from n l < (n + 1) * 10 ^ length l
number_bound n [] a = omega arith
number_bound n (c ∷ l) a = go (is_digit c) refl a (number_bound (n * 10 + (c - 48)) l)
  where
    go : (t : Bool) → is_digit c ≡ t → cond t (theirs.all_digits l) false ≡ true
        → (theirs.all_digits l ≡ true → theirs.number_from (n * 10 + (c - 48)) l < (n * 10 + (c - 48) + 1) * 10 ^ length l)
        → theirs.number_from (n * 10 + (c - 48)) l < (n + 1) * 10 ^ suc (length l)
    go true x y h =
        let d = digit_within c x in
        let m : (n * 10 + (c - 48) + 1) * 10 ^ length l ≤ (n + 1) * 10 * 10 ^ length l = mul-le-mul_right (10 ^ length l) (omega arith) in
        let tenfold : 10 * 10 ^ length l ≡ 10 ^ suc (length l) = mul_comm 10 (10 ^ length l) ∙ sym (pow-suc 10 (length l)) in
        let e : (n + 1) * 10 * 10 ^ length l ≡ (n + 1) * 10 ^ suc (length l) =
        mul_assoc (n + 1) 10 (10 ^ length l) ∙ ap (λ (z : ℕ). (n + 1) * z) tenfold in
        lt_of_lt_of_le (h y) (le_trans m (le_of_eq e))
    go false x y h = let z : ◌≡◌ {A = ℕ} 0 1 = cc in absurd (omega arith)

number_below : (l : List ℕ) → theirs.all_digits l ≡ true → theirs.number_in l < 10 ^ length l
number_below l a = let h = number_bound 0 l a in omega arith

-- the digits of a text that is read are at most 10 ^ 19 times 10 to its places
digits_most : (whole places : List ℕ) → theirs.number_in whole < 10 ^ 19 → theirs.number_in places < 10 ^ length places
    → theirs.number_in (whole ++ places) ≤ 10 ^ 19 * 10 ^ length places
digits_most whole places h l =
    let e = number_join 0 whole places ∙ number_on (theirs.number_in whole) places in
    let m : (theirs.number_in whole + 1) * 10 ^ length places ≤ 10 ^ 19 * 10 ^ length places = mul-le-mul_right (10 ^ length places) (omega arith) in
    omega arith

pub reading_is_of_the_value_of : ReadingIsOfTheValue
reading_is_of_the_value_of rule neg whole places d =
    let w = same_digits whole in
    let f = same_digits places in
    let few : theirs.number_in whole < 10 ^ 19 = subst (λ (n : ℕ). n < 10 ^ 19) (sym (same_number 0 whole)) d.small.0 in
    let below : theirs.number_in places < 10 ^ 19 = subst (λ (n : ℕ). n < 10 ^ 19) (sym (same_number 0 places)) d.small.1 in
    let e = reading_is_of_the_value rule neg whole places (w ∙ d.digits.0) (f ∙ d.digits.1) d.some.0 d.some.1 d.few few below in
    let k = same_number 0 (whole ++ places) in
    subst (λ (n : ℕ). ReadRightly rule neg n (length places) (read_of rule (text_of neg whole places))) k
    (subst (ReadRightly rule neg (theirs.number_in (whole ++ places)) (length places)) (sym e)
    (number_read rule neg (theirs.number_in (whole ++ places)) (length places) (digits_most whole places few (number_below places (f ∙ d.digits.1)))))

-- ---- the short text
pub short_text_reads_back : ShortTextReadsBack
short_text_reads_back rule w whole fraction places h e =
    ⊎_elim (λ x. subst (ReadsTo w) (sym x) refl) (λ x. subst (ReadsTo w) (sym x) refl) (short_reads_back rule w whole fraction places h e)
