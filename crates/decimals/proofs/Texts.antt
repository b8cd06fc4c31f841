-- A text of a sign, digits, a point and digits is taken apart where it was put together. Assumes nothing.
use mathlib.Core.Path.{◌≡◌, refl, sym, ap, ◌∙◌, subst}
use mathlib.Core.Bool.{Bool, true, false, cond}
use mathlib.Core.List.{List, [], ◌∷◌, ◌++◌, append_assoc, append-nil}
use Prim.Native.Nat.{ℕ, suc, ◌+◌, ◌-◌, ◌*◌, ◌^◌, ◌≤◌, ◌<◌}
use native.Mathlib.Nat.{add-zero, zero-add, mul-le-mul_left, zero-mul}
use native.Mathlib.Omega.{arith}
use borrow.Author.Tests.{lt-ltb, le-ltb, eq-eqb, ne_eqb, eqb-true}
use lib.Dec.{ltb, eqb}
use lib.ListN.{length, drop, get_or, length-append}
use lib.Seq.{drop-append_seam, get_or_at, drop_at}
use Rattle.float.specs.declared.Flagged.{Flagged}
use Rattle.float.specs.Word.{size88}
use Rattle.float.specs.Cut.{cut}
use Rattle.numbers.specs.Signed.{with_sign}
use Rattle.terms.specs.declared.Refusal.TheVariants.{TooLarge, TooSmall}
use Rattle.decimals.specs.declared.bring.Brought.TheVariants.{Exact, Rounded, Refused}
use Rattle.decimals.specs.declared.read.Scanned.TheVariants.{Digits}
use Rattle.decimals.specs.declared.read.Parsed.TheVariants.{Decimal}
use Rattle.decimals.specs.Exact.{point, minus}
use Rattle.decimals.specs.Bring.{judged, bring_of}
use Rattle.decimals.specs.Read.{is_digit, scan_from, scan_of, places_from, whole_from, has_minus, parse_of, answered, read_parsed}
use Rattle.decimals.specs.Meaning.{all_digits, number_from, number_in, text_of, ReadingIsOfTheValue, ExactIsExact}
use Rattle.decimals.proofs.Quotients.{ten_pos}
use Rattle.decimals.proofs.Scanning.{digit_within}
use Rattle.decimals.proofs.Fractions.{number_on, number_join}

-- what ends a run of digits
abbrev pub Stops : List ℕ → Type 0
Stops [] = Unit
Stops (c ∷ l) = is_digit c ≡ false

not_less : (n : ℕ) (l : List ℕ) → n ≤ number_from n l
not_less n l =
    let e = number_on n l in
    let a : n * 1 ≤ n * 10 ^ length l = mul-le-mul_left n (ten_pos (length l)) in
    omega arith

scans : (v i : ℕ) (l m : List ℕ) → all_digits l ≡ true → number_from v l < 10 ^ 19 → Stops m → scan_from v i (l ++ m) ≡ Digits (number_from v l) (i + length l)
unfolding scan_from
scans v i [] [] a n s = ap (Digits v) (sym (add-zero i))
scans v i [] (c ∷ m) a n s = rw s (ap (Digits v) (sym (add-zero i)))
scans v i (c ∷ l) m a n s = go (is_digit c) refl a (λ y. scans (v * 10 + (c - 48)) (i + 1) l m y n s)
  where
    small : v < 10 ^ 18
    small = let e = not_less (v * 10 + (c - 48)) l in omega arith

    go : (t : Bool) → is_digit c ≡ t → cond t (all_digits l) false ≡ true
        → (all_digits l ≡ true → scan_from (v * 10 + (c - 48)) (i + 1) (l ++ m) ≡ Digits (number_from (v * 10 + (c - 48)) l) (i + 1 + length l))
        → scan_from v i (c ∷ (l ++ m)) ≡ Digits (number_from v (c ∷ l)) (i + suc (length l))
    go true x y k =
        let e : i + 1 + length l ≡ i + suc (length l) = omega arith in
        rw (x, lt-ltb v (10 ^ 18) small) (k y ∙ ap (Digits (number_from (v * 10 + (c - 48)) l)) e)
    go false x y k = let z : ◌≡◌ {A = ℕ} 0 1 = cc in absurd (omega arith)

pub scans_all : (l m : List ℕ) → all_digits l ≡ true → number_in l < 10 ^ 19 → Stops m → scan_of (l ++ m) ≡ Digits (number_in l) (length l)
scans_all l m a n s = scans 0 0 l m a n s ∙ ap (Digits (number_in l)) (zero-add (length l))

-- ---- behind a sign s
module _ (neg : Bool) (s W F : List ℕ) (dw : all_digits W ≡ true) (df : all_digits F ≡ true) (sw : 0 < length W) (sf : 0 < length F) (few : length F ≤ 27)
    (nw : number_in W < 10 ^ 19) (nf : number_in F < 10 ^ 19) where
  abbrev pub text : List ℕ
  text = s ++ (W ++ (point ∷ F))

  size : length text ≡ length s + length W + 1 + length F
  size = let a = length-append s (W ++ (point ∷ F)) in let b = length-append W (point ∷ F) in omega arith

  joined : text ≡ (s ++ W) ++ (point ∷ F)
  joined = sym (append_assoc s W (point ∷ F))

  front : length (s ++ W) ≡ length s + length W
  front = length-append s W

  whole_run : scan_of (drop (length s) text) ≡ Digits (number_in W) (length W)
  whole_run = ap scan_of (drop-append_seam s (W ++ (point ∷ F))) ∙ scans_all W (point ∷ F) dw nw refl

  at_point : get_or text (length s + length W) 0 ≡ point
  at_point = ap (λ (l : List ℕ). get_or l (length s + length W) 0) joined ∙ get_or_at (s ++ W) point F 0 (length s + length W) front

  behind : drop (length s + length W + 1) text ≡ F
  behind =
      ap (drop (length s + length W + 1)) (joined ∙ shifted)
      ∙ drop_at ((s ++ W) ++ (point ∷ [])) F (length s + length W + 1) (let a = length-append (s ++ W) (point ∷ []) in let b = front in omega arith)
    where
      shifted : (s ++ W) ++ (point ∷ F) ≡ ((s ++ W) ++ (point ∷ [])) ++ F
      shifted = sym (append_assoc (s ++ W) (point ∷ []) F)

  places_run : scan_of (drop (length s + length W + 1) text) ≡ Digits (number_in F) (length F)
  places_run = ap scan_of behind ∙ subst (λ (l : List ℕ). scan_of l ≡ Digits (number_in F) (length F)) (append-nil F) (scans_all F [] df nf tt)

  pub taken : whole_from neg (length s) text (scan_of (drop (length s) text)) ≡ Decimal neg (number_in W) (number_in F) (length F)
  taken =
      ap (whole_from neg (length s) text) whole_run
      ∙ rw (
        ne_eqb (length W) 0 (λ e. omega arith),
        lt-ltb (length s + length W) (length text) (let z = size in omega arith),
        eq-eqb (get_or text
            (length s + length W) 0) point at_point,
      )
      (ap (places_from (length text) neg (number_in W) (length s + length W + 1)) places_run
      ∙ rw (
        ne_eqb (length F) 0 (λ e. omega arith),
        le-ltb 27 (length F) few,
        le-ltb (length s + length W + 1 + length F) (length text)
            (let z = size in omega arith),
      ))

-- a digit is no minus sign
first : (W m : List ℕ) → all_digits W ≡ true → 0 < length W → has_minus (W ++ m) ≡ false
first [] m a h = absurd (omega arith)
first (c ∷ W) m a h = go (is_digit c) refl a
  where
    go : (t : Bool) → is_digit c ≡ t → cond t (all_digits W) false ≡ true → eqb c minus ≡ false
    go true x y = let d = digit_within c x in ne_eqb c minus (λ e. omega arith)
    go false x y = let z : ◌≡◌ {A = ℕ} 0 1 = cc in absurd (omega arith)

pub parsed : (neg : Bool) (W F : List ℕ) → all_digits W ≡ true → all_digits F ≡ true → 0 < length W → 0 < length F → length F ≤ 27 → number_in W < 10 ^ 19
    → number_in F < 10 ^ 19
    → parse_of (text_of neg W F) ≡ Decimal neg (number_in W) (number_in F) (length F)
unfolding parse_of
parsed true W F dw df sw sf few nw nf = taken true (minus ∷ []) W F dw df sw sf few nw nf
parsed false W F dw df sw sf few nw nf = rw (first W (point ∷ F) dw sw) (taken false [] W F dw df sw sf few nw nf)

pub reading_is_of_the_value : ReadingIsOfTheValue
reading_is_of_the_value rule neg W F dw df sw sf few nw nf =
    ap (read_parsed rule) (parsed neg W F dw df sw sf few nw nf)
    ∙ ap (λ (k : ℕ). answered (bring_of rule neg k (length F))) (sym (number_join 0 W F ∙ number_on (number_in W) F))

-- ---- exact
pub exact_is_exact : ExactIsExact
unfolding bring_of
exact_is_exact rule neg k p w e = go (eqb k 0) (ltb (k * 2 ^ 65) (10 ^ p)) refl e
  where
    r : Flagged
    r = cut rule (with_sign neg k) (10 ^ p)

    last : (t u : Bool) → eqb (size88 r.word * 10 ^ p) (k * 2 ^ 88) ≡ u → cond t (cond u (Exact r.word) (Rounded r.word))
        (Refused TooLarge) ≡ Exact w → size88 w * 10 ^ p ≡ k * 2 ^ 88
    last true true x f = let z : r.word ≡ w = cc in subst (λ (v : ℕ). size88 v * 10 ^ p ≡ k * 2 ^ 88) z (eqb-true (size88 r.word * 10 ^ p) (k * 2 ^ 88) x)
    last true false x f = let z : ◌≡◌ {A = ℕ} 0 1 = cc in absurd (omega arith)
    last false u x f = let z : ◌≡◌ {A = ℕ} 0 1 = cc in absurd (omega arith)

    go : (s t : Bool) → eqb k 0 ≡ s → cond s (Exact 0) (cond t (Refused TooSmall) (judged r k p)) ≡ Exact w → size88 w * 10 ^ p ≡ k * 2 ^ 88
    go true t x f =
        let z : 0 ≡ w = cc in
        let y = eqb-true k 0 x in
        let none : size88 0 * 10 ^ p ≡ 0 = (unfold size88 in zero-mul (10 ^ p)) in
        ap (λ (v : ℕ). size88 v * 10 ^ p) (sym z) ∙ none ∙ sym (ap (λ (v : ℕ). v * 2 ^ 88) y)
    go false true x f = let z : ◌≡◌ {A = ℕ} 0 1 = cc in absurd (omega arith)
    go false false x f = last (eqb r.error 0) (eqb (size88 r.word * 10 ^ p) (k * 2 ^ 88)) refl f
