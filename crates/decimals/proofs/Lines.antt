-- The parts of a line: marks, and what fits into its room. Assumes nothing.
use mathlib.Core.Path.{◌≡◌, sym, ap, ◌∙◌, subst}
use mathlib.Core.Bool.{Bool, true, false, cond}
use mathlib.Core.List.{List, [], ◌∷◌}
use Prim.Native.Nat.{ℕ, ◌+◌, ◌*◌, ◌/◌, ◌%◌, ◌^◌, ◌≤◌, ◌<◌}
use native.Mathlib.Omega.{arith}
use native.Mathlib.Nat.{le_trans, lt_of_lt_of_le, lt_of_le_of_lt, le-add_right, mul-le-mul_left, mul-lt-mul_of_pos_right, lt_of_mul-lt-mul_right, mod-lt}
use borrow.Author.Tests.{le-leb, lt-leb, eq-eqb, ne_eqb}
use lib.Dec.{lit<, lit≤}
use lib.Pow.{pow_pos, pow_mono, high, low}
use lib.ListN.{length}
use Rattle.terms.specs.declared.Rule.{Rule}
use Rattle.float.specs.Word.{biased, proper, size88}
use Rattle.listing.specs.Text.{Adds}
use Rattle.listing.proofs.Adding.{nothing}
use Rattle.decimals.specs.Exact.{minus}
use Rattle.decimals.specs.Short.{short_of}
use Rattle.listing.specs.declared.hex.Hex.{Hex}
use Rattle.listing.specs.declared.hex.Hex.TheVariants.{Nothing as Unread}
use Rattle.decimals.specs.declared.line.End.{End}
use Rattle.decimals.specs.declared.short.Short.TheVariants.{Nothing}
use Rattle.decimals.specs.declared.read.Reading.{Reading}
use Rattle.decimals.specs.declared.read.Reading.TheVariants.{Exact, Rounded, Refused, Wrong}
use Rattle.decimals.specs.Line.{improper_mark, brief_of, word_in, reading_in, line_by, answer_line, EndOf, Tellable}
use Rattle.decimals.specs.declared.read.Fault.TheVariants.{ManyDigits}
use Rattle.decimals.specs.Read.{Placed, read_of}
use Rattle.listing.specs.Hex.{hex_of}

-- ---- a minus sign or none
pub minus_added : (s : Bool) {a b : List ℕ} {p q : ℕ} → s ≡ true → Adds (minus ∷ []) a b p q → Adds (cond s (minus ∷ []) []) a b p q
minus_added true e h = h
minus_added false e h = let z : ◌≡◌ {A = ℕ} 0 1 = cc in absurd (omega arith)

pub minus_none : (s : Bool) (l : List ℕ) (p : ℕ) → s ≡ false → Adds (cond s (minus ∷ []) []) l l p p
minus_none false l p e = nothing l p
minus_none true l p e = let z : ◌≡◌ {A = ℕ} 0 1 = cc in absurd (omega arith)

-- ---- the whole part of a word's magnitude
pub size_small : (w : ℕ) → size88 w < 2 ^ 151
unfolding size88
size_small w =
    lt_of_lt_of_le (mul-lt-mul_of_pos_right (mod-lt w (lit< {m = 0} {n = 16777216} tt)) (pow_pos (biased w)))
    (le_trans (mul-le-mul_left 16777216 (pow_mono {i = biased w} {j = 127} (omega arith))) (lit≤ {m = 16777216 * 2 ^ 127} {n = 2 ^ 151} tt))

module _ (w h l a b : ℕ) (e : (h * 2 ^ 48 + l) * 2 ^ 88 + (a * 2 ^ 40 + b) ≡ size88 w) where
  pub whole_small : h * 2 ^ 48 + l < 2 ^ 63
  whole_small =
      lt_of_mul-lt-mul_right (2 ^ 88)
      (lt_of_le_of_lt (le-add_right ((h * 2 ^ 48 + l) * 2 ^ 88) (a * 2 ^ 40 + b)) (subst (λ (x : ℕ). x < 2 ^ 151) (sym e) (size_small w)))

  small : a < 2 ^ 48 → b < 2 ^ 40 → a * 2 ^ 40 + b < 2 ^ 88
  small A B = omega arith

  pub whole_is : a < 2 ^ 48 → b < 2 ^ 40 → h * 2 ^ 48 + l ≡ size88 w / 2 ^ 88
  whole_is A B = sym (high (h * 2 ^ 48 + l) 88 (small A B)) ∙ ap (λ (x : ℕ). x / 2 ^ 88) e

  pub rest_is : a < 2 ^ 48 → b < 2 ^ 40 → a * 2 ^ 40 + b ≡ size88 w % 2 ^ 88
  rest_is A B = sym (low (h * 2 ^ 48 + l) 88 (small A B)) ∙ ap (λ (x : ℕ). x % 2 ^ 88) e

-- ---- the short decimal, or none
module _ (rule : Rule) (exact : Bool) (w : ℕ) where
  pub exact_asked : exact ≡ true → Nothing ≡ brief_of rule exact w
  exact_asked e = rw e

  pub not_proper : exact ≡ false → proper w ≡ false → Nothing ≡ brief_of rule exact w
  not_proper e n = rw (e, n)

  pub in_brief : exact ≡ false → proper w ≡ true → short_of rule w ≡ brief_of rule exact w
  in_brief e n = rw (e, n)

-- ---- the end of a line
pub end_as : {m n : List ℕ} {at : End} → m ≡ n → EndOf m at → EndOf n at
end_as {at = at} e h = subst (λ (m : List ℕ). EndOf m at) e h

pub plain_end : (w : ℕ) → proper w ≡ true → [] ≡ cond (proper w) [] improper_mark
plain_end w e = rw e

pub improper_end : (w : ℕ) → proper w ≡ false → improper_mark ≡ cond (proper w) [] improper_mark
improper_end w e = rw e

-- ---- the line of a text
module _ (text : List ℕ) where
  pub eight : length text ≡ 8 → hex_of text ≡ word_in text
  eight e = rw (eq-eqb (length text) 8 e)

  pub other : (length text ≡ 8 → ⊥) → Unread ≡ word_in text
  other n = rw (ne_eqb (length text) 8 n)

  pub long_text_lem : (rule : Rule) → 64 < length text → Wrong ManyDigits 64 ≡ reading_in rule text
  long_text_lem rule h = rw (lt-leb (length text) 64 h)

  pub short_text : (rule : Rule) → length text ≤ 64 → read_of rule text ≡ reading_in rule text
  short_text rule h = rw (le-leb (length text) 64 h)

pub tellable : (n : ℕ) (r : Reading) → n ≤ 64 → Placed r → Tellable n r
tellable n (Exact w) h p = h
tellable n (Rounded w) h p = h
tellable n (Refused r) h p = p
tellable n (Wrong fault place) h p = p

pub line_is : (rule : Rule) (exact : Bool) (text : List ℕ) (h : Hex) → h ≡ word_in text → line_by rule exact text h ≡ answer_line rule exact text
unfolding answer_line
line_is rule exact text h e = ap (line_by rule exact text) e
