-- How long the lines are, and that the lines of the sheets come one sheet at a time. Assumes nothing.
use mathlib.Core.Path.{◌≡◌, refl, sym, ap, subst, ◌∙◌}
use mathlib.Core.Bool.{Bool, true, false, cond}
use mathlib.Core.List.{List, [], ◌∷◌, ◌++◌, append_assoc, append-nil}
use Prim.Native.Nat.{ℕ, zero, suc, ◌+◌, ◌*◌, ◌-◌, ◌/◌, ◌%◌, ◌≤◌, ◌<◌, zero-le, min}
use native.Mathlib.Omega.{arith}
use native.Mathlib.Numerals.{add-one}
use lib.ListN.{length, take, drop, get_or, length-append, length-drop}
use lib.Dec.{leb}
use borrow.Author.Tests.{leb-true, leb-false}
use lib.Seq.{drop-drop, length-take-le, take_all}
use Rattle.numbers.specs.Little.{four_at}
use Rattle.sheet_bytes.specs.Ledger.{serial_at, is_open, lines, lines_of, closed_in}
use Rattle.sheets.specs.Calls.{Called}
use Rattle.listing.specs.Options.{asked_of}
use Rattle.listing.specs.Text.{digit, decimal, Adds}
use Rattle.listing.specs.Listing.{newline, field, listing_of}
use Rattle.listing.proofs.Adding.{nothing}
use Rattle.listing.proofs.Decimal.{at_most}
use Rattle.sheet_text.specs.Printout.{sheet_word, open_word, word_text, words_text, sheet_text, sheets_text, open_text, figure_text, figures_text, figures_for}
use Rattle.sheet_text.specs.Printout.{printed_of, rest_text, printed_for, printout_of, told_of}

-- the line of a sheet has room
pub sheet_length : (l : List ℕ) → length (sheet_text l) ≡ length (decimal (four_at l 0)) + 43
sheet_length l = omega (arith, length-append (decimal (four_at l 0)) (words_text l ++ (newline ∷ [])))

pub sheet_short : (l : List ℕ) → length (sheet_text l) ≤ 64
sheet_short l = omega (arith, sheet_length l, at_most 20 (four_at l 0))

-- the line of a closed sheet, of what the code reads
pub sheet_of_lem : (l : List ℕ) {n : ℕ} {before after : List ℕ} {place new : ℕ} → n ≡ four_at l 0
    → Adds (sheet_word ++ (field n ++ (words_text l ++ (newline ∷ [])))) before after place new → Adds (sheet_text l) before after place new
sheet_of_lem l {n} {before} {after} {place} {new} e x =
    subst (λ (k : ℕ). Adds (sheet_word ++ (field k ++ (words_text l ++ (newline ∷ [])))) before after place new) e x

-- the line of the open one, and none
pub open_of_lem : (l : List ℕ) {n : ℕ} {before after : List ℕ} {place new : ℕ} → is_open l ≡ true → n ≡ four_at l serial_at
    → Adds (open_word ++ (field n ++ (newline ∷ []))) before after place new → Adds (open_text l) before after place new
open_of_lem l {n} {before} {after} {place} {new} h e x =
    rw h (subst (λ (k : ℕ). Adds (open_word ++ (field k ++ (newline ∷ []))) before after place new) e x)

pub none_open : (l out : List ℕ) (place : ℕ) → is_open l ≡ false → Adds (open_text l) out out place place
none_open l out place h = rw h (nothing out place)

-- a blank and eight digits are a word in hex
pub spelled_out : (a b c d : ℕ) {p q r s t u v w : ℕ} {before after : List ℕ} {place new : ℕ}
    → p ≡ digit (d / 16) → q ≡ digit (d % 16) → r ≡ digit (c / 16) → s ≡ digit (c % 16)
    → t ≡ digit (b / 16) → u ≡ digit (b % 16) → v ≡ digit (a / 16) → w ≡ digit (a % 16)
    → Adds (32 ∷ p ∷ q ∷ r ∷ s ∷ t ∷ u ∷ v ∷ w ∷ []) before after place new → Adds (word_text a b c d) before after place new
spelled_out a b c d e f g h i j k m x = rw (e, f, g, h, i, j, k, m) at x

-- one sheet more
pub one_more : (i : ℕ) (m : List ℕ) → sheets_text (lines (suc i) m) ≡ sheets_text (lines i m) ++ sheet_text (take 20 (drop (20 * i) m))
one_more zero m = append-nil (sheet_text (take 20 m))
one_more (suc i) m =
    let first = sheet_text (take 20 m) in
    let rest = drop 20 m in
    let n : 20 + 20 * i ≡ 20 * suc i = omega arith in
    let e : drop (20 * i) rest ≡ drop (20 * suc i) m = drop-drop (20 * i) 20 m ∙ ap (λ (k : ℕ). drop k m) n in
    ap (λ (t : List ℕ). first ++ t) (one_more i rest)
    ∙ sym (append_assoc first (sheets_text (lines i rest)) (sheet_text (take 20 (drop (20 * i) rest))))
    ∙ ap (λ (l : List ℕ). (first ++ sheets_text (lines i rest)) ++ sheet_text (take 20 l)) e

-- the bytes of a place, from its first to its last
abbrev place_of : ℕ → List ℕ → List ℕ
place_of i l = take (1 + 20 * i + 20 - (1 + 20 * i)) (drop (1 + 20 * i) l)

place_is : (i : ℕ) (l : List ℕ) → place_of i l ≡ take 20 (drop (1 + 20 * i) l)
place_is i l = let e : 1 + 20 * i + 20 - (1 + 20 * i) ≡ 20 = omega arith in ap (λ (k : ℕ). take k (drop (1 + 20 * i) l)) e

pub place_long : (i : ℕ) (l : List ℕ) → length l ≡ 1303 → i < 64 → length (place_of i l) ≡ 20
place_long i l h k =
    let d = length-drop (1 + 20 * i) l in
    ap length (place_is i l) ∙ length-take-le 20 (drop (1 + 20 * i) l) (omega arith)

-- one sheet more of those behind the number
pub next_line : (i : ℕ) (l : List ℕ) → sheets_text (lines (i + 1) (drop 1 l)) ≡ sheets_text (lines i (drop 1 l)) ++ sheet_text (place_of i l)
next_line i l =
    let before = sheets_text (lines i (drop 1 l)) in
    rw (add-one i) (one_more i (drop 1 l))
    ∙ ap (λ (x : List ℕ). before ++ sheet_text (take 20 x)) (drop-drop (20 * i) 1 l)
    ∙ ap (λ (x : List ℕ). before ++ sheet_text x) (sym (place_is i l))

-- all of them are the lines of the list
pub all_lines : (l : List ℕ) (i : ℕ) {before after : List ℕ} {place new : ℕ} → i ≡ closed_in l
    → Adds (sheets_text (lines i (drop 1 l))) before after place new → Adds (sheets_text (lines_of l)) before after place new
all_lines l i {before} {after} {place} {new} e x = subst (λ (k : ℕ). Adds (sheets_text (lines k (drop 1 l))) before after place new) e x

-- the line of the open one has room
pub open_short : (l : List ℕ) → length (open_text l) ≤ 32
open_short l = pick (is_open l)
  where
    pick : (b : Bool) → length (cond b (open_word ++ (field (four_at l serial_at) ++ (newline ∷ []))) []) ≤ 32
    pick true = omega (arith, length-append (decimal (four_at l serial_at)) (newline ∷ []), at_most 20 (four_at l serial_at))
    pick false = zero-le

-- and so has a figure's
pub figure_short : (name : List ℕ) (n : ℕ) → length (figure_text name n) ≤ length name + 22
figure_short name n = omega (arith, length-append name (field n ++ (newline ∷ [])), length-append (decimal n) (newline ∷ []), at_most 20 n)

-- what stands behind the listing, of the figures that the code has
pub rest_of : (sheets : List ℕ) {figures before after : List ℕ} {place new : ℕ} → figures ≡ figures_for sheets
    → Adds (sheets_text (lines_of sheets) ++ (open_text sheets ++ figures_text figures)) before after place new → Adds (rest_text sheets) before after place new
rest_of sheets {figures} {before} {after} {place} {new} e x =
    subst (λ (f : List ℕ). Adds (sheets_text (lines_of sheets) ++ (open_text sheets ++ figures_text f)) before after place new) e x

-- as many as there are, where more are asked for
take_least : (l : List ℕ) (n most : ℕ) → length l ≡ most → take (min n most) l ≡ take n l
take_least l n most h = pick (leb n most) refl
  where
    pick : (t : Bool) → leb n most ≡ t → take (min n most) l ≡ take n l
    pick true e = let k = leb-true n most e in let m : min n most ≡ n = omega arith in rw m
    pick false e =
        let k = leb-false n most e in
        let m : min n most ≡ most = omega arith in
        rw m (take_all most l (omega arith) ∙ sym (take_all n l (omega arith)))

-- what the code reads of the report
pub as_printed : (replies report : List ℕ) (n written taken : ℕ) → length replies ≡ 65536 → n ≡ min written 65536
    → written ≡ four_at report 5 → taken ≡ four_at report 1 → listing_of (take n replies) (get_or report 0 0) taken ≡ printed_of replies report
as_printed replies report n written taken h a w t =
    ap (λ (x : List ℕ). listing_of x (get_or report 0 0) taken)
    (ap (λ (k : ℕ). take k replies) a ∙ take_least replies written 65536 h ∙ ap (λ (k : ℕ). take k replies) w)
    ∙ ap (λ (k : ℕ). listing_of (take (four_at report 5) replies) (get_or report 0 0) k) t

-- what a run left has its text
pub of_run : (c : Called) {replies report sheets : List ℕ} → replies ≡ c.replies → report ≡ c.report → sheets ≡ c.sheets
    → printed_of replies report ++ rest_text sheets ≡ printed_for c
of_run c {replies} {report} {sheets} e f g =
    ap (λ (l : List ℕ). printed_of l report ++ rest_text sheets) e
    ∙ ap (λ (l : List ℕ). printed_of c.replies l ++ rest_text sheets) f
    ∙ ap (λ (l : List ℕ). printed_of c.replies c.report ++ rest_text l) g

-- a call without options has mode and rule 0
pub stays : (first second input : List ℕ) → told_of 1 first second input ≡ printout_of input
unfolding asked_of
stays first second input = refl
