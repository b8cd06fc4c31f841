-- The book's figures are those of the call: each measure is the crate's own, list by list. Assumes nothing.
use mathlib.Core.Path.{◌≡◌, refl, sym, ap, ap₂, subst, ◌∙◌}
use mathlib.Core.Bool.{Bool, true, false, not, cond}
use mathlib.Core.List.Permᴰ
use mathlib.Core.List.{List, [], ◌∷◌, ◌++◌, map, Permᴰ}
use Prim.Native.Nat.{ℕ, zero, suc, ◌/◌, ◌%◌, ◌^◌, ◌≤◌, ◌<◌}
use borrow.Author.Tests.{eqb-true}
use lib.Dec.{eqb, leb, eqb-suc-zero}
use lib.ListN.{length, drop, replicate}
use lib.IntN.{ℤ, pos, negsuc, neg_ℤ, ◌+ℤ◌, nat_abs}
use Rattle.numbers.specs.Signed.{with_sign}
use Rattle.float.specs.Word as float
use Rattle.sheet_bytes.specs.Ledger as ledger
use Rattle.sheet_figures.specs.Figures as crate-figures
use Rattle.sheet_figures.specs.Digits as digits
use Rattle.sheet_figures.specs.Telling as telling
use Rattle.sheet_figures.proofs.Sums.{always_fits as fits-there}
use Rattle.sheet_figures.proofs.Lines.{sheets_are, length-lines}
use Rattle.sheet_promises.specs.Sheets.{is_sheets, places, closed_sheets}
use Rattle.sheet_promises.specs.Subjects.{figures_call}
use Rattle.sheet_promises.specs.Figures.{serial_on, word_on, proper, value88, size88, count, once, many, total, different, repeated, improper, worth, sum88}
use Rattle.sheet_promises.specs.Figures.{hex_digits, sum_text, sign_of, figures_of, FiguresCall, FiguresAllowed, FiguresDetermined, AnyOrder, AnyOrderTold}
use Rattle.sheet_promises.specs.Figures.{Fits, AlwaysFits, SumIsTold, EachOnce, NoSheets}
use Rattle.sheet_promises.proofs.Measures.{sheets_is, closed_sheets_lem}
use Rattle.sheet_promises.proofs.Orders.{length-perm, many_perm, once_perm, more_perm, total_perm}
use Rattle.sheet_promises.proofs.Reading.{text_is_the_sum}

-- ---- of lists of numbers

count_is : (x : ℕ) (l : List ℕ) → crate-figures.count x l ≡ count x l
count_is x [] = refl
count_is x (y ∷ l) = ap (λ (n : ℕ). cond (eqb x y) (suc n) n) (count_is x l)

once_is : (l : List ℕ) → crate-figures.once l ≡ once l
once_is [] = refl
once_is (x ∷ l) = ap₂ (λ (n : ℕ) (k : List ℕ). cond (eqb n 0) (x ∷ k) k) (count_is x l) (once_is l)

many_is : (s t : ℕ → Bool) → ((x : ℕ) → s x ≡ t x) → (l : List ℕ) → crate-figures.many s l ≡ many t l
many_is s t e [] = refl
many_is s t e (x ∷ l) = ap₂ (λ (b : Bool) (n : ℕ). cond b (suc n) n) (e x) (many_is s t e l)

total_is : (l : List ℤ) → crate-figures.total l ≡ total l
total_is [] = refl
total_is (v ∷ l) = ap (λ (z : ℤ). v +ℤ z) (total_is l)

-- ---- of the lines

serials_are : (l : List (List ℕ)) → crate-figures.serials l ≡ map serial_on l
serials_are [] = refl
serials_are (x ∷ l) = ap (λ (k : List ℕ). serial_on x ∷ k) (serials_are l)

words_are : (l : List (List ℕ)) → crate-figures.words l ≡ map word_on l
words_are [] = refl
words_are (x ∷ l) = ap (λ (k : List ℕ). word_on x ∷ k) (words_are l)

-- ---- of a word

value_is : (w : ℕ) → float.value w ≡ value88 w
unfolding float.value float.size88
value_is w = by (leb 2147483648 w)
  where
    by : (b : Bool) → with_sign b (size88 w) ≡ cond b (neg_ℤ (pos (size88 w))) (pos (size88 w))
    by true = refl
    by false = refl

worth_is : (w : ℕ) → crate-figures.worth w ≡ worth w
worth_is w = ap (λ (z : ℤ). cond (proper w) z (pos 0)) (value_is w)

worths_are : (l : List ℕ) → crate-figures.worths l ≡ map worth l
worths_are [] = refl
worths_are (w ∷ l) = ap₂ (λ (z : ℤ) (k : List ℤ). z ∷ k) (worth_is w) (worths_are l)

-- ---- the figures
module _ (l : List (List ℕ)) where
  different_is : crate-figures.different l ≡ different l
  different_is = ap length (once_is (crate-figures.serials l) ∙ ap once (serials_are l))

  repeated_is : crate-figures.repeated l ≡ repeated l
  repeated_is =
      many_is (λ x. leb 2 (crate-figures.count x (crate-figures.serials l))) (λ x. leb 2 (count x (map serial_on l)))
      (λ x. ap (leb 2) (count_is x (crate-figures.serials l) ∙ ap (count x) (serials_are l))) (crate-figures.once (crate-figures.serials l))
      ∙ ap (many (λ x. leb 2 (count x (map serial_on l)))) (once_is (crate-figures.serials l) ∙ ap once (serials_are l))

  improper_is : crate-figures.improper l ≡ improper l
  improper_is = many_is (λ w. not (float.proper w)) (λ w. not (proper w)) (λ w. refl) (crate-figures.words l) ∙ ap (many (λ w. not (proper w))) (words_are l)

  sum_is : crate-figures.sum88 l ≡ sum88 l
  unfolding crate-figures.sum88 sum88
  sum_is = total_is (crate-figures.worths (crate-figures.words l)) ∙ ap total (worths_are (crate-figures.words l) ∙ ap (map worth) (words_are l))

hex_is : (k n : ℕ) → digits.hex_digits k n ≡ hex_digits k n
hex_is zero n = refl
hex_is (suc k) n = ap (λ (t : List ℕ). t ++ (digits.hex_digit (n % 16) ∷ [])) (hex_is k (n / 16))

sign_is : (z : ℤ) → digits.sign_of z ≡ sign_of z
sign_is (pos n) = refl
sign_is (negsuc n) = refl

text_is : (z : ℤ) → digits.sum_text z ≡ sum_text z
text_is z = ap₂ (λ (s : ℕ) (t : List ℕ). s ∷ t) (sign_is z) (hex_is 48 (nat_abs z))

figures_are : (l : List (List ℕ)) → telling.written l ≡ figures_of l
figures_are l =
    ap (λ (n : ℕ). length l ∷ n ∷ crate-figures.repeated l ∷ crate-figures.improper l ∷ digits.sum_text (crate-figures.sum88 l)) (different_is l)
    ∙ ap (λ (n : ℕ). length l ∷ different l ∷ n ∷ crate-figures.improper l ∷ digits.sum_text (crate-figures.sum88 l)) (repeated_is l)
    ∙ ap (λ (n : ℕ). length l ∷ different l ∷ repeated l ∷ n ∷ digits.sum_text (crate-figures.sum88 l)) (improper_is l)
    ∙ ap (λ (t : List ℕ). length l ∷ different l ∷ repeated l ∷ improper l ∷ t) (text_is (crate-figures.sum88 l) ∙ ap sum_text (sum_is l))

-- ---- the call

pub figures_call_lem : FiguresCall
unfolding telling.figures_of
figures_call_lem sheets out =
    rw (sheets_is sheets)
    (ap (λ (w : List ℕ). cond (eqb (length out) 53) (cond (ledger.is_sheets sheets) (record { result = 0; out = w }) (record { result = 13; out = out }))
    (record { result = 8; out = out }))
    (figures_are (ledger.lines_of sheets) ∙ ap figures_of (closed_sheets_lem sheets)))

pub figures_allowed : FiguresAllowed
figures_allowed a r out = (λ x. (x.result_is, x.out_is), λ e f. record { result_is = e; out_is = f })

pub figures_determined : FiguresDetermined
figures_determined sheets out r q o p a b = (a.result_is ∙ sym b.result_is, a.out_is ∙ sym b.out_is)

-- ---- what 02 asks

pub any_order : AnyOrder
unfolding sum88
any_order l m d =
    let s = Permᴰ.map serial_on d in
    let w = Permᴰ.map word_on d in
    record {
      lines_same = length-perm d;
      different_same = length-perm (once_perm s);
      repeated_same = more_perm s;
      improper_same = many_perm _ w;
      sum_same = total_perm (Permᴰ.map worth w);
    }

-- nor does an order change what is written
figures_same : (l m : List (List ℕ)) → Permᴰ l m → figures_of l ≡ figures_of m
unfolding sum88
figures_same l m d =
    let s = Permᴰ.map serial_on d in
    let w = Permᴰ.map word_on d in
    ap₂ (λ (n k : ℕ). n ∷ k ∷ repeated l ∷ improper l ∷ sum_text (sum88 l)) (length-perm d) (length-perm (once_perm s))
    ∙ ap₂ (λ (n k : ℕ). length m ∷ different m ∷ n ∷ k ∷ sum_text (sum88 l)) (more_perm s) (many_perm _ w)
    ∙ ap (λ (z : ℤ). length m ∷ different m ∷ repeated m ∷ improper m ∷ sum_text z) (total_perm (Permᴰ.map worth w))

-- a slice that is a list of sheets
told : (sheets out : List ℕ) → is_sheets sheets ≡ true
    → figures_call sheets out ≡ cond (eqb (length out) 53) (record { result = 0; out = figures_of (closed_sheets sheets) }) (record { result = 8; out = out })
unfolding telling.figures_of
told sheets out h =
    rw (sym (sheets_is sheets) ∙ h)
    (ap (λ (w : List ℕ). cond (eqb (length out) 53) (record { result = 0; out = w }) (record { result = 8; out = out }))
    (figures_are (ledger.lines_of sheets) ∙ ap figures_of (closed_sheets_lem sheets)))

pub any_order_told : AnyOrderTold
any_order_told s t out h k d =
    told s out h
    ∙ ap (λ (w : List ℕ). cond (eqb (length out) 53) (record { result = 0; out = w }) (record { result = 8; out = out })) (figures_same _ _ d)
    ∙ sym (told t out k)

pub always_fits : AlwaysFits
always_fits l n = let f = fits-there l n in subst Fits (sum_is l) (record { at_most = f.0; has_room = f.1 })

pub sum_is_told : SumIsTold
sum_is_told sheets h =
    let l = closed_sheets sheets in
    let e = ap length (sym (closed_sheets_lem sheets)) ∙ length-lines sheets in
    let n : length l ≤ 64 = subst (λ (k : ℕ). k ≤ 64) (sym e) (sheets_are sheets (sym (sheets_is sheets) ∙ h)).1 in
    text_is_the_sum (sum88 l) (subst (λ (z : ℤ). nat_abs z < 16 ^ 48) (sum_is l) (fits-there l n).1)

-- one number more before a list
once_step : (x y : ℕ) (l : List ℕ) → count x (once l) ≡ cond (eqb (count x l) 0) 0 1 → (q : Bool) → eqb x y ≡ q → (p : Bool) → eqb (count y l) 0 ≡ p
    → count x (once (y ∷ l)) ≡ cond (eqb (count x (y ∷ l)) 0) 0 1
once_step x y l is false e true f = rw (f, e) is
once_step x y l is false e false f = rw (f, e) is
once_step x y l is true e true f =
    let g : eqb (count x l) 0 ≡ true = subst (λ (z : ℕ). eqb (count z l) 0 ≡ true) (sym (eqb-true x y e)) f in
    rw (f, e) (ap suc (is ∙ ap (λ (b : Bool). cond b 0 1) g) ∙ ap (λ (b : Bool). cond b 0 1) (sym (eqb-suc-zero (count x l))))
once_step x y l is true e false f =
    let g : eqb (count x l) 0 ≡ false = subst (λ (z : ℕ). eqb (count z l) 0 ≡ false) (sym (eqb-true x y e)) f in
    rw (f, e) (is ∙ ap (λ (b : Bool). cond b 0 1) g ∙ ap (λ (b : Bool). cond b 0 1) (sym (eqb-suc-zero (count x l))))

pub each_once : EachOnce
each_once x [] = refl
each_once x (y ∷ l) = once_step x y l (each_once x l) (eqb x y) refl (eqb (count y l) 0) refl

none : figures_of [] ≡ 0 ∷ 0 ∷ 0 ∷ 0 ∷ 43 ∷ replicate 48 48
unfolding sum88
none = refl

pub no_sheets : NoSheets
no_sheets sheets h e =
    told sheets (replicate 53 0) h
    ∙ ap (λ (w : List ℕ). record { result = 0; out = w }) (ap (λ (n : ℕ). figures_of (places n (drop 1 sheets))) e ∙ none)
