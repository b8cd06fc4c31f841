-- A loop over the lines: what is counted so far, and what the lines still ahead make, is the whole. Assumes nothing.
use Prim.Native.Nat.{ℕ, suc, ◌+◌, ◌*◌, ◌≤◌, ◌<◌}
use mathlib.Core.Path.{◌≡◌, sym, ap, ap₂, subst, ◌∙◌}
use mathlib.Core.Bool.{Bool, true, false, not, cond}
use mathlib.Core.List.{List, [], ◌∷◌}
use native.Mathlib.Omega.{arith}
use native.Mathlib.Numerals.{add-one}
use lib.Dec.{eqb}
use lib.ListN.{length, get_or, drop, drop_of_length-le}
use lib.Seq.{drop-cons}
use Rattle.float.specs.Word.{proper}
use Rattle.sheet_bytes.specs.Ledger.{lines_of, closed_in}
use Rattle.sheet_figures.specs.Figures.{serial_on, word_on, serials, count, once, many, different, improper}
use Rattle.sheet_figures.proofs.Lines.{length-lines}

-- ---- what a line adds

pub ahead_is : (s : List ℕ) (i : ℕ) → i < closed_in s → drop i (lines_of s) ≡ get_or (lines_of s) i [] ∷ drop (i + 1) (lines_of s)
ahead_is s i h =
    drop-cons (lines_of s) i [] (subst (λ (n : ℕ). i < n) (sym (length-lines s)) h)
    ∙ ap (λ (n : ℕ). get_or (lines_of s) i [] ∷ drop n (lines_of s)) (sym (add-one i))

-- one where a test passes, then the rest
counted : (b : Bool) (n : ℕ) → cond b (suc n) n ≡ cond b 1 0 + n
counted true n = omega arith
counted false n = omega arith

last_counted : (b : Bool) (x : ℕ) (l : List ℕ) → length (cond b (x ∷ l) l) ≡ cond b 1 0 + length l
last_counted true x l = omega arith
last_counted false x l = omega arith

last_tested : (b : Bool) (test : ℕ → Bool) (x : ℕ) (l : List ℕ) → many test (cond b (x ∷ l) l) ≡ cond b 1 0 * cond (test x) 1 0 + many test l
last_tested true test x l = counted (test x) (many test l) ∙ once_that (cond (test x) 1 0) (many test l)
  where
    once_that : (k n : ℕ) → k + n ≡ 1 * k + n
    once_that k n = omega arith
last_tested false test x l = none (cond (test x) 1 0) (many test l)
  where
    none : (k n : ℕ) → n ≡ 0 * k + n
    none k n = omega arith

-- ---- on by one line, and at the end

carried_on : (p a k b t : ℕ) → a ≡ k + b → p + a ≡ t → p + k + b ≡ t
carried_on p a k b t e h = omega arith

pub counted_all : (f : List (List ℕ) → ℕ) (s : List ℕ) (p i t : ℕ) → f [] ≡ 0 → closed_in s ≤ i → p + f (drop i (lines_of s)) ≡ t → p ≡ t
counted_all f s p i t z h e =
    let n : f (drop i (lines_of s)) ≡ 0 = ap f (drop_of_length-le (lines_of s) {i = i} (subst (λ (n : ℕ). n ≤ i) (sym (length-lines s)) h)) ∙ z in
    omega arith

-- from the first on
pub none_yet : (n : ℕ) → 0 + n ≡ n
none_yet n = omega arith

module _ (s : List ℕ) (p i t k : ℕ) (more : i < closed_in s) where
  -- how often a serial stands
  pub count_on : (x w : ℕ) → w ≡ serial_on (get_or (lines_of s) i []) → k ≡ cond (eqb x w) 1 0
      → p + count x (serials (drop i (lines_of s))) ≡ t → p + k + count x (serials (drop (i + 1) (lines_of s))) ≡ t
  count_on x w a b =
      let n : ℕ = count x (serials (drop (i + 1) (lines_of s))) in
      carried_on p (count x (serials (drop i (lines_of s)))) k n t
      (ap (λ (l : List (List ℕ)). count x (serials l)) (ahead_is s i more) ∙ counted (eqb x (serial_on (get_or (lines_of s) i []))) n
      ∙ ap (λ (j : ℕ). j + n) (ap (λ (v : ℕ). cond (eqb x v) 1 0) (sym a) ∙ sym b))

  -- the different serials: this one counts where it does not stand further on
  pub different_on : (x c : ℕ) → x ≡ serial_on (get_or (lines_of s) i []) → c ≡ count x (serials (drop (i + 1) (lines_of s))) → k ≡ cond (eqb c 0) 1 0
      → p + different (drop i (lines_of s)) ≡ t → p + k + different (drop (i + 1) (lines_of s)) ≡ t
  different_on x c a b d =
      let ahead : List (List ℕ) = drop (i + 1) (lines_of s) in
      carried_on p (different (drop i (lines_of s))) k (different ahead) t
      (ap different (ahead_is s i more)
      ∙ ap (λ (v : ℕ). length (once (v ∷ serials ahead))) (sym a)
      ∙ last_counted (eqb (count x (serials ahead)) 0) x (once (serials ahead))
      ∙ ap (λ (j : ℕ). j + different ahead) (ap (λ (v : ℕ). cond (eqb v 0) 1 0) (sym b) ∙ sym d))

  -- those that pass a test
  pub tested_on : (test : ℕ → Bool) (x c j : ℕ) → x ≡ serial_on (get_or (lines_of s) i []) → c ≡ count x (serials (drop (i + 1) (lines_of s)))
      → k ≡ cond (eqb c 0) 1 0
      → j ≡ cond (test x) 1 0
      → p + many test (once (serials (drop i (lines_of s)))) ≡ t → p + k * j + many test (once (serials (drop (i + 1) (lines_of s)))) ≡ t
  tested_on test x c j a b d e =
      let ahead : List (List ℕ) = drop (i + 1) (lines_of s) in
      carried_on p (many test (once (serials (drop i (lines_of s))))) (k * j) (many test (once (serials ahead))) t
      (ap (λ (l : List (List ℕ)). many test (once (serials l))) (ahead_is s i more)
      ∙ ap (λ (v : ℕ). many test (once (v ∷ serials ahead))) (sym a)
      ∙ last_tested (eqb (count x (serials ahead)) 0) test x (once (serials ahead))
      ∙ ap (λ (n : ℕ). n + many test (once (serials ahead))) (ap₂ ◌*◌ (ap (λ (v : ℕ). cond (eqb v 0) 1 0) (sym b) ∙ sym d) (sym e)))

  -- the words that are not proper
  pub improper_on : (w : ℕ) (b : Bool) → w ≡ word_on (get_or (lines_of s) i []) → b ≡ proper w → k ≡ cond (not b) 1 0
      → p + improper (drop i (lines_of s)) ≡ t → p + k + improper (drop (i + 1) (lines_of s)) ≡ t
  improper_on w b a d e =
      let n : ℕ = improper (drop (i + 1) (lines_of s)) in
      carried_on p (improper (drop i (lines_of s))) k n t
      (ap improper (ahead_is s i more)
      ∙ counted (not (proper (word_on (get_or (lines_of s) i [])))) n
      ∙ ap (λ (j : ℕ). j + n) (ap (λ (v : ℕ). cond (not (proper v)) 1 0) (sym a) ∙ ap (λ (v : Bool). cond (not v) 1 0) (sym d) ∙ sym e))
