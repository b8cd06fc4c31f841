-- A text of the grammar within the levels is read as its formula: by the grammar's own recursion. Assumes nothing.
use mathlib.Core.Path.{◌≡◌, refl, sym, ◌∙◌, ap}
use mathlib.Core.Bool.{true}
use mathlib.Core.List.{List, [], ◌∷◌, ◌++◌, append_assoc, append-nil}
use Prim.Native.Nat.{ℕ, zero, suc, ◌+◌, ◌-◌, ◌≤◌, ◌<◌}
use native.Mathlib.Omega.{arith}
use borrow.Author.Tests.{ne_eqb, le-leb}
use lib.ListN.{length, length-append}
use lib.Seq.{take_at, drop_at}
use Rattle.formula.specs.Formula.{Operator, Plus, Less, Times, Over, Formula, Letter, Constant, Minus, Brackets, Joined, nested}
use Rattle.formula.specs.Grammar.{are_digits, IsSum, product, plus, less, IsProduct, factor, times, over, IsFactor, letter, constant, minus, brackets}
use Rattle.formula.specs.Reader.{Read, Found, Reader, then, leaf_of, Sign, Joins, Ends, sum_sign, product_sign, more, joined_by, closed, ALeaf, start_at}
use Rattle.formula.specs.Reader.{factor_of, product_of, sum_of}
use Rattle.formula.proofs.Cases.{more_ends, more_joins, factor_minus, factor_bracket, factor_leaf}

-- a text that no sign of a rank goes on with
abbrev pub Stops : (ℕ → Sign) → List ℕ → Type 0
Stops sign [] = Unit
Stops sign (b ∷ s) = sign b ≡ Ends

-- a formula's text is read as it, and the reader is where it looks for the next sign
record Goes (sign : ℕ → Sign) (operand : Reader) (s : List ℕ) (f : Formula) (rest : List ℕ) : Type 0 where
  turns : ℕ
  enough : length rest ≤ turns
  goes_on : joined_by sign operand (s ++ rest) ≡ more sign operand turns f rest

module _ (sign : ℕ → Sign) (operand : Reader) where
  -- an operand comes first
  first_goes : {s : List ℕ} {f : Formula} {rest : List ℕ} → operand (s ++ rest) ≡ Found f rest → Goes sign operand s f rest
  first_goes {s} {f} {rest} e = record {
    turns = length rest;
    enough = omega arith;
    goes_on = ap (λ (x : Read). then x (λ l u. more sign operand (length u) l
        u)) e;
  }

  -- one more operand
  next_goes : (b : ℕ) (o : Operator) {text s : List ℕ} (t : List ℕ) {f g : Formula} (rest : List ℕ) → sign b ≡ Joins o → text ≡ s ++ (b ∷ t) → Goes sign operand
      s f (b ∷ (t ++ rest)) → operand (t ++ rest) ≡ Found g rest
      → Goes sign operand text (Joined o f g) rest
  next_goes b o {text} {s} t {f} {g} rest h is L e = go L.turns L.enough L.goes_on
    where
      go : (n : ℕ) → length (b ∷ (t ++ rest)) ≤ n → joined_by sign operand (s ++ (b ∷ (t ++ rest))) ≡ more sign operand n f (b ∷ (t ++ rest)) → Goes sign operand
          text (Joined o f g) rest
      go zero i j = absurd (omega arith)
      go (suc n) i j = record {
        turns = n;
        enough = omega (arith, length-append t rest);
        goes_on = ap (λ (x : List ℕ). joined_by sign operand (x ++ rest)) is ∙ ap (joined_by sign operand) (append_assoc s (b ∷ t) rest)
            ∙ j ∙ more_joins sign operand n f b (t ++ rest) o h
            ∙ ap (λ (x : Read). then x (λ r u. more sign operand n (Joined o f r) u)) e;
      }

  -- at the end
  at_end : (n : ℕ) (f : Formula) (rest : List ℕ) → Stops sign rest → more sign operand n f rest ≡ Found f rest
  unfolding more
  at_end zero f rest h = refl
  at_end (suc n) f [] h = refl
  at_end (suc n) f (b ∷ s) h = more_ends sign operand n f b s h

  ends_goes : {s : List ℕ} {f : Formula} {rest : List ℕ} → Stops sign rest → Goes sign operand s f rest → joined_by sign operand (s ++ rest) ≡ Found f rest
  ends_goes {s} {f} {rest} h G = G.goes_on ∙ at_end G.turns f rest h

-- ---- leaves
leaf_at : (b : ℕ) (s : List ℕ) (d : ℕ) → start_at b ≡ ALeaf → factor_of d (b ∷ s) ≡ leaf_of (b ∷ s)
unfolding factor_of
leaf_at b s zero h = refl
leaf_at b s (suc d) h = factor_leaf d b s h

letter_read : (k d : ℕ) (rest : List ℕ) → k < 8 → factor_of d ((0x61 + k) ∷ rest) ≡ Found (Letter k) rest
unfolding leaf_of
letter_read k d rest h =
    let z : 0x61 + k - 0x61 ≡ k = omega arith in
    leaf_at (0x61 + k) rest d (rw (ne_eqb (0x61 + k) 0x2D (λ e. omega arith), ne_eqb (0x61 + k) 0x28 (λ e. omega arith)))
    ∙ rw (le-leb 0x61 (0x61 + k) (omega arith), le-leb (0x61 + k) 0x68 (omega arith)) (ap (λ (x : ℕ). Found (Letter x) rest) z)

constant_read : (s : List ℕ) (d : ℕ) (rest : List ℕ) → length s ≡ 8 → are_digits s ≡ true → factor_of d (0x23 ∷ (s ++ rest)) ≡ Found (Constant s) rest
unfolding leaf_of
constant_read s d rest h a =
    let m : 8 ≤ length (s ++ rest) = omega (arith, length-append s rest) in
    leaf_at 0x23 (s ++ rest) d refl ∙ rw (le-leb 8 (length (s ++ rest)) m, take_at s rest 8 h, drop_at s rest 8 h, a)

-- ---- a minus and brackets, over what stands inside
minus_read : (f : Formula) (s : List ℕ) (d : ℕ) (rest : List ℕ) → suc (nested f) ≤ d → ((d : ℕ) → nested f ≤ d → factor_of d (s ++ rest) ≡ Found f rest)
    → factor_of d (0x2D ∷ (s ++ rest)) ≡ Found (Minus f) rest
minus_read f s zero rest n inside = absurd (omega arith)
minus_read f s (suc d) rest n inside = factor_minus d 0x2D (s ++ rest) refl ∙ ap (λ (x : Read). then x (λ g u. Found (Minus g) u)) (inside d (omega arith))

brackets_read : (f : Formula) (s : List ℕ) (d : ℕ) (rest : List ℕ) → suc (nested f) ≤ d → ((d : ℕ) → nested f ≤ d → Goes sum_sign (product_of d) s f
    (0x29 ∷ rest))
    → factor_of d (0x28 ∷ (s ++ (0x29 ∷ rest))) ≡ Found (Brackets f) rest
brackets_read f s zero rest n inside = absurd (omega arith)
brackets_read f s (suc d) rest n inside =
    factor_bracket d 0x28 (s ++ (0x29 ∷ rest)) refl ∙ ap (λ (x : Read). then x closed) (ends_goes sum_sign (product_of d) refl (inside d (omega arith)))

-- ---- the grammar
mutual
  unfolding nested

  sum_goes : {s : List ℕ} {f : Formula} → IsSum s f → (d : ℕ) (rest : List ℕ) → nested f ≤ d → Stops product_sign rest → Goes sum_sign (product_of d) s f rest
  sum_goes (product p) d rest n h = first_goes sum_sign (product_of d) (ends_goes product_sign (factor_of d) h (product_goes p d rest n))
  sum_goes (plus {text} {s} {t} p q e) d rest n h =
      next_goes sum_sign (product_of d) 0x2B Plus t rest refl e (sum_goes p d (0x2B ∷ (t ++ rest)) (omega arith) refl) (ends_goes product_sign (factor_of d) h
      (product_goes q d rest (omega arith)))
  sum_goes (less {text} {s} {t} p q e) d rest n h =
      next_goes sum_sign (product_of d) 0x2D Less t rest refl e (sum_goes p d (0x2D ∷ (t ++ rest)) (omega arith) refl) (ends_goes product_sign (factor_of d) h
      (product_goes q d rest (omega arith)))

  product_goes : {s : List ℕ} {f : Formula} → IsProduct s f → (d : ℕ) (rest : List ℕ) → nested f ≤ d → Goes product_sign (factor_of d) s f rest
  product_goes (factor p) d rest n = first_goes product_sign (factor_of d) (factor_read p d rest n)
  product_goes (times {text} {s} {t} p q e) d rest n = next_goes product_sign (factor_of d) 0x2A Times t rest refl e
      (product_goes p d (0x2A ∷ (t ++ rest)) (omega arith)) (factor_read q d rest (omega arith))
  product_goes (over {text} {s} {t} p q e) d rest n = next_goes product_sign (factor_of d) 0x2F Over t rest refl e
      (product_goes p d (0x2F ∷ (t ++ rest)) (omega arith)) (factor_read q d rest (omega arith))

  factor_read : {s : List ℕ} {f : Formula} → IsFactor s f → (d : ℕ) (rest : List ℕ) → nested f ≤ d → factor_of d (s ++ rest) ≡ Found f rest
  factor_read (letter {text} {k} h e) d rest n = ap (λ (x : List ℕ). factor_of d (x ++ rest)) e ∙ letter_read k d rest h
  factor_read (constant {text} {s} h a e) d rest n = ap (λ (x : List ℕ). factor_of d (x ++ rest)) e ∙ constant_read s d rest h a
  factor_read (minus {text} {s} {f} p e) d rest n = ap (λ (x : List ℕ). factor_of d (x ++ rest)) e ∙ minus_read f s d rest n (λ i m. factor_read p i rest m)
  factor_read (brackets {text} {s} {f} p e) d rest n =
      ap (λ (x : List ℕ). factor_of d (x ++ rest)) e ∙ ap (λ (x : List ℕ). factor_of d (0x28 ∷ x)) (append_assoc s (0x29 ∷ []) rest)
      ∙ brackets_read f s d rest n (λ i m. sum_goes p i (0x29 ∷ rest) m refl)

-- a whole text
pub sum_read : {s : List ℕ} {f : Formula} → IsSum s f → (d : ℕ) → nested f ≤ d → sum_of d s ≡ Found f []
sum_read {s} {f} p d n = ap (sum_of d) (sym (append-nil s)) ∙ ends_goes sum_sign (product_of d) tt (sum_goes p d [] n tt)
