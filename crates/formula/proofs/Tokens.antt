-- The tokens of a formula: they spell its postfix, their records are its file, and writing them comes to what the formula needs. Assumes nothing.
use mathlib.Core.Path.{◌≡◌, refl, sym, ◌∙◌, ap}
use mathlib.Core.Bool.{Bool, ◌&&◌, and_assoc}
use mathlib.Core.List.{List, [], ◌∷◌, ◌++◌, append_assoc, append-nil}
use Prim.Native.Nat.{ℕ, ◌+◌, ◌<◌, max}
use native.Mathlib.Omega.{arith}
use lib.ListN.{length, length-append}
use Rattle.formula.specs.Formula.{Operator, Plus, Less, Times, Over, Formula, Letter, Constant, Minus, Brackets, Joined, need_of}
use Rattle.formula.specs.Grammar.{IsSum, product, plus, less, IsProduct, factor, times, over, IsFactor, letter, constant, minus, brackets}
use Rattle.formula.specs.File.{code_of, minus_code, command_record, proper_in, file_of}
use Rattle.formula.specs.Postfix.{postfix_of, Token, Gives, tokens_of, spelt, spelling, AllGood, stepped, walked, lowered_by, commanded_of, record_of}
use Rattle.formula.specs.Postfix.{records_of}
use Rattle.formula.specs.declared.postfix.Written.{Written}

-- ---- tokens after tokens
pub spelling_append : (a b : List Token) → spelling (a ++ b) ≡ spelling a ++ spelling b
unfolding spelling
spelling_append [] b = refl
spelling_append (t ∷ a) b = ap (λ (l : List ℕ). spelt t ++ l) (spelling_append a b) ∙ sym (append_assoc (spelt t) (spelling a) (spelling b))

pub records_append : (letters : List ℕ) (a b : List Token) → records_of letters (a ++ b) ≡ records_of letters a ++ records_of letters b
unfolding records_of
records_append letters [] b = refl
records_append letters (t ∷ a) b = ap (λ (l : List ℕ). record_of letters t ++ l) (records_append letters a b)
    ∙ sym (append_assoc (record_of letters t) (records_of letters a) (records_of letters b))

pub good_append : (a b : List Token) → AllGood a → AllGood b → AllGood (a ++ b)
unfolding AllGood
good_append [] b p q = q
good_append (t ∷ a) b p q = (p.0, good_append a b p.1 q)

pub walked_append : (letters : List ℕ) (w : Written) (a b : List Token) → walked letters w (a ++ b) ≡ walked letters (walked letters w a) b
unfolding walked
walked_append letters w [] b = refl
walked_append letters w (t ∷ a) b = walked_append letters (stepped letters w t) a b

-- ---- the postfix
one_byte : (c : ℕ) → spelling (Gives c ∷ []) ≡ c ∷ []
unfolding spelling
one_byte c = refl

pub spells_postfix : (f : Formula) → postfix_of f ≡ spelling (tokens_of f)
unfolding postfix_of tokens_of spelling
spells_postfix (Letter k) = refl
spells_postfix (Constant s) = sym (append-nil (0x23 ∷ s))
spells_postfix (Minus f) = ap (λ (l : List ℕ). l ++ (minus_code ∷ [])) (spells_postfix f) ∙ sym (spelling_append (tokens_of f) (Gives minus_code ∷ []))
spells_postfix (Brackets f) = spells_postfix f
spells_postfix (Joined o l r) =
    let c = Gives (code_of o) ∷ [] in
    ap (λ (a : List ℕ). a ++ (postfix_of r ++ (code_of o ∷ []))) (spells_postfix l)
    ∙ ap (λ (b : List ℕ). spelling (tokens_of l) ++ (b ++ (code_of o ∷ []))) (spells_postfix r)
    ∙ ap (λ (b : List ℕ). spelling (tokens_of l) ++ b) (sym (spelling_append (tokens_of r) c))
    ∙ sym (spelling_append (tokens_of l) (tokens_of r ++ c))

-- ---- the file
pub records_file : (letters : List ℕ) (f : Formula) → records_of letters (tokens_of f) ≡ file_of letters f
unfolding tokens_of records_of file_of
records_file letters (Letter k) = append-nil _
records_file letters (Constant s) = append-nil _
records_file letters (Minus f) = records_append letters (tokens_of f) (Gives minus_code ∷ []) ∙ ap (λ (l : List ℕ). l ++ command_record minus_code)
    (records_file letters f)
records_file letters (Brackets f) = records_file letters f
records_file letters (Joined o l r) =
    let c = Gives (code_of o) ∷ [] in
    records_append letters (tokens_of l) (tokens_of r ++ c)
    ∙ ap (λ (a : List ℕ). a ++ records_of letters (tokens_of r ++ c)) (records_file letters l)
    ∙ ap (λ (b : List ℕ). file_of letters l ++ b) (records_append letters (tokens_of r) c)
    ∙ ap (λ (b : List ℕ). file_of letters l ++ (b ++ command_record (code_of o))) (records_file letters r)

-- ---- what writing comes to: a formula's file more, one word more on the stack, as many as it needs at most, its words among the proper ones
abbrev pub after : List ℕ → Written → Formula → Written
after letters w f =
    record {
      end = w.end + length (file_of letters f);
      height = w.height + 1;
      need = max w.need (w.height + need_of f);
      proper = w.proper && proper_in
          letters f;
    }

-- two such are the same where their numbers are
same : {e e' h h' n n' : ℕ} {p p' : Bool} → e ≡ e' → h ≡ h' → n ≡ n' → p ≡ p'
    → ◌≡◌ {A = Written} (record { end = e; height = h; need = n; proper = p }) (record { end = e'; height = h'; need = n'; proper = p' })
same a b c d = rw (a, b, c, d)

-- an operation leaves one word of two
lowers : (o : Operator) (h : ℕ) → lowered_by (code_of o) (h + 1 + 1) ≡ h + 1
lowers Plus h = omega arith
lowers Less h = omega arith
lowers Times h = omega arith
lowers Over h = omega arith

module _ (letters : List ℕ) where
  negates : (w : Written) (f : Formula) → commanded_of (after letters w f) minus_code ≡ after letters w (Minus f)
  unfolding file_of need_of proper_in
  negates w f = same (omega (arith, length-append (file_of letters f) (command_record minus_code))) refl refl refl

  joins : (w : Written) (o : Operator) (l r : Formula) → commanded_of (after letters (after letters w l) r) (code_of o) ≡ after letters w (Joined o l r)
  unfolding file_of need_of proper_in
  joins w o l r =
      let a = file_of letters l in
      let b = file_of letters r in
      let c = command_record (code_of o) in
      same (omega (arith, length-append a (b ++ c), length-append b c)) (lowers o w.height) (omega arith) (and_assoc w.proper (proper_in letters l)
      (proper_in letters r))

  pub walked_formula : (w : Written) (f : Formula) → walked letters w (tokens_of f) ≡ after letters w f
  unfolding tokens_of walked file_of need_of proper_in
  walked_formula w (Letter k) = refl
  walked_formula w (Constant s) = refl
  walked_formula w (Minus f) =
      walked_append letters w (tokens_of f) (Gives minus_code ∷ []) ∙ ap (λ (v : Written). commanded_of v minus_code) (walked_formula w f) ∙ negates w f
  walked_formula w (Brackets f) = walked_formula w f
  walked_formula w (Joined o l r) =
      let c = Gives (code_of o) ∷ [] in
      walked_append letters w (tokens_of l) (tokens_of r ++ c)
      ∙ ap (λ (v : Written). walked letters v (tokens_of r ++ c)) (walked_formula w l)
      ∙ walked_append letters (after letters w l) (tokens_of r) c
      ∙ ap (λ (v : Written). commanded_of v (code_of o)) (walked_formula (after letters w l) r)
      ∙ joins w o l r

-- ---- the tokens of a formula of the grammar are good
code_small : (o : Operator) → code_of o < 32
code_small Plus = omega arith
code_small Less = omega arith
code_small Times = omega arith
code_small Over = omega arith

joined_good : (o : Operator) (l r : Formula) → AllGood (tokens_of l) → AllGood (tokens_of r) → AllGood (tokens_of (Joined o l r))
unfolding tokens_of AllGood
joined_good o l r p q = good_append (tokens_of l) (tokens_of r ++ (Gives (code_of o) ∷ [])) p (good_append (tokens_of r) (Gives (code_of o) ∷ []) q
    (code_small o, omega arith))

mutual
  unfolding tokens_of AllGood

  pub sum_good : {s : List ℕ} {f : Formula} → IsSum s f → AllGood (tokens_of f)
  sum_good (product p) = product_good p
  sum_good (plus {f = f} {g = g} p q e) = joined_good Plus f g (sum_good p) (product_good q)
  sum_good (less {f = f} {g = g} p q e) = joined_good Less f g (sum_good p) (product_good q)

  product_good : {s : List ℕ} {f : Formula} → IsProduct s f → AllGood (tokens_of f)
  product_good (factor p) = factor_good p
  product_good (times {f = f} {g = g} p q e) = joined_good Times f g (product_good p) (factor_good q)
  product_good (over {f = f} {g = g} p q e) = joined_good Over f g (product_good p) (factor_good q)

  factor_good : {s : List ℕ} {f : Formula} → IsFactor s f → AllGood (tokens_of f)
  factor_good (letter h e) = (h, omega arith)
  factor_good (constant h d e) = ((h, d), omega arith)
  factor_good (minus {f = f} p e) = good_append (tokens_of f) (Gives minus_code ∷ []) (factor_good p) (omega arith, omega arith)
  factor_good (brackets p e) = sum_good p
