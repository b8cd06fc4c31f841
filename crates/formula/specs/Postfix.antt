-- A formula in postfix order, as the readers leave it before its records are written: a byte for a letter, an operation or a minus, nine for a constant; and
-- what
-- writing its records leaves. Definitions only. Assumes nothing.
use Rattle.std.specs.Prelude.{ℕ, ◌+◌, ◌-◌, ◌<◌, max, ◌≡◌, true, ◌&&◌, cond, List, [], ◌∷◌, ◌++◌, eqb, length}
use Prim.Native.Char.{code}
use Rattle.std.proofs.lemmas.List.Edits.{sets}
use Rattle.float.specs.Word.{proper}
use Rattle.formula.specs.Formula.{Formula, Letter, Constant, Minus, Brackets, Joined}
use Rattle.formula.specs.Grammar.{are_digits}
use Rattle.formula.specs.File.{code_of, minus_code, letter_word, constant_word, push_record, command_record}
use Rattle.formula.specs.declared.postfix.Written.{Written}

-- ---- the bytes
-- operands before their operation, which is the byte of its command
unfoldable pub postfix_of : Formula → List ℕ
postfix_of (Letter k) = (code "a" + k) ∷ []
postfix_of (Constant s) = code "#" ∷ s
postfix_of (Minus f) = postfix_of f ++ (minus_code ∷ [])
postfix_of (Brackets f) = postfix_of f
postfix_of (Joined o l r) = postfix_of l ++ (postfix_of r ++ (code_of o ∷ []))

-- ---- tokens: what the bytes stand for
pub data Token : Type 0 where
  LetterAt : ℕ → Token
  Digits : List ℕ → Token
  Gives : ℕ → Token

unfoldable pub tokens_of : Formula → List Token
tokens_of (Letter k) = LetterAt k ∷ []
tokens_of (Constant s) = Digits s ∷ []
tokens_of (Minus f) = tokens_of f ++ (Gives minus_code ∷ [])
tokens_of (Brackets f) = tokens_of f
tokens_of (Joined o l r) = tokens_of l ++ (tokens_of r ++ (Gives (code_of o) ∷ []))

-- the bytes of a token
abbrev pub spelt : Token → List ℕ
spelt (LetterAt k) = (code "a" + k) ∷ []
spelt (Digits s) = code "#" ∷ s
spelt (Gives c) = c ∷ []

-- of tokens in turn
unfoldable pub spelling : List Token → List ℕ
spelling [] = []
spelling (t ∷ ts) = spelt t ++ spelling ts

-- one of eight letters, eight digits, a command
abbrev pub Good : Token → Type 0
Good (LetterAt k) = k < 8
Good (Digits s) = (length s ≡ 8) × (are_digits s ≡ true)
Good (Gives c) = c < 32

unfoldable pub AllGood : List Token → Type 0
AllGood [] = 0 < 1
AllGood (t ∷ ts) = Good t × AllGood ts

-- the tokens that bytes spell
pub record Spells (bytes : List ℕ) (ts : List Token) : Type 0 where
  pub spelling_is : bytes ≡ spelling ts
  pub good : AllGood ts

abbrev pub Spelt : List ℕ → Type 0
Spelt bytes = (ts : List Token) × Spells bytes ts

-- ---- the records
-- an operand: one push record, one word more on the stack
abbrev pub pushed_of : Written → ℕ → Written
pushed_of w word = record { end = w.end + 8; height = w.height + 1; need = max w.need (w.height + 1); proper = w.proper && proper word }

-- the words on the stack after a command: a minus leaves as many, an operation one less
abbrev pub lowered_by : ℕ → ℕ → ℕ
lowered_by c height = cond (eqb c minus_code) height (height - 1)

-- a command: one record
abbrev pub commanded_of : Written → ℕ → Written
commanded_of w c = record { end = w.end + 5; height = lowered_by c w.height; need = w.need; proper = w.proper }

abbrev pub stepped : List ℕ → Written → Token → Written
stepped letters w (LetterAt k) = pushed_of w (letter_word letters k)
stepped letters w (Digits s) = pushed_of w (constant_word s)
stepped letters w (Gives c) = commanded_of w c

unfoldable pub walked : List ℕ → Written → List Token → Written
walked letters w [] = w
walked letters w (t ∷ ts) = walked letters (stepped letters w t) ts

abbrev pub record_of : List ℕ → Token → List ℕ
record_of letters (LetterAt k) = push_record (letter_word letters k)
record_of letters (Digits s) = push_record (constant_word s)
record_of letters (Gives c) = command_record c

unfoldable pub records_of : List ℕ → List Token → List ℕ
records_of letters [] = []
records_of letters (t ∷ ts) = record_of letters t ++ records_of letters ts

-- nothing is written yet
abbrev pub unwritten : Written
unwritten = record { end = 0; height = 0; need = 0; proper = true }

-- what the records of these bytes leave, whatever tokens they spell
abbrev pub Records : List ℕ → List ℕ → List ℕ → List ℕ → Written → Type 0
Records letters bytes before after w = (ts : List Token) → Spells bytes ts → (w ≡ walked letters unwritten ts) × (after ≡ sets before 0 (records_of letters ts))
