-- 02, ask 7: one formula to a record file, or the number that refuses it. Definitions only. Assumes nothing.
use Rattle.std.specs.Prelude.{ℕ, ◌≤◌, ◌≡◌, cond, List, [], ◌∷◌, ◌++◌, ltb, eqb, length, drop}
use Rattle.formula.specs.Formula.{need_of}
use Rattle.formula.specs.Reader.{Read, Found, Outside, formula_of}
use Rattle.formula.specs.File.{proper_in, file_of}
use Rattle.formula.specs.Told.{most_text, most_file}
use Rattle.formula.specs.Postfix.{Token, Spells, walked, unwritten, records_of, Records}
use Rattle.formula.specs.declared.postfix.Written.{Written}
use Rattle.formula.specs.declared.Refusal.{Refusal}
use Rattle.formula.specs.declared.Refusal.TheVariants.{Done, NoFormula, Improper, NeedsMore, NoRoom}

-- 02's number of each refusal
abbrev pub number_of : Refusal → ℕ
number_of r = elim r [ Done ↦ 0 | NoFormula ↦ 30 | Improper ↦ 31 | NeedsMore ↦ 32 | NoRoom ↦ 33 ]

-- the bytes of the letters' words
abbrev pub letter_bytes : ℕ
letter_bytes = 32

-- the words of the stack, which a formula may need
abbrev pub most_need : ℕ
most_need = 4

-- the refusal, and the file, which is empty where it is not 0
pub record Translated : Type 0 where
  pub refusal : Refusal
  pub file : List ℕ

abbrev pub turned_away : Refusal → Translated
turned_away r = record { refusal = r; file = [] }

-- a text that was read: outside the grammar or nested too deep 30, a word not proper 31, needs over four words 32, no room for the whole file 33
abbrev pub judged : List ℕ → ℕ → Read → Translated
judged letters room Outside = turned_away NoFormula
judged letters room (Found f rest) =
    cond (proper_in letters f)
    (cond (ltb most_need (need_of f)) (turned_away NeedsMore)
    (cond (ltb room (length (file_of letters f))) (turned_away NoRoom) (record { refusal = Done; file = file_of letters f })))
    (turned_away Improper)

-- letters' bytes not 32, text of 0 or over 256 bytes: 30
unfoldable pub translation_of : List ℕ → List ℕ → ℕ → Translated
translation_of letters text room =
    cond (eqb (length letters) letter_bytes)
    (cond (eqb (length text) 0) (turned_away NoFormula) (cond (ltb most_text (length text)) (turned_away NoFormula) (judged letters room (formula_of text))))
    (turned_away NoFormula)

-- the same of a formula that was brought into postfix order, by its tokens
abbrev pub judged_by : List ℕ → ℕ → List Token → Translated
judged_by letters room ts =
    let w = walked letters unwritten ts in
    cond w.proper
    (cond (ltb most_need w.need) (turned_away NeedsMore)
    (cond (ltb room (length (records_of letters ts))) (turned_away NoRoom) (record { refusal = Done; file = records_of letters ts })))
    (turned_away Improper)

-- what the records of a formula come to, whatever was lent to write them to
abbrev pub Measures : List ℕ → List ℕ → Written → Type 0
Measures letters bytes w = (left : List ℕ) × Records letters bytes (0 ∷ []) left w

-- a call beside the definition: the refusal, the bytes of the file, and what was lent for it as it was and as it is left
pub record Translates (t : Translated) (refusal : Refusal) (size : ℕ) (before after : List ℕ) : Type 0 where
  pub refusal_is : refusal ≡ t.refusal
  pub size_is : size ≡ length t.file
  pub after_is : after ≡ t.file ++ drop (length t.file) before
  pub small : size ≤ most_file

-- a file written beside its tokens, whichever the bytes spell
abbrev pub Judges : List ℕ → List ℕ → Refusal → ℕ → List ℕ → List ℕ → Type 0
Judges letters bytes refusal size before after = (ts : List Token) → Spells bytes ts → Translates (judged_by letters (length before) ts) refusal size before
    after
