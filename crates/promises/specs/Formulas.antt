-- 02, ask 7: formulas as the engineers write them. One tree for each text, the number that each text gets, what the
-- file does when it is run, and examples.
-- Definitions and the statements only: proofs/Formulas.antt proves them. Assumes nothing.
use Rattle.std.specs.Prelude.{ℕ, ◌*◌, ◌≤◌, ◌<◌, ◌≡◌, ◌⊎◌, true, false, List, [], ◌∷◌, ◌++◌, length, take, drop, get_or, replicate}
use Prim.Native.String.{String}
use Rattle.terms.specs.declared.Rule.{Rule}
use Rattle.terms.specs.declared.Rule.TheVariants.{Cut}
use Rattle.promises.specs.Subjects.{Settings, State, Memory, run_of, Called, Wrote, formula_call, Writes}
use Rattle.promises.specs.Stack.{Bytes, bytes_of, tos}
use Rattle.promises.specs.FloatWords.{FloatWord}
use Rattle.promises.specs.BusEvents.{AtRest}
use Rattle.promises.specs.Remembered.{card_with}
use Rattle.promises.specs.StateBytes.{IsState}
use Rattle.promises.specs.RecordFiles.{took}
use Rattle.promises.specs.PrintedText.{written}
use Rattle.promises.specs.FormulaText.{Plus, Less, Times, Over, Formula, Letter, Constant, Minus, Brackets}
use Rattle.promises.specs.FormulaText.{Joined, need_of, IsSum, IsText, proper_in, file_of, replies_to, evaluated}
use Rattle.promises.specs.Given.{Given, Chosen, settings_in, run_call}
use Rattle.promises.specs.Records.{count_at}

-- ---- demand 1 for the call: two results and exits that its contract allows coincide
abbrev pub FormulaDetermined : Type 0
FormulaDetermined =
    (text letters file : List ℕ) (r q : ℕ) (s t : List ℕ) → Writes (formula_call text letters file) r s
    → Writes (formula_call text letters file) q t → (r ≡ q) × (s ≡ t)

-- ---- no text is that of two trees, however long it is and however deep they are
abbrev pub OneTree : Type 0
OneTree = (text : List ℕ) (f g : Formula) → IsSum text f → IsSum text g → f ≡ g

-- ---- the refusals, over the grammar and the tree
-- a text of 1 to 256 bytes that is this formula's, nested at most 16 deep, with 32 bytes for the letters
pub record Stated (text letters : List ℕ) (f : Formula) : Type 0 where
  pub eight_words : length letters ≡ 32
  pub is_text : IsText text f

-- which number turns a text away, with so much room for its file
pub data Refuses (text letters : List ℕ) (room : ℕ) : ℕ → Type 0 where
  -- "30 letters' bytes not 32, text of 0 or over 256 bytes, outside the grammar, or brackets and minus signs nested
  -- over 16"
  no_formula : ((f : Formula) → Stated text letters f → ⊥) → Refuses text letters room 30
  -- "31 a constant's word, or that of a letter in the text, not proper"
  improper : (f : Formula) → Stated text letters f → proper_in letters f ≡ false → Refuses text letters room 31
  -- "32 needs over four words"
  needs_more : (f : Formula) → Stated text letters f → proper_in letters f ≡ true → 4 < need_of f
      → Refuses text letters room 32
  -- "33 no room for the whole file"
  no_room_lem : (f : Formula) → Stated text letters f → proper_in letters f ≡ true → need_of f ≤ 4
      → room < length (file_of letters f) → Refuses text letters room 33

-- a text that is translated
pub record Takes (text letters : List ℕ) (room : ℕ) (f : Formula) : Type 0 where
  pub stated : Stated text letters f
  pub proper : proper_in letters f ≡ true
  pub need : need_of f ≤ 4
  pub fits : length (file_of letters f) ≤ room

pub record FormulaRefusals : Type 0 where
  -- "each writing nothing"; the low 16 bits of the result are 0
  pub refused : (text letters file : List ℕ) (n : ℕ) → Refuses text letters (length file) n
      → formula_call text letters file ≡ record { result = 65536 * n; file = file }
  -- any other has its file at the front of what was lent, the rest as it was, and the bytes of the file as the result
  pub translated : (text letters file : List ℕ) (f : Formula) → Takes text letters (length file) f
      → formula_call text letters file
      ≡ record { result = length (file_of letters f); file = file_of letters f ++ drop (length (file_of letters f)) file }
  -- there is no third way
  pub either : (text letters file : List ℕ)
      → ((n : ℕ) × Refuses text letters (length file) n) ⊎ ((f : Formula) × Takes text letters (length file) f)
  -- and each number is given nowhere else
  pub only_there : (text letters file : List ℕ) (n : ℕ) → 1 ≤ n → (formula_call text letters file).result ≡ 65536 * n
      → Refuses text letters (length file) n
  pub only_then : (text letters file : List ℕ) → (formula_call text letters file).result < 65536
      → (f : Formula) × Takes text letters (length file) f

-- ---- the run
-- the file that a call wrote
abbrev pub file_in : Wrote → List ℕ
file_in w = take w.result w.file

-- a file that is run to its end, each record answered so, and leaves this word on top of a state from which the next
-- may start
pub record Evaluates (on : Settings) (s : State) (m : Memory) (file replies : List ℕ) (room word : ℕ) : Type 0 where
  pub end : State
  pub memory : Memory
  pub ran : run_of (card_with on s m) file room ≡ took (card_with on end memory) (length file) replies
  pub on_top : tos 4 end.stack ≡ word
  pub sixteen : length end.stack ≡ 16
  pub at_rest : AtRest end

-- the same of the run call: it returns 0, the replies and both counts are these, and the state's first four bytes are
-- the word's, top byte first
pub record EvaluatesCall (c : Called) (file told replies : List ℕ) (word : ℕ) : Type 0 where
  pub result : c.result ≡ 0
  pub replies_are : c.replies ≡ told ++ drop (length told) replies
  pub all_taken : count_at c.report 1 ≡ length file
  pub all_written : count_at c.report 5 ≡ length told
  pub on_top : take 4 c.state ≡ bytes_of 4 word
  pub again : IsState c.state
  pub whole : get_or c.state 16 0 ≡ 0

pub record FormulaRuns : Type 0 where
  -- "The file, run from any aligned stack with room for its replies, leaves on top the word that plain evaluation of
  -- the formula gives, each operation as in 01, flagged words carried on."
  pub records : (on : Settings) (s : State) (m : Memory) (text letters file : List ℕ) (f : Formula) (room : ℕ)
      → Takes text letters (length file) f → Bytes letters
      → length s.stack ≡ 16 → AtRest s → length (replies_to f) ≤ room
      → Evaluates on s m (file_in (formula_call text letters file)) (replies_to f) room (evaluated on.rule letters f)
  -- the same of the run call, on any bytes of a state that 13 does not turn away, with nothing pending
  pub calls : (g : Given) → Chosen g → (state replies report text letters file : List ℕ) (f : Formula)
      → Takes text letters (length file) f → Bytes letters
      → Bytes state → IsState state → get_or state 16 0 ≡ 0 → length report ≡ 9 → length (replies_to f) ≤ length replies
      → EvaluatesCall (run_call g state (file_in (formula_call text letters file)) replies report)
      (file_in (formula_call text letters file)) (replies_to f) replies (evaluated (settings_in g).rule letters f)
  -- the word is proper, whatever overflowed on the way
  pub proper : (rule : Rule) (text letters file : List ℕ) (f : Formula) → Takes text letters (length file) f
      → Bytes letters → FloatWord (evaluated rule letters f)
  -- the file and its replies are of at most 1,664 bytes, well within the 12,288 of a run's input
  pub short : (text letters file : List ℕ) (f : Formula) → Takes text letters (length file) f
      → (length (file_in (formula_call text letters file)) ≤ 1664) × (length (replies_to f) ≤ 1664)

-- ---- wrong translators: any function of the call's type that keeps its contract, for every slice of bytes that can be
-- lent
pub record Translates (t : List ℕ → List ℕ → List ℕ → Wrote) : Type 0 where
  pub kept : (text letters file : List ℕ) → Bytes text → Bytes letters → Bytes file
      → Writes (formula_call text letters file) (t text letters file).result (t text letters file).file

pub record WrongTranslators : Type 0 where
  -- it never answers 0
  pub refuses_everything : (t : List ℕ → List ℕ → List ℕ → Wrote)
      → ((text letters file : List ℕ) → 65536 ≤ (t text letters file).result) → Translates t → ⊥
  -- it has one reply for every text
  pub single_reply : (t : List ℕ → List ℕ → List ℕ → Wrote) (n : ℕ)
      → ((text letters file : List ℕ) → (t text letters file).result ≡ n) → Translates t → ⊥
  -- it hands the file back as it came
  pub does_nothing : (t : List ℕ → List ℕ → List ℕ → Wrote)
      → ((text letters file : List ℕ) → (t text letters file).file ≡ file) → Translates t → ⊥

-- ---- examples
-- the words 3, 1 and 2 for a, b and c; 0 for all others but h, whose word is not proper
abbrev pub letters_given : List ℕ
letters_given =
    0x02 ∷ 0xC0 ∷ 0 ∷ 0 ∷ 0x01 ∷ 0x80 ∷ 0 ∷ 0 ∷ 0x02 ∷ 0x80 ∷ 0 ∷ 0 ∷ 0 ∷ 0 ∷ 0 ∷ 0 ∷ 0 ∷ 0 ∷ 0 ∷ 0 ∷ 0 ∷ 0 ∷ 0 ∷ 0 ∷ 0
    ∷ 0 ∷ 0 ∷ 0 ∷ 0x01 ∷ 0x40 ∷ 0 ∷ 0 ∷ []

-- a call with these letters and so much room, zeros lent
abbrev pub asked : ℕ → String → Wrote
asked room text = formula_call (written text) letters_given (replicate room 0)

-- turned away
abbrev pub turned_away : ℕ → ℕ → Wrote
turned_away n room = record { result = 65536 * n; file = replicate room 0 }

pub record FormulaExamples : Type 0 where
  -- 02's own: its tree, its file and its word, (3 - 1) / 2 * 1
  pub own_tree : IsText (written "(a-b)/c*#01800000")
      (Joined Times (Joined Over (Brackets (Joined Less (Letter 0) (Letter 1))) (Letter 2))
      (Constant (written "01800000")))
  pub own_file : asked 47 "(a-b)/c*#01800000" ≡ record {
    result = 47;
    file =
        6 ∷ 0 ∷ 1 ∷ 0 ∷ 0 ∷ 0 ∷ 0xC0 ∷ 0x02
        ∷ 6 ∷ 0 ∷ 1 ∷ 0 ∷ 0 ∷ 0 ∷ 0x80 ∷ 0x01
        ∷ 3 ∷ 0 ∷ 3 ∷ 0 ∷ 0x11
        ∷ 6 ∷ 0 ∷ 1 ∷ 0 ∷ 0 ∷ 0 ∷ 0x80 ∷ 0x02
        ∷ 3 ∷ 0 ∷ 3 ∷ 0 ∷ 0x13
        ∷ 6 ∷ 0 ∷ 1 ∷ 0 ∷ 0 ∷ 0 ∷ 0x80 ∷ 0x01
        ∷ 3 ∷ 0 ∷ 3 ∷ 0 ∷ 0x12
        ∷ [];
  }
  pub own_word : evaluated Cut letters_given
      (Joined Times (Joined Over (Brackets (Joined Less (Letter 0) (Letter 1))) (Letter 2))
      (Constant (written "01800000"))) ≡ 0x01800000
  -- one byte short, and one to spare
  pub own_room : (asked 46 "(a-b)/c*#01800000" ≡ turned_away 33 46)
      × (get_or (asked 48 "(a-b)/c*#01800000").file 47 1 ≡ 0)
  -- the minus binds to its factor
  pub minus_first : IsText (written "-a*b") (Joined Times (Minus (Letter 0)) (Letter 1))
  pub minus_second : IsText (written "a--b") (Joined Less (Letter 0) (Minus (Letter 1)))
  -- left to right at equal rank; `*` is stronger than `+`
  pub left_to_right : IsText (written "a-b-c") (Joined Less (Joined Less (Letter 0) (Letter 1)) (Letter 2))
  pub stronger : IsText (written "a+b*c") (Joined Plus (Letter 0) (Joined Times (Letter 1) (Letter 2)))
  -- a need of five is too much, and its mirror has one of two
  pub five : asked 65 "a-(b-(c-(d-e)))" ≡ turned_away 32 65
  pub two : ((asked 65 "(((a-b)-c)-d)-e").result ≡ 60)
      × (need_of
      (Joined Less (Brackets (Joined Less (Brackets (Joined Less (Brackets (Joined Less (Letter 0) (Letter 1)))
      (Letter 2))) (Letter 3))) (Letter 4)) ≡ 2)
  -- 16 levels and 17, of minus signs, of brackets, and of both
  pub sixteen : ((asked 88 "----------------a").result ≡ 88) × ((asked 8 "((((((((((((((((a))))))))))))))))").result ≡ 8)
      × ((asked 48 "(-(-(-(-(-(-(-(-a))))))))").result ≡ 48)
  pub seventeen : (asked 93 "-----------------a" ≡ turned_away 30 93)
      × (asked 8 "(((((((((((((((((a)))))))))))))))))" ≡ turned_away 30 8)
      × (asked 53 "(-(-(-(-(-(-(-(--a))))))))" ≡ turned_away 30 53)
  -- outside the grammar
  pub outside : (asked 8 "" ≡ turned_away 30 8) × (asked 8 "+a" ≡ turned_away 30 8) × (asked 8 "()" ≡ turned_away 30 8)
      × (asked 8 "#0180000" ≡ turned_away 30 8) × (asked 8 "#0180000a" ≡ turned_away 30 8)
      × (asked 8 "a " ≡ turned_away 30 8) × (asked 8 "(a" ≡ turned_away 30 8) × (asked 8 "a)" ≡ turned_away 30 8)
      × (asked 8 "i" ≡ turned_away 30 8) × (asked 8 "ab" ≡ turned_away 30 8)
  -- a letter in the text is looked at, and no other; 30 comes before 31, 31 before 32, 32 before 33
  pub letters : (asked 8 "h" ≡ turned_away 31 8) × (asked 8 "#01400000" ≡ turned_away 31 8) × ((asked 8 "a").result ≡ 8)
  pub order : (asked 0 "h-(b-(c-(d-e" ≡ turned_away 30 0) × (asked 0 "h-(b-(c-(d-e)))" ≡ turned_away 31 0)
      × (asked 0 "a-(b-(c-(d-e)))" ≡ turned_away 32 0) × (asked 0 "a" ≡ turned_away 33 0)
