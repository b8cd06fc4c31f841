-- 01, 'The listing program', for every input and every mode and rule: its lines are those of the records taken, then
-- the last line; and what its other calls print. Definitions and the statements only: proofs/Listings.antt proves them.
-- Assumes nothing.
use Rattle.std.specs.Prelude.{ℕ, ◌+◌, ◌*◌, ◌-◌, ◌/◌, ◌%◌, ◌^◌, ◌≤◌, ◌<◌, ◌≡◌, List, [], ◌∷◌, ◌++◌, map, length, drop, get_or}
use Rattle.listing.specs.Listing.{reply_kind, reply_refusal, reply_size, reply_data}
use Rattle.list_text.specs.Printout.{told_of}
use Rattle.record_text.specs.Trace.{traced_of}
use Rattle.promises.specs.PrintedText.{written, digit, decimal}
use Rattle.promises.specs.Subjects.{Card, Outcome, run_of}
use Rattle.promises.specs.BusEvents.{reset_state}
use Rattle.promises.specs.Remembered.{empty_memory, card_with}
use Rattle.promises.specs.StateBytes.{laid_out}
use Rattle.promises.specs.Given.{Given, settings_in}
use Rattle.promises.specs.Records.{total, lengths, Split}

-- ---- characters

-- the number that decimal digits stand for, n being that of the digits before them
abbrev pub value_of : ℕ → List ℕ → ℕ
value_of n [] = n
value_of n (c ∷ cs) = value_of (n * 10 + (c - 48)) cs

-- every character is a digit, 0 to 9
abbrev pub Digits : List ℕ → Type 0
Digits [] = Unit
Digits (c ∷ cs) = (48 ≤ c) × (c ≤ 57) × Digits cs

-- a number in decimal: its digits stand for it, and the first is 0 for the number 0 alone
pub record Decimal (n : ℕ) (text : List ℕ) : Type 0 where
  pub value : value_of 0 text ≡ n
  pub digits : Digits text
  pub first : get_or text 0 0 ≡ 48 → n ≡ 0

-- every number of up to 20 digits; and the sixteen digits 0 to 9 and A to F
pub record Characters : Type 0 where
  pub decimals : (n : ℕ) → n < 10 ^ 20 → Decimal n (decimal n)
  pub hex_digits_lem : map digit (0 ∷ 1 ∷ 2 ∷ 3 ∷ 4 ∷ 5 ∷ 6 ∷ 7 ∷ 8 ∷ 9 ∷ 10 ∷ 11 ∷ 12 ∷ 13 ∷ 14 ∷ 15 ∷ [])
      ≡ 48 ∷ 49 ∷ 50 ∷ 51 ∷ 52 ∷ 53 ∷ 54 ∷ 55 ∷ 56 ∷ 57 ∷ 65 ∷ 66 ∷ 67 ∷ 68 ∷ 69 ∷ 70 ∷ []

-- ---- lines

-- a reply: "length and kind + 128 laid out as in a record, one refusal byte, data"
abbrev pub reply_of : ℕ → ℕ → List ℕ → List ℕ
reply_of kind refusal bytes =
    (3 + length bytes) % 256 ∷ (3 + length bytes) / 256 ∷ (kind + 128) % 256 ∷ (kind + 128) / 256 ∷ refusal ∷ bytes

-- data as two hex digits each, parted by single spaces (32) from what stands before
abbrev pub hex_text : List ℕ → List ℕ
hex_text [] = []
hex_text (b ∷ bs) = 32 ∷ digit (b / 16) ∷ digit (b % 16) ∷ hex_text bs

-- a record's line: its number, its own kind, the refusal of its reply, the data of its reply; a newline (10) ends it
abbrev pub record_line : ℕ → List ℕ → Outcome → List ℕ
record_line number r o =
    decimal number ++ ((32 ∷ decimal (get_or r 2 0 + get_or r 3 0 * 256))
    ++ ((32 ∷ decimal (get_or o.written 4 0)) ++ (hex_text (drop 5 o.written) ++ (10 ∷ []))))

-- its line in the trace: its number, the 21 bytes of the state that it leaves
abbrev pub state_line : ℕ → List ℕ → Outcome → List ℕ
state_line number r o = decimal number ++ (hex_text (laid_out 21 o.state) ++ (10 ∷ []))

-- the lines of records in turn, each run as a file of its own on the card and in the room that the one before left
abbrev pub lines_for : (ℕ → List ℕ → Outcome → List ℕ) → ℕ → Card → List (List ℕ) → ℕ → List ℕ
lines_for line number s [] room = []
lines_for line number s (r ∷ rs) room =
    line number r (run_of s r room)
    ++ lines_for line (number + 1) (run_of s r room).state rs (room - length (run_of s r room).written)

-- `end`, the run's refusal, bytes of whole records taken
abbrev pub last_line : ℕ → ℕ → List ℕ
last_line refusal taken = 101 ∷ 110 ∷ 100 ∷ ((32 ∷ decimal refusal) ++ ((32 ∷ decimal taken) ++ (10 ∷ [])))

-- ---- calls
-- the mode and the rule of a call of so many words, its own name among them: 0 and 0; 1 for the older part; 1 for
-- nearest; both, the mode's first
pub data Asks (words : ℕ) (first second : List ℕ) : Given → Type 0 where
  neither : words ≡ 1 → Asks words first second (record { mode = 0; rule = 0 })
  older : words ≡ 2 → first ≡ written "--am9511" → Asks words first second (record { mode = 1; rule = 0 })
  nearest : words ≡ 2 → first ≡ written "--nearest" → Asks words first second (record { mode = 0; rule = 1 })
  both : words ≡ 3 → first ≡ written "--am9511" → second ≡ written "--nearest"
      → Asks words first second (record { mode = 1; rule = 1 })

-- the card after a reset, under them
abbrev pub reset_card : Given → Card
reset_card g = card_with (settings_in g) reset_state empty_memory

pub record Listings : Type 0 where
  -- an input of at most 12,288 bytes, run from reset with 65,536 bytes of room and split into the records taken and the
  -- rest (Records: every file splits so):
  -- a line for each record taken, numbered from 1, then the last line
  pub printed : (words : ℕ) (first second input : List ℕ) (g : Given) → Asks words first second g
      → length input ≤ 12288 → (split : Split (reset_card g) input 65536 (run_of (reset_card g) input 65536))
      → told_of words first second input
      ≡ lines_for record_line 1 (reset_card g) split.records 65536
      ++ last_line (run_of (reset_card g) input 65536).refusal (total (lengths split.records))
  -- a longer one prints only `end 9 0`
  pub long : (words : ℕ) (first second input : List ℕ) (g : Given) → Asks words first second g
      → 12288 < length input → told_of words first second input ≡ written "end 9 0" ++ (10 ∷ [])
  -- any other call prints `usage`
  pub usage : (words : ℕ) (first second input : List ℕ) → ((g : Given) → Asks words first second g → ⊥)
      → told_of words first second input ≡ written "usage" ++ (10 ∷ [])
  -- for the trace the same words ask for that of the same run: the state after each record taken, then `end`; of a longer
  -- input only that
  pub traced : (words : ℕ) (first second input : List ℕ) (g : Given) → Asks words first second g
      → length input ≤ 12288 → (split : Split (reset_card g) input 65536 (run_of (reset_card g) input 65536))
      → traced_of words first second input
      ≡ lines_for state_line 1 (reset_card g) split.records 65536 ++ (written "end" ++ (10 ∷ []))
  pub traced_long : (words : ℕ) (first second input : List ℕ) (g : Given) → Asks words first second g
      → 12288 < length input → traced_of words first second input ≡ written "end" ++ (10 ∷ [])
  -- a reply that the run writes is the reply that the listing reads, whatever follows it; its word has no bit 15, which
  -- marks the kinds of module sheets
  pub read_back : (kind refusal : ℕ) (bytes rest : List ℕ) → kind + 128 < 32768
      → (reply_kind (reply_of kind refusal bytes ++ rest) ≡ kind)
      × (reply_refusal (reply_of kind refusal bytes ++ rest) ≡ refusal)
      × (reply_size (reply_of kind refusal bytes ++ rest) ≡ 5 + length bytes)
      × (reply_data (reply_of kind refusal bytes ++ rest) ≡ bytes)
  pub characters : Characters
