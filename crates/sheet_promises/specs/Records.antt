-- 02, ask 11, the records: 01's order before a kind, kinds 256 to 258 and their refusals in order. Definitions only.
-- Assumes nothing.
use Rattle.std.specs.Prelude.{ℕ, zero, suc, ◌+◌, ◌%◌, Bool, false, not, cond, List, [], ◌∷◌, ◌++◌, eqb, ltb, length, get_or, take, drop}
use Rattle.sheet_promises.specs.Bytes.{two_at}
use Rattle.sheet_promises.specs.Sheets.{is_open, kept_bits, number_in, opened, kept, closed}

-- ---- a file of records

-- 01: "fewer than two bytes (6), length range (7), bytes missing (6)", else 0: a whole record stands at the front
abbrev pub framing : List ℕ → ℕ
framing l =
    cond (ltb (length l) 2) 6
    (cond (ltb (two_at l 0) 2) 7 (cond (ltb 242 (two_at l 0)) 7 (cond (ltb (length l) (2 + two_at l 0)) 6 0)))

-- the record at the front, by its length
abbrev pub first_record : List ℕ → List ℕ
first_record l = take (2 + two_at l 0) l

-- the kind of the record at the front
abbrev pub kind_of : List ℕ → ℕ
kind_of l = two_at l 2

-- at most so many whole records, until fewer bytes are left than a length says
unfoldable pub split : ℕ → List ℕ → List (List ℕ)
split zero l = []
split (suc f) l =
    cond (ltb (length l) 2) []
    (cond (ltb (length l) (2 + two_at l 0)) [] (take (2 + two_at l 0) l ∷ split f (drop (2 + two_at l 0) l)))

-- the whole records of some bytes, by their lengths alone: of a file and of replies alike
unfoldable pub records_of : List ℕ → List (List ℕ)
records_of l = split (length l) l

-- the bytes of a list of records
abbrev pub joined : List (List ℕ) → List ℕ
joined [] = []
joined (r ∷ rs) = r ++ joined rs

-- ---- kinds 256, 257 and 258

-- whether a kind is one of them
abbrev pub is_own_kind : ℕ → Bool
is_own_kind kind = cond (ltb kind 256) false (not (ltb 258 kind))

-- "with kinds 256 to 258 struck out": the records that are not of these kinds
abbrev pub struck : List (List ℕ) → List (List ℕ)
struck [] = []
struck (r ∷ rs) = cond (is_own_kind (kind_of r)) (struck rs) (r ∷ struck rs)

-- and the replies whose kind does not have bit 15 set
abbrev pub struck_replies : List (List ℕ) → List (List ℕ)
struck_replies [] = []
struck_replies (q ∷ qs) = cond (ltb (kind_of q) 32768) (q ∷ struck_replies qs) (struck_replies qs)

-- the bytes of a payload: a serial, a slot, nothing
abbrev pub payload_of : ℕ → ℕ
payload_of kind = cond (eqb kind 256) 4 (cond (eqb kind 257) 1 0)

-- a reply: length 3, the kind's low byte, its high byte with bit 15 set, the refusal
abbrev pub reply_of : ℕ → ℕ → List ℕ
reply_of kind refusal = 3 ∷ 0 ∷ kind % 256 ∷ 129 ∷ refusal ∷ []

-- ---- what they answer

-- the refusal in the reply, and the sheets after
pub record Entered : Type 0 where
  pub refusal : ℕ
  pub sheets : List ℕ

-- 256 opens a sheet for a serial: 20 while one is open
abbrev pub opening : List ℕ → List ℕ → Entered
opening sheets serial =
    cond (is_open sheets) (record { refusal = 20; sheets = sheets })
    (record { refusal = 0; sheets = opened sheets serial })

-- 257 keeps the 32-bit TOS, lowest byte first, in a slot: 21 with none open, 22 for a slot over 3, 23 with a half word
-- pending
abbrev pub keeping : List ℕ → ℕ → Bool → List ℕ → Entered
keeping sheets slot pending top =
    cond (is_open sheets)
    (cond (ltb 3 slot) (record { refusal = 22; sheets = sheets })
    (cond pending (record { refusal = 23; sheets = sheets })
    (record { refusal = 0; sheets = kept sheets slot top })))
    (record { refusal = 21; sheets = sheets })

-- 258 closes the sheet: 21 with none open, 24 with a slot not kept, 25 where the list holds 64
abbrev pub closing : List ℕ → Entered
closing sheets =
    cond (is_open sheets)
    (cond (ltb (kept_bits sheets) 15) (record { refusal = 24; sheets = sheets })
    (cond (ltb (number_in sheets) 64) (record { refusal = 0; sheets = closed sheets })
    (record { refusal = 25; sheets = sheets })))
    (record { refusal = 21; sheets = sheets })

-- by kind and payload
abbrev pub enter : List ℕ → ℕ → List ℕ → Bool → List ℕ → Entered
enter sheets kind payload pending top =
    cond (eqb kind 256) (opening sheets payload)
    (cond (eqb kind 257) (keeping sheets (get_or payload 0 0) pending top) (closing sheets))
