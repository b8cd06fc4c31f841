-- 02, ask 11, `sheets_run` by literal bytes: the rows were worked out from 01 and 02 beside the library. Definitions
-- and the statement only: proofs/Rows.antt computes it. Assumes nothing.
use Rattle.std.specs.Prelude.{ℕ, ◌-◌, ◌≡◌, List, [], ◌∷◌, ◌++◌, map, length, replicate}
use Prim.Native.String.{String}
use Rattle.sheet_promises.specs.Bytes.{zeros, bytes}
use Rattle.sheet_promises.specs.OwnWords.{Job, answer_to}
use Rattle.sheet_promises.specs.Subjects.{SheetsAnswer}

-- what a call is given, and what it returns and leaves in the slices
pub record Row : Type 0 where
  pub job : Job
  pub sheets : List ℕ
  pub after : SheetsAnswer

-- so many bytes, as they are lent for replies
abbrev pub lent : ℕ → List ℕ
lent n = replicate n 0xee

-- a run into so much room, with 9 bytes for a report: what is returned, state and sheets after, what is written, the
-- report
abbrev pub ran : ℕ → ℕ → List ℕ → List ℕ → List ℕ → ℕ → ℕ → List ℕ → List ℕ → List ℕ → List ℕ → Row
ran mode rule state sheets input room result state' sheets' written report = record {
  job = record {
    mode = mode;
    rule = rule;
    state = state;
    input = input;
    replies = lent room;
    report = zeros 9;
  };
  sheets = sheets;
  after = record {
    result = result;
    state = state';
    sheets = sheets';
    replies = written ++ lent (room - length written);
    report = report;
  };
}

-- ---- runs to the end

-- two closed sheets, one serial twice, and one open
abbrev pub two_closed : Row
two_closed =
    ran 0 0 (zeros 19) (zeros 1303)
    (bytes "06 00 00 01 01 02 03 04 06 00 01 00 E9 C3 A7 05 03 00 01 01 00 06 00 01 00 46 D2 91 7B 03 00 01 01 01"
    ++ (bytes "03 00 03 00 1A 03 00 01 01 02 03 00 03 00 10 03 00 01 01 03 02 00 02 01 06 00 00 01 01 02 03 04"
    ++ (bytes "03 00 01 01 03 03 00 01 01 02 06 00 01 00 B3 A1 F0 85 03 00 01 01 01 03 00 01 01 00"
    ++ (bytes "06 00 01 00 C7 D4 E5 03 03 00 01 01 00 02 00 02 01 06 00 00 01 44 33 22 11 06 00 01 00 EF CD 34 12"
    ++ bytes "03 00 01 01 01")))) 120
    0 (bytes "12 34 CD EF 03 E5 D4 C7 85 F0 A1 B3 02 CA 33 7E 00 00 00")
    (bytes "02 01 02 03 04 E9 C3 A7 05 46 D2 91 7B DA 0F C9 02 7E 33 CA 02"
    ++ (bytes "01 02 03 04 C7 D4 E5 03 B3 A1 F0 85 7E 33 CA 02 7E 33 CA 02"
    ++ (zeros 1240 ++ (bytes "01 44 33 22 11 02 00 00 00 00 EF CD 34 12" ++ zeros 8))))
    (bytes "03 00 00 81 00 03 00 81 00 00 03 00 01 81 00 03 00 81 00 00 03 00 01 81 00 03 00 83 00 00 03 00 01 81 00"
    ++ (bytes "03 00 83 00 00 03 00 01 81 00 03 00 02 81 00 03 00 00 81 00 03 00 01 81 00 03 00 01 81 00"
    ++ (bytes "03 00 81 00 00 03 00 01 81 00 03 00 01 81 00 03 00 81 00 00 03 00 01 81 00 03 00 02 81 00"
    ++ bytes "03 00 00 81 00 03 00 81 00 00 03 00 01 81 00"))) (bytes "00 84 00 00 00 6E 00 00 00")

-- one file under a mode and a rule, on 21 bytes of state with a half word pending and an error remembered: a reset, an
-- inexact FDIV, PUPI, an FDIV with sr set, a word of two 16-bit halves, a recall and a status read; what stands on the
-- stack under the words, and the first two words of the sheet
abbrev pub with_reset : ℕ → ℕ → List ℕ → String → Row
with_reset mode rule stack words =
    ran mode rule (bytes "11 22 33 44 55 66 77 88 99 AA BB CC DD EE FF 09 01 2A 01 12 13") (zeros 1303)
    (bytes "02 00 05 00 06 00 00 01 07 00 00 C8 06 00 01 00 00 00 80 01 06 00 01 00 00 00 C0 02 03 00 03 00 13"
    ++ (bytes "03 00 01 01 00 03 00 03 00 1A 03 00 01 01 01 03 00 03 00 93 03 00 01 01 02 03 00 01 00 AB"
    ++ bytes "03 00 01 00 CD 03 00 01 01 03 02 00 02 01 02 00 07 00 02 00 04 00")) 90
    0 (bytes "CD AB 7D D9 4C AF" ++ (stack ++ bytes "00 00 00 00 01 00 00"))
    (bytes "01 07 00 00 C8" ++ (bytes words ++ (bytes "AF 4C D9 7D D9 7D AB CD" ++ zeros 1282)))
    (bytes "03 00 85 00 00 03 00 00 81 00 03 00 81 00 00 03 00 81 00 00 03 00 83 00 00 03 00 01 81 00 03 00 83 00 00"
    ++ (bytes "03 00 01 81 00 03 00 83 00 00 03 00 01 81 00 03 00 81 00 00 03 00 81 00 00 03 00 01 81 00"
    ++ bytes "03 00 02 81 00 05 00 87 00 00 00 00 04 00 84 00 00 00")) (bytes "00 55 00 00 00 53 00 00 00")

-- what the older part's reset keeps
abbrev pub kept : List ℕ
kept = bytes "22 33 44 55 66 77 88 99"

-- under both modes, and each rule
abbrev pub both_modes : List Row
both_modes =
    with_reset 0 0 (zeros 8) "AA AA AA 7F DA 0F C9 02" ∷ with_reset 0 1 (zeros 8) "AB AA AA 7F DB 0F C9 02"
    ∷ with_reset 1 0 kept "AA AA AA 7F DA 0F C9 02" ∷ with_reset 1 1 kept "AB AA AA 7F DB 0F C9 02" ∷ []

-- 20 to 24 in their replies, the run going on
abbrev pub in_replies : Row
in_replies =
    ran 0 0 (zeros 19) (zeros 1303)
    (bytes "03 00 01 01 00 03 00 01 01 09 02 00 02 01 06 00 00 01 09 08 07 06 06 00 00 01 01 01 01 01 03 00 01 01 04"
    ++ (bytes "03 00 01 00 5A 03 00 01 01 04 03 00 01 01 00 03 00 01 00 A5 03 00 01 01 00 03 00 01 01 01"
    ++ bytes "03 00 01 01 02 02 00 02 01 03 00 01 01 03 02 00 02 01")) 80
    0 (bytes "A5 5A" ++ zeros 17)
    (bytes "01 09 08 07 06 00 00 5A A5 00 00 5A A5 00 00 5A A5 00 00 5A A5" ++ zeros 1282)
    (bytes "03 00 01 81 15 03 00 01 81 15 03 00 02 81 15 03 00 00 81 00 03 00 00 81 14 03 00 01 81 16 03 00 81 00 00"
    ++ (bytes "03 00 01 81 16 03 00 01 81 17 03 00 81 00 00 03 00 01 81 00 03 00 01 81 00 03 00 01 81 00"
    ++ bytes "03 00 02 81 18 03 00 01 81 00 03 00 02 81 00")) (bytes "00 53 00 00 00 50 00 00 00")

-- 63 sheets and one to close make 64; the next close is 25 and its sheet stays open
abbrev pub sixty_four : Row
sixty_four =
    ran 0 0 (zeros 19)
    (63 ∷ (replicate 1260 7
    ++ (zeros 20 ++ bytes "01 05 06 07 08 0F 65 66 67 68 69 6A 6B 6C 6D 6E 6F 70 71 72 73 74")))
    (bytes "02 00 02 01 06 00 00 01 03 03 03 03 03 00 01 01 00 03 00 01 01 01 03 00 01 01 02 03 00 01 01 03"
    ++ bytes "02 00 02 01") 35
    0 (zeros 19)
    (64 ∷ (replicate 1260 7 ++ (bytes "05 06 07 08 65 66 67 68 69 6A 6B 6C 6D 6E 6F 70 71 72 73 74"
    ++ (bytes "01 03 03 03 03 0F" ++ zeros 16))))
    (bytes "03 00 02 81 00 03 00 00 81 00 03 00 01 81 00 03 00 01 81 00 03 00 01 81 00 03 00 01 81 00 03 00 02 81 19")
    (bytes "00 24 00 00 00 23 00 00 00")

-- 64 sheets: 25, and the reset behind it drops the open sheet
abbrev pub list_full : Row
list_full =
    ran 1 1 (zeros 19)
    (64 ∷ (replicate 1280 7 ++ bytes "01 05 06 07 08 0F 65 66 67 68 69 6A 6B 6C 6D 6E 6F 70 71 72 73 74"))
    (bytes "02 00 02 01 02 00 05 00 02 00 02 01") 15
    0 (zeros 19) (64 ∷ (replicate 1280 7 ++ zeros 22))
    (bytes "03 00 02 81 19 03 00 85 00 00 03 00 02 81 15") (bytes "00 0C 00 00 00 0F 00 00 00")

-- ---- runs over two closed sheets and an open one

-- the closed ones; the open one with these slots kept, by their bits
abbrev pub two_sheets : List ℕ
two_sheets = 2 ∷ (replicate 20 9 ++ (replicate 20 8 ++ zeros 1240))

abbrev pub opened : ℕ → List ℕ
opened bits = two_sheets ++ (bytes "01 05 06 07 08" ++ (bits ∷ (bytes "C9 CA CB CC CD CE CF D0" ++ zeros 8)))

-- a run that stops: the room, the refusal, the state after, the bits of the slots kept, what is written, the counts of
-- the report
abbrev pub stops : ℕ → String → ℕ → ℕ → List ℕ → ℕ → String → String → Row
stops mode input room refusal state bits written counts =
    ran mode 0 (zeros 19) (opened 3) (bytes input) room
    refusal state (opened bits) (bytes written) (refusal ∷ bytes counts)

-- the state after a push of 01 02, of 01 02 03 and of 01
abbrev pub pushed_two : List ℕ
pushed_two = bytes "02 01" ++ zeros 17

abbrev pub pushed_three : List ℕ
pushed_three = bytes "03 02 01" ++ (zeros 13 ++ bytes "01 00 00")

abbrev pub pushed_one : List ℕ
pushed_one = 1 ∷ (zeros 15 ++ bytes "01 00 00")

abbrev pub over_sheets : List Row
over_sheets =
    -- reset drops the open sheet; a keep then finds none
    ran 0 0 (zeros 19) (opened 3) (bytes "02 00 05 00 03 00 01 01 00") 10
    0 (zeros 19) (two_sheets ++ zeros 22) (bytes "03 00 85 00 00 03 00 01 81 15") (bytes "00 09 00 00 00 0A 00 00 00")
    -- a reset that 8 stops drops nothing
    ∷ stops 0 "04 00 01 00 01 02 02 00 05 00" 9 8 pushed_two 3 "03 00 81 00 00" "06 00 00 00 05 00 00 00"
    -- 5 for a kind that neither library has, before its payload (7) and the room (8)
    ∷ stops 0 "04 00 01 00 01 02 03 00 03 01 01" 5 5 pushed_two 3 "03 00 81 00 00" "06 00 00 00 05 00 00 00"
    -- 6 for a keep that is cut, before its kind, and for a cut record of no kind
    ∷ stops 0 "03 00 01 01 02 03 00 01 01" 9 6 (zeros 19) 7 "03 00 01 81 00" "05 00 00 00 05 00 00 00"
    ∷ stops 0 "03 00 01 01 02 04 00 03 01" 9 6 (zeros 19) 7 "03 00 01 81 00" "05 00 00 00 05 00 00 00"
    -- 7 for a length over 242 of kind 256, though bytes are missing
    ∷ stops 0 "05 00 01 00 01 02 03 F3 00 00 01 05" 9 7 pushed_three 3 "03 00 81 00 00" "07 00 00 00 05 00 00 00"
    -- 7 for an opening of three bytes, before the room (8), for a keep of no bytes, for a close of one byte
    ∷ stops 0 "05 00 01 00 01 02 03 05 00 00 01 01 02 03" 5 7 pushed_three 3 "03 00 81 00 00" "07 00 00 00 05 00 00 00"
    ∷ stops 0 "02 00 01 01" 5 7 (zeros 19) 3 "" "00 00 00 00 00 00 00 00"
    ∷ stops 1 "03 00 01 00 01 03 00 02 01 01" 5 7 pushed_one 3 "03 00 81 00 00" "05 00 00 00 05 00 00 00"
    -- no bytes end at once with 0
    ∷ stops 0 "" 5 0 (zeros 19) 3 "" "00 00 00 00 00 00 00 00"
    ∷ []

-- 8 with no room for the reply, before 21
abbrev pub no_room : Row
no_room =
    ran 0 1 (zeros 19) (zeros 1303) (bytes "03 00 01 01 00 03 00 03 00 1A 03 00 01 01 00") 14
    8 (bytes "02 C9 0F DB" ++ zeros 15) (zeros 1303) (bytes "03 00 01 81 15 03 00 83 00 00")
    (bytes "08 0A 00 00 00 0A 00 00 00")

-- ---- calls that are turned away

-- nothing but the report is written
abbrev pub away : ℕ → ℕ → ℕ → List ℕ → List ℕ → List ℕ → Row
away refusal mode rule state sheets input =
    ran mode rule state sheets input 5 refusal state sheets [] (refusal ∷ zeros 8)

-- no state, for its pending byte; a push of one byte
abbrev pub bad_state : List ℕ
bad_state = zeros 16 ++ (2 ∷ 0 ∷ 0 ∷ [])

abbrev pub a_push : List ℕ
a_push = bytes "03 00 01 00 01"

-- 14 writes nothing, whatever else is wrong
abbrev pub no_report : Row
no_report = record {
  job = record { mode = 2; rule = 2; state = bad_state; input = a_push; replies = lent 5; report = zeros 8 };
  sheets = zeros 1303;
  after = record { result = 14; state = bad_state; sheets = zeros 1303; replies = lent 5; report = zeros 8 };
}

abbrev pub turned_away : List Row
turned_away =
    -- 16, whatever else is wrong but the report; 17 before 13; 13 for the state
    away 16 2 2 bad_state (zeros 1303) a_push ∷ away 17 1 2 bad_state (zeros 1303) a_push
    ∷ away 13 1 1 bad_state (zeros 1303) a_push
    -- 13 for a state of 20 bytes, for bits of the memory without a code
    ∷ away 13 0 0 (zeros 20) (zeros 1303) a_push ∷ away 13 0 0 (zeros 19 ++ (2 ∷ 0 ∷ [])) (zeros 1303) a_push
    -- 13 for a number over 64, for open over 1, for kept over 15, for 1,302 bytes of sheets
    ∷ away 13 0 0 (zeros 19) (65 ∷ zeros 1302) a_push ∷ away 13 0 0 (zeros 19) (zeros 1281 ++ (2 ∷ zeros 21)) a_push
    ∷ away 13 0 0 (zeros 19) (zeros 1286 ++ (16 ∷ zeros 16)) a_push ∷ away 13 0 0 (zeros 19) (zeros 1302) a_push
    -- 13 for the sheets before 9; 9 for 12,289 bytes
    ∷ away 13 0 0 (zeros 19) (zeros 1302) (zeros 12289) ∷ away 9 0 0 (zeros 19) (zeros 1303) (zeros 12289)
    ∷ []

-- ---- the statement

-- the table
abbrev pub rows : List Row
rows =
    (two_closed ∷ in_replies ∷ sixty_four ∷ list_full ∷ no_room ∷ no_report ∷ both_modes) ++ (over_sheets ++ turned_away)

-- every call gives what its row says
abbrev pub SheetsRows : Type 0
SheetsRows = map (λ (r : Row). answer_to r.job r.sheets) rows ≡ map (λ (r : Row). r.after) rows
