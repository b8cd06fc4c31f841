-- Rows through pundaliket_run, byte by byte: mode, rule, state, input, replies and report as they are lent; the number
-- returned, and state, replies and report after. The bytes were worked out from 01 and 02 and not from the library.
-- Definitions and the statement only: proofs/RunRows.antt computes it. Assumes nothing.
use Rattle.std.specs.Prelude.{ℕ, ◌-◌, ◌≡◌, List, [], ◌∷◌, ◌++◌, map, length, replicate}
use Prim.Native.String.{String}
use Rattle.promises.specs.Subjects.{Called, call_of}
use Rattle.promises.specs.Given.{Given, run_call}
use Rattle.promises.specs.PrintedText.{bytes}

-- what is given and lent, and what the call must return and leave
pub record RunRow : Type 0 where
  pub numbers : Given
  pub state : List ℕ
  pub input : List ℕ
  pub replies : List ℕ
  pub report : List ℕ
  pub after : Called

-- the slices as they are lent: so many bytes for replies and for a report
abbrev pub lent : ℕ → List ℕ
lent n = replicate n 0xee

abbrev pub report_lent : ℕ → List ℕ
report_lent n = replicate n 0x77

abbrev pub row : ℕ → ℕ → List ℕ → List ℕ → List ℕ → List ℕ → ℕ → List ℕ → List ℕ → List ℕ → RunRow
row mode rule state input replies report result state' replies' report' = record {
  numbers = record { mode = mode; rule = rule };
  state = state;
  input = input;
  replies = replies;
  report = report;
  after = record { result = result; state = state'; replies = replies'; report = report' };
}

-- a run into so much room, with 9 bytes for a report: what is returned, the state after, what is written, the report
abbrev pub ran : ℕ → ℕ → List ℕ → List ℕ → ℕ → ℕ → List ℕ → List ℕ → String → RunRow
ran mode rule state input room result state' written report =
    row mode rule state input (lent room) (report_lent 9)
    result state' (written ++ lent (room - length written)) (bytes report)

-- ---- what rows share

-- a state of 19 bytes, and the bytes of a memory behind it
abbrev pub full : List ℕ
full = bytes "11 92 23 A4 35 B6 47 C8 59 DA 6B EC 7D FE 8F 01 00 41 01"

abbrev pub memory : List ℕ
memory = bytes "12 6F"

-- a push of two bytes, the state that it leaves of `full`, and its reply
abbrev pub a_push : List ℕ
a_push = bytes "04 00 01 00 A7 5C"

abbrev pub pushed : List ℕ
pushed = bytes "5C A7 11 92 23 A4 35 B6 47 C8 59 DA 6B EC 7D FE 00 41 01"

abbrev pub push_reply : List ℕ
push_reply = bytes "03 00 81 00 00"

-- ---- calls that are turned away

-- on a report of so many bytes that is not 9: nothing is written
abbrev pub away14 : ℕ → ℕ → List ℕ → ℕ → RunRow
away14 mode rule state size =
    row mode rule state a_push (lent 3) (report_lent size) 14 state (lent 3) (report_lent size)

-- of a push, by a refusal: the report alone is written
abbrev pub away : ℕ → ℕ → ℕ → List ℕ → ℕ → RunRow
away refusal mode rule state room =
    row mode rule state a_push (lent room) (report_lent 9)
    refusal state (lent room) (refusal ∷ replicate 8 0x00)

-- a state of 18 bytes
abbrev pub short : List ℕ
short = bytes "11 92 23 A4 35 B6 47 C8 59 DA 6B EC 7D FE 8F 01 00 41"

-- 16 bytes of stack, and others behind them
abbrev pub behind : String → List ℕ
behind rest = bytes "11 92 23 A4 35 B6 47 C8 59 DA 6B EC 7D FE 8F 01" ++ bytes rest

-- 14 before all else: mode 2, rule 2, no state; the report of 8 bytes stays, and of 10
-- then 16, 17, 13
-- 13: 20 bytes, 22; pending 2, busy, service 2; of a memory bit 5, bit 0, a code without bits, bits without a code
abbrev pub turned_away : List RunRow
turned_away =
    away14 2 2 short 8 ∷ away14 0 0 full 10
    ∷ away 16 2 2 short 3 ∷ away 17 1 2 short 3 ∷ away 13 1 1 short 3
    ∷ away 13 0 0 (behind "00 41 01 00") 8 ∷ away 13 0 0 (behind "00 41 01 12 6F 00") 8
    ∷ away 13 0 0 (behind "02 41 01") 8 ∷ away 13 0 0 (behind "00 C1 01") 8 ∷ away 13 0 0 (behind "00 41 02") 8
    ∷ away 13 0 0 (behind "00 41 01 32 6F") 8 ∷ away 13 0 0 (behind "00 41 01 13 6F") 8
    ∷ away 13 0 0 (behind "00 41 01 00 6F") 8 ∷ away 13 0 0 (behind "00 41 01 12 00") 8
    ∷ []

-- ---- runs that stop

-- after the push, on 19 bytes or with a memory behind them
abbrev pub stops : ℕ → List ℕ → String → RunRow
stops refusal memory rest =
    row 0 0 (full ++ memory) (a_push ++ bytes rest) (lent 9) (report_lent 9)
    refusal (pushed ++ memory) (push_reply ++ lent 4) (refusal ∷ bytes "06 00 00 00 05 00 00 00")

-- at 6: one byte left, then a record cut
-- at 7: length 1, length 243, bytes of it missing or not; no bytes to push; a pop of none, of 241, of two bytes; a
-- command of two; a status read of one
-- at 5: kind 0, 9, 257; before 7, after 6
-- at 8: no room for a push
abbrev pub stopped : List RunRow
stopped =
    stops 6 [] "03" ∷ stops 6 memory "05 00 01 00 C3"
    ∷ stops 7 [] "01 00 03 00" ∷ stops 7 memory "F3 00" ∷ stops 7 [] "02 00 01 00" ∷ stops 7 [] "03 00 02 00 00"
    ∷ stops 7 [] "03 00 02 00 F1" ∷ stops 7 [] "04 00 02 00 01 01" ∷ stops 7 [] "04 00 03 00 1A 1A"
    ∷ stops 7 [] "03 00 04 00 09"
    ∷ stops 5 memory "03 00 00 00 01" ∷ stops 5 [] "02 00 09 00" ∷ stops 5 [] "02 00 01 01"
    ∷ stops 8 [] "04 00 01 00 A7 5C"
    ∷ []

-- at 8: no room for a pop of 3, a status read, a recall; before 1; a byte of room more and each is done
abbrev pub room_rows : List RunRow
room_rows =
    ran 0 0 full (bytes "03 00 02 00 03 03 00 02 00 03") 15
    8 (bytes "A4 35 B6 47 C8 59 DA 6B EC 7D FE 8F 01 11 92 23 01 41 01")
    (bytes "06 00 82 00 00 11 92 23") "08 05 00 00 00 08 00 00 00"
    ∷ ran 0 0 full (bytes "03 00 02 00 03 03 00 02 00 03") 16
    0 (bytes "47 C8 59 DA 6B EC 7D FE 8F 01 11 92 23 A4 35 B6 00 41 01")
    (bytes "06 00 82 00 00 11 92 23 06 00 82 00 00 A4 35 B6") "00 0A 00 00 00 10 00 00 00"
    ∷ ran 0 0 full (bytes "02 00 04 00 02 00 04 00") 11
    8 full (bytes "04 00 84 00 00 41") "08 04 00 00 00 06 00 00 00"
    ∷ ran 0 0 (full ++ memory) (bytes "02 00 07 00 02 00 07 00") 13
    8 (full ++ memory) (bytes "05 00 87 00 00 12 6F") "08 04 00 00 00 07 00 00 00"
    ∷ ran 0 0 (full ++ memory) (bytes "02 00 07 00 02 00 07 00") 14
    0 (full ++ memory) (bytes "05 00 87 00 00 12 6F 05 00 87 00 00 12 6F") "00 08 00 00 00 0E 00 00 00"
    ∷ stops 8 [] "03 00 03 00 0C"
    ∷ []

-- ---- runs to the end

-- FDIV that is not exact, with sr, then PUPI: a rule, a memory, what the two words are on the stack
abbrev pub divided : ℕ → ℕ → List ℕ → String → RunRow
divided mode rule memory words =
    ran mode rule (full ++ memory)
    (bytes "06 00 01 00 6D DB B6 05 06 00 01 00 A5 A5 A5 83 03 00 03 00 93 03 00 03 00 1A"
    ++ bytes "03 00 02 00 08 02 00 04 00") 60
    0 (bytes "11 92 23 A4 35 B6 47 C8" ++ (bytes words ++ (bytes "00 00 00" ++ memory)))
    (bytes "03 00 81 00 00 03 00 81 00 00 03 00 83 00 00 03 00 83 00 00 0B 00 82 00 00"
    ++ (bytes words ++ bytes "04 00 84 00 00 00")) "00 23 00 00 00 27 00 00 00"

-- reset with half a word pending, and without: what it leaves
abbrev pub reset_half : ℕ → List ℕ → RunRow
reset_half mode state =
    ran mode 0 (full ++ memory) (bytes "03 00 01 00 DE 02 00 05 00 02 00 04 00") 30
    0 state (bytes "03 00 81 00 00 03 00 85 00 00 04 00 84 00 00 00") "00 0D 00 00 00 10 00 00 00"

abbrev pub reset_whole : ℕ → List ℕ → RunRow
reset_whole mode state =
    ran mode 1 full (bytes "02 00 05 00 02 00 04 00") 30
    0 state (bytes "03 00 85 00 00 04 00 84 00 00 00") "00 08 00 00 00 0B 00 00 00"

-- three commands that fail, each with sr set: SDIV by zero, FMUL over and under; then other records
abbrev pub failing : List ℕ → String → List ℕ → String → String → RunRow
failing state rest state' replies report =
    ran 0 0 state
    (bytes "06 00 01 00 5A 5A 00 00 03 00 03 00 EF 06 00 01 00 6D DB B6 3F 06 00 01 00 A5 A5 A5 3F 03 00 03 00 92"
    ++ (bytes "06 00 01 00 6D DB B6 41 06 00 01 00 A5 A5 A5 41 03 00 03 00 92" ++ bytes rest)) 99
    0 state'
    (bytes "03 00 81 00 00 03 00 83 00 00 03 00 81 00 00 03 00 81 00 00 03 00 83 00 00 03 00 81 00 00 03 00 81 00 00"
    ++ (bytes "03 00 83 00 00" ++ bytes replies)) report

-- the words that they leave on the stack
abbrev pub failed : List ℕ
failed = bytes "01 EC A3 7D 7D EC A3 7D 5A 5A"

-- recalled, cleared, recalled
abbrev pub cleared : List ℕ → List ℕ → RunRow
cleared state state' =
    failing state "02 00 07 00 02 00 08 00 02 00 07 00"
    state' "05 00 87 00 00 16 6F 03 00 88 00 00 05 00 87 00 00 00 00" "00 43 00 00 00 3B 00 00 00"

-- recalled alone
abbrev pub recalled : List ℕ → List ℕ → RunRow
recalled state state' = failing state "02 00 07 00" state' "05 00 87 00 00 16 6F" "00 3B 00 00 00 2F 00 00 00"

-- a chain under nearest in the older mode: times 01B6DB6D, from 05A5A5A5, sign changed, over 83955555
abbrev pub chained : List ℕ → String → List ℕ → RunRow
chained state word state' =
    ran 1 1 state
    (bytes "06 00 01 00" ++ (bytes word ++ (bytes "06 00 01 00 6D DB B6 01 03 00 03 00 92 06 00 01 00 A5 A5 A5 05"
    ++ bytes "03 00 03 00 19 03 00 03 00 91 03 00 03 00 15 06 00 01 00 55 55 95 83 03 00 03 00 13 02 00 04 00"))) 99
    0 state'
    (bytes "03 00 81 00 00 03 00 81 00 00 03 00 83 00 00 03 00 81 00 00 03 00 83 00 00 03 00 83 00 00 03 00 83 00 00"
    ++ bytes "03 00 81 00 00 03 00 83 00 00 04 00 84 00 00 00") "00 3D 00 00 00 33 00 00 00"

-- the rows
abbrev pub ended : List RunRow
ended =
    -- 1 to 4 stand in the replies and the run goes on: unknown, derived, unknown and derived with half a word pending,
    -- NOP and SADD with half a word, FADD and FIXS of words not proper
    ran 0 0 (replicate 19 0x00)
    (bytes "03 00 03 00 0C 03 00 03 00 82 03 00 01 00 40 03 00 03 00 FF 03 00 03 00 0B 03 00 03 00 00 03 00 03 00 6C"
    ++ bytes "03 00 01 00 01 03 00 03 00 10 03 00 03 00 9F 02 00 04 00") 64
    0 (bytes "01 40" ++ replicate 17 0x00)
    (bytes "03 00 83 00 01 03 00 83 00 02 03 00 81 00 00 03 00 83 00 01 03 00 83 00 02 03 00 83 00 03 03 00 83 00 03"
    ++ bytes "03 00 81 00 00 03 00 83 00 04 03 00 83 00 04 04 00 84 00 00 00") "00 36 00 00 00 38 00 00 00"
    -- FDIV and PUPI under the cut and under nearest, in both modes
    ∷ divided 0 0 [] "02 C9 0F DA 83 8D 4C 77" ∷ divided 1 0 [] "02 C9 0F DA 83 8D 4C 77"
    ∷ divided 0 1 memory "02 C9 0F DB 83 8D 4C 78" ∷ divided 1 1 memory "02 C9 0F DB 83 8D 4C 78"
    -- reset: the Am9511A, then the older part
    ∷ reset_half 0 (replicate 21 0x00)
    ∷ reset_half 1 (bytes "11 92 23 A4 35 B6 47 C8 59 DA 6B EC 7D FE 00 00 00 00 00 00 00")
    ∷ reset_whole 0 (replicate 19 0x00)
    ∷ reset_whole 1 (bytes "11 92 23 A4 35 B6 47 C8 59 DA 6B EC 7D FE 8F 01 00 00 00")
    -- three that fail, the memory cleared: on 21 bytes over a memory that stood, on 21 empty, on 19
    ∷ cleared (full ++ memory) (failed ++ bytes "11 92 00 00 00 00 00 04 01 00 00")
    ∷ cleared (replicate 21 0x00) (failed ++ bytes "00 00 00 00 00 00 00 04 01 00 00")
    ∷ cleared (replicate 19 0x00) (failed ++ bytes "00 00 00 00 00 00 00 04 01")
    -- the same without the clearing: the memory is stored, and dropped from 19 bytes
    ∷ recalled (replicate 21 0x00) (failed ++ bytes "00 00 00 00 00 00 00 04 01 16 6F")
    ∷ recalled (replicate 19 0x00) (failed ++ bytes "00 00 00 00 00 00 00 04 01")
    -- more bytes than the stack has: 19 pushed, 21 popped
    ∷ ran 0 0 full
    (bytes "15 00 01 00 03 28 4D 72 97 BC E1 06 2B 50 75 9A BF E4 09 2E 53 78 9D 03 00 02 00 15") 40
    0 (bytes "E4 BF 9A 75 50 2B 06 E1 BC 97 72 9D 78 53 2E 09 00 41 01")
    (bytes "03 00 81 00 00 18 00 82 00 00 9D 78 53 2E 09 E4 BF 9A 75 50 2B 06 E1 BC 97 72 9D 78 53 2E 09")
    "00 1C 00 00 00 1F 00 00 00"
    -- the chain on two words; nothing that stood enters
    ∷ chained (full ++ memory) "B5 A7 C9 02"
    (bytes "02 DE 3C 37 11 92 23 A4 35 B6 47 C8 00 00 00 00 00 00 00 12 6F")
    ∷ chained (replicate 19 0x00) "C3 D2 E1 03" (bytes "02 91 B5 0D" ++ replicate 15 0x00)
    ∷ []

-- no bytes: 0, and all as it stood; a stored code of 80 hex or more with bits is taken
abbrev pub no_bytes : RunRow
no_bytes = ran 0 0 (full ++ bytes "12 EF") [] 2 0 (full ++ bytes "12 EF") [] "00 00 00 00 00 00 00 00 00"

abbrev pub run_table : List RunRow
run_table = turned_away ++ (no_bytes ∷ (stopped ++ (room_rows ++ ended)))

-- 12,289 bytes of input
abbrev pub too_long : List ℕ
too_long = replicate 12289 0x5a

-- on no state
abbrev pub Long13 : Type 0
Long13 = call_of 1 1 [] too_long [] (report_lent 9)
    ≡ record { result = 13; state = []; replies = []; report = bytes "0D 00 00 00 00 00 00 00 00" }

-- ---- the statement
pub record RunRows : Type 0 where
  pub rows : map (λ (r : RunRow). run_call r.numbers r.state r.input r.replies r.report) run_table
      ≡ map (λ (r : RunRow). r.after) run_table
  -- 9 comes last: after 14, 16, 17 and 13
  pub long_14 : call_of 2 2 [] too_long [] [] ≡ record { result = 14; state = []; replies = []; report = [] }
  pub long_16 : call_of 2 2 [] too_long [] (report_lent 9)
      ≡ record { result = 16; state = []; replies = []; report = bytes "10 00 00 00 00 00 00 00 00" }
  pub long_17 : call_of 1 2 [] too_long [] (report_lent 9)
      ≡ record { result = 17; state = []; replies = []; report = bytes "11 00 00 00 00 00 00 00 00" }
  pub long_13 : Long13
  pub long_9 : call_of 1 1 full too_long (bytes "EE") (report_lent 9)
      ≡ record { result = 9; state = full; replies = bytes "EE"; report = bytes "09 00 00 00 00 00 00 00 00" }
