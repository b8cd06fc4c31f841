-- Rows through pundaliket_event, byte by byte: mode, rule, state, kind and byte; the number returned, and the state
-- after. Every command is among them. The bytes were worked out from 01 and 02 and not from the library. Definitions
-- and the statement only: proofs/EventRows.antt computes it. Assumes nothing.
use Rattle.std.specs.Prelude.{ℕ, ◌≡◌, List, [], ◌∷◌, ◌++◌, map, replicate}
use Prim.Native.String.{String}
use Rattle.promises.specs.Subjects.{Signal, signal_of}
use Rattle.promises.specs.PrintedText.{bytes}
use Rattle.promises.specs.RunRows.{full, memory, short, behind}

-- what is given and lent, and what the call must return and leave
pub record EventRow : Type 0 where
  pub mode : ℕ
  pub rule : ℕ
  pub state : List ℕ
  pub kind : ℕ
  pub byte : ℕ
  pub after : Signal

abbrev pub sent : ℕ → ℕ → List ℕ → ℕ → ℕ → ℕ → List ℕ → EventRow
sent mode rule state kind byte result state' = record {
  mode = mode;
  rule = rule;
  state = state;
  kind = kind;
  byte = byte;
  after = record { result = result; state = state' };
}

-- refused: the state stays
abbrev pub refuses : ℕ → ℕ → ℕ → List ℕ → ℕ → ℕ → EventRow
refuses result mode rule state kind byte = sent mode rule state kind byte result state

-- a command under a rule, on A and B by their bytes: the state after
abbrev pub did : ℕ → ℕ → String → String → EventRow
did rule code words state' =
    sent 0 rule (bytes words ++ bytes "12 34 56 78 9A BC DE F1 00 41 00") 3 code 0 (bytes state')

-- the same beside a memory
abbrev pub noted : String → ℕ → ℕ → String → String → EventRow
noted memory rule code words state' =
    sent 0 rule (bytes words ++ (bytes "12 34 56 78 9A BC DE F1 00 41 00" ++ bytes memory)) 3 code 0 (bytes state')

-- the rows
abbrev pub event_table : List EventRow
event_table =
    -- 16, 17, 13, 5, whatever else is wrong; a kind is not taken modulo 256
    refuses 4096 2 2 short 9 0x6c ∷ refuses 4352 0 2 short 9 0x6c ∷ refuses 3328 1 1 short 9 0x6c
    ∷ refuses 1280 1 1 full 9 0x6c ∷ refuses 1280 0 0 (full ++ memory) 0 0x00
    ∷ refuses 1280 0 0 (full ++ memory) 257 0xa5 ∷ refuses 1280 0 0 (full ++ memory) 4294967295 0xa5
    -- 13 for a memory
    ∷ refuses 3328 0 0 (behind "00 41 01 32 6F") 7 0x00 ∷ refuses 3328 0 0 (behind "00 41 01 12 00") 7 0x00
    ∷ refuses 3328 0 0 (behind "00 41 01 12 6F 00") 7 0x00
    -- push, pop, status read, acknowledge, recall and forget, on 19 and 21 bytes; the byte is ignored but for a push
    -- and a command
    ∷ sent 0 0 full 1 0xd3 0 (bytes "D3 11 92 23 A4 35 B6 47 C8 59 DA 6B EC 7D FE 8F 01 41 01")
    ∷ sent 1 1 (full ++ memory) 1 0xd3 0 (bytes "D3 11 92 23 A4 35 B6 47 C8 59 DA 6B EC 7D FE 8F 01 41 01 12 6F")
    ∷ sent 0 0 full 2 0xff 17 (bytes "92 23 A4 35 B6 47 C8 59 DA 6B EC 7D FE 8F 01 11 01 41 01")
    ∷ sent 1 1 (behind "01 41 01 12 6F") 2 0x00
    17 (bytes "92 23 A4 35 B6 47 C8 59 DA 6B EC 7D FE 8F 01 11 00 41 01 12 6F")
    ∷ sent 0 1 (full ++ memory) 4 0x07 65 (full ++ memory)
    ∷ sent 1 0 (full ++ memory) 6 0x07 0 (behind "00 41 00 12 6F")
    ∷ sent 0 0 (full ++ memory) 7 0x07 18 (full ++ memory) ∷ sent 0 0 full 7 0x07 0 full
    ∷ sent 0 0 (full ++ memory) 8 0x07 0 (behind "00 41 01 00 00") ∷ sent 0 0 full 8 0x07 0 full
    -- reset: both modes, nothing pending and half a word
    ∷ sent 0 1 (full ++ memory) 5 0x01 0 (replicate 21 0x00)
    ∷ sent 1 1 (full ++ memory) 5 0x01 0 (behind "00 00 00 00 00")
    ∷ sent 0 0 (behind "01 41 01 12 6F") 5 0x01 0 (replicate 21 0x00)
    ∷ sent 1 0 (behind "01 41 01") 5 0x01 0 (bytes "92 23 A4 35 B6 47 C8 59 DA 6B EC 7D FE 8F 00 00 00 00 00")
    -- 1 and 2 with half a word pending, then 3; 4 of B, of A, of A alone
    ∷ refuses 256 0 0 (behind "01 41 01") 3 0x8c ∷ refuses 512 0 0 (behind "01 41 01") 3 0x8b
    ∷ refuses 768 0 0 (behind "01 41 01") 3 0x00 ∷ refuses 768 0 0 (behind "01 41 01") 3 0x81
    ∷ refuses 1024 0 0 (bytes "04 B6 DB 6D 01 59 AB CD 12 34 56 78 9A BC DE F1 00 41 00") 3 0x90
    ∷ refuses 1024 0 1 (bytes "01 59 AB CD 83 E5 A5 A7 12 34 56 78 9A BC DE F1 00 41 00") 3 0x13
    ∷ refuses 1024 0 0 (bytes "01 59 AB CD 83 E5 A5 A7 12 34 56 78 9A BC DE F1 00 41 00") 3 0x1e
    ∷ refuses 1024 0 0 (bytes "01 59 AB CD 83 E5 A5 A7 12 34 56 78 9A BC DE F1 00 41 00") 3 0x01
    -- the commands: 16 bits, with and without sr
    ∷ did 0 0x6c "7A 5C 6B 3D 83 E5 A5 A7" "E5 99 83 E5 A5 A7 12 34 56 78 9A BC DE F1 7A 5C 00 42 00"
    ∷ did 0 0xec "9A 5C 6B 3D 83 E5 A5 A7" "05 99 83 E5 A5 A7 12 34 56 78 9A BC DE F1 9A 5C 00 01 01"
    ∷ did 0 0x6d "80 00 A5 C3 83 E5 A5 A7" "25 C3 83 E5 A5 A7 12 34 56 78 9A BC DE F1 80 00 00 02 00"
    ∷ did 0 0xed "5A 5C 3B 3D 83 E5 A5 A7" "E0 E1 83 E5 A5 A7 12 34 56 78 9A BC DE F1 5A 5C 00 41 01"
    ∷ did 0 0x6e "FF A5 00 5D 83 E5 A5 A7" "DE F1 83 E5 A5 A7 12 34 56 78 9A BC DE F1 00 00 00 40 00"
    ∷ did 0 0xee "FF A5 5B 5D 83 E5 A5 A7" "85 F1 83 E5 A5 A7 12 34 56 78 9A BC DE F1 00 00 00 42 01"
    ∷ did 0 0x76 "80 00 00 5D 83 E5 A5 A7" "80 00 83 E5 A5 A7 12 34 56 78 9A BC DE F1 00 00 00 42 00"
    ∷ did 0 0xf6 "C3 A5 5B 5D 83 E5 A5 A7" "EA 75 83 E5 A5 A7 12 34 56 78 9A BC DE F1 00 00 00 40 01"
    ∷ did 0 0x6f "FF A5 5B 5D 83 E5 A5 A7" "FE FF 83 E5 A5 A7 12 34 56 78 9A BC DE F1 00 00 00 40 00"
    ∷ noted "00 00" 0 0xef "00 00 5B 5D 83 E5 A5 A7" "5B 5D 83 E5 A5 A7 12 34 56 78 9A BC DE F1 00 00 00 10 01 10 6F"
    ∷ did 0 0x74 "80 00 A5 C3 83 E5 A5 A7" "80 00 A5 C3 83 E5 A5 A7 12 34 56 78 9A BC DE F1 00 42 00"
    ∷ did 0 0xf4 "5A 5C A5 C3 83 E5 A5 A7" "A5 A4 A5 C3 83 E5 A5 A7 12 34 56 78 9A BC DE F1 00 40 01"
    -- 32 bits
    ∷ did 0 0x2c "7A 5C 6B 3D 7E 5A 5A 5A" "F8 B6 C5 97 12 34 56 78 9A BC DE F1 7A 5C 6B 3D 00 42 00"
    ∷ did 0 0xad "9A 5C 6B 3D 7E 5A 5A 5A" "E3 FD EF 1D 12 34 56 78 9A BC DE F1 9A 5C 6B 3D 00 43 01"
    ∷ did 0 0x2e "FF FF A5 C3 00 00 5B 5D" "DF CB 88 D7 12 34 56 78 9A BC DE F1 00 00 00 00 00 40 00"
    ∷ did 0 0xb6 "7F A5 A5 C3 80 00 5B 5D" "C0 2D 5A AC 12 34 56 78 9A BC DE F1 00 00 00 00 00 40 01"
    ∷ noted "00 00" 0 0xb6 "80 00 00 00 80 00 5B 5D" "80 00 00 00 12 34 56 78 9A BC DE F1 00 00 00 00 00 42 01 02 36"
    ∷ did 0 0x2f "FF FF A5 C3 7A 5C 6B 3D" "FF FE A4 DF 12 34 56 78 9A BC DE F1 00 00 00 00 00 40 00"
    ∷ did 0 0xaf "00 00 00 00 7A 5C 6B 3D" "7A 5C 6B 3D 12 34 56 78 9A BC DE F1 00 00 00 00 00 10 01"
    ∷ did 0 0x34 "80 00 00 00 83 E5 A5 A7" "80 00 00 00 83 E5 A5 A7 12 34 56 78 9A BC DE F1 00 42 00"
    -- floats, under the cut and under nearest
    ∷ did 0 0x10 "04 B6 DB 6D 83 E5 A5 A7" "03 88 11 33 12 34 56 78 9A BC DE F1 00 00 00 00 00 00 00"
    ∷ did 1 0x90 "04 B6 DB 6D 83 E5 A5 A7" "03 88 11 33 12 34 56 78 9A BC DE F1 00 00 00 00 00 00 01"
    ∷ did 0 0x10 "01 B6 DB 6D 15 E5 A5 A7" "15 E5 A5 B2 12 34 56 78 9A BC DE F1 00 00 00 00 00 00 00"
    ∷ did 1 0x10 "01 B6 DB 6D 15 E5 A5 A7" "15 E5 A5 B2 12 34 56 78 9A BC DE F1 00 00 00 00 00 00 00"
    ∷ did 0 0x10 "02 C0 00 00 00 00 00 00" "02 C0 00 00 12 34 56 78 9A BC DE F1 00 00 00 00 00 00 00"
    ∷ did 0 0x10 "02 C0 00 00 05 A5 A5 A5" "05 BD A5 A5 12 34 56 78 9A BC DE F1 00 00 00 00 00 00 00"
    ∷ did 0 0x11 "0D B6 DB 6D 15 E5 A5 A7" "15 E4 EE CB 12 34 56 78 9A BC DE F1 00 00 00 00 00 00 00"
    ∷ did 1 0x91 "0D B6 DB 6D 15 E5 A5 A7" "15 E4 EE CC 12 34 56 78 9A BC DE F1 00 00 00 00 00 00 01"
    ∷ did 0 0x12 "04 B6 DB 6D 83 E5 A5 A7" "87 A4 08 9B 12 34 56 78 9A BC DE F1 00 00 00 00 00 40 00"
    ∷ did 1 0x92 "04 B6 DB 6D 83 E5 A5 A7" "87 A4 08 9B 12 34 56 78 9A BC DE F1 00 00 00 00 00 40 01"
    ∷ noted "00 00" 1 0x92 "3F B6 DB 6D 3F E5 A5 A7" "7E A4 08 9B 12 34 56 78 9A BC DE F1 00 00 00 00 00 02 01 02 12"
    ∷ noted "10 2F" 0 0x92 "41 B6 DB 6D C1 E5 A5 A7" "82 A4 08 9B 12 34 56 78 9A BC DE F1 00 00 00 00 00 44 01 14 2F"
    ∷ did 0 0x13 "04 B6 DB 6D 83 E5 A5 A7" "80 A0 C0 C2 12 34 56 78 9A BC DE F1 00 00 00 00 00 40 00"
    ∷ did 1 0x93 "04 B6 DB 6D 83 E5 A5 A7" "80 A0 C0 C2 12 34 56 78 9A BC DE F1 00 00 00 00 00 40 01"
    ∷ sent 1 1 (bytes "00 00 00 00 83 E5 A5 A7 12 34 56 78 9A BC DE F1 00 41 00 00 00") 3 0x93
    0 (bytes "83 E5 A5 A7 12 34 56 78 9A BC DE F1 00 00 00 00 00 50 01 10 13")
    ∷ did 0 0x01 "02 E5 A5 A7 83 E5 A5 A7" "01 F2 77 3D 83 E5 A5 A7 12 34 56 78 00 00 00 00 00 00 00"
    ∷ did 1 0x81 "02 E5 A5 A7 83 E5 A5 A7" "01 F2 77 3D 83 E5 A5 A7 12 34 56 78 00 00 00 00 00 00 01"
    ∷ did 0 0x01 "7D E5 A5 A7 83 E5 A5 A7" "7F AB 72 FE 83 E5 A5 A7 12 34 56 78 00 00 00 00 00 00 00"
    ∷ noted "00 00" 0 0x81 "82 E5 A5 A7 83 E5 A5 A7" "82 E5 A5 A7 83 E5 A5 A7 12 34 56 78 9A BC DE F1 00 48 01 08 01"
    ∷ did 0 0x15 "04 B6 DB 6D 83 E5 A5 A7" "84 B6 DB 6D 83 E5 A5 A7 12 34 56 78 9A BC DE F1 00 40 00"
    ∷ did 0 0x95 "83 E5 A5 A7 04 B6 DB 6D" "03 E5 A5 A7 04 B6 DB 6D 12 34 56 78 9A BC DE F1 00 00 01"
    ∷ did 0 0x15 "01 59 AB CD 04 B6 DB 6D" "01 59 AB CD 04 B6 DB 6D 12 34 56 78 9A BC DE F1 00 00 00"
    ∷ sent 0 0 (full ++ memory) 3 0x1a 0 (bytes "02 C9 0F DA 11 92 23 A4 35 B6 47 C8 59 DA 6B EC 00 00 00 12 6F")
    ∷ sent 1 1 (full ++ memory) 3 0x9a 0 (bytes "02 C9 0F DB 11 92 23 A4 35 B6 47 C8 59 DA 6B EC 00 00 01 12 6F")
    -- words pushed again, popped, exchanged: of 16 and 32 bits, of floats
    ∷ sent 0 0 full 3 0x77 0 (bytes "11 92 11 92 23 A4 35 B6 47 C8 59 DA 6B EC 7D FE 00 00 00")
    ∷ sent 0 0 full 3 0xf8 0 (bytes "23 A4 35 B6 47 C8 59 DA 6B EC 7D FE 8F 01 11 92 00 00 01")
    ∷ sent 0 0 full 3 0x79 0 (bytes "23 A4 11 92 35 B6 47 C8 59 DA 6B EC 7D FE 8F 01 00 00 00")
    ∷ sent 0 0 full 3 0x37 0 (bytes "11 92 23 A4 11 92 23 A4 35 B6 47 C8 59 DA 6B EC 00 00 00")
    ∷ sent 0 0 full 3 0xb8 0 (bytes "35 B6 47 C8 59 DA 6B EC 7D FE 8F 01 11 92 23 A4 00 00 01")
    ∷ sent 0 0 full 3 0x39 0 (bytes "35 B6 47 C8 11 92 23 A4 59 DA 6B EC 7D FE 8F 01 00 00 00")
    ∷ sent 0 0 full 3 0x17 0 (bytes "11 92 23 A4 11 92 23 A4 35 B6 47 C8 59 DA 6B EC 00 00 00")
    ∷ sent 0 0 full 3 0x98 0 (bytes "35 B6 47 C8 59 DA 6B EC 7D FE 8F 01 11 92 23 A4 00 00 01")
    ∷ sent 0 0 full 3 0x19 0 (bytes "35 B6 47 C8 11 92 23 A4 59 DA 6B EC 7D FE 8F 01 00 00 00")
    -- conversions
    ∷ did 0 0x1c "7A 5C 6B 3D 83 E5 A5 A7" "1F F4 B8 D6 83 E5 A5 A7 12 34 56 78 00 00 00 00 00 00 00"
    ∷ did 1 0x9c "7A 5C 6B BD 83 E5 A5 A7" "1F F4 B8 D7 83 E5 A5 A7 12 34 56 78 00 00 00 00 00 00 01"
    ∷ did 1 0x1c "85 A3 94 C3 83 E5 A5 A7" "9F F4 B8 D6 83 E5 A5 A7 12 34 56 78 00 00 00 00 00 40 00"
    ∷ did 1 0x1d "A5 C3 6B 3D 83 E5 A5 A7" "8F B4 7A 00 6B 3D 83 E5 A5 A7 12 34 00 00 00 00 00 40 00"
    ∷ did 1 0x1e "1D E5 A5 A7 83 E5 A5 A7" "1C B4 B4 E0 83 E5 A5 A7 12 34 56 78 00 00 00 00 00 00 00"
    ∷ did 0 0x9e "9F E5 A5 A7 83 E5 A5 A7" "8D 2D 2C 80 83 E5 A5 A7 12 34 56 78 00 00 00 00 00 40 01"
    ∷ noted "00 00" 0 0x1e "20 E5 A5 A7 83 E5 A5 A7" "20 E5 A5 A7 83 E5 A5 A7 12 34 56 78 00 00 00 00 00 02 00 02 1E"
    ∷ did 1 0x1f "0D E5 A5 A7 83 E5 A5 A7" "1C B4 83 E5 A5 A7 12 34 56 78 00 00 00 00 00 00 00 00 00"
    ∷ did 0 0x9f "8C E5 A5 A7 83 E5 A5 A7" "F1 A6 83 E5 A5 A7 12 34 56 78 00 00 00 00 00 00 00 40 01"
    ∷ noted "00 00" 0 0x9f "10 E5 A5 A7 83 E5 A5 A7" "10 E5 A5 A7 83 E5 A5 A7 12 34 56 78 00 00 00 00 00 02 01 02 1F"
    ∷ sent 0 0 (full ++ memory) 3 0x80 0 (behind "00 00 01 12 6F") ∷ []

-- ---- the statement
abbrev pub EventRows : Type 0
EventRows = map (λ (r : EventRow). signal_of r.mode r.rule r.state r.kind r.byte) event_table
    ≡ map (λ (r : EventRow). r.after) event_table
