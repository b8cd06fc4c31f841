-- Rows through the two conversions, the two calls on buffers and the call for formulas, byte by byte. The bytes were
-- worked out from 01 and 02 and not from the library. Definitions and the statements only: proofs/CallRows.antt
-- computes them. Assumes nothing.
use Rattle.std.specs.Prelude.{ℕ, ◌-◌, ◌≡◌, List, [], ◌∷◌, ◌++◌, map, length, take}
use Prim.Native.String.{String}
use Rattle.promises.specs.Subjects.{Sent, sent_of, host_of, host_reply, taken_of, taken_reply, Turn, words_turn}
use Rattle.promises.specs.Subjects.{floats_turn, Wrote, formula_call}
use Rattle.promises.specs.PrintedText.{written, bytes}
use Rattle.promises.specs.LongBlocks.{times_over}
use Rattle.promises.specs.RunRows.{lent}

-- ---- one word or one f32: the 32 bits and the slice; the number returned, and the slice after
pub record ConversionRow : Type 0 where
  pub bits : ℕ
  pub out : List ℕ
  pub after : Sent

-- into four bytes
abbrev pub sends : ℕ → String → ConversionRow
sends bits out = record { bits = bits; out = lent 4; after = record { result = 0; out = bytes out } }

-- refused, with so many bytes lent
abbrev pub refuses_of : ℕ → ℕ → ℕ → ConversionRow
refuses_of size refusal bits =
    record { bits = bits; out = lent size; after = record { result = refusal; out = lent size } }

abbrev pub refuses : ℕ → ℕ → ConversionRow
refuses = refuses_of 4

-- 0; 1 and -1; words of many bits, large and small, each with its opposite; the greatest and the least; three that are
-- not proper; slices of 3 and 5 bytes
abbrev pub word_table : List ConversionRow
word_table =
    sends 0x00000000 "00 00 00 00" ∷ sends 0x01800000 "00 00 80 3F" ∷ sends 0x81800000 "00 00 80 BF"
    ∷ sends 0x05b6db6d "6D DB B6 41" ∷ sends 0x85b6db6d "6D DB B6 C1" ∷ sends 0x7da5c35b "5B C3 A5 3D"
    ∷ sends 0xfda5c35b "5B C3 A5 BD" ∷ sends 0x3fffffff "FF FF FF 5E" ∷ sends 0xbfffffff "FF FF FF DE"
    ∷ sends 0x40800000 "00 00 00 1F" ∷ sends 0xc0800000 "00 00 00 9F"
    ∷ refuses 4 0x0159abcd ∷ refuses 4 0x80000000 ∷ refuses 4 0x00000001
    ∷ refuses_of 3 8 0x0159abcd ∷ refuses_of 5 8 0x05b6db6d ∷ []

abbrev pub WordToF32Rows : Type 0
WordToF32Rows = map (λ (r : ConversionRow). sent_of (host_reply (host_of r.bits)) r.out) word_table
    ≡ map (λ (r : ConversionRow). r.after) word_table

-- NaNs and infinities; minus zero and zero; 2^63 and the greatest f32, the greatest below 2^63; 2^-65, 2^-66 and what
-- lies between; subnormal ones; f32s of many bits; each with its opposite; slices of 3 and 5 bytes
abbrev pub f32_table : List ConversionRow
f32_table =
    refuses 10 0x7fc5a5a5 ∷ refuses 10 0xffc5a5a5 ∷ refuses 10 0x7f800001 ∷ refuses 10 0x7f800000
    ∷ refuses 10 0xff800000 ∷ refuses 15 0x80000000 ∷ sends 0x00000000 "00 00 00 00"
    ∷ refuses 11 0x5f000000 ∷ refuses 11 0xdf000000 ∷ refuses 11 0x7f7fffff ∷ refuses 11 0xff7fffff
    ∷ sends 0x5effffff "FF FF FF 3F" ∷ sends 0xdeffffff "FF FF FF BF"
    ∷ sends 0x1f000000 "00 00 80 40" ∷ sends 0x9f000000 "00 00 80 C0"
    ∷ refuses 12 0x1e800000 ∷ refuses 12 0x9e800000 ∷ refuses 12 0x1effffff ∷ refuses 12 0x9effffff
    ∷ refuses 12 0x00012345 ∷ refuses 12 0x80012345
    ∷ sends 0x3f9a7b5d "5D 7B 9A 01" ∷ sends 0xc2e5a5a7 "A7 A5 E5 87"
    ∷ refuses_of 3 8 0x7fc5a5a5 ∷ refuses_of 5 8 0x80000000 ∷ []

abbrev pub F32ToWordRows : Type 0
F32ToWordRows = map (λ (r : ConversionRow). sent_of (taken_reply (taken_of r.bits)) r.out) f32_table
    ≡ map (λ (r : ConversionRow). r.after) f32_table

-- ---- buffers: the rule (0 outward), the input and what is lent for the output; the number returned, the number beside
-- it, the output after
pub record BufferRow : Type 0 where
  pub rule : ℕ
  pub input : List ℕ
  pub out : List ℕ
  pub after : Turn

-- into so much room: what is returned, the number beside it, what is written
abbrev pub converted : ℕ → String → ℕ → ℕ → ℕ → String → BufferRow
converted rule input room result number out = record {
  rule = rule;
  input = bytes input;
  out = lent room;
  after = record { result = result; number = number; out = bytes out ++ lent (room - length (bytes out)) };
}

-- a buffer that is written, and one that is refused: nothing is
abbrev pub writes : ℕ → String → ℕ → ℕ → String → BufferRow
writes rule input room number out = converted rule input room 0 number out

abbrev pub stays : ℕ → String → ℕ → ℕ → ℕ → BufferRow
stays rule input room refusal number = converted rule input room refusal number ""

-- four words, two bytes to spare; the second of three the first that is not proper; 18 before 8; 8; no words
abbrev pub words_table : List BufferRow
words_table =
    writes 0 "6D DB B6 05 A7 A5 E5 83 00 00 00 00 FF FF FF 3F" 34
    0 "00 00 00 A0 6D DB 36 40 00 00 00 E0 B4 B4 1C C0 00 00 00 00 00 00 00 00 00 00 00 E0 FF FF DF 43"
    ∷ stays 0 "6D DB B6 05 CD AB 59 01 00 00 00 80" 24 4 2 ∷ stays 0 "6D DB B6 05 CD AB 59" 3 18 0
    ∷ stays 0 "6D DB B6 05 CD AB 59 01" 15 8 0 ∷ writes 0 "" 2 0 "" ∷ []

abbrev pub WordsToF64Rows : Type 0
WordsToF64Rows = map (λ (r : BufferRow). words_turn r.input r.out) words_table
    ≡ map (λ (r : BufferRow). r.after) words_table

-- four f64s, two of them not exact, under each rule; 17, 18, 8; 10, 15, 12 as it is given, 11 as it is rounded; no f64s
abbrev pub floats_table : List BufferRow
floats_table =
    writes 0 "5B 5A 5A DA B6 6D 12 40 00 00 00 E0 B4 B4 3C C0 00 00 00 00 00 00 00 00 01 00 00 10 00 00 F0 3F" 17
    2 "B6 6D 93 03 A7 A5 E5 85 00 00 00 00 00 00 80 01"
    ∷ writes 1 "5B 5A 5A DA B6 6D 12 40 00 00 00 E0 B4 B4 3C C0 00 00 00 00 00 00 00 00 01 00 00 10 00 00 F0 3F" 17
    2 "B7 6D 93 03 A7 A5 E5 85 00 00 00 00 01 00 80 01"
    ∷ stays 2 "5B 5A 5A DA B6 6D 12" 0 17 0 ∷ stays 1 "5B 5A 5A DA B6 6D 12" 0 18 0
    ∷ stays 1 "5B 5A 5A DA B6 6D 12 40 00 00 00 00 00 00 F0 7F" 7 8 0
    ∷ stays 0 "5B 5A 5A DA B6 6D 12 40 00 00 00 00 00 00 F0 FF 00 00 00 00 00 00 00 80" 12 10 2
    ∷ stays 0 "5B 5A 5A DA B6 6D 12 40 A5 A5 A5 A5 A5 A5 F5 7F" 12 10 2
    ∷ stays 1 "5B 5A 5A DA B6 6D 12 40 00 00 00 E0 B4 B4 3C C0 00 00 00 00 00 00 00 80" 12 15 3
    ∷ stays 1 "FF FF FF FF FF FF DF 3B" 4 12 1 ∷ stays 1 "FF FF FF FF FF FF DF BB" 4 12 1
    ∷ stays 0 "A5 A5 A5 A5 A5 A5 0F 80" 4 12 1
    ∷ writes 0 "FF FF FF FF FF FF DF 43 00 00 00 F0 FF FF DF C3" 8 2 "FF FF FF 3F FF FF FF BF"
    ∷ stays 1 "FF FF FF EF FF FF DF 43 00 00 00 F0 FF FF DF C3" 8 11 2
    ∷ stays 0 "00 00 00 00 00 00 E0 43" 4 11 1 ∷ writes 0 "" 1 0 "" ∷ []

abbrev pub F64ToWordsRows : Type 0
F64ToWordsRows = map (λ (r : BufferRow). floats_turn r.rule r.input r.out) floats_table
    ≡ map (λ (r : BufferRow). r.after) floats_table

-- ---- formulas: the text, the letters' bytes and what is lent for the file; the number returned, and the file after
pub record FormulaRow : Type 0 where
  pub text : List ℕ
  pub letters : List ℕ
  pub file : List ℕ
  pub after : Wrote

-- a file into so much room
abbrev pub translated : String → List ℕ → ℕ → ℕ → List ℕ → FormulaRow
translated text letters room result file = record {
  text = written text;
  letters = letters;
  file = lent room;
  after = record { result = result; file = file ++ lent (room - length file) };
}

-- refused: 30, 31, 32 or 33 times 65,536
abbrev pub unwritten : String → List ℕ → ℕ → ℕ → FormulaRow
unwritten text letters room result = translated text letters room result []

-- the words of a to h, 32 different bytes; and the same with an h that is not proper
abbrev pub all_letters : List ℕ
all_letters = bytes "02 C9 0F DA 01 B6 5B 6D 7F A5 5A C3 83 E1 D2 B4 05 9B 37 6E 41 F0 1E 2D BE 87 65 43 04 FE 7D AC"

abbrev pub bad_letters : List ℕ
bad_letters = take 29 all_letters ++ bytes "7F 7D AC"

-- the records that push a word, low byte first, and that give a command
abbrev pub put : String → List ℕ
put word = bytes "06 00 01 00" ++ bytes word

abbrev pub command : String → List ℕ
command code = bytes "03 00 03 00" ++ bytes code

-- the rows
abbrev pub formula_table : List FormulaRow
formula_table =
    -- each operation and sign
    translated "a+b" all_letters 22 21 (put "DA 0F C9 02" ++ (put "6D 5B B6 01" ++ command "10"))
    ∷ translated "a-b" all_letters 21 21 (put "DA 0F C9 02" ++ (put "6D 5B B6 01" ++ command "11"))
    ∷ translated "a*b" all_letters 21 21 (put "DA 0F C9 02" ++ (put "6D 5B B6 01" ++ command "12"))
    ∷ translated "c/d" all_letters 21 21 (put "C3 5A A5 7F" ++ (put "B4 D2 E1 83" ++ command "13"))
    ∷ translated "-e" all_letters 14 13 (put "6E 37 9B 05" ++ command "15")
    ∷ translated "f--g" all_letters 27 26 (put "2D 1E F0 41" ++ (put "43 65 87 BE" ++ (command "15" ++ command "11")))
    ∷ translated "(h)" all_letters 8 8 (put "AC 7D FE 04")
    -- all eight letters, left to right, * and / before + and -
    ∷ translated "a+b-c*d/e+f-g*h" all_letters 100 99
    (put "DA 0F C9 02" ++ (put "6D 5B B6 01" ++ (command "10" ++ (put "C3 5A A5 7F" ++ (put "B4 D2 E1 83"
    ++ (command "12" ++ (put "6E 37 9B 05" ++ (command "13" ++ (command "11" ++ (put "2D 1E F0 41" ++ (command "10"
    ++ (put "43 65 87 BE" ++ (put "AC 7D FE 04" ++ (command "12" ++ command "11"))))))))))))))
    -- all sixteen digits
    ∷ translated "#0189ABCD+#02C76543-#03FEDCBA" all_letters 34 34
    (put "CD AB 89 01" ++ (put "43 65 C7 02" ++ (command "10" ++ (put "BA DC FE 03" ++ command "11"))))
    -- 02's own shape with other words
    ∷ translated "(a-b)/c*#0189ABCD" all_letters 48 47
    (put "DA 0F C9 02" ++ (put "6D 5B B6 01" ++ (command "11" ++ (put "C3 5A A5 7F" ++ (command "13"
    ++ (put "CD AB 89 01" ++ command "12"))))))
    -- 30: 31 and 33 bytes of letters, no text, a lower-case digit, seven digits, a blank, a sign first, a bracket open,
    -- no letter
    ∷ unwritten "a" (take 31 all_letters) 8 1966080 ∷ unwritten "a" (all_letters ++ bytes "00") 8 1966080
    ∷ unwritten "" all_letters 8 1966080 ∷ unwritten "#0189ABCd" all_letters 8 1966080
    ∷ unwritten "#0189ABC" all_letters 8 1966080 ∷ unwritten "a +b" all_letters 30 1966080
    ∷ unwritten "+a" all_letters 8 1966080 ∷ unwritten "(a" all_letters 8 1966080 ∷ unwritten "i" all_letters 8 1966080
    -- 31: a letter, a constant; before 32, which comes before 33; a letter that is not in the text is not looked at
    ∷ unwritten "a-h" bad_letters 40 2031616 ∷ unwritten "a-#0159ABCD" all_letters 40 2031616
    ∷ unwritten "a-(b-(c-(d-h)))" bad_letters 0 2031616 ∷ unwritten "a-(b-(c-(d-e)))" bad_letters 0 2097152
    ∷ unwritten "a-(b-(c-d))" bad_letters 0 2162688 ∷ unwritten "a-(b-(c-d))" bad_letters 46 2162688
    ∷ translated "a-(b-(c-d))" bad_letters 47 47
    (put "DA 0F C9 02" ++ (put "6D 5B B6 01" ++ (put "C3 5A A5 7F" ++ (put "B4 D2 E1 83" ++ (command "11"
    ++ (command "11" ++ command "11"))))))
    -- 16 levels and 17
    ∷ translated "-(-(-(-(-(-(-(-a)))))))" all_letters 60 48 (put "DA 0F C9 02" ++ times_over 8 (command "15"))
    ∷ translated "(-(-(-(-(-(-(-(-b))))))))" all_letters 50 48 (put "6D 5B B6 01" ++ times_over 8 (command "15"))
    ∷ translated "((((((((((((((((c))))))))))))))))" all_letters 9 8 (put "C3 5A A5 7F")
    ∷ unwritten "(((((((((((((((((c)))))))))))))))))" all_letters 9 1966080
    ∷ unwritten "-----------------d" all_letters 99 1966080
    ∷ []

abbrev pub FormulaRows : Type 0
FormulaRows = map (λ (r : FormulaRow). formula_call r.text r.letters r.file) formula_table
    ≡ map (λ (r : FormulaRow). r.after) formula_table

-- 256 characters, whose file has 1,664 bytes, and 257
abbrev pub long_text : List ℕ
long_text = written "-a" ++ times_over 127 (written "+a")

pub record LongFormulas : Type 0 where
  pub size : length long_text ≡ 256
  pub taken : formula_call long_text all_letters (lent 1665)
      ≡ record {
        result = 1664;
        file = bytes "06 00 01 00 DA 0F C9 02 03 00 03 00 15"
            ++ (times_over 127 (bytes "06 00 01 00 DA 0F C9 02 03 00 03 00 10") ++ bytes "EE");
      }
  pub refused : formula_call (written "-" ++ long_text) all_letters (lent 1669)
      ≡ record { result = 1966080; file = lent 1669 }
