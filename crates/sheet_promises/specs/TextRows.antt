-- 02, asks 11 and 14, the text of `./sheets` by literal characters: worked out from 01 and 02 beside the library. The
-- statement only: proofs/TextRows.antt computes it. Assumes nothing.
use Rattle.std.specs.Prelude.{◌≡◌, ◌++◌}
use Rattle.sheet_promises.specs.Bytes.{zeros, text_lines, bytes}
use Rattle.sheet_promises.specs.Rows.{two_closed}
use Rattle.sheet_promises.specs.Subjects.{sheets_text}

-- three inputs
pub record TextRows : Type 0 where
  -- two closed sheets, one serial twice, and one open
  pub two_closed_lem : sheets_text 0 0 two_closed.job.input
      ≡ (text_lines "1 256 0/2 1 0/3 257 0/4 1 0/5 257 0/6 3 0/7 257 0/8 3 0/9 257 0/10 258 0/11 256 0/12 257 0"
      ++ (text_lines "13 257 0/14 1 0/15 257 0/16 257 0/17 1 0/18 257 0/19 258 0/20 256 0/21 1 0/22 257 0/end 0 132"
      ++ (text_lines "sheet 67305985 05A7C3E9 7B91D246 02C90FDA 02CA337E"
      ++ (text_lines "sheet 67305985 03E5D4C7 85F0A1B3 02CA337E 02CA337E/open 287454020/lines 2/serials 1/repeated 1"
      ++ text_lines "improper 0/sum +0000000000000000000000001C2723580000000000000000"))))
  -- two closed sheets, 2 serials, none repeated, 1 word not proper, an open one, and a record of no kind that stops the
  -- run
  pub two_serials : sheets_text 0 0
      (bytes "06 00 00 01 05 00 00 00 06 00 01 00 FF FF 7F 01 03 00 01 01 00 03 00 01 01 01 03 00 03 00 9A"
      ++ (bytes "03 00 01 01 02 03 00 01 01 03 02 00 02 01 06 00 00 01 00 00 00 80 06 00 01 00 C3 D5 E4 92"
      ++ (bytes "03 00 01 01 03 03 00 01 01 02 03 00 01 01 01 03 00 01 01 00 02 00 02 01 02 00 04 00 03 00 02 00 03"
      ++ bytes "03 00 01 01 00 06 00 00 01 FF FF FF FF 06 00 00 01 01 00 00 00 03 00 01 01 01 02 00 03 01")))
      ≡ (text_lines "1 256 0/2 1 0/3 257 0/4 257 0/5 3 0/6 257 0/7 257 0/8 258 0/9 256 0/10 1 0/11 257 0/12 257 0"
      ++ (text_lines "13 257 0/14 257 0/15 258 0/16 4 0 00/17 2 0 92 E4 D5/18 257 21/19 256 0/20 256 20/21 257 23"
      ++ (text_lines "end 5 120/sheet 5 017FFFFF 017FFFFF 02C90FDA 02C90FDA"
      ++ (text_lines "sheet 2147483648 92E4D5C3 92E4D5C3 92E4D5C3 92E4D5C3/open 4294967295/lines 2/serials 2"
      ++ text_lines "repeated 0/improper 1/sum -000000000000000000000393570C00000000000000000000"))))
  -- 12,289 bytes
  pub long_input : sheets_text 0 0 (zeros 12289)
      ≡ (text_lines "end 9 0/lines 0/serials 0/repeated 0/improper 0"
      ++ text_lines "sum +000000000000000000000000000000000000000000000000")
