-- The crate's own statement in the book's measures, kind by kind, each by the place of its name; the rows compute. Assumes nothing.
use mathlib.Core.Path.{refl}
use native.Mathlib.Omega.{arith}
use Rattle.numbers.proofs.Exact.{four_lt}
use Rattle.record_text.specs.Kinds.{Push, Pop, Command, Status, Reset, Acknowledge, Recall, Forget}
use Rattle.record_text.specs.Kinds.{Open, Keep, Close, Unknown}
use lib.Ieee.{size}
use Rattle.float.specs.Cut.{packed, error_at, cut_size, cut}
use Rattle.float.specs.Word.{size88}
use Rattle.decimals.specs.Bring.{bring_of}
use Rattle.decimals.specs.Read.{scan_from, parse_of}
use Rattle.listing.specs.Hex.{digit_value, hex_from}
use Rattle.record_text.specs.Names.{name_of}
use Rattle.record_text.specs.Words.{words_from}
use Rattle.record_text.specs.Named.{place_from}
use Rattle.record_text.specs.Values.{bytes_of, number_for, code_of}
use Rattle.record_text.specs.Line.{said_of, take_words}
use Rattle.record_text.proofs.ReadBack.{one_number, record_reads_back}
use Rattle.promises.specs.RecordText.{RecordTextReadsBack, RecordTextRows}

pub record_text_reads_back : RecordTextReadsBack
record_text_reads_back rule Push payload h B = record_reads_back rule 128 payload (omega arith) (omega arith) h B
record_text_reads_back rule Pop payload (one, least, most) B =
    let n = one_number payload one in
    record_reads_back rule 129 payload (omega arith) (omega arith) (one, omega (arith, n, least), omega (arith, n, most)) B
record_text_reads_back rule Command payload h B = record_reads_back rule 130 payload (omega arith) (omega arith) h B
record_text_reads_back rule Status payload h B = record_reads_back rule 131 payload (omega arith) (omega arith) h B
record_text_reads_back rule Reset payload h B = record_reads_back rule 132 payload (omega arith) (omega arith) h B
record_text_reads_back rule Acknowledge payload h B = record_reads_back rule 133 payload (omega arith) (omega arith) h B
record_text_reads_back rule Recall payload h B = record_reads_back rule 134 payload (omega arith) (omega arith) h B
record_text_reads_back rule Forget payload h B = record_reads_back rule 135 payload (omega arith) (omega arith) h B
record_text_reads_back rule Open payload h B =
    record_reads_back rule 136 payload (omega arith) (omega arith) (h, omega arith, omega (arith, four_lt payload 0 B)) B
record_text_reads_back rule Keep payload h B =
    record_reads_back rule 137 payload (omega arith) (omega arith) (h, omega arith, omega (arith, one_number payload h, B 0)) B
record_text_reads_back rule Close payload h B = record_reads_back rule 138 payload (omega arith) (omega arith) h B
record_text_reads_back rule Unknown payload h B = absurd h

pub record_text_rows : RecordTextRows
unfolding said_of take_words words_from place_from name_of bytes_of number_for code_of hex_from digit_value
    parse_of scan_from bring_of size88 cut cut_size packed error_at size
record_text_rows = record {
  pushes = refl;
  others = refl;
}
