-- The text of `./sheets` is the book's: the replies of a run are whole and listed one by one; the rest part by part. Assumes nothing.
use mathlib.Core.Path.{◌≡◌, refl, sym, ap, ap₂, subst, ◌∙◌}
use mathlib.Core.Bool.{true, cond}
use mathlib.Core.List.{List, [], ◌∷◌, ◌++◌, map, append_assoc}
use Prim.Native.Nat.{ℕ, zero, suc, ◌+◌, ◌-◌, ◌/◌, ◌%◌, ◌≤◌, ◌<◌}
use native.Mathlib.Omega.{arith}
use lib.Dec.{ltb}
use lib.ListN.{length, get_or, take, drop, length-append, length-drop, get_or-append}
use lib.Seq.{take_at, drop_at, drop-append-le}
use borrow.Author.Tests.{le-leb}
use Rattle.numbers.specs.Little.{word_at}
use Rattle.terms.specs.Limits.{most_payload}
use Rattle.terms.specs.Settings.{mode_of, rule_of}
use Rattle.chip.specs.Step.{given}
use Rattle.state_bytes.specs.Bytes.{card_in}
use Rattle.record_files.proofs.Through.{through}
use Rattle.error_memory.specs.Memory.{Card}
use Rattle.record_runs.specs.Record.{turn_of}
use Rattle.record_runs.proofs.Steps.{steps}
use Rattle.record_runs.proofs.Turning.{length-data_of}
use Rattle.sheet_bytes.specs.Ledger as ledger
use Rattle.sheet_figures.specs.Telling.{figures_of as figuresThere}
use Rattle.listing.specs.Text as text
use Rattle.listing.specs.Listing as listing
use Rattle.listing.proofs.Listed.{one_more}
use Rattle.sheet_text.specs.Printout as printout
use Rattle.sheets.specs.Step.{Held, holding, sheet_step, run_of}
use Rattle.sheets.specs.Calls.{Called, call_of}
use Rattle.sheets.proofs.Lines.{taken, lawful}
use Rattle.sheet_promises.specs.Bytes.{zeros, four_at}
use Rattle.sheet_promises.specs.Sheets.{closed_sheets, is_open}
use Rattle.sheet_promises.specs.Records.{records_of, joined}
use Rattle.sheet_promises.specs.SheetsCall.{replies_in}
use Rattle.sheet_promises.specs.Text.{digits_of, field, data_text, reply_line, reply_lines, end_line, sheet_line, open_line, figure_line, figure_lines, text_of}
use Rattle.sheet_promises.specs.Text.{SheetsText}
use Rattle.sheet_promises.proofs.Measures.{closed_sheets_lem}
use Rattle.sheet_promises.proofs.Split.{no_bytes_lem, record_then}
use Rattle.sheet_promises.proofs.Calls.{calls, read_back, few_bytes}

-- ---- numbers

digits_are : (most n : ℕ) → text.spelled most n ≡ digits_of most n
unfolding text.spelled
digits_are zero n = refl
digits_are (suc most) n = ap (λ (t : List ℕ). cond (ltb n 10) (text.digit n ∷ []) (t ++ (text.digit (n % 10) ∷ []))) (digits_are most (n / 10))

field_is : (n : ℕ) → listing.field n ≡ field n
field_is n = ap (λ (t : List ℕ). 32 ∷ t) (digits_are 20 n)

data_is : (l : List ℕ) → listing.data_text l ≡ data_text l
data_is [] = refl
data_is (b ∷ l) = ap (λ (t : List ℕ). 32 ∷ (text.hex b ++ t)) (data_is l)

-- ---- the replies

-- a whole reply
record Reply (r : List ℕ) : Type 0 where
  framed : length r ≡ 2 + word_at r 0
  five : 5 ≤ length r
  marked : 128 ≤ word_at r 2

-- the reply of every record that is taken is one
core_reply : (c : Card) (l : List ℕ) (room : ℕ) → (turn_of c l room).refusal ≡ 0 → Reply (turn_of c l room).written
core_reply c l room =
    steps {most = most_payload} (λ t. t.refusal ≡ 0 → Reply t.written) c l room (λ r a b z. let y : ⊥ = omega arith in absurd y)
    (λ e h g z. let d = length-data_of c e in record { framed = omega arith; five = omega arith; marked = omega arith })

line_reply : (h : Held) (l : List ℕ) (room : ℕ) → (sheet_step h l room).refusal ≡ 0 → Reply (sheet_step h l room).written
line_reply h l room =
    taken (λ t. Reply t.written) h l room
    (λ o q g. let a = o.least in record { framed = refl; five = omega arith; marked = omega arith }) (λ y. core_reply h.card l room y)

-- and is listed as one, whatever follows
module _ (number : ℕ) (r w : List ℕ) (q : Reply r) where
  front : (i : ℕ) → i < length r → get_or (r ++ w) i 0 ≡ get_or r i 0
  front i h = get_or-append r w 0 i h

  word : (i : ℕ) → i + 1 < length r → word_at (r ++ w) i ≡ word_at r i
  word i h = rw (front i (omega arith), front (i + 1) h)

  whole : listing.has_reply (r ++ w) ≡ true
  unfolding listing.has_reply
  whole =
      let five = q.five in
      let f = q.framed in
      let m = q.marked in
      let n = length-append r w in
      let a : word_at (r ++ w) 0 ≡ word_at r 0 = word 0 (omega arith) in
      let b : word_at (r ++ w) 2 ≡ word_at r 2 = word 2 (omega arith) in
      rw (
        le-leb 5 (length (r ++ w)) (omega arith),
        le-leb 5 (2 + word_at (r ++ w) 0) (omega arith),
        le-leb (2 + word_at (r ++ w) 0) (length (r ++ w))
            (omega arith),
        le-leb 128 (word_at (r ++ w) 2) (omega arith),
      )

  listed : listing.lines_of number (r ++ w) ≡ reply_line number r ++ listing.lines_of (number + 1) w
  listed =
      let five = q.five in
      let f = q.framed in
      let a : word_at (r ++ w) 0 ≡ word_at r 0 = word 0 (omega arith) in
      let b : word_at (r ++ w) 2 ≡ word_at r 2 = word 2 (omega arith) in
      let size : 2 + word_at (r ++ w) 0 ≡ length r = omega arith in
      let d = length-drop 5 r in
      let bytes : take (2 + word_at (r ++ w) 0 - 5) (drop 5 (r ++ w)) ≡ drop 5 r =
      ap (take (2 + word_at (r ++ w) 0 - 5)) (drop-append-le 5 r w five) ∙ take_at (drop 5 r) w (2 + word_at (r ++ w) 0 - 5) (omega arith) in
      one_more number (r ++ w) whole
      ∙ ap₂ (λ (x y : List ℕ). x ++ y)
      (ap₂ (λ (k n : ℕ). listing.line_of number (listing.kind_from k) n (take (2 + word_at (r ++ w) 0 - 5) (drop 5 (r ++ w)))) b (front 4 (omega arith))
      ∙ ap (listing.line_of number (listing.kind_from (word_at r 2)) (get_or r 4 0)) bytes
      ∙ line_is (listing.kind_from (word_at r 2)) (get_or r 4 0) (drop 5 r))
      (ap (listing.lines_of (number + 1)) (ap (λ (n : ℕ). drop n (r ++ w)) size ∙ drop_at r w (length r) refl))
    where
      line_is : (kind n : ℕ) (l : List ℕ) → listing.line_of number kind n l ≡ digits_of 20 number ++ (field kind ++ (field n ++ (data_text l ++ (10 ∷ []))))
      line_is kind n l =
          ap₂ (λ (x y : List ℕ). x ++ (y ++ (listing.field n ++ (listing.data_text l ++ (10 ∷ []))))) (digits_are 20 number) (field_is kind)
          ∙ ap₂ (λ (x y : List ℕ). digits_of 20 number ++ (field kind ++ (x ++ (y ++ (10 ∷ []))))) (field_is n) (data_is l)

-- no replies, no lines
none_listed : (number : ℕ) → listing.lines_of number [] ≡ reply_lines number (records_of [])
unfolding listing.lines_up_to
none_listed number = sym (ap (reply_lines number) no_bytes_lem)

-- the lines of all replies of a run
lines_are : (h : Held) (l : List ℕ) (room number : ℕ) → listing.lines_of number (run_of h l room).written
    ≡ reply_lines number (records_of (run_of h l room).written)
lines_are =
    through lawful (λ h l room o. (number : ℕ) → listing.lines_of number o.written ≡ reply_lines number (records_of o.written))
    (λ h room number. none_listed number) (λ h l room p z number. none_listed number)
    (λ h l room p z more number.
    let t = sheet_step h l room in
    let q = line_reply h l room z in
    let w = (run_of t.state (drop t.taken l) (room - length t.written)).written in
    listed number t.written w q ∙ ap (λ (k : List ℕ). reply_line number t.written ++ k) (more (number + 1))
    ∙ sym (ap (reply_lines number) (record_then t.written w q.framed)))

-- ---- the sheets and the figures

sheet_is : (l : List ℕ) → printout.sheet_text l ≡ sheet_line l
sheet_is l = ap (λ (k : List ℕ). 115 ∷ 104 ∷ 101 ∷ 101 ∷ 116 ∷ (k ++ (printout.words_text l ++ (10 ∷ [])))) (field_is (four_at l 0))

sheets_are : (ls : List (List ℕ)) → printout.sheets_text ls ≡ joined (map sheet_line ls)
sheets_are [] = refl
sheets_are (l ∷ ls) = ap₂ (λ (x y : List ℕ). x ++ y) (sheet_is l) (sheets_are ls)

open_is : (sheets : List ℕ) → printout.open_text sheets ≡ open_line sheets
open_is sheets = ap (λ (k : List ℕ). cond (is_open sheets) (111 ∷ 112 ∷ 101 ∷ 110 ∷ (k ++ (10 ∷ []))) []) (field_is (four_at sheets 1282))

figure_is : (name : List ℕ) (n : ℕ) → printout.figure_text name n ≡ figure_line name n
figure_is name n = ap (λ (k : List ℕ). name ++ (k ++ (10 ∷ []))) (field_is n)

spread : (a b c d e : List ℕ) → (a ++ (b ++ (c ++ d))) ++ e ≡ a ++ (b ++ (c ++ (d ++ e)))
spread a b c d e =
    append_assoc a (b ++ (c ++ d)) e ∙ ap (λ (k : List ℕ). a ++ k) (append_assoc b (c ++ d) e ∙ ap (λ (k : List ℕ). b ++ k) (append_assoc c d e))

figures_are : (f : List ℕ) → printout.figures_text f ≡ figure_lines f
figures_are f =
    let end : List ℕ = printout.sum_word ++ (drop 4 f ++ (10 ∷ [])) in
    let a = printout.figure_text printout.lines_word (get_or f 0 0) in
    let b = printout.figure_text printout.serials_word (get_or f 1 0) in
    let c = printout.figure_text printout.repeated_word (get_or f 2 0) in
    let d = printout.figure_text printout.improper_word (get_or f 3 0) in
    spread a b c d end
    ∙ ap₂ (λ (x y : List ℕ). x ++ (y ++ (c ++ (d ++ end)))) (figure_is printout.lines_word (get_or f 0 0)) (figure_is printout.serials_word (get_or f 1 0))
    ∙ ap₂ (λ (x y : List ℕ). figure_line printout.lines_word (get_or f 0 0) ++ (figure_line printout.serials_word (get_or f 1 0) ++ (x ++ (y ++ end))))
    (figure_is printout.repeated_word (get_or f 2 0)) (figure_is printout.improper_word (get_or f 3 0))

-- ---- the text

abbrev Rest : Called → List ℕ
Rest a = joined (map sheet_line (closed_sheets a.sheets)) ++ (open_line a.sheets ++ figure_lines (figuresThere a.sheets (zeros 53)).out)

rest_is : (a : Called) → printout.sheets_text (ledger.lines_of a.sheets)
    ++ (printout.open_text a.sheets ++ printout.figures_text (printout.figures_for a.sheets)) ≡ Rest a
rest_is a =
    ap₂ (λ (x y : List ℕ). x ++ y) (sheets_are (ledger.lines_of a.sheets)
    ∙ ap (λ (ls : List (List ℕ)). joined (map sheet_line ls)) (closed_sheets_lem a.sheets))
    (ap₂ (λ (x y : List ℕ). x ++ y) (open_is a.sheets) (figures_are (printout.figures_for a.sheets)))

end_is : (refusal n : ℕ) → listing.end_of refusal n ≡ end_line refusal n
end_is refusal n = ap₂ (λ (x y : List ℕ). 101 ∷ 110 ∷ 100 ∷ (x ++ (y ++ (10 ∷ [])))) (field_is refusal) (field_is n)

-- the listing, of any answer whose replies are listed one by one
listing_is : (a : Called) → listing.lines_of 1 (replies_in a.replies a.report) ≡ reply_lines 1 (records_of (replies_in a.replies a.report))
    → printout.printed_of a.replies a.report ++ Rest a ≡ text_of a
listing_is a e =
    ap₂ (λ (x y : List ℕ). (x ++ y) ++ Rest a) e (end_is (get_or a.report 0 0) (four_at a.report 1))
    ∙ append_assoc (reply_lines 1 (records_of (replies_in a.replies a.report))) (end_line (get_or a.report 0 0) (four_at a.report 1)) (Rest a)

-- every answer's are
call_listed : (mode rule : ℕ) (state sheets input replies report : List ℕ) → length report ≡ 9
    → listing.lines_of 1 (replies_in (call_of mode rule state sheets input replies report).replies (call_of mode rule state sheets input replies report).report)
    ≡ reply_lines 1 (records_of (replies_in (call_of mode rule state sheets input replies report).replies
    (call_of mode rule state sheets input replies report).report))
call_listed mode rule state sheets input replies report n =
    calls (λ a. listing.lines_of 1 (replies_in a.replies a.report) ≡ reply_lines 1 (records_of (replies_in a.replies a.report)))
    mode rule state sheets input replies report (λ w. absurd (w n)) (λ r z. none_listed 1)
    (λ p.
    let h = holding (card_in (given (mode_of mode) (rule_of rule)) state) sheets in
    let o = run_of h input (length replies) in
    subst (λ (w : List ℕ). listing.lines_of 1 w ≡ reply_lines 1 (records_of w))
    (sym (read_back o.written replies o.refusal o.taken (few_bytes h input (length replies) p.input_fits)))
    (lines_are h input (length replies) 1))

pub sheets_text_lem : SheetsText
sheets_text_lem mode rule input =
    let a = printout.call_under mode rule input in
    ap (λ (k : List ℕ). printout.printed_of a.replies a.report ++ k) (rest_is a)
    ∙ listing_is a (call_listed mode rule (zeros 19) (zeros 1303) input (zeros 65536) (zeros 9) refl)
