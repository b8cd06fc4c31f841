-- 02, ask 11: what holds of the core's files holds of files with sheets, by the same laws over a lawful step, carried to the book's run. Assumes nothing.
use mathlib.Core.Path.{◌≡◌, refl, sym, ap, ◌∙◌}
use mathlib.Core.Bool.{true}
use mathlib.Core.List.{List, [], ◌++◌}
use Prim.Native.Nat.{ℕ, ◌-◌}
use native.Mathlib.Omega.{arith}
use lib.ListN.{length, take, drop, length-append}
use lib.Seq.{length-take-le}
use Rattle.stack.specs.Stack.{Bytes as StackBytes}
use Rattle.stack.proofs.Words.{bytes_take, bytes_append}
use Rattle.error_memory.proofs.Good.{ReadyCard}
use Rattle.record_files.specs.Run.{Outcome}
use Rattle.record_files.proofs.Append.{appended as run-appended}
use Rattle.record_files.proofs.Through.{through, tally, up_to_stop, stops_there as run-stops-there}
use Rattle.record_files.proofs.Cut.{cut_anywhere}
use Rattle.state_bytes.specs.Bytes.{card_in, laid_out}
use Rattle.state_bytes.proofs.Cards.{card_ready, card_returns}
use Rattle.state_bytes.specs.Calls.{settings_of}
use Rattle.sheet_bytes.specs.Ledger as ledger
use Rattle.sheet_bytes.proofs.Ledgers.{is_long}
use Rattle.sheets.specs.Step.{Held, holding, sheet_step, run_of}
use Rattle.sheets.proofs.Lines.{lawful}
use Rattle.sheet_promises.specs.Records.{records_of, joined}
use Rattle.sheet_promises.specs.Runs.{Ran, onward, turn, ran}
use Rattle.sheet_promises.specs.Files.{Start, Appended, BadLines, CutLines, CountedLines, CountedSums}
use Rattle.sheet_promises.proofs.Measures.{bytes_are, state_is, sheets_is}
use Rattle.sheet_promises.proofs.Turns.{seen, turn_is}
use Rattle.sheet_promises.proofs.Split.{no_bytes_lem}
use Rattle.sheet_promises.proofs.Telling.{its_records, its_replies}
use Rattle.sheet_promises.proofs.Runs.{run_is, run_card, run_on, run_sheets}

module _ (mode rule : ℕ) (state sheets : List ℕ) (s : Start mode rule state sheets) where
  -- what the bytes stand for
  abbrev stood : Held
  stood = holding (card_in (settings_of mode rule) state) sheets

  ready : ReadyCard stood.card
  ready = card_ready (settings_of mode rule) state (bytes_are state s.bytes) (sym (state_is state) ∙ s.state_taken)

  laid : laid_out 21 stood.card ≡ state
  laid = ap (λ (n : ℕ). laid_out n stood.card) (sym s.long) ∙ card_returns (settings_of mode rule) state (sym (state_is state) ∙ s.state_taken)

  good : ledger.is_sheets sheets ≡ true
  good = sym (sheets_is sheets) ∙ s.sheets_taken

  -- the book's run of any file
  ran_is : (l : List ℕ) (room : ℕ) → StackBytes l → ran mode rule state sheets l room ≡ seen (run_of stood l room)
  ran_is l room b =
      ap (λ (k : List ℕ). ran mode rule k sheets l room) (sym laid) ∙ run_is mode rule s.mode_taken s.rule_taken stood l room ready refl good b

  -- and of one on what a run left
  ran_on : (l rest : List ℕ) (room more : ℕ) → StackBytes l → StackBytes rest
      → ran mode rule (laid_out 21 (run_of stood l room).state.card) (run_of stood l room).state.sheets rest more
      ≡ seen (run_of (run_of stood l room).state rest more)
  ran_on l rest room more b c =
      run_is mode rule s.mode_taken s.rule_taken (run_of stood l room).state rest more (run_card stood l room ready b) (run_on stood l room)
      (run_sheets stood l room good) c

  turned : (l rest : List ℕ) (room more : ℕ) → StackBytes l
      → turn mode rule (laid_out 21 (run_of stood l room).state.card) (run_of stood l room).state.sheets rest more
      ≡ seen (sheet_step (run_of stood l room).state rest more)
  turned l rest room more b =
      let h = (run_of stood l room).state in
      turn_is mode rule s.mode_taken s.rule_taken h.card (run_card stood l room ready b) (run_on stood l room) h.sheets rest more
      (is_long h.sheets (run_sheets stood l room good))

pub appended : Appended
appended mode rule state sheets l rest room s B R e =
    let b = bytes_are l B in
    let c = bytes_are rest R in
    let h = stood mode rule state sheets s in
    let o = run_of h l room in
    let is = ran_is mode rule state sheets s l room b in
    let z : o.refusal ≡ 0 = rw is at e in
    let p = run_of o.state rest (room - length o.written) in
    ran_is mode rule state sheets s (l ++ rest) room (bytes_append l rest b c)
    ∙ ap seen (run-appended lawful h l rest room z)
    ∙ ap (onward (seen o)) (sym (ran_on mode rule state sheets s l rest room (room - length o.written) b c))
    ∙ ap (λ (u : Ran). onward u (ran mode rule u.state u.sheets rest (room - length u.written))) (sym is)

pub bad_lines : BadLines
bad_lines mode rule state sheets l room s B =
    let b = bytes_are l B in
    let h = stood mode rule state sheets s in
    let o = run_of h l room in
    rw (ran_is mode rule state sheets s l room b) record {
      done_before = ran_is mode rule state sheets s (take o.taken l) room (bytes_take o.taken l b) ∙ ap seen (up_to_stop lawful h l room);
      range = λ z. (tally lawful h l room).range z;
      stops_there = λ z. ap (λ (u : Ran). u.refusal) (turned mode rule state sheets s l (drop o.taken l) room (room - length o.written) b)
          ∙ run-stops-there lawful h l room z;
    }

pub cut_lines : CutLines
cut_lines mode rule state sheets l room s B e k most =
    let b = bytes_are l B in
    let h = stood mode rule state sheets s in
    let z : (run_of h l room).refusal ≡ 0 = rw (ran_is mode rule state sheets s l room b) at e in
    let c = cut_anywhere lawful h l room z k most in
    let d = c.1 in (
      c.0,
      rw (
        ran_is mode rule state sheets s (take k l) room (bytes_take k l b),
        ran_is mode rule state sheets s (take c.0 l) room
            (bytes_take c.0 l b),
      ) record {
        upto = d.upto;
        whole_done = d.whole_done;
        whole_taken = d.whole_taken;
        state_is = ap (λ (x : Held). laid_out 21 x.card) d.state_is;
        sheets_is = ap (λ (x : Held). x.sheets) d.state_is;
        taken_is = d.taken_is;
        written_is = d.written_is;
        at_end = d.at_end;
        in_one = d.in_one;
      },
    )

pub counted_lines : CountedLines
counted_lines mode rule state sheets l room s B =
    let t = tally lawful (stood mode rule state sheets s) l room in
    rw (ran_is mode rule state sheets s l room (bytes_are l B)) record { in_file = t.in_file; all_taken = t.all; in_room = t.in_room; few = t.few }

-- the counts of a run as sums
abbrev SumsOf : List ℕ → Outcome Held → Type 0
SumsOf l o = (o.taken ≡ length (joined (take (length (records_of o.written)) (records_of l)))) × (o.written ≡ joined (records_of o.written))

sums : (h : Held) (l : List ℕ) (room : ℕ) → SumsOf l (run_of h l room)
sums =
    through lawful (λ h l room o. SumsOf l o) (λ h room. none []) (λ h l room p z. none l)
    (λ h l room p z more.
    let t = sheet_step h l room in
    let w = (run_of t.state (drop t.taken l) (room - length t.written)).written in
    let n = length-take-le t.taken l (lawful.within h l room z) in
    let k = length-append (take t.taken l) (joined (take (length (records_of w)) (records_of (drop t.taken l)))) in
    rw (its_records h l room z w, its_replies h l room z w) (omega (arith, more.0), ap (λ (v : List ℕ). t.written ++ v) more.1))
  where
    none : (l : List ℕ) → (0 ≡ length (joined (take (length (records_of [])) (records_of l)))) × ([] ≡ joined (records_of []))
    none l = rw no_bytes_lem (refl, refl)

pub counted_sums : CountedSums
counted_sums mode rule state sheets l room s B =
    let t = sums (stood mode rule state sheets s) l room in
    rw (ran_is mode rule state sheets s l room (bytes_are l B)) record { taken_is = t.0; written_is = t.1 }
