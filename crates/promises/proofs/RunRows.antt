-- The rows of the run call hold: each is computed; those of a long input follow from what is said of every input. Assumes nothing.
use mathlib.Core.Path.{◌≡◌, refl, sym, subst}
use mathlib.Core.Logic.{inl, ⊎_elim}
use Prim.Native.Nat.{ℕ, ◌<◌}
use mathlib.Core.List.{[], map}
use native.Mathlib.Omega.{arith}
use lib.Dec.{lit<, lit≤}
use lib.ListN.{length, length-replicate}
use lib.Ieee.{size}
use Rattle.fixed.specs.Fixed.{add as xadd, sub as xsub, mul as xmul, muu as xmuu, div as xdiv, chs as xchs}
use Rattle.float.specs.Float.{add, sub, mul, div}
use Rattle.float.specs.Convert.{fltd, flts, fix, chsf}
use Rattle.float.specs.Root.{sqrt}
use Rattle.codes.specs.Codes.{decoded}
use Rattle.chip.specs.Status.{status_of}
use Rattle.chip.specs.Commands.{keeps_a, loses_a, changes_a, floats, converts, widens, narrows, roots}
use Rattle.chip.specs.Step.{push_of, pop_of, read_of, reset_of, acknowledge_of, carried, command_under}
use Rattle.record_files.specs.Run.{run, run_by}
use Rattle.record_runs.specs.Record.{frame_under, turn_under}
use Rattle.state_bytes.specs.Bytes.{is_state}
use Rattle.state_bytes.specs.Calls.{call_of}
use Rattle.promises.specs.PrintedText.{bytes}
use Rattle.promises.specs.StateBytes.{IsState}
use Rattle.promises.specs.Given.{Given, run_call}
use Rattle.promises.proofs.Kept.{no_report_lem, no_state, long_input}
use Rattle.promises.proofs.Modes.{no_such_mode}
use Rattle.promises.proofs.Rules.{no_such_rule}
use Rattle.promises.specs.RunRows.{RunRow, run_table, full, report_lent, too_long, Long13, RunRows}

rows : map (λ (r : RunRow). run_call r.numbers r.state r.input r.replies r.report) run_table ≡ map (λ (r : RunRow). r.after) run_table
unfolding call_of is_state run run_by frame_under turn_under push_of pop_of read_of reset_of acknowledge_of carried command_under decoded status_of keeps_a loses_a changes_a
    floats converts widens narrows roots xadd xsub xmul xmuu xdiv xchs add sub mul div fltd flts fix chsf sqrt size
rows = refl

-- a state is one, whatever the input
full_state : IsState full
full_state = record { size = inl refl; pending = lit≤ tt; ready = lit< tt; service = lit≤ tt; memory = λ n. absurd (omega (arith, n)) }

no_bytes_lem : IsState [] → ⊥
no_bytes_lem S = ⊎_elim (λ n. omega (arith, n)) (λ n. omega (arith, n)) S.size

abbrev numbers : ℕ → ℕ → Given
numbers mode rule = record { mode = mode; rule = rule }

long_is : 12288 < length too_long
long_is = subst (λ (n : ℕ). 12288 < n) (sym (length-replicate {A = ℕ} 12289 0x5a)) (lit< tt)

long_13 : Long13
long_13 = no_state (numbers 1 1) (record { mode = lit≤ tt; rule = lit≤ tt }) [] too_long [] (report_lent 9) refl no_bytes_lem

pub run_rows : RunRows
run_rows = record {
  rows = rows;
  long_14 = no_report_lem (numbers 2 2) [] too_long [] [] (λ n. omega (arith, n));
  long_16 = no_such_mode.run (numbers 2 2) [] too_long [] (report_lent 9) (lit< tt) refl;
  long_17 = no_such_rule.run (numbers 1 2) [] too_long [] (report_lent 9) (lit≤ tt) (lit< tt) refl;
  long_13 = long_13;
  long_9 = long_input (numbers 1 1) (record { mode = lit≤ tt; rule = lit≤ tt }) full too_long (bytes "EE") (report_lent 9) refl full_state long_is;
}
