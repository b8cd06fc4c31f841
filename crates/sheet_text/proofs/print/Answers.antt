-- `sheet_text::print` adds the listing of the run, and behind it what the run left of sheets, of which at most 64 are closed. Assumes nothing.
use mathlib.Core.Path.{sym, subst, ◌∙◌}
use mathlib.Core.List.{List}
use Prim.Native.Nat.{ℕ, ◌≤◌}
use native.Mathlib.Omega.{arith}
use Rattle.sheet_bytes.specs.Ledger.{closed_in}
use Rattle.listing.proofs.Adding.{both, counted}
use Rattle.sheet_text.specs.Printout.{call_under}
use Rattle.sheet_text.proofs.Lines.{of_run}
use Rattle.sheet_text.proofs.Kept.{call_fair}
use Rattle.sheet_text.proofs.print.Goals as goal

pub add_rest-requires : goal.add_rest-requires
add_rest-requires c =
    let a = c.args in
    let few = (call_fair a.mode a.rule a.input.now).1 in
    (subst (λ (l : List ℕ). closed_in l ≤ 64) (sym c.sheets_run.ensures.sheets_is) few, omega (arith, c.add_printed-place.ensures.upper_bound))

pub returns : goal.returns
returns c =
    let a = c.args in
    let r = c.sheets_run.ensures in
    let x = both c.add_printed-place.ensures.adds c.add_rest.ensures in
    record {
      prefix_len = counted x;
      text_after = x.reads ∙ of_run (call_under a.mode a.rule a.input.now) r.replies_is r.report_is r.sheets_is;
    }
