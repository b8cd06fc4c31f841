-- `sheet_figures::put_figures` meets its contract: 8, then 13, then the figures. Assumes nothing.
use mathlib.Core.Path.{sym, ◌∙◌}
use Rattle.sheet_figures.proofs.Lines.{sheets_are}
use Rattle.sheet_figures.proofs.Calling.{no_room_lem, no_sheets, told}
use Rattle.sheet_figures.proofs.put_figures.Goals as goal

pub returns-then-out-ne-FIGURES_BYTES : goal.returns-then-out-ne-FIGURES_BYTES
returns-then-out-ne-FIGURES_BYTES c = no_room_lem c.args.sheets.now c.args.out.now _ c.if-out-ne-FIGURES_BYTES.true c.number.ensures.0

pub returns-then-not-is_sheets : goal.returns-then-not-is_sheets
returns-then-not-is_sheets c =
    no_sheets c.args.sheets.now c.args.out.now _ c.if-out-ne-FIGURES_BYTES.false (sym c.is_sheets.ensures
    ∙ c.if-not-is_sheets.true) c.number-then-not-is_sheets.ensures.0

pub write-requires : goal.write-requires
write-requires c =
    let s = sheets_are c.args.sheets.now (sym c.is_sheets.ensures ∙ c.if-not-is_sheets.false) in
    (s.0, s.1, c.if-out-ne-FIGURES_BYTES.false)

pub returns : goal.returns
returns c =
    told c.args.sheets.now c.args.out.now _ _ c.if-out-ne-FIGURES_BYTES.false
    (sym c.is_sheets.ensures ∙ c.if-not-is_sheets.false)
    c.number-2.ensures.0 c.write.ensures
