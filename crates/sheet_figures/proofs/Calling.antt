-- The call by its tests: 8, then 13, then the figures. Assumes nothing.
use mathlib.Core.Path.{◌≡◌, refl, sym, subst}
use mathlib.Core.Bool.{true, false}
use mathlib.Core.List.{List}
use Prim.Native.Nat.{ℕ}
use lib.ListN.{length}
use borrow.Author.Tests.{eq-eqb, ne_eqb}
use Rattle.terms.specs.declared.Refusal.TheVariants.{Done, NoRoom, BadState}
use Rattle.terms.specs.Refusal.{number_of}
use Rattle.sheet_bytes.specs.Ledger.{is_sheets, lines_of}
use Rattle.sheet_figures.specs.Telling.{figures_bytes, written, FiguresCalled, refused, figures_of, FiguresCalls}

module _ (sheets out : List ℕ) (r : ℕ) where
  pub no_room_lem : (length out ≡ figures_bytes → ⊥) → r ≡ number_of NoRoom → FiguresCalls (figures_of sheets out) r out
  unfolding figures_of
  no_room_lem h e =
      let i : figures_of sheets out ≡ refused NoRoom out = rw (ne_eqb (length out) figures_bytes h) in
      subst (λ (t : FiguresCalled). FiguresCalls t r out) (sym i) (record { result_is = e; out_is = refl })

  pub no_sheets : length out ≡ figures_bytes → is_sheets sheets ≡ false → r ≡ number_of BadState → FiguresCalls (figures_of sheets out) r out
  unfolding figures_of
  no_sheets h b e =
      let i : figures_of sheets out ≡ refused BadState out = rw (eq-eqb (length out) figures_bytes h, b) in
      subst (λ (t : FiguresCalled). FiguresCalls t r out) (sym i) (record { result_is = e; out_is = refl })

  pub told : (left : List ℕ) → length out ≡ figures_bytes → is_sheets sheets ≡ true → r ≡ number_of Done → left ≡ written (lines_of sheets)
      → FiguresCalls (figures_of sheets out) r left
  unfolding figures_of
  told left h b e f =
      let i : figures_of sheets out ≡ record { result = 0; out = written (lines_of sheets) } = rw (eq-eqb (length out) figures_bytes h, b) in
      subst (λ (t : FiguresCalled). FiguresCalls t r left) (sym i) (record { result_is = e; out_is = f })
