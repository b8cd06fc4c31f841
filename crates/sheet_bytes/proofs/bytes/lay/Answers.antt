-- `sheet_bytes::bytes::lay` meets its contract: after i bytes the slice is the paste of i. Assumes nothing.
use mathlib.Core.Path.{◌≡◌, sym, ap, ◌∙◌}
use mathlib.Core.List.{List}
use Prim.Native.Nat.{ℕ, ◌+◌}
use native.Mathlib.Omega.{arith}
use native.Mathlib.Numerals.{add-one}
use lib.ListN.{get_or, set, length-set}
use lib.Seq.{paste, paste-suc}
use borrow.Author.Rules.{rules}
use Rattle.sheet_bytes.proofs.bytes.lay.Goals as goal

pub loop-i-preserved : goal.loop-i-preserved
loop-i-preserved c =
    let l = c.loop-i in
    let a = c.args in
    let q : l.d ≡ paste a.d.now a.at a.s.now l.i = l.invariant.2 in (
      search rules,
      length-set l.d (a.at + l.i) _ ∙ l.invariant.1,
      ap (λ (k : List ℕ). set k (a.at + l.i) (get_or a.s.now l.i 0)) q
          ∙ paste-suc a.d.now a.at a.s.now l.i 0 (omega arith) (omega arith)
          ∙ ap (λ (n : ℕ). paste a.d.now a.at a.s.now n) (sym (add-one l.i)),
    )
