-- `float::cut::cut_word` meets its contract: the shift by the leading zeros puts the top bit at 63, and the rule makes 24 digits of the 64. Assumes nothing.
use mathlib.Core.Path.{refl, sym, ap, ◌∙◌}
use Prim.Native.Nat.{ℕ, ◌*◌, ◌^◌}
use native.Mathlib.Nat.{zero-mul}
use native.Mathlib.Omega.{arith}
use Rattle.terms.specs.declared.Rule.{Rule}
use Rattle.terms.specs.declared.Rule.TheVariants.{Cut, Nearest}
use Rattle.float.specs.Cut.{cut_size}
use Rattle.float.proofs.cut.Pair.{cut_zero}
use Rattle.float.proofs.cut.Values.{settled_same, top_cut}
use Rattle.float.proofs.cut.cut_word.Goals as goal

pub returns-then-mag-eq0 : goal.returns-then-mag-eq0
returns-then-mag-eq0 c =
    let a = c.args in
    sym (cut_zero a.rule a.neg (a.mag * 2 ^ a.x) 1 (ap (λ (y : ℕ). y * 2 ^ a.x) c.if-mag-eq0.true ∙ zero-mul (2 ^ a.x)))

pub returns-in-Cut : goal.returns-in-Cut
returns-in-Cut c =
    let a = c.args in
    let n = c.norm_shift-s in
    c.store.ensures ∙ sym (settled_same a.neg _ _ (omega arith))
    ∙ top_cut Cut a.mag a.x n.result c.requires.0 n.ensures.2 n.ensures.0 n.ensures.1 a.neg _ c.if-mag-eq0.false refl
    ∙ sym (ap (λ (r : Rule). cut_size r a.neg (a.mag * 2 ^ a.x) 1) c.in-Cut.is)

pub returns-in-Nearest : goal.returns-in-Nearest
returns-in-Nearest c =
    let a = c.args in
    let n = c.norm_shift-s in
    c.settle.ensures
    ∙ top_cut Nearest a.mag a.x n.result c.requires.0 n.ensures.2 n.ensures.0 n.ensures.1 a.neg _ c.if-mag-eq0.false c.nearest.ensures
    ∙ sym (ap (λ (r : Rule). cut_size r a.neg (a.mag * 2 ^ a.x) 1) c.in-Nearest.is)
