-- `decimals::bring::bring` meets its contract: zero and too small are told first, the rest is cut once. Assumes nothing.
use mathlib.Core.Path.{sym, ap, ◌∙◌}
use mathlib.Core.Bool.{Bool, cond}
use Prim.Native.Nat.{ℕ, ◌+◌}
use native.Mathlib.Omega.{arith}
use Rattle.decimals.specs.declared.bring.Brought.TheVariants.{Exact, Rounded}
use Rattle.decimals.proofs.Judging.{zero_brought, small_brought, large_brought, cut_fields, judged_brought}
use Rattle.decimals.proofs.bring.bring.Goals as goal

pub returns-then-is_nothing : goal.returns-then-is_nothing
returns-then-is_nothing c = let a = c.args in zero_brought a.rule a.neg a.whole a.fraction a.places (sym c.is_nothing.ensures
    ∙ c.if-is_nothing.true)

pub returns-then-is_small : goal.returns-then-is_small
returns-then-is_small c =
    let a = c.args in
    small_brought a.rule a.neg a.whole a.fraction a.places (sym c.is_nothing.ensures ∙ c.if-is_nothing.false) (sym
    c.is_small.ensures ∙ c.if-is_small.true)

pub returns-then-r-ne0 : goal.returns-then-r-ne0
returns-then-r-ne0 c =
    let a = c.args in
    large_brought a.rule a.neg a.whole a.fraction a.places (sym c.is_nothing.ensures
    ∙ c.if-is_nothing.false) (sym c.is_small.ensures ∙ c.if-is_small.false)
    c.stand_for-near.result c.stand_for-near.ensures c.cut_word-r.result c.cut_word-r.ensures
    c.if-r-ne0.true

pub is_kept-requires : goal.is_kept-requires
is_kept-requires c =
    let a = c.args in
    let f = cut_fields a.rule a.neg a.whole a.fraction a.places (sym c.is_nothing.ensures
    ∙ c.if-is_nothing.false) (sym c.is_small.ensures ∙ c.if-is_small.false)
    c.stand_for-near.result c.stand_for-near.ensures c.cut_word-r.result c.cut_word-r.ensures
    c.if-r-ne0.false in
    (omega (arith, f.1, c.mantissa_of.ensures.0), c.mantissa_of.ensures.1, c.stand_for-near.ensures.enough)

pub returns-then-is_kept : goal.returns-then-is_kept
returns-then-is_kept c =
    let a = c.args in
    let r = c.cut_word-r.result in
    -- exact or rounded by the test that was made
    ap (λ (t : Bool). cond t (Exact r.word) (Rounded r.word)) (sym c.if-is_kept.true)
    ∙ judged_brought a.rule a.neg a.whole a.fraction a.places (sym c.is_nothing.ensures
    ∙ c.if-is_nothing.false) (sym c.is_small.ensures ∙ c.if-is_small.false)
    c.stand_for-near.result c.stand_for-near.ensures r c.cut_word-r.ensures
    _ _ _ c.mantissa_of.ensures.0 (ap (λ (x : ℕ). x + 112) c.biased_of.ensures.0) c.if-r-ne0.false
    c.is_kept.ensures

pub returns : goal.returns
returns c =
    let a = c.args in
    let r = c.cut_word-r.result in
    -- exact or rounded by the test that was made
    ap (λ (t : Bool). cond t (Exact r.word) (Rounded r.word)) (sym c.if-is_kept.false)
    ∙ judged_brought a.rule a.neg a.whole a.fraction a.places (sym c.is_nothing.ensures
    ∙ c.if-is_nothing.false) (sym c.is_small.ensures ∙ c.if-is_small.false)
    c.stand_for-near.result c.stand_for-near.ensures r c.cut_word-r.ensures
    _ _ _ c.mantissa_of.ensures.0 (ap (λ (x : ℕ). x + 112) c.biased_of.ensures.0) c.if-r-ne0.false
    c.is_kept.ensures
